-- The proof goes by events.
use Rattle.memory.proofs.fits_stands.Goals as goal
use Rattle.memory.proofs.Events.{fits_after}

pub returns : goal.returns
returns c = fits_after
