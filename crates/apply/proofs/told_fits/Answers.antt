use Rattle.apply.proofs.Sizes.{told_fits}
use Rattle.apply.proofs.told_fits.Goals as goal

pub returns : goal.returns
returns c = told_fits
