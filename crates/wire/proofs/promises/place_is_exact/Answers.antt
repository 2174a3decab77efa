use Rattle.wire.proofs.Places.{place_is_exact}
use Rattle.wire.proofs.promises.place_is_exact.Goals as goal

pub returns : goal.returns
returns c = place_is_exact
