use Rattle.wire.proofs.Sizes.{event_fits, answer_fits, answer_is_fine}
use Rattle.wire.proofs.promises.sizes_stand.Goals as goal

pub returns : goal.returns
returns c = record { event = event_fits; answer = answer_fits; fine = answer_is_fine }
