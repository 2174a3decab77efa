use Rattle.wire.proofs.Letters.{answer_is_bytes, answer_round_trip, answers_apart}
use Rattle.wire.proofs.promises.answers_stand.Goals as goal

pub returns : goal.returns
returns c = record { bytes = answer_is_bytes; back = answer_round_trip; apart = answers_apart }
