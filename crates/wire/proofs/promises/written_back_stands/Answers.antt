use Rattle.wire.proofs.Places.{written_back, read_is_readable}
use Rattle.wire.proofs.promises.written_back_stands.Goals as goal

pub returns : goal.returns
returns c = record { bytes = written_back; event = read_is_readable }
