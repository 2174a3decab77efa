use Rattle.wire_write.proofs.Answering.{number_first, values_tell, written_means}
use Rattle.wire_write.proofs.promises.written_answers_stand.Goals as goal

pub returns : goal.returns
returns c = record { means = written_means; number = number_first; values = values_tell }
