use Rattle.memory.specs.Program.{serves}
use Rattle.memory.proofs.Program.{right, refusal_keeps, enough_memory}
use Rattle.server.proofs.promises.server_stands.Goals as goal

pub returns : goal.returns
returns c = record { right = right serves; keeps = refusal_keeps serves; enough = enough_memory serves }
