-- One of the choices of events.
use Rattle.memory.specs.Program.{serves}
use Rattle.memory.proofs.server_stands.Goals as goal
use Rattle.memory.proofs.Program.{right, refusal_keeps, enough_memory}

pub returns : goal.returns
returns c = record { right = right serves; keeps = refusal_keeps serves; enough = enough_memory serves }
