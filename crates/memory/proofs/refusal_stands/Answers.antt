-- The proof is that of the program.
use Rattle.memory.proofs.refusal_stands.Goals as goal
use Rattle.memory.proofs.Program.{refusal_keeps}

pub returns : goal.returns
returns c = refusal_keeps
