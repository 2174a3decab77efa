-- The proof is that of the program.
use Rattle.memory.proofs.right_stands.Goals as goal
use Rattle.memory.proofs.Program.{right}

pub returns : goal.returns
returns c = right
