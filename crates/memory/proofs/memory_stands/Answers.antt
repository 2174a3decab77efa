-- The proof is that of the program.
use Rattle.memory.proofs.memory_stands.Goals as goal
use Rattle.memory.proofs.Program.{enough_memory}

pub returns : goal.returns
returns c = enough_memory
