-- The program is right, and what is right is linearizable.
use Rattle.memory.specs.Program.{serves, server}
use Rattle.memory.proofs.Program.{right}
use Rattle.one_order.proofs.Promises.{right_is_linearizable}
use Rattle.promises.proofs.server_is_linearizable.Goals as goal

pub returns : goal.returns
returns c = right_is_linearizable serves server (right serves)
