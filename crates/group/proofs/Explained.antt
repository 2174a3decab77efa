-- Every world that a group of these servers can live is explained.
use Rattle.servers.specs.Promise.{AsIfOne}
use Rattle.memory.specs.Program.{serves, server}
use Rattle.memory.proofs.Program.{right}
use Rattle.one_order.proofs.Promises.{right_is_linearizable, order_linearizes}
use Rattle.group.specs.Explained.{AliveIsExplained}

pub alive_is_explained : AliveIsExplained
unfolding AsIfOne
alive_is_explained g w good a =
    record {
      as_if_one = λ one. right_is_linearizable serves server (right serves) g w good a.lived a.carried one;
      by_the_logs = order_linearizes serves server g w (right serves) good a.lived a.carried;
    }
