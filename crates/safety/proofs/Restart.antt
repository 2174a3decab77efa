-- A SERVER STARTS AGAIN: it has its term, its vote, its log and its commit index, and follows. What it forgets, no promise is about, but
-- for the promises of who leads or wants to.
use Rattle.std.proofs.Common.{false, List, arith}
use Rattle.servers.specs.Server.{Limits, State, restarted}
use Rattle.servers.specs.World.{Sent}
use Rattle.safety.proofs.Tables.{length_many}
use Rattle.safety.proofs.Turn.{Before, Turn, change}

pub restart_keeps : (l : Limits) {was : Before} {s : State} {sent : List Sent} → Turn l.servers l.me was s sent
    → Turn l.servers l.me was (restarted l s) sent
restart_keeps l {was} {s} {sent} a =
    change a (restarted l s)
    (let o = a.mine in record {
      log = o.log;
      votes_size = length_many l.servers false;
      matches_size = length_many l.servers 0;
      ballots = o.ballots;
      candidate = λ e. absurd (omega arith);
      leader = λ e. absurd (omega arith);
      acks = o.acks;
      keeps = o.keeps;
      commit = o.commit;
    })
