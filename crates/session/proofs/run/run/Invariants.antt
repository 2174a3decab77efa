use Rattle.std.proofs.Common.{length}
use Rattle.session.proofs.Taking.{Going}
use Rattle.session.proofs.run.run.Given as goal

abbrev pub invariant-taking : goal.invariant-taking
invariant-taking l = Going l.fn.mem l.records l.initial.out l.mem l.out l.rest l.written

abbrev pub decreases-taking : goal.decreases-taking
decreases-taking l = length l.rest
