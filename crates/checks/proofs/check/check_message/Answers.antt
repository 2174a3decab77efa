use Rattle.checks.proofs.Outcomes.{append_means}
use Rattle.checks.proofs.check.check_message.Goals as goal

pub returns-in-Append : goal.returns-in-Append
returns-in-Append c = rw (c.in-Append.is, ← append_means c.args.l _ _ _ _ _) c.check_append.ensures
