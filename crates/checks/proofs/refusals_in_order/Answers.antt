use Rattle.checks.proofs.Laws.{refusals_in_order}
use Rattle.checks.proofs.refusals_in_order.Goals as goal

pub returns : goal.returns
returns c = refusals_in_order
