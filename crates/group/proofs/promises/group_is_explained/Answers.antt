use Rattle.group.proofs.Parts.{alive_new, alive_on}
use Rattle.group.proofs.Explained.{alive_is_explained}
use Rattle.group.proofs.promises.group_is_explained.Goals as goal

pub returns : goal.returns
returns c = record { new = alive_new; on = alive_on; explained = alive_is_explained }
