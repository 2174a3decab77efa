use Rattle.group.proofs.Parts.{parts_open, parts_step}
use Rattle.group.proofs.promises.parts_stand.Goals as goal

pub returns : goal.returns
returns c = record { new = parts_open; step = parts_step }
