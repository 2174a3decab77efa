use Rattle.group.proofs.Journals.{journals_open, journals_tell, journals_grow, grown_happens}
use Rattle.group.proofs.promises.journals_stand.Goals as goal

pub returns : goal.returns
returns c = record { new = journals_open; tell = journals_tell; grow = journals_grow; happens = grown_happens }
