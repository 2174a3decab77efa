use Rattle.texts.proofs.Cells.{text_back, perhaps_back, text_fits}
use Rattle.texts.proofs.round_trip_stands.Goals as goal

pub returns : goal.returns
returns c = record { text = text_back; perhaps = perhaps_back; fits = text_fits }
