use Rattle.wire.proofs.Letters.{letters_hand_on}
use Rattle.wire.proofs.promises.letters_hand_on.Goals as goal

pub returns : goal.returns
returns c = letters_hand_on
