use Rattle.group.proofs.Letters.{index_stays, index_grows, letter_comes}
use Rattle.group.proofs.promises.letters_stand.Goals as goal

pub returns : goal.returns
returns c = record { stays = index_stays; grows = index_grows; comes = letter_comes }
