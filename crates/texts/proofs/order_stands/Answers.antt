use Rattle.texts.proofs.Order.{words_order, words_same, perhaps_same}
use Rattle.texts.proofs.order_stands.Goals as goal

pub returns : goal.returns
returns c = record { less = words_order; same = words_same; perhaps = perhaps_same }
