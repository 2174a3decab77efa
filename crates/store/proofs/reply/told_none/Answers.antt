use Rattle.std.proofs.Common.{ℕ, List, ◌∷◌, sym, ap}
use Rattle.texts.proofs.Cells.{cells_nil}
use Rattle.store.proofs.reply.told_none.Goals as goal

pub returns : goal.returns
returns c = ap (λ (ws : List ℕ). 0 ∷ ws) (sym (cells_nil 32))
