use Rattle.std.proofs.Common.{ℕ, drop, ap, ◌∙◌, arith}
use Rattle.std.proofs.lemmas.List.{take_rest}
use Rattle.state.proofs.view.View.store.Goals as goal
use Rattle.state.proofs.Laws.{long}

pub slice_bounds-result-count : goal.slice_bounds-result-count
slice_bounds-result-count c = let z = long c.args.self.words.now c.args.self.held in let at = c.store_at-at.ensures in omega arith

pub slice_bounds-result-start : goal.slice_bounds-result-start
slice_bounds-result-start c = let z = long c.args.self.words.now c.args.self.held in let at = c.store_at-at.ensures in omega arith

pub returns : goal.returns
returns c =
    take_rest c.args.self.words.now c.store_at-at.result ∙ ap (λ (n : ℕ). drop n c.args.self.words.now) c.store_at-at.ensures
