use Rattle.std.proofs.Common.{refl, ℕ, ◌+◌, ◌-◌, ◌*◌, drop, replicate, ap, ◌∙◌, arith}
use Rattle.std.proofs.lemmas.List.{length-take-le, length-drop}
use Rattle.memory.specs.Layout.{servers_in}
use Rattle.state.proofs.words.Memory.forget.Goals as goal
use Rattle.state.proofs.Laws.{long, of_words}
use Rattle.state.proofs.PeerWords.{none_written}

pub slice_bounds-fill-end : goal.slice_bounds-fill-end
slice_bounds-fill-end c = let z = long c.args.self.now.words.now c.args.self.now.held in omega arith

pub invariant_of-self : goal.invariant_of-self
invariant_of-self c =
    let z = long c.args.self.now.words.now c.args.self.now.held in
    let k : ℕ = 14 + 2 * servers_in c.args.self.now.words.now - 14 in
    let d = length-drop 14 c.args.self.now.words.now in
    record {
      held = (none_written c.args.self.now.words.now c.fill.new.self k c.args.self.now.held (omega arith)
          (c.fill.ensures.after (λ y e. e) ∙ ap (λ (n : ℕ). replicate n 0) (length-take-le k (drop 14 c.args.self.now.words.now) (omega arith)))).held;
    }

pub returns : goal.returns
returns c =
    let z = long c.args.self.now.words.now c.args.self.now.held in
    let k : ℕ = 14 + 2 * servers_in c.args.self.now.words.now - 14 in
    let d = length-drop 14 c.args.self.now.words.now in
    of_words _ _ _ refl
    (none_written c.args.self.now.words.now c.fill.new.self k c.args.self.now.held (omega arith)
    (c.fill.ensures.after (λ y e. e) ∙ ap (λ (n : ℕ). replicate n 0) (length-take-le k (drop 14 c.args.self.now.words.now) (omega arith))))
