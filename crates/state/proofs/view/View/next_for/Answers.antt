use Rattle.std.proofs.Common.{◌≡◌, ℕ, ◌-◌, ◌≤◌, eqb, Some, None, Option, sym, ◌∙◌, arith, eq-eqb, ne_eqb}
use Rattle.std.specs.Option.{SomeIff, unwrap_or}
use Rattle.servers.specs.Store.{pick}
use Rattle.servers.proofs.Tests.{pick_true, pick_false}
use Rattle.state.proofs.view.View.next_for.Goals as goal
use Rattle.state.proofs.Laws.{long}
use Rattle.state.proofs.PeerWords.{next_is, next_low}

-- a word is one more than a number, or 0 for none
one_less : (o : Option ℕ) (w d : ℕ) → SomeIff o (1 ≤ w) (w - 1) → unwrap_or o d ≡ pick (eqb w 0) d (w - 1)
one_less None w d s = sym (pick_true _ d (w - 1) (eq-eqb w 0 (omega arith)))
one_less (Some n) w d s = s.1 ∙ sym (pick_false _ d (w - 1) (ne_eqb w 0 (λ z. omega arith)))

pub bounds-self-h : goal.bounds-self-h
bounds-self-h c = let z = long c.args.self.words.now c.args.self.held in omega arith

pub returns : goal.returns
returns c =
    let is = next_is c.args.self.words.now c.args.h c.args.self.held c.requires.here in
    let low = next_low c.args.self.words.now c.args.h c.args.self.held in
    let same = c.unwrap_or.ensures ∙ one_less _ _ _ c.checked_sub.ensures in
    record { value = same ∙ sym is; low = omega arith }
