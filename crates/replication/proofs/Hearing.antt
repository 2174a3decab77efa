-- The states that another server's answer leads to, by what the code computes.
use Rattle.std.proofs.Common.{◌≡◌, ℕ, ◌+◌, ◌-◌, Bool, true, false, eqb, sym, refl, ap, ◌∙◌, add-one}
use Rattle.servers.specs.Store.{pick}
use Rattle.servers.specs.Server.{State, nth, set_at, at_least, next_for, with_next, hears_appended}
use Rattle.state.specs.States.{with_matches}
use Rattle.replication.specs.declared.appended.Heard.{Heard}
use Rattle.replication.specs.declared.appended.Heard.TheVariants.{OtherTerm, Has, Lacks}
use Rattle.replication.specs.Heard.{heard_from, has_state, lacks_state, heard_state}

-- both indices went up
pub both_up : (s : State) (h i own known next match : ℕ) → own ≡ next_for s h → known ≡ nth 0 s.matches h
    → next ≡ at_least own (i + 1) → match ≡ at_least known i
    → with_matches (set_at s.matches h match) (with_next h next s) ≡ has_state s h i
both_up s h i own known next match a b e f = rw (f, e, b, a, add-one) refl

-- the next index went down
pub next_down : (s : State) (h own next : ℕ) → own ≡ next_for s h → next ≡ own - 1 → with_next h next s ≡ lacks_state s h
next_down s h own next a e = rw (e, a) refl

-- by cases of the answer
pub heard_by_case : (s : State) (h t i own : ℕ) (ok : Bool) (x : Heard) → own ≡ s.term → heard_from own t i ok ≡ x
    → heard_state s h t x ≡ hears_appended s h t i ok
heard_by_case s h t i own ok x a e =
    ap (heard_state s h t) (sym e ∙ ap (λ (n : ℕ). heard_from n t i ok) a) ∙ by (eqb s.term t) ok
  where
    by : (b k : Bool) → heard_state s h t (pick b (pick k (Has i) Lacks) OtherTerm)
        ≡ pick b (pick k (has_state s h i) (lacks_state s h)) (heard_state s h t OtherTerm)
    by true true = refl
    by true false = refl
    by false k = refl
