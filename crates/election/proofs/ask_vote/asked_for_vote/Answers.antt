use Rattle.std.proofs.Common.{◌≡◌, Bool, true, false, not, ◌&&◌, ℕ, ◌<◌, ◌≤◌, refl, sym, ap, ◌∙◌, arith}
use Rattle.std.proofs.lemmas.Bool.{lt-ltb, le-ltb}
use Rattle.servers.specs.Store.{pick}
use Rattle.servers.specs.Server.{asked, State, with_voted, advanced, as_new, empty, may_vote, grants}
use Rattle.servers.proofs.Tests.{pick_true, pick_false}
use Rattle.state.specs.Held as held
use Rattle.state.specs.Memory.{state_of}
use Rattle.state.proofs.Laws.{stays, said, then_to}
use Rattle.election.proofs.ask_vote.asked_for_vote.Goals as goal

regroup : (n e v : Bool) → (n && (e && v)) ≡ ((e && n) && v)
regroup true true v = refl
regroup true false v = refl
regroup false true v = refl
regroup false false v = refl

-- whether the vote is given, of a term that isn't older
unfoldable given : State → ℕ → ℕ → ℕ → Bool
given a h i u = as_new i u a && (empty a.leader && may_vote a.voted h)

grants_is : (s : State) (h t i u : ℕ) → s.term ≤ t → grants s h t i u ≡ given (advanced t s) h i u
unfolding given
grants_is s h t i u e =
    let a : State = advanced t s in
    ap (λ (b : Bool). not b && ((empty a.leader && as_new i u a) && may_vote a.voted h)) (le-ltb t s.term e)
    ∙ sym (regroup (as_new i u a) (empty a.leader) (may_vote a.voted h))

-- what the vote does to the state, by the test as the code makes it: of the state a, with the outcome b
asked_by : (s a : State) (h t i u : ℕ) (g b : Bool) → s.term ≤ t → a ≡ advanced t s → g ≡ given a h i u → g ≡ b
    → asked s h t i u ≡ pick b (with_voted h (advanced t s)) (advanced t s)
asked_by s a h t i u g b e w q r =
    pick_false _ _ _ (le-ltb t s.term e)
    ∙ ap (λ (x : Bool). pick x (with_voted h (advanced t s)) (advanced t s))
    (grants_is s h t i u e ∙ (ap (λ (z : State). given z h i u) (sym w) ∙ (sym q ∙ r)))

pub returns-then-term-own-clause-state : goal.returns-then-term-own-clause-state
returns-then-term-own-clause-state c =
    let m = c.args.mem.now in
    let e : c.args.term < (state_of m).term = omega (arith, c.term-own.ensures.value, c.if-term-own.true) in
    said m m _ _ (sym (pick_true _ _ _ (lt-ltb c.args.term (state_of m).term e))) (stays m)

pub returns-then-granted-clause-state : goal.returns-then-granted-clause-state
unfolding given
returns-then-granted-clause-state c =
    let m = c.args.mem.now in
    let e : (state_of m).term ≤ c.args.term = omega (arith, c.term-own.ensures.value, c.if-term-own.false) in
    then_to (with_voted c.args.h) m c.advance.new.self c.vote_for.new.self (advanced c.args.term (state_of m)) _ c.advance.ensures
    c.vote_for.ensures
    (sym (asked_by (state_of m) _ c.args.h c.args.term c.args.last c.args.of _ true e
    (ap held.state_of c.view.ensures ∙ c.advance.ensures.state) c.grants-granted.ensures c.if-granted.true))

pub returns-else-granted-clause-state : goal.returns-else-granted-clause-state
unfolding given
returns-else-granted-clause-state c =
    let m = c.args.mem.now in
    let e : (state_of m).term ≤ c.args.term = omega (arith, c.term-own.ensures.value, c.if-term-own.false) in
    said m c.advance.new.self (advanced c.args.term (state_of m)) _
    (sym (asked_by (state_of m) _ c.args.h c.args.term c.args.last c.args.of _ false e
    (ap held.state_of c.view.ensures ∙ c.advance.ensures.state) c.grants-granted.ensures c.if-granted.false)) c.advance.ensures
