use Rattle.std.proofs.Common.{◌≡◌, Bool, true, false, ℕ, ◌==◌, ◌<◌, sym, ◌∙◌, arith}
use Rattle.std.proofs.lemmas.Bool.{lt-ltb, le-ltb}
use Rattle.std.proofs.lemmas.Grind.{common_steps}
use Rattle.servers.specs.Server.{Limits, State, with_term, voted_on, hears_vote}
use Rattle.servers.proofs.Tests.{pick_true, pick_false}
use Rattle.state.specs.Memory.{limits_of, state_of}
use Rattle.state.proofs.Laws.{stays, said}
use Rattle.election.proofs.vote.vote_comes.Goals as goal

newer : (l : Limits) (s : State) (h t : ℕ) (ok : Bool) → s.term < t → hears_vote l s h t ok ≡ with_term t s
newer l s h t ok n = pick_true _ _ _ (lt-ltb s.term t n) ∙ pick_true _ _ _ (lt-ltb s.term t n)

older : (l : Limits) (s : State) (h t : ℕ) (ok : Bool) → t < s.term → hears_vote l s h t ok ≡ s
older l s h t ok n = pick_false _ _ _ (le-ltb s.term t (omega arith)) ∙ pick_true _ _ _ (lt-ltb t s.term n)

-- a vote of its own term
counted : (l : Limits) (s : State) (h t : ℕ) (ok : Bool) → s.term ≡ t → (s.kind == 1) ≡ true → hears_vote l s h t ok ≡ voted_on l h ok s
counted l s h t ok e k =
    pick_false _ _ _ (le-ltb s.term t (omega arith)) ∙ (pick_false _ _ _ (le-ltb t s.term (omega arith)) ∙ pick_true _ _ _ k)

left : (l : Limits) (s : State) (h t : ℕ) (ok : Bool) → s.term ≡ t → (s.kind == 1) ≡ false → hears_vote l s h t ok ≡ s
left l s h t ok e k =
    pick_false _ _ _ (le-ltb s.term t (omega arith)) ∙ (pick_false _ _ _ (le-ltb t s.term (omega arith)) ∙ pick_false _ _ _ k)

pub returns-in-Less : goal.returns-in-Less
returns-in-Less c =
    let m = c.args.mem.now in
    let value = c.term.ensures.value in
    let order = c.in-Less.ensures in
    let n : (state_of m).term < c.args.term = grind (arith, common_steps) in
    said m c.take_term.new.self _ _ (sym (newer (limits_of m) (state_of m) c.args.h c.args.term c.args.granted n)) c.take_term.ensures

pub returns-in-Greater : goal.returns-in-Greater
returns-in-Greater c =
    let m = c.args.mem.now in
    let value = c.term.ensures.value in
    let order = c.in-Greater.ensures in
    let n : c.args.term < (state_of m).term = grind (arith, common_steps) in
    said m m _ _ (sym (older (limits_of m) (state_of m) c.args.h c.args.term c.args.granted n)) (stays m)

pub returns-then-counts : goal.returns-then-counts
returns-then-counts c =
    let m = c.args.mem.now in
    let value = c.term.ensures.value in
    let order = c.in-Equal.ensures in
    let e : (state_of m).term ≡ c.args.term = grind (arith, common_steps) in
    said m c.hear.new.mem _ _
    (sym (counted (limits_of m) (state_of m) c.args.h c.args.term c.args.granted e (sym c.if-counts.ensures)))
    c.hear.ensures

pub returns-else-counts : goal.returns-else-counts
returns-else-counts c =
    let m = c.args.mem.now in
    let value = c.term.ensures.value in
    let order = c.in-Equal.ensures in
    let e : (state_of m).term ≡ c.args.term = grind (arith, common_steps) in
    said m m _ _
    (sym (left (limits_of m) (state_of m) c.args.h c.args.term c.args.granted e (sym c.if-counts.ensures)))
    (stays m)
