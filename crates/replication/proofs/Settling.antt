-- Counting who has an entry, and going down the log from its end.
use Rattle.std.proofs.Common.{◌≡◌, ℕ, zero, suc, ◌+◌, ◌-◌, ◌/◌, ◌<◌, ◌≤◌, Bool, true, false, ◌&&◌, eqb, ltb, leb, List, length, drop, sym, refl, ap, ◌∙◌, arith}
use Rattle.std.proofs.lemmas.Bool.{and_from, and_left, and_right, lt-ltb, le-ltb}
use Rattle.std.proofs.lemmas.List.{drop_more, drop_all}
use Rattle.servers.specs.Store.{pick}
use Rattle.servers.specs.Server.{Limits, State, nth, have_it, with_commit, settled_to, settles}
use Rattle.raft_log.specs.Rows.{log_in, row_in}
use Rattle.raft_log.specs.Places.{entry_in}
use Rattle.raft_log.proofs.Places.{log_in_more}
use Rattle.servers.proofs.Tests.{pick_true, pick_false}
use Rattle.state.proofs.PeerWords.{nth_is}

have_more : (i j : ℕ) (ms : List ℕ) → j < length ms
    → have_it i (drop j ms) ≡ pick (leb i (nth 0 ms j)) (suc (have_it i (drop (j + 1) ms))) (have_it i (drop (j + 1) ms))
unfolding have_it
have_more i j ms h = rw (nth_is 0 ms j, drop_more ms j 0 h) refl

-- the server j has it, or not
pub have_yes : (i j : ℕ) (ms : List ℕ) → j < length ms → leb i (nth 0 ms j) ≡ true
    → have_it i (drop j ms) ≡ suc (have_it i (drop (j + 1) ms))
have_yes i j ms h y = have_more i j ms h ∙ pick_true _ _ _ y

pub have_no : (i j : ℕ) (ms : List ℕ) → j < length ms → leb i (nth 0 ms j) ≡ false
    → have_it i (drop j ms) ≡ have_it i (drop (j + 1) ms)
have_no i j ms h y = have_more i j ms h ∙ pick_false _ _ _ y

have_none : (i n : ℕ) (ms : List ℕ) → length ms ≡ n → have_it i (drop n ms) ≡ 0
unfolding have_it
have_none i n ms h = rw (drop_all n ms (omega arith)) refl

-- what decides on the entry at i
abbrev decides : Limits → State → List ℕ → ℕ → Bool
decides l s ws i = (eqb (entry_in i ws).term s.term && ltb s.commit i) && ltb (l.servers / 2) (have_it i s.matches)

settled_more : (l : Limits) (s : State) (ws : List ℕ) (i : ℕ) → 0 < i
    → settled_to l s (log_in i ws) ≡ pick (decides l s ws i) i (settled_to l s (log_in (i - 1) ws))
unfolding settled_to row_in
settled_more l s ws i h = rw (log_in_more i ws h) refl

-- settled there, or further down
pub settled_yes : (l : Limits) (s : State) (ws : List ℕ) (i : ℕ) → eqb (entry_in i ws).term s.term ≡ true → s.commit < i
    → l.servers / 2 < have_it i s.matches → settled_to l s (log_in i ws) ≡ i
settled_yes l s ws i e k h =
    settled_more l s ws i (omega arith)
    ∙ pick_true _ _ _ (and_from _ _ (and_from _ _ e (lt-ltb _ _ k)) (lt-ltb _ _ h))

settled_no : (l : Limits) (s : State) (ws : List ℕ) (i : ℕ) → 0 < i → decides l s ws i ≡ false
    → settled_to l s (log_in i ws) ≡ settled_to l s (log_in (i - 1) ws)
settled_no l s ws i k e = settled_more l s ws i k ∙ pick_false _ _ _ e

-- further down, since it is of another term, or too few have it
pub settled_other : (l : Limits) (s : State) (ws : List ℕ) (i : ℕ) → 0 < i → eqb (entry_in i ws).term s.term ≡ false
    → settled_to l s (log_in i ws) ≡ settled_to l s (log_in (i - 1) ws)
settled_other l s ws i k e = settled_no l s ws i k (and_left _ _ (and_left _ _ e))

pub settled_few : (l : Limits) (s : State) (ws : List ℕ) (i n : ℕ) → 0 < i → length s.matches ≡ n
    → have_it i s.matches ≤ l.servers / 2 + have_it i (drop n s.matches)
    → settled_to l s (log_in i ws) ≡ settled_to l s (log_in (i - 1) ws)
settled_few l s ws i n k e h =
    let z = have_none i n s.matches e in
    let few : have_it i s.matches ≤ l.servers / 2 = omega arith in
    settled_no l s ws i k (and_right _ _ (le-ltb _ _ few))

-- or as far as it was
pub settled_none : (l : Limits) (s : State) (ws : List ℕ) (i : ℕ) → i ≤ s.commit → settled_to l s (log_in i ws) ≡ s.commit
unfolding settled_to log_in row_in
settled_none l s ws zero k = refl
settled_none l s ws (suc i) k =
    pick_false _ _ _ (and_left _ _ (and_right _ _ (le-ltb s.commit (suc i) k))) ∙ settled_none l s ws i (omega arith)

-- a leader that settles, and one that follows
pub settles_leading : (l : Limits) (s : State) (c : ℕ) → c ≡ settled_to l s s.log → eqb s.kind 2 ≡ true → with_commit c s ≡ settles l s
settles_leading l s c e k = ap (λ (i : ℕ). with_commit i s) e ∙ sym (pick_true _ _ s k)

pub settles_following : (l : Limits) (s : State) → eqb s.kind 2 ≡ false → s ≡ settles l s
settles_following l s k = sym (pick_false _ (with_commit (settled_to l s s.log) s) s k)
