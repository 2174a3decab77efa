-- WHAT ENTRIES FROM A LEADER MAKE OF A LOG. Nothing here is about servers and their turns: an old log, the entries of a valid letter, and
-- the leader's log.
--
-- The log afterwards (`After`) is a log; it agrees with the leader's up to the index that is acknowledged; and it agrees with the leader's
-- wherever the old one did (`append_keeps_agreement`): either nothing is replaced, or the new log is the leader's up to an index beyond
-- all that agreed, since the entry there was not in the old one. How many entries the letter has never matters.
use Rattle.std.proofs.Common.{◌≡◌, ℕ, ◌+◌, ◌<◌, ◌≤◌, true, false, not, ◌⊎◌, List, [], ◌∷◌, ◌++◌, length, sym, refl, ap, ◌∙◌, subst, inl, inr, append-nil, arith}
use Rattle.servers.specs.Server.{Entry, State, last_index, last_term, up_to, entry_at, empty, term_is, has_new, in_a_row}
use Rattle.servers.specs.World.{Sent}
use Rattle.std.proofs.lemmas.Bool.{cases_lt, and_parts, false≢true, true≢false, both_ways, and_cases, not-true, not-false}
use Rattle.safety.proofs.Logs.{up_to_up_to, agree_entry, agree_at_zero, up_to_zero, entry_of_term, term_of_entry, entry_on_top}
use Rattle.safety.proofs.Logs.{last_up_to_below, last_of_row}
use Rattle.safety.proofs.Ghost.{Ghost, CommittedPrefix}
use Rattle.safety.proofs.Invariant.{ValidLog, GhostInvariant, ValidAppend}
use Rattle.safety.proofs.Prefixes.{committed_part, committed_alike}
use Rattle.safety.proofs.LogMatching.{logs_match, valid_prefix}

-- WHAT A VALID LETTER SAYS OF THE LEADER'S LOG

-- its last entry is there
pub record Fits (γ : Ghost) (t : ℕ) (es : List Entry) : Type 0 where
  pub within : last_index es ≤ last_index (γ.leader_log t)
  pub none : length es ≡ 0 → last_index es ≡ 0
  pub last : 0 < length es → (x : Entry) × (entry_at (last_index es) (γ.leader_log t) ≡ x ∷ []) × (x.term ≡ last_term es)

pub fits : {k : ℕ} {γ : Ghost} {sent : List Sent} {h t i u : ℕ} (es : List Entry) {c : ℕ} → ValidAppend k γ sent h t i u es c
    → in_a_row i es ≡ true → Fits γ t es
fits [] v row = record { within = omega arith; none = λ e. refl; last = λ p. absurd (omega arith) }
fits {k} {γ} {sent} {h} {t} {i} (e ∷ es) v row =
    let n : ℕ = i + length (e ∷ es) in
    let top : e.index ≡ n = last_of_row i e es row in
    let far = v.within (omega arith) in
    let same : up_to n ((e ∷ es) ++ up_to i (γ.leader_log t)) ≡ up_to n (γ.leader_log t) =
    ap (up_to n) (v.entries (omega arith)) ∙ up_to_up_to n n (γ.leader_log t) (omega arith) in
    record {
      within = omega arith;
      none = λ e. absurd (omega arith);
      last = λ z. (
        e,
        sym (agree_entry e.index n ((e ∷ es) ++ up_to i (γ.leader_log t)) (γ.leader_log t) (omega arith) same)
            ∙ entry_on_top e es (up_to i (γ.leader_log t)),
        refl,
      );
    }

module _ {k : ℕ} {γ : Ghost} {sent : List Sent} (g : GhostInvariant k γ sent) {h t i u : ℕ} where
  -- put on nothing, or on a log that has the entry before, its entries make the leader's log up to their last
  pub from_start : (es : List Entry) {c : ℕ} → ValidAppend k γ sent h t i u es c → in_a_row i es ≡ true → i ≡ 0 → 0 < length es
      → es ≡ up_to (last_index es) (γ.leader_log t)
  from_start [] v row at_zero some = absurd (omega arith)
  from_start (e ∷ es) v row at_zero some =
      let none : up_to i (γ.leader_log t) ≡ [] = rw at_zero (up_to_zero (γ.leader_log t) (g.leader_logs t).contiguous) in
      sym (append-nil (e ∷ es)) ∙ (ap (λ y. (e ∷ es) ++ y) (sym none)
      ∙ (v.entries some ∙ ap (λ y. up_to y (γ.leader_log t)) (sym (last_of_row i e es row))))

  pub from_match : (es : List Entry) {c : ℕ} → ValidAppend k γ sent h t i u es c → in_a_row i es ≡ true → 0 < i
      → {log : List Entry} {q : ℕ} → ValidLog γ log q → term_is (entry_at i log) u ≡ true → 0 < length es
      → es ++ up_to i log ≡ up_to (last_index es) (γ.leader_log t)
  from_match [] v row pos valid m some = absurd (omega arith)
  from_match (e ∷ es) v row pos {log} valid m some =
      let x = v.before some pos in
      let y = entry_of_term i log u m in
      let same = logs_match valid (g.leader_logs t) i y.0 x.0 y.1 x.1 (y.2 ∙ sym x.2) in
      ap (λ z. (e ∷ es) ++ z) same ∙ (v.entries some ∙ ap (λ z. up_to z (γ.leader_log t)) (sym (last_of_row i e es row)))

-- THE LOG AFTERWARDS

pub record After (γ : Ghost) (t : ℕ) (es old l : List Entry) : Type 0 where
  pub valid : ValidLog γ l t
  pub holds : up_to (last_index es) l ≡ up_to (last_index es) (γ.leader_log t)
  pub append_keeps_agreement : (n : ℕ) → up_to n old ≡ up_to n (γ.leader_log t) → up_to n l ≡ up_to n (γ.leader_log t)

some_entries : (xs : List Entry) → not (empty xs) ≡ true → 0 < length xs
some_entries [] q = absurd (false≢true q)
some_entries (x ∷ xs) q = omega arith

not_empty : (xs : List Entry) → 0 < length xs → not (empty xs) ≡ true
not_empty [] q = absurd (omega arith)
not_empty (x ∷ xs) q = refl

-- entries of the leader of term t come to a server with log `s.log`
module _ {k : ℕ} {γ : Ghost} {sent : List Sent} (g : GhostInvariant k γ sent) (s : State) {t : ℕ} (valid : ValidLog γ s.log t)
    (es : List Entry) (fit : Fits γ t es) where
  abbrev m : ℕ
  m = last_index es

  abbrev leaders : List Entry
  leaders = γ.leader_log t

  -- nothing is new: the last entry is there, and so all before it
  pub nothing_new : has_new s es ≡ false → After γ t es s.log s.log
  nothing_new e = record { valid = valid; holds = holds (cases_lt 0 (length es)); append_keeps_agreement = λ n q. q }
    where
      there : 0 < length es → (not (empty es) ≡ false) ⊎ (not (term_is (entry_at m s.log) (last_term es)) ≡ false)
          → term_is (entry_at m s.log) (last_term es) ≡ true
      there p (inl q) = absurd (true≢false (sym (not_empty es p) ∙ q))
      there p (inr q) = not-false _ q

      holds : (0 < length es) ⊎ (length es ≤ 0) → up_to m s.log ≡ up_to m leaders
      holds (inl p) =
          let x = fit.last p in
          let old = there p (and_cases (not (empty es)) (not (term_is (entry_at m s.log) (last_term es))) e) in
          let y = entry_of_term m s.log (last_term es) old in
          logs_match valid (g.leader_logs t) m y.0 x.0 y.1 x.1 (y.2 ∙ sym x.2)
      holds (inr q) = rw (fit.none (omega arith)) (agree_at_zero s.log leaders valid.contiguous (g.leader_logs t).contiguous)

  -- something is new: `log`, which the entries make, is the leader's up to the last entry, and that one was not there
  module _ (e : has_new s es ≡ true) (log : List Entry) (whole : 0 < length es → log ≡ up_to m leaders) where
    pub some : 0 < length es
    some = some_entries es (and_parts (not (empty es)) (not (term_is (entry_at m s.log) (last_term es))) e).0

    was_not_there : term_is (entry_at m s.log) (last_term es) ≡ false
    was_not_there = not-true _ (and_parts (not (empty es)) (not (term_is (entry_at m s.log) (last_term es))) e).1

    pub taken : After γ t es s.log log
    taken =
        record {
          valid = subst (λ y. ValidLog γ y t) (sym (whole some)) (valid_prefix m (g.leader_logs t));
          holds = rw (whole some) (up_to_up_to m m leaders (omega arith));
          append_keeps_agreement = λ n q. keeps n q (cases_lt n m);
        }
      where
        keeps : (n : ℕ) → up_to n s.log ≡ up_to n leaders → (n < m) ⊎ (m ≤ n) → up_to n log ≡ up_to n leaders
        keeps n q (inl low) = rw (whole some) (up_to_up_to n m leaders (omega arith))
        keeps n q (inr high) =
            let x = fit.last some in
            let was_there = term_of_entry m s.log (last_term es) x.0 (agree_entry m n s.log leaders high q ∙ x.1) x.2 in
            absurd (both_ways _ was_not_there was_there)

    -- what the leader says is committed, up to c, is so in the new log
    pub told_committed : {h i u c : ℕ} → ValidAppend k γ sent h t i u es c → (d : ℕ) → 0 < d → d ≤ c → d ≤ last_index log
        → CommittedPrefix k γ sent d t log
    told_committed {h} {i} {u} {c} letter d pos low inside =
        let p = committed_part (letter.commit (omega arith)) d low in
        let top : last_index log ≤ m = rw (whole some) (last_up_to_below m leaders) in
        committed_alike p log (rw (whole some) (up_to_up_to d m leaders (omega arith))) inside
