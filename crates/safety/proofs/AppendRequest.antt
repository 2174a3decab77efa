-- ENTRIES COME FROM A LEADER. They are taken if the entry before them is there, of the same term; then the log becomes a part of that
-- leader's log, or was one already (AppendedLog), and the server acknowledges them and follows.
--
-- What it acknowledged of earlier terms it keeps: this leader's election now counts among those that have to have inherited it, so the
-- leader's log has it, and agreement with the leader's log is never lost.
use Rattle.std.proofs.Common.{◌≡◌, ℕ, suc, ◌<◌, ◌≤◌, Bool, true, false, ◌||◌, eqb, ltb, ◌⊎◌, List, [], ◌∷◌, ◌++◌, length, sym, refl, ap, ◌∙◌, subst, inl, inr, arith}
use Rattle.servers.specs.Store.{pick}
use Rattle.servers.specs.Server.{Entry, State, Letter, Message, append, appended, last_index, up_to, entry_at, term_is, has_new, at_least}
use Rattle.servers.specs.Server.{at_most, following, with_log, with_term, after_append, appends, back, in_a_row}
use Rattle.servers.specs.World.{Sent, In, from}
use Rattle.std.proofs.lemmas.Bool.{cases_order}
use Rattle.std.proofs.lemmas.Bool.Decides.{nat_tests}
use Rattle.servers.proofs.Tests.{bool_by, pick_by}
use Rattle.safety.proofs.Letters.{in_left, in_either, from_by, all_one, old_or_new}
use Rattle.safety.proofs.Logs.{agree_below, entry_within}
use Rattle.safety.proofs.Ghost.{Election, Ack, replied, led, Acked, CommittedPrefix, Inherits, OwnStep}
use Rattle.safety.proofs.Invariant.{ServerInvariant, ValidAppend, LetterInvariant, view, horizon}
use Rattle.safety.proofs.Prefixes.{committed_alike}
use Rattle.safety.proofs.LogMatching.{agrees_within, inherited_in_log}
use Rattle.safety.proofs.LeaderCompleteness.{committed_in_log}
use Rattle.safety.proofs.Growth.{prefix_stays}
use Rattle.safety.proofs.Frame.{acked_within}
use Rattle.safety.proofs.Turn.{Before, Turn, move, change, say, owes_nothing, later_term, Silent}
use Rattle.safety.proofs.AppendedLog.{Fits, fits, from_start, from_match, After, nothing_new, taken, told_committed}

-- THE LETTER IS TAKEN, in the server's own term; `log` is the log that the entries make
abbrev reply : ℕ → ℕ → ℕ → Bool → List Letter
reply h t n ok = record { to = h; message = appended t n ok } ∷ []

module _ {k me : ℕ} {was : Before} {s : State} {sent : List Sent} (a : Turn k me was s sent) (h i u : ℕ) (es : List Entry) (c : ℕ)
    (log : List Entry) (letter : ValidAppend k a.γ sent h s.term i u es c) (fit : Fits a.γ s.term es)
    (whole : 0 < length es → log ≡ up_to (last_index es) (a.γ.leader_log s.term)) where
  -- the index that it acknowledges
  abbrev m : ℕ
  m = last_index es

  abbrev leaders : List Entry
  leaders = a.γ.leader_log s.term

  abbrev ls : List Letter
  ls = reply h s.term m true

  abbrev more : List Sent
  more = sent ++ from me ls

  -- acknowledgements: those that it gave, and the one that it gives now
  which : (t n : ℕ) → Acked a.γ more me t n → Acked a.γ sent me t n ⊎ ((t ≡ s.term) × (n ≤ m))
  unfolding In from
  which t n z = go z.ack
    where
      go : Ack a.γ more me t z.upto → Acked a.γ sent me t n ⊎ ((t ≡ s.term) × (n ≤ m))
      go (led r q e far) = inl (record { upto = z.upto; far = z.far; ack = led r q e far })
      go (replied d y) = elim (in_either _ sent (from me ls) y) [
        | inl old ↦ inl (record { upto = z.upto; far = z.far; ack = replied d old })
        | inr (inl e) ↦ (let same : appended t z.upto true ≡ appended s.term m true = ap (λ (x : Sent). x.letter.message) e in
            let p : t ≡ s.term = cc in let q : z.upto ≡ m = cc in let far = z.far in inr (p, omega arith))
        | inr (inr x) ↦ elim x [ ]
      ]

  own_step : OwnStep me s.term a.γ sent a.γ more
  own_step =
      record {
        extends = record {
          ballots = λ v t x q. q;
          elections = λ t r q. q;
          leader_logs = λ t n q. refl;
          longer = λ t. omega arith;
          letters = λ x q. in_left x sent (from me ls) q;
        };
        ballots_new = λ v t x q. inl q;
        elections_new = λ t r q. inl (q, refl);
        letters_new = λ x q. elim (in_either x sent (from me ls) q) [ inl old ↦ inl old | inr n ↦ inr (from_by me ls x n) ];
        acks_new = λ t n z. elim (which t n z) [ inl old ↦ inl old | inr now ↦ inr (let p = now.0 in omega arith) ];
      }

  module _ (l : List Entry) (after : After a.γ s.term es s.log l) where
    -- what it acknowledged is in the log afterwards, now that this leader's election counts among those that inherited it
    keeps : (t n : ℕ) → Acked a.γ more me t n → ((x : ℕ) → t < x → x < suc s.term → Inherits a.γ n t x)
        → up_to n l ≡ up_to n (a.γ.leader_log t)
    keeps t n z inherits = go (which t n z) (cases_order t s.term)
      where
        before : Acked a.γ sent me t n → up_to n s.log ≡ up_to n (a.γ.leader_log t)
        before o =
            let wider : horizon (view s) ≤ suc s.term = grind (arith, nat_tests) in
            a.mine.keeps t n o (λ x lo hi. inherits x lo (omega arith))

        go : Acked a.γ sent me t n ⊎ ((t ≡ s.term) × (n ≤ m)) → (t ≡ s.term) ⊎ ((t < s.term) ⊎ (s.term < t))
            → up_to n l ≡ up_to n (a.γ.leader_log t)
        go (inr (p, q)) _ = rw p (agree_below n m l leaders q after.holds)
        go (inl o) (inl e) = rw e (after.append_keeps_agreement n (before o ∙ ap (λ y. up_to n (a.γ.leader_log y)) e))
        go (inl o) (inr (inl low)) =
            let r : Election = letter.election in
            let far = acked_within a.letters o in
            let began = inherits s.term low (omega arith) r letter.elected in
            let e = inherited_in_log a.ghost n t s.term r far letter.elected began in
            after.append_keeps_agreement n (before o ∙ sym e) ∙ e
        go (inl o) (inr (inr high)) = let z = a.mine.acks t o.upto o.ack in absurd (omega arith)

    -- what was committed stays so, since this leader has it
    commit_stays : (d : ℕ) → CommittedPrefix k a.γ sent d s.term s.log → CommittedPrefix k a.γ sent d s.term l
    commit_stays d p =
        let its : List Entry = a.γ.leader_log p.in_term in
        let e = agree_below d p.index leaders its p.far (committed_in_log a.ghost letter.election letter.elected p) in
        let far = entry_within p.index its p.committed.entry p.committed.there in
        let same = after.append_keeps_agreement d (p.same ∙ sym e) ∙ e in
        let low = p.far in
        committed_alike p l (same ∙ sym p.same) (agrees_within a.ghost d p.in_term l (omega arith) same)

    -- the server afterwards, with commit index d
    mine : (d : ℕ) → (0 < d → CommittedPrefix k a.γ sent d s.term l)
        → ServerInvariant k a.γ more me (view (following h (with_log l d s)))
    mine d commit =
        record {
          log = after.valid;
          votes_size = a.mine.votes_size;
          matches_size = a.mine.matches_size;
          ballots = a.mine.ballots;
          candidate = λ e. absurd (omega arith);
          leader = λ e. absurd (omega arith);
          acks = λ t n z. acks t n (which t n (record { upto = n; far = omega arith; ack = z }));
          keeps = keeps;
          commit = λ q. prefix_stays own_step.extends (commit q);
        }
      where
        acks : (t n : ℕ) → Acked a.γ sent me t n ⊎ ((t ≡ s.term) × (n ≤ m)) → t ≤ s.term
        acks t n (inl o) = a.mine.acks t o.upto o.ack
        acks t n (inr now) = let e = now.0 in omega arith

    acknowledges : (d : ℕ) → (0 < d → CommittedPrefix k a.γ sent d s.term l) → Turn k me was (following h (with_log l d s)) more
    acknowledges d commit =
        move a a.γ more (following h (with_log l d s)) own_step (owes_nothing a more) (mine d commit)
        (old_or_new me sent ls (LetterInvariant k a.γ more)
        (all_one me _ (λ y. LetterInvariant k a.γ more y) (letter.election, letter.elected, fit.within)))

  -- its commit index: the higher of its own, and of the leader's as far as the log goes
  abbrev new_commit : ℕ
  new_commit = at_least s.commit (at_most c (last_index log))

  takes_new : has_new s es ≡ true → After a.γ s.term es s.log log
  takes_new e = taken a.ghost s a.mine.log es fit e log whole

  abbrev CommitOk : ℕ → Type 0
  CommitOk d = 0 < d → CommittedPrefix k a.γ sent d s.term log

  told : has_new s es ≡ true → (d : ℕ) → 0 < d → d ≤ c → d ≤ last_index log → CommittedPrefix k a.γ sent d s.term log
  told e = told_committed a.ghost s a.mine.log es fit e log whole letter

  commit_now : has_new s es ≡ true → 0 < new_commit → CommittedPrefix k a.γ sent new_commit s.term log
  commit_now e =
      pick_by CommitOk (ltb s.commit (at_most c (last_index log))) (at_most c (last_index log)) s.commit
      (λ _. pick_by CommitOk (ltb c (last_index log)) c (last_index log)
      (λ f p. told e c p (omega arith) (grind (arith, nat_tests)))
      (λ f p. told e (last_index log) p (grind (arith, nat_tests)) (omega arith)))
      (λ _ p. commit_stays log (takes_new e) s.commit (a.mine.commit p))

  pub takes : Turn k me was (pick (has_new s es) (following h (with_log log new_commit s)) (following h s)) more
  takes =
      pick_by (λ x. Turn k me was x more) (has_new s es) (following h (with_log log new_commit s)) (following h s)
      (λ e. acknowledges log (takes_new e) new_commit (commit_now e))
      (λ e. acknowledges s.log (nothing_new a.ghost s a.mine.log es fit e) s.commit a.mine.commit)

-- THE EVENT: refused if of an earlier term, or if the entry before is not there; else the server moves to that term, and takes it
module _ {k me : ℕ} {was : Before} {s : State} {sent : List Sent} (a : Turn k me was s sent) (h t i u : ℕ) (es : List Entry) (c : ℕ)
    (letter : ValidAppend k a.γ sent h t i u es c) (row : in_a_row i es ≡ true) where
  -- `log` is the log that the entries make; z is the server in the leader's term
  module _ (log : List Entry) where
    abbrev result : State → State
    result z = pick (has_new s es) (following h (with_log log (at_least s.commit (at_most c (last_index log))) z)) (following h z)

    accepted : (0 < length es → log ≡ up_to (last_index es) (a.γ.leader_log t)) → ltb t s.term ≡ false
        → Turn k me was (after_append s h t es c log) (sent ++ from me (reply h t (last_index es) true))
    accepted whole e =
        bool_by (λ b. Turn k me was (result (pick b (with_term t s) s)) (sent ++ from me (reply h t (last_index es) true)))
        (ltb s.term t)
        (λ f. let b = change a (with_term t s) (later_term s t (grind (arith, nat_tests)) a.mine) in
        takes b h i u es c log letter (fits es letter row) whole)
        (λ f. let same : t ≡ s.term = grind (arith, nat_tests) in
        subst (λ y. Turn k me was (result s) (sent ++ from me (reply h y (last_index es) true))) (sym same)
        (takes a h i u es c log (subst (λ y. ValidAppend k a.γ sent h y i u es c) same letter)
        (subst (λ y. Fits a.γ y es) same (fits es letter row))
        (λ p. whole p ∙ ap (λ y. up_to (last_index es) (a.γ.leader_log y)) same)))

  refused : Turn k me was s (sent ++ from me (reply h s.term (last_index es) false))
  refused =
      say a (reply h s.term (last_index es) false) (all_one me _ (λ x. Silent x.letter.message) tt)
      (all_one me _ (λ x. LetterInvariant k a.γ sent x) tt)

  abbrev acceptance : Message
  acceptance = appended t (last_index es) true

  abbrev refusal : Message
  refusal = appended s.term (last_index es) false

  pub append_request_keeps : Turn k me was (appends s h t i u es c) (sent ++ from me (back s h (append t i u es c)))
  append_request_keeps =
      bool_by (λ old. Turn k me was (pick old s (pick (eqb i 0) (after_append s h t es c es)
      (pick (term_is (entry_at i s.log) u) (after_append s h t es c (es ++ up_to i s.log)) s)))
      (sent ++ from me (record {
        to = h;
        message = pick old refusal (pick (eqb i 0 || term_is (entry_at i s.log) u) acceptance refusal);
      } ∷ [])))
      (ltb t s.term)
      (λ e. refused)
      (λ e. bool_by (λ first. Turn k me was (pick first (after_append s h t es c es)
      (pick (term_is (entry_at i s.log) u) (after_append s h t es c (es ++ up_to i s.log)) s))
      (sent ++ from me (record { to = h; message = pick (first || term_is (entry_at i s.log) u) acceptance refusal } ∷ [])))
      (eqb i 0)
      (λ f. accepted es (from_start a.ghost es letter row (grind (arith, nat_tests))) e)
      (λ f. bool_by (λ there. Turn k me was (pick there (after_append s h t es c (es ++ up_to i s.log)) s)
      (sent ++ from me (record { to = h; message = pick there acceptance refusal } ∷ [])))
      (term_is (entry_at i s.log) u)
      (λ q. accepted (es ++ up_to i s.log) (from_match a.ghost es letter row (grind (arith, nat_tests)) a.mine.log q) e)
      (λ q. refused)))
