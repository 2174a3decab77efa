-- THE LEADER SENDS entries to the others. Its entries after any index, up to any other, make a valid letter (`part_valid`); that a letter
-- reaches to the end of its log is nowhere used.
use Rattle.std.proofs.Common.{◌≡◌, ℕ, ◌+◌, ◌-◌, ◌<◌, ◌≤◌, ◌&&◌, eqb, List, [], ◌++◌, length, sym, ap, ◌∙◌, subst, arith}
use Rattle.servers.specs.Store.{pick}
use Rattle.servers.specs.Server.{Entry, Limits, State, last_index, up_to, entry_at, above, term_of, next_for, to_server, to_others}
use Rattle.servers.specs.Server.{sends_now}
use Rattle.servers.specs.World.{Sent, from}
use Rattle.std.proofs.lemmas.Bool.{and_parts}
use Rattle.std.proofs.lemmas.Bool.Decides.{nat_tests}
use Rattle.servers.proofs.Tests.{bool_by}
use Rattle.safety.proofs.Letters.{all_none, all_others}
use Rattle.safety.proofs.Logs.{Contiguous, up_to_all, up_to_up_to, up_to_its_end, contiguous_up_to, last_up_to_below, last_up_to_within}
use Rattle.safety.proofs.Logs.{entry_exists, above_up_to, above_length, above_some}
use Rattle.safety.proofs.Invariant.{ValidAppend, MessageInvariant, LetterInvariant}
use Rattle.safety.proofs.Turn.{Before, Turn, say, Silent}

module _ {k me : ℕ} {was : Before} {s : State} {sent : List Sent} (a : Turn k me was s sent) (two : s.kind ≡ 2) where
  -- entries es of its log, after index i
  pub append_valid : (i : ℕ) (es : List Entry) → (0 < length es → i + length es ≤ last_index s.log)
      → (0 < length es → es ++ up_to i s.log ≡ up_to (i + length es) s.log)
      → ValidAppend k a.γ sent me s.term i (term_of (entry_at i s.log)) es s.commit
  append_valid i es within entries =
      let w = a.mine.leader two in
      record {
        election = w.election;
        elected = w.elected;
        sender = w.itself;
        before = λ p q. (let far = within p in let x = entry_exists i s.log a.mine.log.contiguous q (omega arith) in
            (x.0, rw w.all x.1, rw x.1));
        within = λ p. rw w.all (within p);
        entries = λ p. rw w.all (entries p);
        commit = λ p. rw w.all (a.mine.commit p);
      }

  -- its entries after index i, up to any index n
  pub part_valid : (i n : ℕ)
      → ValidAppend k a.γ sent me s.term i (term_of (entry_at i s.log)) (above i (up_to n s.log)) s.commit
  part_valid i n =
      append_valid i (above i part)
      (λ p. let size = part_size p in let low = last_up_to_within n s.log row in omega arith)
      (λ p. let some = above_some i part p in let low = last_up_to_below n s.log in
      ap (λ y. above i part ++ y) (sym (up_to_up_to i n s.log (omega arith)))
      ∙ (above_up_to i part (contiguous_up_to n s.log row)
      ∙ (sym (up_to_its_end n s.log row) ∙ ap (λ y. up_to y s.log) (sym (part_size p)))))
    where
      row : Contiguous s.log
      row = a.mine.log.contiguous

      part : List Entry
      part = up_to n s.log

      part_size : 0 < length (above i part) → i + length (above i part) ≡ last_index part
      part_size p = let some = above_some i part p in above_length i part (contiguous_up_to n s.log row) (omega arith)

  -- it sends all that it has from the next index on
  sends_valid : (h : ℕ) → MessageInvariant k a.γ sent me h (to_server s h)
  sends_valid h =
      let i : ℕ = next_for s h - 1 in
      let n : ℕ = last_index s.log in
      subst (λ y. ValidAppend k a.γ sent me s.term i (term_of (entry_at i s.log)) (above i y) s.commit)
      (up_to_all n s.log (omega arith)) (part_valid i n)

pub replication_keeps : (l : Limits) {was : Before} {s : State} {sent : List Sent} → Turn l.servers l.me was s sent
    → Turn l.servers l.me was s (sent ++ from l.me (sends_now l s))
replication_keeps l {was} {s} {sent} a =
    bool_by (λ b. Turn l.servers l.me was s (sent ++ from l.me (pick b (to_others l.servers l.me (λ h. to_server s h)) [])))
    (eqb s.kind 2 && s.send)
    (λ e. let p = (and_parts (eqb s.kind 2) s.send e).0 in
    say a (to_others l.servers l.me (λ h. to_server s h))
    (all_others l.me l.servers l.me (λ h. to_server s h) (λ x. Silent x.letter.message) (λ d. tt))
    (all_others l.me l.servers l.me (λ h. to_server s h) (λ x. LetterInvariant l.servers a.γ sent x)
    (λ d. sends_valid a (grind (arith, nat_tests)) d)))
    (λ e. say a [] (all_none l.me (λ x. Silent x.letter.message))
    (all_none l.me (λ x. LetterInvariant l.servers a.γ sent x)))
