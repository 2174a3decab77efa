-- THE LEADER COMMITS: its commit index moves to an entry of its own term that a quorum has. That is `Committed` by definition: entries
-- of earlier terms are committed with it, and never by counting alone.
use Rattle.std.proofs.Common.{◌≡◌, ℕ, ◌/◌, ◌<◌, ◌&&◌, eqb, ltb, ◌⊎◌, List, [], ◌∷◌, sym, refl, subst, inl, inr, arith}
use Rattle.servers.specs.Store.{pick}
use Rattle.servers.specs.Server.{Entry, Limits, State, entry_at, nth, have_it, settled_to, settles, with_commit}
use Rattle.servers.specs.World.{Sent}
use Rattle.std.proofs.lemmas.Bool.{and_parts}
use Rattle.std.proofs.lemmas.Bool.Decides.{nat_tests}
use Rattle.servers.proofs.Tests.{bool_by, pick_by}
use Rattle.safety.proofs.Logs.{Contiguous, entry_last, entry_deeper, entry_within}
use Rattle.safety.proofs.Quorums.{Most, quorum_of_matches}
use Rattle.safety.proofs.Ghost.{Acked, CommittedPrefix}
use Rattle.safety.proofs.Turn.{Before, Turn, change}

-- where the commit index may move: to an entry of the leader's term that a quorum has by what the leader knows
record CommitsTo (l : Limits) (s : State) (n : ℕ) : Type 0 where
  entry : Entry
  there : entry_at n s.log ≡ entry ∷ []
  of_term : entry.term ≡ s.term
  most : Most l.servers (have_it n s.matches)
  some : 0 < n

-- it stays, or moves there; `es` is the part of the log that is still to be looked at
stays_or_moves : (l : Limits) (s : State) (es : List Entry) → Contiguous es
    → ((n : ℕ) (x : Entry) → entry_at n es ≡ x ∷ [] → entry_at n s.log ≡ x ∷ [])
    → (settled_to l s es ≡ s.commit) ⊎ CommitsTo l s (settled_to l s es)
unfolding settled_to
stays_or_moves l s [] r part = inl refl
stays_or_moves l s (e ∷ es) r part =
    bool_by (λ b. (pick b e.index (settled_to l s es) ≡ s.commit) ⊎ CommitsTo l s (pick b e.index (settled_to l s es)))
    ((eqb e.term s.term && ltb s.commit e.index) && ltb (l.servers / 2) (have_it e.index s.matches))
    (λ q. let p = and_parts (eqb e.term s.term && ltb s.commit e.index) _ q in
    let p' = and_parts (eqb e.term s.term) (ltb s.commit e.index) p.0 in
    let most = p.1 in let own = p'.0 in let beyond = p'.1 in
    inr (record {
      entry = e;
      there = part e.index e (entry_last e es);
      of_term = grind (arith, nat_tests);
      most = grind (arith, nat_tests);
      some = grind (arith, nat_tests);
    }))
    (λ q. stays_or_moves l s es r.1 (λ n x h. part n x (entry_deeper n e x es r h)))

module _ (l : Limits) {was : Before} {s : State} {sent : List Sent} (a : Turn l.servers l.me was s sent) where
  committed : (n : ℕ) → s.kind ≡ 2 → CommitsTo l s n → CommittedPrefix l.servers a.γ sent n s.term s.log
  committed n two c =
      let w = a.mine.leader two in
      record {
        index = n;
        in_term = s.term;
        committed = record {
          entry = c.entry;
          there = rw w.all c.there;
          of_term = c.of_term;
          quorum = quorum_of_matches (λ v. Acked a.γ sent v s.term n) n s.matches a.mine.matches_size c.most
              (λ v h. let some = c.some in record { upto = nth 0 s.matches v; far = h; ack = w.acked v (omega arith) });
        };
        far = omega arith;
        low = omega arith;
        same = rw w.all;
        inside = entry_within n s.log c.entry c.there;
      }

  pub commit_keeps : Turn l.servers l.me was (settles l s) sent
  commit_keeps =
      pick_by (λ x. Turn l.servers l.me was x sent) (eqb s.kind 2) (with_commit (settled_to l s s.log) s) s
      (λ e. change a (with_commit (settled_to l s s.log) s)
      (let o = a.mine in record {
        log = o.log;
        votes_size = o.votes_size;
        matches_size = o.matches_size;
        ballots = o.ballots;
        candidate = o.candidate;
        leader = o.leader;
        acks = o.acks;
        keeps = o.keeps;
        commit = commit (grind (arith, nat_tests)) (stays_or_moves l s s.log o.log.contiguous (λ n x h. h));
      }))
      (λ e. a)
    where
      commit : s.kind ≡ 2 → (settled_to l s s.log ≡ s.commit) ⊎ CommitsTo l s (settled_to l s s.log) → 0 < settled_to l s s.log
          → CommittedPrefix l.servers a.γ sent (settled_to l s s.log) s.term s.log
      commit two (inl e) p =
          subst (λ y. CommittedPrefix l.servers a.γ sent y s.term s.log) (sym e) (a.mine.commit (omega arith))
      commit two (inr c) p = committed (settled_to l s s.log) two c
