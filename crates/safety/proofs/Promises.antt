-- What is promised of all servers at once: the safety properties with the present for both moments, that logs are in a row, and that an
-- event which is turned away changes nothing.
use Rattle.std.proofs.Common.{◌≡◌, ℕ, suc, ◌+◌, true, false, eqb, leb, List, [], ◌∷◌, length, refl, inl, inr, arith}
use Rattle.servers.specs.Server.{Entry, turned, in_a_row}
use Rattle.servers.specs.Promise.{at_server, OneLeads, LogsMatch, SettledIsSame, WhoLeadsHasIt, rising_terms, InARow}
use Rattle.servers.specs.Promise.{TurnedAway}
use Rattle.std.proofs.lemmas.Bool.{cases_lt, eq-eqb, and_from, le-leb, ne_eqb}
use Rattle.safety.specs.Safety.{ElectionSafety, LogMatching, LeaderCompleteness, StateMachineSafety}
use Rattle.safety.proofs.Logs.{Contiguous, Ascending}
use Rattle.safety.proofs.Worlds.{history}
use Rattle.safety.proofs.OverTime.{election_safety, log_matching, leader_completeness, state_machine_safety}

pub one_leads : OneLeads
unfolding OneLeads ElectionSafety
one_leads can f g w right group lived fine i j _ _ =
    election_safety can f g w right group lived fine w.past w.past ([], refl) ([], refl) i j

pub logs_match : LogsMatch
unfolding LogsMatch LogMatching
logs_match can f g w right group lived fine i j n t _ _ =
    log_matching can f g w right group lived fine w.past w.past ([], refl) ([], refl) i j n t

pub settled_is_same : SettledIsSame
unfolding SettledIsSame StateMachineSafety
settled_is_same can f g w right group lived fine i j n _ _ =
    state_machine_safety can f g w right group lived fine w.past w.past ([], refl) ([], refl) i j n

pub who_leads_has_it : WhoLeadsHasIt
unfolding WhoLeadsHasIt LeaderCompleteness
who_leads_has_it can f g w right group lived fine i j n _ _ two le p =
    leader_completeness can f g w right group lived fine w.past w.past ([], refl) ([], refl) i j n p two le

contiguous_row : (l : List Entry) → Contiguous l → in_a_row 0 l ≡ true
unfolding in_a_row
contiguous_row [] r = refl
contiguous_row (e ∷ es) r =
    let p = r.0 in
    and_from (eqb e.index (suc (0 + length es))) (in_a_row 0 es)
    (eq-eqb e.index (suc (0 + length es)) (omega arith)) (contiguous_row es r.1)

ascending_rises : (l : List Entry) (t : ℕ) → Ascending l t → rising_terms l t ≡ true
unfolding rising_terms
ascending_rises [] t r = refl
ascending_rises (e ∷ es) t r =
    and_from (leb e.term t) (rising_terms es e.term) (le-leb e.term t r.1) (ascending_rises es e.term r.2)

pub in_a_row_all : InARow
unfolding InARow
in_a_row_all can f g w right group lived fine i _ =
    let o = (history can f g right group lived fine).inv.servers i in (
      contiguous_row (at_server g w i).log o.log.contiguous,
      ascending_rises (at_server g w i).log (at_server g w i).term o.log.ascending,
      elim (cases_lt 0 (at_server g w i).commit) [ inl p ↦ (o.commit p).inside | inr p ↦ omega arith ],
    )

pub turned_away : TurnedAway
unfolding TurnedAway
turned_away l s e h = let z : eqb (turned l s e) 0 ≡ false = ne_eqb (turned l s e) 0 (λ q. omega arith) in rw z
