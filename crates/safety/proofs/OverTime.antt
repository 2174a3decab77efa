-- RAFT'S SAFETY PROPERTIES over time. What held at a moment is carried to the world's ghost, which has grown since (Growth), and there
-- the lemmas on one world apply (LogMatching, LeaderCompleteness, Commits).
use Rattle.std.proofs.Common.{◌≡◌, ℕ, zero, suc, ◌<◌, ◌≤◌, Bool, true, eqb, List, [], ◌∷◌, sym, refl, ap, ◌∙◌, subst, inl, inr, arith}
use Rattle.servers.specs.Server.{Entry, State, last_index, up_to, entry_at}
use Rattle.servers.specs.World.{Program, Group, Happening, Sent, World, Lived}
use Rattle.servers.specs.Promise.{GoodGroup, Right, readable_world, at_server, has_term}
use Rattle.std.proofs.lemmas.Bool.{false≢true}
use Rattle.std.proofs.lemmas.Bool.Decides.{nat_tests}
use Rattle.safety.specs.Safety.{Until, at_moment, OfMomentsInOrder, ElectionSafety, LeaderAppendOnly, LogMatching}
use Rattle.safety.specs.Safety.{LeaderCompleteness, LaterLeaderCompleteness, StateMachineSafety, CommitsStay, OneVote}
use Rattle.safety.proofs.Logs.{AtMostOne, entry_at_most_one, entry_within, up_to_all, agree_below, agree_at_zero}
use Rattle.safety.proofs.Ghost.{just, Election, Ghost, CommittedPrefix}
use Rattle.safety.proofs.Invariant.{ValidLog}
use Rattle.safety.proofs.LogMatching.{logs_match, start_in_log, agrees_within}
use Rattle.safety.proofs.LeaderCompleteness.{leader_complete, committed_in_log}
use Rattle.safety.proofs.Prefixes.{committed_later}
use Rattle.safety.proofs.Commits.{commits_agree}
use Rattle.safety.proofs.Growth.{valid_log_stays, prefix_stays}
use Rattle.safety.proofs.Induction.{earlier_world}
use Rattle.safety.proofs.Monotone.{rises_since}
use Rattle.safety.proofs.Worlds.{HeldAt, history}

-- AT ONE MOMENT, by the ghost of the world
module _ {g : Group} {γ : Ghost} {sent : List Sent} {m : List Happening} (x : HeldAt g γ sent m) (i : ℕ) where
  abbrev it : State
  it = at_moment g m i

  pub valid_then : ValidLog γ it.log it.term
  valid_then = valid_log_stays x.extends (x.inv.servers i).log

  pub committed_then : 0 < it.commit → CommittedPrefix g.servers γ sent it.commit it.term it.log
  committed_then h = prefix_stays x.extends ((x.inv.servers i).commit h)

  -- who led then was elected, and its log began with that of its election
  module _ (two : it.kind ≡ 2) where
    abbrev won : Election
    won = ((x.inv.servers i).leader two).election

    pub elected_then : γ.elected it.term ≡ just won
    elected_then = x.extends.elections it.term won ((x.inv.servers i).leader two).elected

    pub itself_then : won.leader ≡ i
    itself_then = ((x.inv.servers i).leader two).itself

    pub start_then : (n : ℕ) → n ≤ last_index won.log → up_to n it.log ≡ up_to n won.log
    start_then n h =
        let l = (x.inv.servers i).leader two in
        ap (up_to n) (sym l.all) ∙ start_in_log (x.inv.ghost.elections it.term won l.elected) n h

-- an entry of which the term was compared is there, and has that term
has_entry : (n : ℕ) (l : List Entry) (t : ℕ) → has_term (entry_at n l) t ≡ true → (x : Entry) × (entry_at n l ≡ x ∷ []) × (x.term ≡ t)
unfolding has_term
has_entry n l t h = go (entry_at_most_one n l)
  where
    go : AtMostOne (entry_at n l) → (x : Entry) × (entry_at n l ≡ x ∷ []) × (x.term ≡ t)
    go (inl e) = absurd (false≢true (rw e at h))
    go (inr (x, e)) = let k : eqb x.term t ≡ true = rw e at h in (x, e, grind (arith, nat_tests))

-- ANY TWO MOMENTS

-- both were elected in the one election of their term
pub election_safety : ElectionSafety
unfolding ElectionSafety
election_safety can f g w right group lived fine m n um un i j p q e =
    let hist = history can f g right group lived fine in
    let x = hist.moments m um in
    let y = hist.moments n un in
    let r : hist.inv.γ.elected (at_moment g m i).term ≡ just (won y j q) = rw e (elected_then y j q) in
    let s = elected_then x i p in
    let same : won x i p ≡ won y j q = cc in
    sym (itself_then x i p) ∙ (ap (λ (z : Election). z.leader) same ∙ itself_then y j q)

-- both logs are, up to that entry, the log of the leader of its term
pub log_matching : LogMatching
unfolding LogMatching
log_matching can f g w right group lived fine m n um un i j k t p q =
    let hist = history can f g right group lived fine in
    let x = has_entry k (at_moment g m i).log t p in
    let y = has_entry k (at_moment g n j).log t q in
    logs_match (valid_then (hist.moments m um) i) (valid_then (hist.moments n un) j) k x.0 y.0 x.1 y.1 (x.2 ∙ sym y.2)

-- both are committed in the world's ghost, and there commits agree
pub state_machine_safety : StateMachineSafety
unfolding StateMachineSafety
state_machine_safety can f g w right group lived fine m n um un i j zero p q =
    let hist = history can f g right group lived fine in
    let x = valid_then (hist.moments m um) i in
    let y = valid_then (hist.moments n un) j in
    agree_at_zero (at_moment g m i).log (at_moment g n j).log x.contiguous y.contiguous
state_machine_safety can f g w right group lived fine m n um un i j (suc k) p q =
    let hist = history can f g right group lived fine in
    let x = committed_then (hist.moments m um) i (omega arith) in
    let y = committed_then (hist.moments n un) j (omega arith) in
    commits_agree hist.inv.ghost (suc k) p q x y

-- by leader completeness the log that it was elected with has it, and its own log began with that one whenever it led
pub later_leader_completeness : LaterLeaderCompleteness
unfolding LaterLeaderCompleteness
later_leader_completeness can f g w right group lived fine m n um un i j zero p two later =
    let hist = history can f g right group lived fine in
    let x = valid_then (hist.moments m um) j in
    let y = valid_then (hist.moments n un) i in
    agree_at_zero (at_moment g n i).log (at_moment g m j).log y.contiguous x.contiguous
later_leader_completeness can f g w right group lived fine m n um un i j (suc k) p two later =
    let hist = history can f g right group lived fine in
    let γ : Ghost = hist.inv.γ in
    let y = hist.moments n un in
    let c = committed_then (hist.moments m um) j (omega arith) in
    let low = c.low in
    let far = c.far in
    let its : List Entry = γ.leader_log c.in_term in
    let start : List Entry = (won y i two).log in
    let has : up_to c.index start ≡ up_to c.index its =
    leader_complete hist.inv.ghost c.committed (at_moment g n i).term (won y i two) (elected_then y i two) (omega arith) in
    let within = entry_within c.index its c.committed.entry c.committed.there in
    let inside = agrees_within hist.inv.ghost c.index c.in_term start within has in
    start_then y i two (suc k) (omega arith)
    ∙ (agree_below (suc k) c.index start its (omega arith) has
    ∙ sym (agree_below (suc k) (at_moment g m j).commit (at_moment g m j).log its p c.same))

-- TWO MOMENTS IN ORDER: the later is the present of a world, so this much is enough
abbrev Since : ((ℕ → State) → (ℕ → State) → Type 0) → Type 0
Since P =
    (can : ℕ → Bool) (f : Program) (g : Group) (w : World) → Right can f → GoodGroup can g → Lived f g w → readable_world w
    → (m : List Happening) → Until m w.past → P (at_moment g m) (at_server g w)

in_order : (P : (ℕ → State) → (ℕ → State) → Type 0) → Since P → OfMomentsInOrder P
in_order P h can f g w right group lived fine m n un um =
    let v = earlier_world lived fine n un in
    subst (λ y. P (at_moment g m) (at_moment g y)) v.is
    (h can f g v.world right group v.lived v.fine m (um.0, v.is ∙ um.1))

abbrev Complete : (ℕ → State) → (ℕ → State) → Type 0
Complete a b = (i j n : ℕ) → n ≤ (a j).commit → (b i).kind ≡ 2 → (a j).term ≤ (b i).term → up_to n (b i).log ≡ up_to n (a j).log

-- what was committed in its term or before is in the leader's log of its term, and that is the log that it has
complete_since : Since Complete
complete_since can f g w right group lived fine m um i j zero p two le =
    let hist = history can f g right group lived fine in
    let x = valid_then (hist.moments m um) j in
    agree_at_zero (at_server g w i).log (at_moment g m j).log (hist.inv.servers i).log.contiguous x.contiguous
complete_since can f g w right group lived fine m um i j (suc n) p two le =
    let hist = history can f g right group lived fine in
    let γ : Ghost = hist.inv.γ in
    let l = (hist.inv.servers i).leader two in
    let c = committed_later (at_server g w i).term le (committed_then (hist.moments m um) j (omega arith)) in
    let far = c.far in
    let has = committed_in_log hist.inv.ghost l.election l.elected c in
    ap (up_to (suc n)) (sym l.all)
    ∙ (agree_below (suc n) c.index (γ.leader_log (at_server g w i).term) (γ.leader_log c.in_term) (omega arith) has
    ∙ sym (agree_below (suc n) (at_moment g m j).commit (at_moment g m j).log (γ.leader_log c.in_term) p c.same))

pub leader_completeness : LeaderCompleteness
unfolding LeaderCompleteness
leader_completeness = in_order Complete complete_since

abbrev Appends : (ℕ → State) → (ℕ → State) → Type 0
Appends a b =
    (i : ℕ) → (a i).kind ≡ 2 → (b i).kind ≡ 2 → (a i).term ≡ (b i).term → up_to (last_index (a i).log) (b i).log ≡ (a i).log

-- its log was, and is, the leader's log of its term, which only gets longer
appends_since : Since Appends
appends_since can f g w right group lived fine m um i p q e =
    let hist = history can f g right group lived fine in
    let x = hist.moments m um in
    let t : ℕ = (at_moment g m i).term in
    let old : List Entry = (at_moment g m i).log in
    let was = ((x.inv.servers i).leader p).all in
    let is : hist.inv.γ.leader_log t ≡ (at_server g w i).log = rw e ((hist.inv.servers i).leader q).all in
    let far : last_index old ≤ last_index (x.inv.γ.leader_log t) = rw was (omega arith) in
    ap (up_to (last_index old)) (sym is) ∙ (x.extends.leader_logs t (last_index old) far
    ∙ (ap (up_to (last_index old)) was ∙ up_to_all (last_index old) old (omega arith)))

pub leader_append_only : LeaderAppendOnly
unfolding LeaderAppendOnly
leader_append_only = in_order Appends appends_since

abbrev Stays : (ℕ → State) → (ℕ → State) → Type 0
Stays a b =
    (i : ℕ) → ((a i).term ≤ (b i).term) × ((a i).commit ≤ (b i).commit) × (up_to (a i).commit (b i).log ≡ up_to (a i).commit (a i).log)

-- the commit index has not fallen, and what is committed at two moments agrees
stays_since : Since Stays
unfolding StateMachineSafety
stays_since can f g w right group lived fine m um i =
    let up = rises_since f g lived fine m um i in (
      up.0,
      up.1,
      sym (state_machine_safety can f g w right group lived fine m w.past um ([], refl) i i (at_moment g m i).commit
          (omega arith) up.1),
    )

pub commits_stay : CommitsStay
unfolding CommitsStay
commits_stay = in_order Stays stays_since

abbrev VotesOnce : (ℕ → State) → (ℕ → State) → Type 0
VotesOnce a b = (i c : ℕ) → (a i).term ≡ (b i).term → (a i).voted ≡ c ∷ [] → (b i).voted ≡ c ∷ []

pub one_vote : OneVote
unfolding OneVote
one_vote = in_order VotesOnce (λ can f g w right group lived fine m um i c e had. (rises_since f g lived fine m um i).2 e c had)
