-- The ghost: the history that the proof remembers and no server has. It says who voted for whom in which term and with what log, who
-- was elected, and what each leader's log was at its longest. It only ever grows (`Extends`). Definitions, no proof.
use Rattle.std.proofs.Common.{◌≡◌, ℕ, ◌<◌, ◌≤◌, true, ◌⊎◌, List, [], ◌∷◌, refl}
use Rattle.servers.specs.Server.{Entry, last_index, last_term, up_to, entry_at, appended}
use Rattle.servers.specs.World.{Sent, In}
use Rattle.safety.proofs.Quorums.{Quorum}

pub data Maybe (A : Type 0) : Type 0 where
  nothing : Maybe A
  just : A → Maybe A

pub is_nothing : {A : Type 0} (m : Maybe A) → ((x : A) → m ≡ just x → ⊥) → m ≡ nothing
is_nothing nothing h = refl
is_nothing (just x) h = absurd (h x refl)

-- a vote: for whom, and the voter's log when it voted
pub record Ballot : Type 0 where
  pub candidate : ℕ
  pub log : List Entry

-- an election that was won: by whom, and its log when it won
pub record Election : Type 0 where
  pub leader : ℕ
  pub log : List Entry

pub record Ghost : Type 0 where
  pub ballot : ℕ → ℕ → Maybe Ballot  -- by voter and term: a server votes at most once in a term
  pub elected : ℕ → Maybe Election  -- by term: at most one is elected
  pub leader_log : ℕ → List Entry  -- by term: the log of its leader, at its longest while it led

-- v voted for c in term t
abbrev pub VotedFor : Ghost → ℕ → ℕ → ℕ → Type 0
VotedFor γ t c v = (b : Ballot) × (γ.ballot v t ≡ just b) × (b.candidate ≡ c)

-- ACKNOWLEDGED AND COMMITTED

-- v has acknowledged the leader's log of term t up to n: it said so in a reply, or it is that leader and has it
pub data Ack (γ : Ghost) (sent : List Sent) (v t n : ℕ) : Type 0 where
  replied : (d : ℕ) → In (record { by = v; letter = record { to = d; message = appended t n true } }) sent → Ack γ sent v t n
  led : (r : Election) → γ.elected t ≡ just r → r.leader ≡ v → n ≤ last_index (γ.leader_log t) → Ack γ sent v t n

-- up to n at least
pub record Acked (γ : Ghost) (sent : List Sent) (v t n : ℕ) : Type 0 where
  pub upto : ℕ
  pub far : n ≤ upto
  pub ack : Ack γ sent v t upto

-- index n is committed in term t: entry n of the leader's log is of that very term, and a quorum acknowledged it
pub record Committed (k : ℕ) (γ : Ghost) (sent : List Sent) (n t : ℕ) : Type 0 where
  pub entry : Entry
  pub there : entry_at n (γ.leader_log t) ≡ entry ∷ []
  pub of_term : entry.term ≡ t
  pub quorum : Quorum k (λ v. Acked γ sent v t n)

-- the first c entries of log l are committed, in term t or before
pub record CommittedPrefix (k : ℕ) (γ : Ghost) (sent : List Sent) (c t : ℕ) (l : List Entry) : Type 0 where
  pub index : ℕ
  pub in_term : ℕ
  pub committed : Committed k γ sent index in_term
  pub far : c ≤ index
  pub low : in_term ≤ t
  pub same : up_to c l ≡ up_to c (γ.leader_log in_term)
  pub inside : c ≤ last_index l

-- whoever was elected in term u began with what the leader's log of term t has up to n
abbrev pub Inherits : Ghost → ℕ → ℕ → ℕ → Type 0
Inherits γ n t u = (r : Election) → γ.elected u ≡ just r → up_to n r.log ≡ up_to n (γ.leader_log t)

-- log a is at least as up to date as log b: a later last term, or the same and no shorter
abbrev pub UpToDate : List Entry → List Entry → Type 0
UpToDate a b = (last_term b < last_term a) ⊎ ((last_term b ≡ last_term a) × (last_index b ≤ last_index a))

-- HISTORY GROWS

-- nothing that happened is ever undone: votes, elections and letters stay, and leaders' logs only get longer
pub record Extends (γ : Ghost) (sent : List Sent) (δ : Ghost) (more : List Sent) : Type 0 where
  pub ballots : (v t : ℕ) (b : Ballot) → γ.ballot v t ≡ just b → δ.ballot v t ≡ just b
  pub elections : (t : ℕ) (r : Election) → γ.elected t ≡ just r → δ.elected t ≡ just r
  pub leader_logs : (t n : ℕ) → n ≤ last_index (γ.leader_log t) → up_to n (δ.leader_log t) ≡ up_to n (γ.leader_log t)
  pub longer : (t : ℕ) → last_index (γ.leader_log t) ≤ last_index (δ.leader_log t)
  pub letters : (x : Sent) → In x sent → In x more

-- one step of server i, in its term b: history grows, and what is new is that server's own
pub record OwnStep (i b : ℕ) (γ : Ghost) (sent : List Sent) (δ : Ghost) (more : List Sent) : Type 0 where
  pub extends : Extends γ sent δ more
  pub ballots_new : (v t : ℕ) (x : Ballot) → δ.ballot v t ≡ just x → (γ.ballot v t ≡ just x) ⊎ (v ≡ i)
  pub elections_new : (t : ℕ) (r : Election) → δ.elected t ≡ just r
      → ((γ.elected t ≡ just r) × (δ.leader_log t ≡ γ.leader_log t)) ⊎ (r.leader ≡ i)
  pub letters_new : (x : Sent) → In x more → (In x sent) ⊎ (x.by ≡ i)
  pub acks_new : (t n : ℕ) → Acked δ more i t n → (Acked γ sent i t n) ⊎ (b ≤ t)  -- it acknowledges no earlier term
