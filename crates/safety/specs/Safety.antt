-- Raft's five safety properties, over time: each speaks of two moments in the past of one world, and not only of what all servers are at
-- once. Each is a statement, a type whose proof is owed. Assumes nothing.
use Rattle.std.specs.Prelude.{◌≡◌, ℕ, ◌<◌, ◌≤◌, Bool, true, List, [], ◌∷◌, ◌++◌}
use Rattle.servers.specs.Server.{State, state, last_index, up_to, entry_at}
use Rattle.servers.specs.World.{Program, Group, limits, Happening, World, Lived, seen}
use Rattle.servers.specs.Promise.{Right, GoodGroup, readable_world, has_term}

-- what happened until some moment: all that happened, without the latest
abbrev pub Until : List Happening → List Happening → Type 0
Until m past = (since : List Happening) × (past ≡ since ++ m)

-- a server's state at that moment
abbrev pub at_moment : Group → List Happening → ℕ → State
at_moment g m i = state (limits g i) (seen i m)

-- of any two moments of any world of a right program, whichever is the earlier
abbrev pub OfMoments : ((ℕ → State) → (ℕ → State) → Type 0) → Type 0
OfMoments p =
    (can : ℕ → Bool) (f : Program) (g : Group) (w : World) → Right can f → GoodGroup can g → Lived f g w → readable_world w
    → (m n : List Happening) → Until m w.past → Until n w.past → p (at_moment g m) (at_moment g n)

-- of any two moments, the first of which is no later
abbrev pub OfMomentsInOrder : ((ℕ → State) → (ℕ → State) → Type 0) → Type 0
OfMomentsInOrder p =
    (can : ℕ → Bool) (f : Program) (g : Group) (w : World) → Right can f → GoodGroup can g → Lived f g w → readable_world w
    → (m n : List Happening) → Until n w.past → Until m n → p (at_moment g m) (at_moment g n)

-- ELECTION SAFETY: of one term at most one server ever leads
unfoldable pub ElectionSafety : Type 0
ElectionSafety = OfMoments (λ a b. (i j : ℕ) → (a i).kind ≡ 2 → (b j).kind ≡ 2 → (a i).term ≡ (b j).term → i ≡ j)

-- ONE VOTE IN A TERM: whom a server voted for in a term it has voted for as long as it is in that term, restarts or not
unfoldable pub OneVote : Type 0
OneVote = OfMomentsInOrder (λ a b. (i c : ℕ) → (a i).term ≡ (b i).term → (a i).voted ≡ c ∷ [] → (b i).voted ≡ c ∷ [])

-- LEADER APPEND-ONLY: while a server leads a term it only adds to its log
unfoldable pub LeaderAppendOnly : Type 0
LeaderAppendOnly =
    OfMomentsInOrder (λ a b. (i : ℕ) → (a i).kind ≡ 2 → (b i).kind ≡ 2 → (a i).term ≡ (b i).term
    → up_to (last_index (a i).log) (b i).log ≡ (a i).log)

-- LOG MATCHING: two logs, at whatever moments, that have an entry of one index and one term are the same up to there
unfoldable pub LogMatching : Type 0
LogMatching =
    OfMoments (λ a b. (i j n t : ℕ) → has_term (entry_at n (a i).log) t ≡ true → has_term (entry_at n (b j).log) t ≡ true
    → up_to n (a i).log ≡ up_to n (b j).log)

-- LEADER COMPLETENESS: what a server had committed while in some term, is in the log of whoever leads that term or a later one from then
-- on, even if the server has long moved to a later term
unfoldable pub LeaderCompleteness : Type 0
LeaderCompleteness =
    OfMomentsInOrder (λ a b. (i j n : ℕ) → n ≤ (a j).commit → (b i).kind ≡ 2 → (a j).term ≤ (b i).term
    → up_to n (b i).log ≡ up_to n (a j).log)

-- and if the leader's term is later, it had it whenever it led: before the other had even heard of the commit
unfoldable pub LaterLeaderCompleteness : Type 0
LaterLeaderCompleteness =
    OfMoments (λ a b. (i j n : ℕ) → n ≤ (a j).commit → (b i).kind ≡ 2 → (a j).term < (b i).term → up_to n (b i).log ≡ up_to n (a j).log)

-- STATE MACHINE SAFETY: what was ever committed at one server is what was ever committed at any
unfoldable pub StateMachineSafety : Type 0
StateMachineSafety =
    OfMoments (λ a b. (i j n : ℕ) → n ≤ (a i).commit → n ≤ (b j).commit → up_to n (a i).log ≡ up_to n (b j).log)

-- NOTHING IS TAKEN BACK: a server's term and commit index never fall, and what it has committed stays in its log
unfoldable pub CommitsStay : Type 0
CommitsStay =
    OfMomentsInOrder (λ a b. (i : ℕ) → ((a i).term ≤ (b i).term) × ((a i).commit ≤ (b i).commit)
    × (up_to (a i).commit (b i).log ≡ up_to (a i).commit (a i).log))
