-- Quorums: more than half of the servers. All that the proof uses of them is that any two meet (`quorums_meet`), and that a server
-- which counts votes or matches by the definitions has one (`quorum_of_votes`, `quorum_of_matches`).
use Rattle.std.proofs.Common.{◌≡◌, ℕ, zero, suc, ◌+◌, ◌/◌, ◌<◌, ◌≤◌, Bool, true, false, leb, List, [], ◌∷◌, length, refl, ap, ◌∙◌, arith}
use Rattle.servers.specs.Server.{nth, count, have_it}
use Rattle.std.proofs.lemmas.Bool.Decides.{nat_tests}

-- c of n servers are a quorum
abbrev pub Most : ℕ → ℕ → Type 0
Most n c = n / 2 < c

-- P holds of each server of some quorum of n
pub record Quorum (n : ℕ) (P : ℕ → Type 0) : Type 0 where
  pub members : List Bool  -- for each server, whether it is among them
  pub size : length members ≡ n
  pub most : Most n (count members)
  pub each : (v : ℕ) → nth false members v ≡ true → P v

-- what holds of each member may be weakened
pub quorum_map : {n : ℕ} (P Q : ℕ → Type 0) → ((v : ℕ) → P v → Q v) → Quorum n P → Quorum n Q
quorum_map P Q f q = record { members = q.members; size = q.size; most = q.most; each = λ v h. f v (q.each v h) }

-- two tables of one length with more marks than places have a place marked in both
abbrev Common : List Bool → List Bool → Type 0
Common xs ys = (v : ℕ) × (nth false xs v ≡ true) × (nth false ys v ≡ true)

later : (a b : Bool) (xs ys : List Bool) → Common xs ys → Common (a ∷ xs) (b ∷ ys)
unfolding nth
later a b xs ys m = (suc m.0, m.1, m.2)

marks_meet : (xs ys : List Bool) → length xs ≡ length ys → length xs < count xs + count ys → Common xs ys
unfolding nth count
marks_meet [] [] h k = absurd (omega arith)
marks_meet [] (b ∷ ys) h k = absurd (omega arith)
marks_meet (a ∷ xs) [] h k = absurd (omega arith)
marks_meet (true ∷ xs) (true ∷ ys) h k = (0, refl, refl)
marks_meet (true ∷ xs) (false ∷ ys) h k = later true false xs ys (marks_meet xs ys (omega arith) (omega arith))
marks_meet (false ∷ xs) (true ∷ ys) h k = later false true xs ys (marks_meet xs ys (omega arith) (omega arith))
marks_meet (false ∷ xs) (false ∷ ys) h k = later false false xs ys (marks_meet xs ys (omega arith) (omega arith))

-- any two quorums have a server in common
pub quorums_meet : {n : ℕ} (P Q : ℕ → Type 0) → Quorum n P → Quorum n Q → (v : ℕ) × P v × Q v
quorums_meet P Q a b =
    let size_a = a.size in
    let size_b = b.size in
    let most_a = a.most in
    let most_b = b.most in
    let m = marks_meet a.members b.members (omega arith) (omega arith) in
    (m.0, a.each m.0 m.1, b.each m.0 m.2)

-- votes: the marks are the members
pub quorum_of_votes : {n : ℕ} (P : ℕ → Type 0) (votes : List Bool) → length votes ≡ n → Most n (count votes)
    → ((v : ℕ) → nth false votes v ≡ true → P v) → Quorum n P
quorum_of_votes P votes size most each = record { members = votes; size = size; most = most; each = each }

-- matches: the members are those that reach the index
reached : ℕ → List ℕ → List Bool
reached i [] = []
reached i (m ∷ ms) = leb i m ∷ reached i ms

reached_size : (i : ℕ) (ms : List ℕ) → length (reached i ms) ≡ length ms
unfolding reached
reached_size i [] = refl
reached_size i (m ∷ ms) = ap suc (reached_size i ms)

reached_count : (i : ℕ) (ms : List ℕ) → count (reached i ms) ≡ have_it i ms
unfolding reached count have_it
reached_count i [] = refl
reached_count i (m ∷ ms) = let ih = reached_count i ms in grind (arith, nat_tests)

reached_at : (i : ℕ) (ms : List ℕ) (v : ℕ) → nth false (reached i ms) v ≡ true → i ≤ nth 0 ms v
unfolding reached nth
reached_at i [] v h = let z : ◌≡◌ {A = ℕ} 0 1 = cc in omega arith
reached_at i (m ∷ ms) zero h = grind (arith, nat_tests)
reached_at i (m ∷ ms) (suc v) h = reached_at i ms v h

pub quorum_of_matches : {n : ℕ} (P : ℕ → Type 0) (i : ℕ) (matches : List ℕ) → length matches ≡ n → Most n (have_it i matches)
    → ((v : ℕ) → i ≤ nth 0 matches v → P v) → Quorum n P
quorum_of_matches P i matches size most each =
    record {
      members = reached i matches;
      size = reached_size i matches ∙ size;
      most = rw reached_count most;
      each = λ v h. each v (reached_at i matches v h);
    }
