-- What is promised of a log in words. Each is a statement; the contract of src/promises.rt asks for the proofs.
use Rattle.std.specs.Prelude.{◌≡◌, ℕ, ◌+◌, ◌<◌, ◌≤◌, ◌⊎◌, List, [], ◌∷◌, ◌++◌, length}
use Rattle.servers.specs.Server.{Entry, entry_at, above, up_to, due}
use Rattle.texts.specs.Words.{All, word}
use Rattle.raft_log.specs.Rows.{log_words, log_in, Row, GoodEntry}
use Rattle.raft_log.specs.Places.{entry_in}

-- a log that was written as words is read back, whatever stands after it, and its words fit
abbrev pub ReadBack : Type 0
ReadBack =
    (servers clients last : ℕ) (es : List Entry) (more : List ℕ) → Row es → All (GoodEntry servers clients last) es
    → log_in (length es) (log_words es ++ more) ≡ es

abbrev pub WordsFit : Type 0
WordsFit =
    (servers clients last : ℕ) (es : List Entry) → servers ≤ word → clients ≤ word → last < word → All (GoodEntry servers clients last) es
    → All (λ w. w < word) (log_words es)

-- an entry stands at its index, and none elsewhere
abbrev pub AtItsIndex : Type 0
AtItsIndex = (i n : ℕ) (ws : List ℕ) → 0 < i → i ≤ n → entry_at i (log_in n ws) ≡ entry_in i ws ∷ []

abbrev pub NoneElsewhere : Type 0
NoneElsewhere = (i n : ℕ) (ws : List ℕ) → (i ≡ 0) ⊎ (n < i) → entry_at i (log_in n ws) ≡ []

-- up to an index stand the first rows, above it the others, and what is due stands in the order of the rows
abbrev pub FirstRows : Type 0
FirstRows = (i n : ℕ) (ws : List ℕ) → i ≤ n → up_to i (log_in n ws) ≡ log_in i ws

abbrev pub AboveAndUpTo : Type 0
AboveAndUpTo = (i : ℕ) (es : List Entry) → above i es ++ up_to i es ≡ es

abbrev pub DueInOrder : Type 0
DueInOrder =
    (lo hi n : ℕ) (ws : List ℕ) → lo < hi → lo < n → due lo hi (log_in n ws) ≡ entry_in (lo + 1) ws ∷ due (lo + 1) hi (log_in n ws)
