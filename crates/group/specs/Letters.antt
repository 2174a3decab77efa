-- The index of letters: four words for each letter that was sent, in the order of sending: who sent it, to whom, where its message's
-- bytes stand in the journal of answers, and how many. Assumes nothing: these are definitions and statements.
use Rattle.std.specs.Prelude.{◌≡◌, ℕ, ◌+◌, ◌*◌, ◌<◌, ◌≤◌, true, ◌&&◌, List, [], ◌∷◌, ◌++◌, length, take, drop, nat_lt, slice_index, slice_index_or}
use Rattle.servers.specs.World.{Sent, World}
use Rattle.wire.specs.Write.{write_message}
use Rattle.wire.specs.Read.{read_event}
use Rattle.wire.specs.Answers.{fine_letter}
use Rattle.group.specs.Parts.{CanHappen}

-- a letter's four words at the front, with its bytes among the first `used` of the answers
pub record Points (used : ℕ) (answers ws : List ℕ) (s : Sent) : Type 0 where
  pub by : slice_index_or ws 0 0 ≡ s.by
  pub to : slice_index_or ws 1 0 ≡ s.letter.to
  pub within : slice_index_or ws 2 0 + slice_index ws 3 ≤ used
  pub bytes : take (slice_index ws 3) (drop (slice_index ws 2) answers) ≡ write_message s.letter.message
  pub fine : (nat_lt s.by 256 && fine_letter s.letter) ≡ true

unfoldable pub Indexed : ℕ → List ℕ → List ℕ → List Sent → Type 0
Indexed used answers ws [] = Unit {0}
Indexed used answers ws (s ∷ ss) = Points used answers ws s × Indexed used answers (drop 4 ws) ss

-- the bytes of a letter's coming: 2, the sender, and the message's bytes as they stand
abbrev pub message_coming : ℕ → ℕ → ℕ → List ℕ → List ℕ
message_coming by start len answers = 2 ∷ (by ∷ take len (drop start answers))

-- from the letter's words
abbrev pub coming : List ℕ → List ℕ → List ℕ
coming answers ws = message_coming (slice_index ws 0) (slice_index ws 2) (slice_index ws 3) answers

-- more answers after the first leave the index as it is
abbrev pub IndexStays : Type 0
IndexStays =
    (used used' : ℕ) (answers answers' ws : List ℕ) (ss : List Sent) → used ≤ used' → take used answers' ≡ take used answers
    → Indexed used answers ws ss → Indexed used' answers' ws ss

-- and letters after the first are more of it
abbrev pub IndexGrows : Type 0
IndexGrows =
    (used : ℕ) (answers ws ws' : List ℕ) (ss ts : List Sent) → take (4 * length ss) ws' ≡ take (4 * length ss) ws
    → Indexed used answers ws ss → Indexed used answers (drop (4 * length ss) ws') ts → Indexed used answers ws' (ss ++ ts)

-- a letter of the index comes: the bytes are read as a message that was sent to that server, by that sender
abbrev pub LetterComes : Type 0
LetterComes =
    (used k : ℕ) (answers ws : List ℕ) (w : World) → k < length w.sent → Indexed used answers ws w.sent
    → CanHappen w (slice_index ws (4 * k + 1)) (read_event (coming answers (drop (4 * k) ws)))
