-- What is promised of the bytes of answers and of the letters in them. The contracts of src/promises.rt ask for the proofs.
use Rattle.std.specs.Prelude.{◌≡◌, ℕ, ◌+◌, Bool, true, ◌&&◌, List, [], ◌∷◌, ◌++◌, length, take, drop, nat_le, nat_lt}
use Rattle.servers.specs.Store.{Perhaps}
use Rattle.servers.specs.Server.{comes, Said, Letter, Answer, refused, not_leader, does}
use Rattle.servers.specs.Promise.{eight, bytes, bytes_perhaps, fine_message}
use Rattle.wire.specs.Codec.{sized_perhaps, sized_message, Writable}
use Rattle.wire.specs.Write.{write_message, write_event, write_letter, write_answer}
use Rattle.wire.specs.Read.{got, number_of, read_event, read_answer}

-- answers whose numbers and lengths fit their bytes
abbrev pub fine_perhaps : Perhaps → Bool
fine_perhaps e = bytes_perhaps e && (nat_le (length e) 1 && sized_perhaps e)

abbrev pub fine_said : Said → Bool
fine_said s = (eight s.client && eight s.id) && (fine_perhaps s.reply.now && fine_perhaps s.reply.old)

unfoldable pub fine_saids : List Said → Bool
fine_saids [] = true
fine_saids (s ∷ ss) = fine_said s && fine_saids ss

abbrev pub fine_letter : Letter → Bool
fine_letter x =
    (nat_lt x.to 256 && eight (length (write_message x.message))) && (fine_message x.message && sized_message x.message)

unfoldable pub fine_letters : List Letter → Bool
fine_letters [] = true
fine_letters (x ∷ xs) = fine_letter x && fine_letters xs

abbrev pub fine_answer : Answer → Bool
fine_answer (refused j k) = nat_lt j 256 && eight k
fine_answer not_leader = true
fine_answer (does ss ls) = (eight (length ss) && fine_saids ss) && (eight (length ls) && fine_letters ls)

-- reading what was written gives the answer back, whatever stands after it
abbrev pub AnswerRoundTrip : Type 0
AnswerRoundTrip = (a : Answer) (rest : List ℕ) → fine_answer a ≡ true → read_answer (write_answer a ++ rest) ≡ got a rest

-- so no two answers have the same bytes
abbrev pub AnswersApart : Type 0
AnswersApart = (a b : Answer) → fine_answer a ≡ true → fine_answer b ≡ true → write_answer a ≡ write_answer b → a ≡ b

-- and what is written is bytes
abbrev pub AnswerIsBytes : Type 0
AnswerIsBytes = (a : Answer) → fine_answer a ≡ true → bytes (write_answer a) ≡ true

-- a letter at the front of bytes, cut out by its length alone: the bytes of its message, and what stands after it
abbrev pub message_length : List ℕ → ℕ
message_length bs = number_of (take 8 (drop 1 bs))

abbrev pub message_bytes : List ℕ → List ℕ
message_bytes bs = take (message_length bs) (drop 9 bs)

abbrev pub after_letter : List ℕ → List ℕ
after_letter bs = drop (9 + message_length bs) bs

-- a message's bytes in a letter are its bytes in an event: with 2 and the sender before them they are read as that message's
-- coming, and the next letter begins where they end
pub record HandedOn (h : ℕ) (x : Letter) (rest : List ℕ) : Type 0 where
  pub cut : message_bytes (write_letter x ++ rest) ≡ write_message x.message
  pub left : after_letter (write_letter x ++ rest) ≡ rest
  pub bytes : 2 ∷ (h ∷ message_bytes (write_letter x ++ rest)) ≡ write_event (comes h x.message)
  pub event : Writable (comes h x.message) → read_event (2 ∷ (h ∷ message_bytes (write_letter x ++ rest))) ≡ comes h x.message

abbrev pub LettersHandOn : Type 0
LettersHandOn = (h : ℕ) (x : Letter) (rest : List ℕ) → eight (length (write_message x.message)) ≡ true → HandedOn h x rest
