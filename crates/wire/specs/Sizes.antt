-- How many bytes at most: of an event that is not refused by 1, 2 or 3, and of an answer, for given limits. A command has at
-- most 602 bytes, an entry 635, what is told to a client 546, a letter without its entries 50.
use Rattle.std.specs.Prelude.{◌≡◌, ℕ, ◌+◌, ◌-◌, ◌*◌, ◌<◌, ◌≤◌, Bool, true, ◌⊎◌, List, ◌∷◌, length}
use Rattle.servers.specs.Server.{Event, Limits, State, turned, answer, state}
use Rattle.servers.specs.Promise.{GoodLimits, all_readable}
use Rattle.wire.specs.Write.{write_event, write_answer}
use Rattle.wire.specs.Answers.{fine_answer}

abbrev pub event_size : Limits → ℕ
event_size l = 43 + 635 * l.room

abbrev pub letter_size : Limits → ℕ
letter_size l = 50 + 635 * l.room

abbrev pub answer_size : Limits → ℕ
answer_size l = 17 + 546 * l.room + (l.servers - 1) * letter_size l

-- longer bytes are no event, or one that is out of range or beyond the room
abbrev pub EventFits : Type 0
EventFits =
    (l : Limits) (s : State) (e : Event) → 1 ≤ l.room → (turned l s e ≡ 0) ⊎ (3 < turned l s e) → length (write_event e) ≤ event_size l

-- after any readable events whatever, an answer has room where there is answer-size of it
abbrev pub AnswerFits : Type 0
AnswerFits =
    (can : ℕ → Bool) (l : Limits) (es : List Event) (e : Event) → GoodLimits can l → all_readable (e ∷ es) ≡ true →
    length (write_answer (answer l (state l es) e)) ≤ answer_size l

-- and its numbers and lengths fit their bytes, so that it can be read back
abbrev pub AnswerIsFine : Type 0
AnswerIsFine =
    (can : ℕ → Bool) (l : Limits) (es : List Event) (e : Event) → GoodLimits can l → all_readable (e ∷ es) ≡ true →
    fine_answer (answer l (state l es) e) ≡ true
