-- Steps of the two events that write the log, which the definitions take at once, and what entries have that a log can take.
-- Assumes nothing: these are definitions.
use Rattle.std.specs.Prelude.{◌≡◌, ℕ, suc, ◌+◌, ◌≤◌, Bool, true, not, ◌&&◌, ◌||◌, List, ◌∷◌, ◌++◌, ◌==◌, nat_lt}
use Rattle.servers.specs.Store.{pick, Command}
use Rattle.servers.specs.Server.{Entry, Letter, appended, State, last_index, last_term, in_a_row, entry_at, up_to, term_is, at_least, at_most, with_log, after_append}
use Rattle.raft_log.specs.Numbers.{entry_by}
use Rattle.raft_log.specs.declared.row.Numbers.{Numbers}
use Rattle.wire_read.specs.Means.{entries_of}
use Rattle.wire_read.specs.declared.parts.Entries.{Entries}
use Rattle.texts.specs.Words.{All}
use Rattle.state.specs.Memory.{limits_of, room_in}
use Rattle.state.specs.declared.words.Memory.{Memory}
use Rattle.memory.specs.Fits.{EntryFits}
use Rattle.entries.specs.declared.append.Last.{Last}
use Rattle.entries.specs.declared.append.Reply.{Reply}

-- one entry more, by its numbers and its command
abbrev pub next_entry : State → Numbers → Command → Entry
next_entry s n x = entry_by n (suc (last_index s.log)) x

abbrev pub pushed : State → Numbers → Command → State
pushed s n x = with_log (next_entry s n x ∷ s.log) s.commit s

-- entries that the log of a memory can take after an index: in a row, within the room, each of them good
pub record CanTake (m : Memory) (i : ℕ) (es : Entries) : Type 0 where
  pub room : i + es.count ≤ room_in m
  pub row : in_a_row i (entries_of es) ≡ true
  pub good : All (EntryFits (limits_of m)) (entries_of es)

-- the last of them, as the code holds it
abbrev pub last_in : List Entry → Last
last_in es = record { index = last_index es; term = last_term es }

-- other entries after an index
abbrev pub joined : State → ℕ → List Entry → List Entry
joined s i es = es ++ up_to i s.log

abbrev pub replaced : State → ℕ → List Entry → State
replaced s i es = with_log (joined s i es) s.commit s

-- how far the log is committed then: up to what the leader says or the log's end, or as far as it was
abbrev pub commits_to : ℕ → ℕ → ℕ → ℕ
commits_to own c end = at_least own (at_most c end)

abbrev pub extended : State → ℕ → List Entry → ℕ → State
extended s i es c = with_log (joined s i es) (commits_to s.commit c (last_index (joined s i es))) s

abbrev pub extended_if : Bool → State → ℕ → List Entry → ℕ → State
extended_if b s i es c = pick b (extended s i es c) s

-- whether what stands before entries is there; and whether they are taken
abbrev pub has_before : State → ℕ → ℕ → Bool
has_before s i u = i == 0 || term_is (entry_at i s.log) u

abbrev pub accepts : State → ℕ → ℕ → ℕ → Bool
accepts s t i u = not (nat_lt t s.term) && has_before s i u

-- the state after entries that are taken
abbrev pub accepted : State → ℕ → ℕ → ℕ → List Entry → ℕ → State
accepted s h t i es c = after_append s h t es c (joined s i es)

-- the letter that carries the reply
abbrev pub carried : ℕ → Reply → Letter
carried h r = record { to = h; message = appended r.term r.index r.ok }
