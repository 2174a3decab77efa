-- What is promised of the bytes. Each is a statement; the contracts of src/promises.rt ask for their proofs.
use Rattle.std.specs.Prelude.{◌≡◌, ℕ, ◌<◌, ◌≤◌, Bool, true, false, ◌&&◌, List, [], ◌∷◌, ◌++◌, length, take, ◌≢◌}
use Rattle.servers.specs.Store.{Perhaps, Command, get, put, remove, swap, drop_if}
use Rattle.servers.specs.Server.{Entry, Message, ask_vote, vote, append, appended, Event, timeout, request, comes, restart, garbled}
use Rattle.servers.specs.Promise.{eight, bytes, readable}
use Rattle.wire.specs.Write.{write_event}
use Rattle.wire.specs.Read.{read_event}

-- lengths that a number of eight bytes can say
abbrev pub sized_text : List ℕ → Bool
sized_text t = eight (length t)

abbrev pub sized_perhaps : Perhaps → Bool
sized_perhaps [] = true
sized_perhaps (t ∷ ts) = sized_text t

abbrev pub sized_command : Command → Bool
sized_command (get k) = sized_text k
sized_command (put k v) = sized_text k && sized_text v
sized_command (remove k) = sized_text k
sized_command (swap k e v) = sized_text k && (sized_perhaps e && sized_text v)
sized_command (drop_if k v) = sized_text k && sized_text v

unfoldable pub sized_entries : List Entry → Bool
sized_entries [] = true
sized_entries (e ∷ es) = sized_command e.command && sized_entries es

abbrev pub sized_message : Message → Bool
sized_message (ask_vote t i u) = true
sized_message (vote t ok) = true
sized_message (append t i u es c) = eight (length es) && sized_entries es
sized_message (appended t i ok) = true

abbrev pub sized : Event → Bool
sized timeout = true
sized (request c k x) = sized_command x
sized (comes h m) = sized_message m
sized restart = true
sized (garbled n) = false

-- an event that has bytes: its numbers and lengths fit theirs, and it is one
abbrev pub Writable : Event → Type 0
Writable e = (readable e ≡ true) × (sized e ≡ true)

-- bytes as a slice holds them
abbrev pub Slice : List ℕ → Type 0
Slice bs = (bytes bs ≡ true) × (length bs < 18446744073709551616)

-- reading what was written gives the event back
abbrev pub RoundTrip : Type 0
RoundTrip = (e : Event) → Writable e → read_event (write_event e) ≡ e

-- so no two events have the same bytes
abbrev pub Injective : Type 0
Injective = (e d : Event) → Writable e → Writable d → write_event e ≡ write_event d → e ≡ d

-- what is written is bytes
abbrev pub WrittenIsBytes : Type 0
WrittenIsBytes = (e : Event) → Writable e → bytes (write_event e) ≡ true

-- and bytes that are read as an event are that event's
abbrev pub WrittenBack : Type 0
WrittenBack = (bs : List ℕ) → Slice bs → ((n : ℕ) → read_event bs ≢ garbled n) → write_event (read_event bs) ≡ bs

-- what is read is readable: what is promised of readable events is promised of all slices of bytes
abbrev pub ReadIsReadable : Type 0
ReadIsReadable = (bs : List ℕ) → Slice bs → readable (read_event bs) ≡ true

-- these bytes begin the bytes of that event
abbrev pub Begins : List ℕ → Event → Type 0
Begins bs e = (more : List ℕ) × (write_event e ≡ bs ++ more)

-- the place of bytes that are no event is the length of the longest beginning of them with which the bytes of some event
-- begin: up to there some event's bytes begin so, any further none's do, and if there is no further they are no event's
pub record Placed (bs : List ℕ) (p : ℕ) : Type 0 where
  pub within : p ≤ length bs
  pub begun : (e : Event) × Writable e × Begins (take p bs) e
  pub longest : (e : Event) (n : ℕ) → Writable e → p < n → n ≤ length bs → Begins (take n bs) e → ⊥
  pub none : (e : Event) → Writable e → write_event e ≢ bs

abbrev pub PlaceIsExact : Type 0
PlaceIsExact = (bs : List ℕ) (p : ℕ) → Slice bs → read_event bs ≡ garbled p → Placed bs p
