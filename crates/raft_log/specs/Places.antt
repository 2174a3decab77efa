-- Where a row of a log stands, and what is read there. Assumes nothing: these are definitions.
use Rattle.std.specs.Prelude.{ℕ, ◌-◌, ◌*◌, List, length, take, drop}
use Rattle.std.specs.List.{flat_map}
use Rattle.servers.specs.Server.{Entry}
use Rattle.raft_log.specs.Rows.{row_in, log_in}

-- entries, the last first
abbrev pub Log : Type 0
Log = List Entry

-- the one function from an index, from 1, to the first word of its row
abbrev pub row_place : ℕ → ℕ
row_place i = 80 * (i - 1)

-- the words of the row of an index
abbrev pub row_at : ℕ → List ℕ → List ℕ
row_at i ws = take 80 (drop (row_place i) ws)

-- the entry that stands at an index
abbrev pub entry_in : ℕ → List ℕ → Entry
entry_in i ws = row_in i (row_at i ws)

-- rows that are lent one by one, the oldest first: their words one row after the other, and the log that these are
abbrev pub words_of : List (List ℕ) → List ℕ
words_of rows = flat_map (λ row. row) rows

abbrev pub log_of : List (List ℕ) → Log
log_of rows = log_in (length rows) (words_of rows)
