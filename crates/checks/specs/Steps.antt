-- What the parts of the checks decide, by the code's limits. Assumes nothing: these are definitions.
use Rattle.std.specs.Prelude.{ℕ, ◌+◌, Bool, ◌&&◌, Option, Result, nat_le}
use Rattle.std.specs.Bool.{then_some}
use Rattle.servers.specs.Server.{good_message, in_a_row, last_of_all}
use Rattle.servers.specs.Opened.{limits_of}
use Rattle.servers.specs.declared.limits.Limits.{Limits}
use Rattle.wire_read.specs.Means.{entries_of, message_of}
use Rattle.wire_read.specs.declared.parts.Entries.{Entries}
use Rattle.wire_read.specs.declared.parts.Message.{Message}
use Rattle.wire_read.specs.declared.parts.Message.TheVariants.{Append}
use Rattle.checks.specs.Outcome.{ordered}
use Rattle.checks.specs.Refusals.{can_do, good_entries, in_row}
use Rattle.checks.specs.declared.refusal.Refusal.{Refusal}

-- the fields of entries, and whether they are in a row after an index
abbrev pub good_there : Limits → Entries → Bool
good_there l es = good_entries (limits_of can_do l) (entries_of es)

abbrev pub row_there : ℕ → Entries → Bool
row_there i es = in_a_row i (entries_of es)

-- one pass over the entries
abbrev pub passes : Limits → ℕ → Entries → Option Bool
passes l i es = then_some (good_there l es) (row_there i es)

abbrev pub entries_checked : Limits → ℕ → Entries → Result Entries Refusal
entries_checked l i es = ordered (good_there l es) (row_there i es && nat_le (i + es.count) l.room) es

-- an append: its own numbers, and its entries
abbrev pub good_front : Limits → ℕ → ℕ → ℕ → ℕ → Bool
good_front l t i u c = (nat_le t last_of_all && (nat_le i l.room && nat_le u last_of_all)) && nat_le c l.room

abbrev pub append_checked : Limits → ℕ → ℕ → ℕ → ℕ → Entries → Result Message Refusal
append_checked l t i u c es =
    ordered (good_front l t i u c && good_there l es) (row_there i es && nat_le (i + es.count) l.room) (Append t i u c es)

-- a message, as the definitions have it
abbrev pub message_checked : Limits → Message → Result Message Refusal
message_checked l m = ordered (good_message (limits_of can_do l) (message_of m)) (in_row (limits_of can_do l) (message_of m)) m
