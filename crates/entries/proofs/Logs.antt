-- The log's part of a memory: lent, and put back with one entry more, or with other entries after an index.
use Rattle.std.proofs.Common.{◌≡◌, ℕ, suc, ◌+◌, ◌*◌, ◌<◌, ◌≤◌, true, List, [], ◌∷◌, length, take, drop, set, ap, ◌∙◌, arith}
use borrow.Rule.Slice.PartMut.{put_mid}
use Rattle.std.proofs.lemmas.List.{length-append, nil_from_length}
use Rattle.servers.specs.Store.{Command}
use Rattle.servers.specs.Server.{Entry, State, last_index, up_to, in_a_row}
use Rattle.texts.specs.Words.{All}
use Rattle.wire_read.specs.Means.{entries_of}
use Rattle.wire_read.specs.declared.parts.Entries.{Entries}
use Rattle.wire_read.proofs.Passing.{entries_length}
use Rattle.raft_log.specs.Rows.{log_region}
use Rattle.raft_log.specs.declared.row.Numbers.{Numbers}
use Rattle.raft_log.proofs.Places.{last_index_row, row_up_to, length_up_to}
use Rattle.raft_log.proofs.Regions.{row_append}
use Rattle.memory.specs.Layout.{room_in, log_at}
use Rattle.memory.specs.Fits.{EntryFits}
use Rattle.memory.proofs.Each.{all_append, all_up_to}
use Rattle.state.specs.Held.{limits_of, state_of, Held, Becomes}
use Rattle.state.proofs.PutBack.{log_held, log_written}
use Rattle.entries.specs.Steps.{next_entry, pushed, joined, replaced}

-- as many entries as they say
pub count_is : (es : Entries) → length (entries_of es) ≡ es.count
count_is es = entries_length es.count es.bytes.now es.there

pub none_there : (es : Entries) → es.count ≡ 0 → entries_of es ≡ []
none_there es e = nil_from_length (entries_of es) (count_is es ∙ e)

-- the rows as they are lent
pub lent : (m : List ℕ) (at size : ℕ) → Held m → at ≡ log_at m → size ≡ 80 * room_in m
    → take size (drop at m) ≡ log_region (room_in m) (state_of m).log
lent m at size h p q =
    ap (λ (k : ℕ). take k (drop at m)) q ∙ (ap (λ (k : ℕ). take (80 * room_in m) (drop k m)) p ∙ log_held m h)

-- the last index is the length
pub last_long : (m : List ℕ) → Held m → last_index (state_of m).log ≡ length (state_of m).log
last_long m h = last_index_row (state_of m).log h.fits.1.row

pub push_written : (m ys : List ℕ) (n : Numbers) (x : Command) (k at size : ℕ) → Held m → at ≡ log_at m → size ≡ 80 * room_in m
    → k ≡ last_index (state_of m).log + 1 → last_index (state_of m).log < room_in m
    → EntryFits (limits_of m) (next_entry (state_of m) n x)
    → ys ≡ log_region (room_in m) (next_entry (state_of m) n x ∷ (state_of m).log)
    → Becomes m (set (put_mid at size m ys) 10 k) (pushed (state_of m) n x)
push_written m ys n x k at size h p q e low good y =
    let s : State = state_of m in
    let last = last_long m h in
    log_written m ys (next_entry s n x ∷ s.log) k at size h p q y (omega arith) (ap suc last, h.fits.1.row)
    (good, h.fits.1.entries) (omega arith)

pub replace_written : (m ys : List ℕ) (i : ℕ) (es : List Entry) (k at size : ℕ) → Held m → at ≡ log_at m → size ≡ 80 * room_in m
    → k ≡ i + length es → i ≤ last_index (state_of m).log → k ≤ room_in m → in_a_row i es ≡ true
    → All (EntryFits (limits_of m)) es → ys ≡ log_region (room_in m) (joined (state_of m) i es)
    → Becomes m (set (put_mid at size m ys) 10 k) (replaced (state_of m) i es)
replace_written m ys i es k at size h p q e low room row good y =
    let log : List Entry = (state_of m).log in
    let g = h.fits.1 in
    let last = last_long m h in
    let front = length_up_to i log g.row in
    let whole = length-append es (up_to i log) in
    log_written m ys (joined (state_of m) i es) k at size h p q y (omega arith)
    (row_append i es (up_to i log) row (omega arith) (row_up_to i log g.row))
    (all_append (EntryFits (limits_of m)) es (up_to i log) good (all_up_to (EntryFits (limits_of m)) i log g.entries))
    (omega arith)
