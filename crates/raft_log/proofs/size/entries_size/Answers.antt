use Rattle.std.proofs.Common.{◌≡◌, ℕ, ◌+◌, ◌-◌, ◌<◌, List, [], length, get_or, take, drop, sym, ap, ◌∙◌, subst, arith}
use Rattle.std.proofs.lemmas.List.{length-append, get_or-take, get_or-drop}
use Rattle.servers.specs.Server.{Entry}
use Rattle.wire.specs.Write.{write_entry}
use Rattle.raft_log.specs.Rows.{row_in}
use Rattle.raft_log.specs.Places.{words_of, entry_in}
use Rattle.raft_log.specs.Bytes.{SoundRow}
use Rattle.raft_log.proofs.size.entries_size.Goals as goal
use Rattle.raft_log.proofs.Entries.{above_bytes, above_more, above_end, lent_sound, lent_entry}

-- a row of those that are left
row_left : (from k : ℕ) (rows : List (List ℕ)) → from + k < length rows
    → get_or (take (length rows - from) (drop from rows)) k [] ≡ get_or rows (from + k) []
row_left from k rows h =
    get_or-take (length rows - from) (drop from rows) k [] (omega arith) ∙ get_or-drop from rows k []

pub loop-row-init : goal.loop-row-init
loop-row-init c =
    let from = c.min-from.ensures in
    let none = ap length (above_end c.args.index (c.min-from.result + 0) (words_of c.args.log.now) (omega arith)) in
    record { exact = omega arith; most = omega arith }

pub entry_size-total-requires : goal.entry_size-total-requires
entry_size-total-requires c =
    let rows : List (List ℕ) = c.args.log.now in
    let from : ℕ = c.min-from.result in
    let k : ℕ = c.loop-row.row-index in
    let test = c.loop-row-test.true in
    let there : from + k < length rows = omega arith in
    subst (λ (x : List ℕ). SoundRow x) (sym (row_left from k rows there)) (lent_sound (from + k) rows c.told-log c.requires there)

pub loop-row-preserved : goal.loop-row-preserved
loop-row-preserved c =
    let rows : List (List ℕ) = c.args.log.now in
    let ws : List ℕ = words_of rows in
    let from : ℕ = c.min-from.result in
    let k : ℕ = c.loop-row.row-index in
    let test = c.loop-row-test.true in
    let least = c.min-from.ensures in
    let exact = c.loop-row.invariant.exact in
    let most = c.loop-row.invariant.most in
    let few = c.entry_size-total.ensures.most in
    let i : ℕ = from + (k + 1) in
    let z : i - 1 ≡ from + k = omega arith in
    let one : c.entry_size-total.result ≡ length (write_entry (entry_in i ws)) =
    c.entry_size-total.ensures.exact (i - 1 + 1)
    ∙ (ap (λ (x : List ℕ). length (write_entry (row_in (i - 1 + 1) x)))
    (row_left from k rows (omega arith) ∙ ap (λ (j : ℕ). get_or rows j []) (sym z))
    ∙ ap (λ (e : Entry). length (write_entry e)) (lent_entry i rows c.told-log (omega arith) (omega arith))) in
    let more = ap length (above_more c.args.index i ws (omega arith)) in
    let both = length-append (write_entry (entry_in i ws)) (above_bytes c.args.index (i - 1) ws) in
    let before = ap (λ (j : ℕ). length (above_bytes c.args.index j ws)) z in
    record { exact = omega arith; most = omega arith }
