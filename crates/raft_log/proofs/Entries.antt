-- Entries as bytes from their rows: an entry by its numbers and its command, and entries one after the other.
use Rattle.std.proofs.Common.{◌≡◌, ℕ, ◌+◌, ◌-◌, ◌<◌, ◌≤◌, List, [], ◌∷◌, ◌++◌, length, get_or, take, drop, sym, ap, ◌∙◌, subst, arith}
use Rattle.std.proofs.lemmas.List.{append_assoc, take_all, length-drop}
use Rattle.servers.specs.Server.{above}
use Rattle.wire.specs.Write.{write_number, write_command, write_entry, write_entries}
use Rattle.wire_write.specs.Put.{Room}
use Rattle.wire_write.specs.declared.writer.Writer.{Writer}
use Rattle.raft_log.specs.Rows.{row_in, log_in, command_in}
use Rattle.raft_log.specs.Places.{words_of, entry_in}
use Rattle.raft_log.specs.declared.row.Numbers.{Numbers}
use Rattle.raft_log.specs.Numbers.{numbers_in}
use Rattle.raft_log.specs.Bytes.{Sound, SoundRow, write_numbers}
use Rattle.raft_log.proofs.Places.{above_in, above_in_none}
use Rattle.raft_log.proofs.Lent.{Wide, row_lent}

-- the numbers of the row, and the bytes of its command
abbrev pub numbers_bytes : ℕ → List ℕ → List ℕ
numbers_bytes i ws = write_numbers (get_or ws 1 0) (get_or ws 2 0) (get_or ws 3 0) i (get_or ws 0 0)

regroup : (h : ℕ) (a b c d e : List ℕ) → (h ∷ (a ++ (b ++ (c ++ d)))) ++ e ≡ h ∷ (a ++ (b ++ (c ++ (d ++ e))))
regroup h a b c d e = simp append_assoc

pub entry_bytes : (i : ℕ) (ws : List ℕ) → numbers_bytes i ws ++ write_command (command_in (drop 4 ws)) ≡ write_entry (row_in i ws)
unfolding row_in
entry_bytes i ws =
    regroup (get_or ws 1 0) (write_number (get_or ws 2 0)) (write_number (get_or ws 3 0)) (write_number i) (write_number (get_or ws 0 0))
    (write_command (command_in (drop 4 ws)))

-- a row's command is what is left of it
pub command_rest : (ws : List ℕ) → length ws ≡ 80 → take 76 (drop 4 ws) ≡ drop 4 ws
command_rest ws h = by (drop 4 ws) (length-drop 4 ws)
  where
    by : (xs : List ℕ) → length xs ≡ length ws - 4 → take 76 xs ≡ xs
    by xs l = take_all 76 xs (omega arith)

-- the bytes of the entries above an index: the last entry's, and the others'
abbrev pub above_bytes : ℕ → ℕ → List ℕ → List ℕ
above_bytes i n ws = write_entries (above i (log_in n ws))

pub above_more : (i n : ℕ) (ws : List ℕ) → i < n → write_entry (entry_in n ws) ++ above_bytes i (n - 1) ws ≡ above_bytes i n ws
unfolding write_entries
above_more i n ws h = sym (ap write_entries (above_in i n ws h))

pub above_end : (i n : ℕ) (ws : List ℕ) → n ≤ i → above_bytes i n ws ≡ []
unfolding write_entries
above_end i n ws h = ap write_entries (above_in_none i n ws h)

-- the numbers as the code holds them
pub numbers_same : (i : ℕ) (ws : List ℕ) (r : Numbers) → r ≡ numbers_in ws
    → write_numbers r.server r.client r.number i r.term ≡ numbers_bytes i ws
numbers_same i ws r e = ap (λ (x : Numbers). write_numbers x.server x.client x.number i x.term) e

pub room_both : (i : ℕ) (ws : List ℕ) (v : Writer) → Room (length (write_entry (row_in i ws))) v
    → Room (length (numbers_bytes i ws ++ write_command (command_in (drop 4 ws)))) v
room_both i ws v h = let e = ap length (entry_bytes i ws) in omega arith

-- the row that is lent stands at its index, and can be written
pub lent_sound : (i : ℕ) (rows : List (List ℕ)) → Wide rows → Sound (length rows) (words_of rows) → i < length rows
    → SoundRow (get_or rows i [])
lent_sound i rows w s h =
    let z : i + 1 - 1 ≡ i = omega arith in
    subst (λ (x : List ℕ). SoundRow x)
    (row_lent (i + 1) rows w (omega arith) (omega arith) ∙ ap (λ (j : ℕ). get_or rows j []) z)
    (s (i + 1) (omega arith) (omega arith))

-- and its entry is the one at that index
pub lent_entry : (i : ℕ) (rows : List (List ℕ)) → Wide rows → 0 < i → i ≤ length rows
    → row_in (i - 1 + 1) (get_or rows (i - 1) []) ≡ entry_in i (words_of rows)
lent_entry i rows w some most =
    let z : i - 1 + 1 ≡ i = omega arith in
    ap (λ (j : ℕ). row_in j (get_or rows (i - 1) [])) z ∙ ap (row_in i) (sym (row_lent i rows w some most))
