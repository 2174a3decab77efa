-- The rows of the log as they are lent.
use Rattle.std.proofs.Common.{◌≡◌, ℕ, ◌+◌, ◌*◌, ◌/◌, ◌<◌, ◌≤◌, List, length, get_or, take, drop, sym, ap, ◌∙◌, arith}
use Rattle.std.proofs.lemmas.List.{length-drop, length-take-le}
use Rattle.std.specs.Simd.{first_chunks}
use Rattle.raft_log.specs.Rows.{log_in}
use Rattle.raft_log.specs.Places.{words_of, log_of, row_at}
use Rattle.raft_log.proofs.Lent.{log_same, rows_cut, row_of_part}
use Rattle.raft_log.proofs.Places.{log_in_row}
use Rattle.memory.specs.Layout.{log_at, log_part, room_in}
use Rattle.state.specs.Held.{Held, state_of}
use Rattle.state.proofs.Laws.{long, long_log}

-- they end within the memory
pub log_ends : (m : List ℕ) → Held m → log_at m + 80 * get_or m 10 0 ≤ length m
log_ends m h = let z = long m h in let few = long_log m h in omega arith

module _ (m part : List ℕ) (rows : List (List ℕ)) (h : Held m) (is : part ≡ take (80 * get_or m 10 0) (drop (log_at m) m))
    (cut : rows ≡ first_chunks 80 (length part / 80) part) (count : length rows ≡ length part / 80) where
  part_long : length part ≡ 80 * get_or m 10 0
  part_long =
      let ends = log_ends m h in
      let d = length-drop (log_at m) m in
      ap length is ∙ length-take-le (80 * get_or m 10 0) (drop (log_at m) m) (omega arith)

  rows_long : length rows ≡ get_or m 10 0
  rows_long = let l = part_long in omega arith

  words : words_of rows ≡ take (80 * get_or m 10 0) (drop (log_at m) m)
  words = let l = part_long in ap words_of cut ∙ (rows_cut (length part / 80) (get_or m 10 0) part (omega arith) l ∙ is)

  pub lent_row : (i : ℕ) → 0 < i → i ≤ length rows → row_at i (words_of rows) ≡ row_at i (log_part m)
  lent_row i some most =
      let few = long_log m h in
      let l = rows_long in
      ap (row_at i) words ∙ row_of_part i (get_or m 10 0) (room_in m) (log_at m) m some (omega arith) few

  pub lent_long : length rows ≡ length (state_of m).log
  lent_long = rows_long ∙ sym (log_in_row (get_or m 10 0) (log_part m)).1

  pub lent_log : log_of rows ≡ (state_of m).log
  lent_log =
      log_same (length rows) (words_of rows) (log_part m) lent_row ∙ ap (λ (n : ℕ). log_in n (log_part m)) rows_long
