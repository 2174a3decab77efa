-- Rows written downward, one for each entry of a message.
use Rattle.std.proofs.Common.{◌≡◌, ℕ, suc, ◌+◌, ◌-◌, ◌*◌, ◌≤◌, ◌⊎◌, inl, inr, List, [], ◌∷◌, ◌++◌, length, take, drop, sym, refl, ap, ◌∙◌, arith}
use Rattle.std.specs.declared.ops.Range.{Range}
use borrow.Rule.Slice.PartMut.{put_mid}
use Rattle.std.proofs.lemmas.List.{append_assoc, append-nil, drop-drop, drop_at, drop_all, length-take-le, nil_from_length}
use Rattle.servers.specs.Server.{Entry}
use Rattle.wire_read.specs.Means.{entries_of}
use Rattle.wire_read.specs.declared.parts.Entries.{Entries}
use Rattle.wire_read.proofs.Passing.{entries_length}
use Rattle.raft_log.specs.Rows.{row_words, log_words}

-- the rows of the entries that are left, and those that are written, are the whole; the places that are left are as many
abbrev pub Left : Range ℕ → Entries → Entries → List ℕ → Type 0
Left r rest all rows =
    (r.start ≡ 0) × (r.end ≡ length (entries_of rest)) × (r.end ≤ all.count)
    × (log_words (entries_of rest) ++ drop (80 * r.end) rows ≡ log_words (entries_of all))

pub left_all : (r : Range ℕ) (rest all : Entries) (rows : List ℕ) → r ≡ record { start = 0; end = all.count } → rest ≡ all
    → length rows ≡ 80 * all.count → Left r rest all rows
left_all r rest all rows e f l =
    let long = entries_length all.count all.bytes.now all.there in
    rw (e, f) (
      refl,
      sym long,
      omega arith,
      rw (drop_all (80 * all.count) rows (omega arith)) (append-nil (log_words (entries_of all))),
    )

pub left_next : (r s : Range ℕ) (rest next all : Entries) (e : Entry) (i k : ℕ) (rows row : List ℕ)
    → length rows ≡ 80 * all.count → s.start ≡ r.start → i ≡ s.end → r.end ≡ s.end + 1 → entries_of rest ≡ e ∷ entries_of next
    → k ≡ 80 → row ≡ row_words e → Left r rest all rows → Left s next all (put_mid (80 * i) k rows row)
unfolding log_words
left_next r s rest next all e i k rows row l a at b c w is h =
    let more = h.2 in
    let long : r.end ≡ suc (length (entries_of next)) = h.1 ∙ ap length c in
    let z : 80 * i + 80 ≡ 80 * r.end = omega arith in
    let d : drop (80 * i) (put_mid (80 * i) k rows row) ≡ row_words e ++ drop (80 * r.end) rows =
    rw (
      is,
      w,
      drop_at (take (80 * i) rows) (row_words e ++ drop 80 (drop (80 * i) rows)) (80 * i)
          (length-take-le (80 * i) rows (omega arith)),
      drop-drop 80 (80 * i) rows,
      z,
    ) refl in (
      a ∙ h.0,
      omega arith,
      omega arith,
      rw (← at, d) (sym (append_assoc (log_words (entries_of next)) (row_words e) (drop (80 * r.end) rows))
          ∙ (ap (λ (es : List Entry). log_words es ++ drop (80 * r.end) rows) (sym c) ∙ h.3)),
    )

pub left_none : (r : Range ℕ) (rest all : Entries) (rows : List ℕ) → (r.end - r.start ≡ 0) ⊎ (entries_of rest ≡ [])
    → Left r rest all rows → rows ≡ log_words (entries_of all)
unfolding log_words
left_none r rest all rows e h =
    let none : entries_of rest ≡ [] =
    elim e [
      | inl k ↦ nil_from_length (entries_of rest) (let a = h.0 in let b = h.1 in omega arith)
      | inr k ↦ k
    ] in
    let z : r.end ≡ 0 = h.1 ∙ ap length none in
    sym (rw (z, none) refl) ∙ h.3
