-- What a writer promises: bytes stand at a place, and nothing else was changed. Assumes nothing: these are definitions.
use Rattle.std.specs.Prelude.{◌≡◌, ℕ, ◌+◌, ◌≤◌, List, ◌++◌, length, take, drop}
use Rattle.wire_write.specs.declared.writer.Writer.{Writer}

-- xs with these bytes at a place
abbrev pub put_at : ℕ → List ℕ → List ℕ → List ℕ
put_at at bs xs = take at xs ++ (bs ++ drop (at + length bs) xs)

-- from xs ys was made by writing these bytes at a place; r is the place after them
pub record Writes (at : ℕ) (bs xs ys : List ℕ) (r : ℕ) : Type 0 where
  pub bytes : ys ≡ put_at at bs xs
  pub next : r ≡ at + length bs
  pub room : r ≤ length xs

-- so many bytes more can be written
abbrev pub Room : ℕ → Writer → Type 0
Room n w = w.at + n ≤ length w.out.now

-- A WRITER'S PROMISE: these bytes stand where it was, it is behind them, and it is still the same lent bytes that it writes to.
pub record Wrote (bs : List ℕ) (v w : Writer) : Type 0 where
  pub same : w.out.ghost_name ≡ v.out.ghost_name
  pub writes : Writes v.at bs v.out.now w.out.now w.at
