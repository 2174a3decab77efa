-- What stands before the parts that others write: an append before its entries, a letter before its message, an answer before
-- what it tells, an event before a message. Assumes nothing: these are definitions.
use Rattle.std.specs.Prelude.{ℕ, List, [], ◌∷◌, ◌++◌}
use Rattle.wire.specs.Write.{write_number}

-- term, the index and term before, how far it is committed, how many entries
abbrev pub append_head : ℕ → ℕ → ℕ → ℕ → ℕ → List ℕ
append_head t i u c n = 2 ∷ (write_number t ++ (write_number i ++ (write_number u ++ (write_number c ++ write_number n))))

-- to which server, and how many bytes its message has
abbrev pub letter_head : ℕ → ℕ → List ℕ
letter_head to n = to ∷ write_number n

-- how many are told
abbrev pub does_head : ℕ → List ℕ
does_head n = 2 ∷ write_number n

-- from which server
abbrev pub comes_head : ℕ → List ℕ
comes_head h = 2 ∷ (h ∷ [])
