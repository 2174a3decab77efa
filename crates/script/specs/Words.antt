-- The words of a line. Assumes nothing: these are definitions.
use Rattle.std.specs.Prelude.{◌≡◌, ℕ, ◌<◌, Bool, not, ◌||◌, List, ◌++◌, length, drop, ◌==◌}
use Rattle.std.specs.List.{take_while}

-- a space, a tab, or the return before a line's end
abbrev pub is_space : ℕ → Bool
is_space b = b == 32 || b == 9 || b == 13

abbrev pub in_word : ℕ → Bool
in_word b = not (is_space b)

-- what stands after the spaces in front
abbrev pub without_spaces : List ℕ → List ℕ
without_spaces xs = drop (length (take_while is_space xs)) xs

-- a line's first word, which reaches to the next space or to the end, and what stands after it
pub record FirstWord (line word rest : List ℕ) : Type 0 where
  pub some : 0 < length word
  pub is : word ≡ take_while in_word (without_spaces line)
  pub whole : word ++ rest ≡ without_spaces line
