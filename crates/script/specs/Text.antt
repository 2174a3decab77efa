-- How bytes are spelled in a line. Assumes nothing: these are definitions.
use Rattle.std.specs.Prelude.{◌≡◌, ℕ, ◌/◌, ◌%◌, ◌<◌, ◌≤◌, true, ◌≢◌, ◌⊎◌, List, [], ◌∷◌, ◌++◌}
use Rattle.std.specs.Char.{digit_char}
use Rattle.servers.specs.Promise.{bytes}
use Rattle.script.specs.declared.fault.Fault.{Fault}
use Rattle.script.specs.declared.fault.Fault.TheVariants.{Expected, NoMemory}

-- two small hex digits
abbrev pub hex_of : ℕ → List ℕ
hex_of b = digit_char (b / 16) ∷ (digit_char (b % 16) ∷ [])

abbrev pub InHex : ℕ → List ℕ → Type 0
InHex b x = x ≡ hex_of b

-- in a text: `\` and two digits, or the byte itself
abbrev pub InText : ℕ → List ℕ → Type 0
InText b x = (x ≡ 92 ∷ hex_of b) ⊎ ((33 ≤ b) × (b ≤ 126) × (b ≢ 92) × (x ≡ b ∷ []))

-- the spellings of these bytes, one after the other
unfoldable pub Spells : (ℕ → List ℕ → Type 0) → List ℕ → List ℕ → Type 0
Spells one [] w = w ≡ []
Spells one (b ∷ bs) w = (x : List ℕ) × (rest : List ℕ) × one b x × (w ≡ x ++ rest) × Spells one bs rest

-- what a word spells up to `rest` was put at the end of xs
pub record Pushed (one : ℕ → List ℕ → Type 0) (word rest xs ys : List ℕ) : Type 0 where
  pub bytes : List ℕ
  pub front : List ℕ
  pub spelled : Spells one bytes front
  pub whole : word ≡ front ++ rest
  pub pushed : ys ≡ xs ++ bytes

-- a text's word: `\.` is the empty text
abbrev pub PushedText : List ℕ → List ℕ → List ℕ → Type 0
PushedText w xs ys = ((w ≡ 92 ∷ (46 ∷ [])) × (ys ≡ xs)) ⊎ Pushed InText w [] xs ys

-- no bytes are spelled so
abbrev pub Unspelled : (ℕ → List ℕ → Type 0) → List ℕ → Type 0
Unspelled one w = (bs : List ℕ) → bytes bs ≡ true → Spells one bs w → ⊥

-- a word is refused for what it spells, or there was no memory
abbrev pub Refuses : (ℕ → List ℕ → Type 0) → List ℕ → Fault → Type 0
Refuses one w (Expected what) = Unspelled one w
Refuses one w NoMemory = Unit {0}

-- a word's first spelling ends there, if it begins with one; or it begins with none
abbrev pub OnlyFirst : (ℕ → List ℕ → Type 0) → List ℕ → List ℕ → Type 0
OnlyFirst one w rest = (b : ℕ) (x r : List ℕ) → b < 256 → one b x → w ≡ x ++ r → r ≡ rest

abbrev pub NoFirst : (ℕ → List ℕ → Type 0) → List ℕ → Type 0
NoFirst one w = (b : ℕ) (x r : List ℕ) → b < 256 → one b x → w ≡ x ++ r → ⊥
