-- What the functions of the store ask of their words, and what they leave. Assumes nothing: these are definitions.
use Rattle.std.specs.Prelude.{◌≡◌, ℕ, ◌*◌, true, false, List, [], ◌∷◌, Some, None, Option, Ok, Err, Result, slice_index_or}
use Rattle.servers.specs.Store.{Perhaps, Command, Store, reply}
use Rattle.texts.specs.Words.{Text, PerhapsText, text_words, text_in, perhaps_words, perhaps_in}
use Rattle.std.specs.Borrow.{Bor}
use Rattle.texts.specs.Commands.{command_words, command_in, GoodCommand}
use Rattle.store.specs.Region.{blank, capacity, items_of, place, found, region_do, RegionOk}

-- a region, with the room that it says
abbrev pub Held : List ℕ → Type 0
Held r = RegionOk (capacity r) r

-- words of a text, and of a text or none: a length and n words
pub record OfText (n : ℕ) (ws : List ℕ) : Type 0 where
  pub is : ws ≡ text_words n (text_in ws)
  pub fits : Text (8 * n) (text_in ws)

pub record OfPerhaps (n : ℕ) (ws : List ℕ) : Type 0 where
  pub is : ws ≡ perhaps_words n (perhaps_in ws)
  pub fits : PerhapsText (8 * n) (perhaps_in ws)

-- where a name is, or where it goes
abbrev pub SpotOf : List ℕ → List ℕ → Result ℕ ℕ → Type 0
SpotOf k r (Ok p) = (p ≡ place k (items_of r)) × (found k (items_of r) ≡ true)
SpotOf k r (Err p) = (p ≡ place k (items_of r)) × (found k (items_of r) ≡ false)

-- the text that is there
abbrev pub text_there : Result ℕ ℕ → Store → Perhaps
text_there (Ok p) s = (slice_index_or s p blank).value ∷ []
text_there (Err p) s = []

-- after a command: the region, which is one again with the same room, and the reply's two parts
pub record Does (x : Command) (r r' a b : List ℕ) : Type 0 where
  pub region : r' ≡ region_do x r
  pub held : Held r'
  pub room : capacity r' ≡ capacity r
  pub after : a ≡ perhaps_words 32 (reply x (items_of r)).now
  pub before : b ≡ perhaps_words 32 (reply x (items_of r)).old

-- words of a command that a row can hold
pub record OfCommand (ws : List ℕ) : Type 0 where
  pub is : ws ≡ command_words (command_in ws)
  pub good : GoodCommand (command_in ws)

-- a text in words or none
abbrev pub text_of_words : Option (Bor (List ℕ)) → Perhaps
text_of_words None = []
text_of_words (Some ws) = text_in ws.now ∷ []
