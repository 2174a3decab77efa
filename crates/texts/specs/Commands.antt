-- Commands as words of 64 bits: a number, a name, a text or none, and a text. Assumes nothing: these are definitions.
use Rattle.std.specs.Prelude.{ℕ, List, [], ◌∷◌, ◌++◌, take, drop, ◌==◌, slice_index}
use Rattle.servers.specs.Store.{pick, Perhaps, Command, get, put, remove, swap, drop_if}
use Rattle.texts.specs.Words.{Text, PerhapsText, text_words, text_in, perhaps_words, perhaps_in}

-- the parts of a command: its number; the name; the text that is expected there, or none; the text
abbrev pub tag : Command → ℕ
tag (get k) = 0
tag (put k v) = 1
tag (remove k) = 2
tag (swap k e v) = 3
tag (drop_if k v) = 4

abbrev pub name_of : Command → List ℕ
name_of (get k) = k
name_of (put k v) = k
name_of (remove k) = k
name_of (swap k e v) = k
name_of (drop_if k v) = k

abbrev pub expects : Command → Perhaps
expects (get k) = []
expects (put k v) = []
expects (remove k) = []
expects (swap k e v) = e
expects (drop_if k v) = []

abbrev pub text_of : Command → List ℕ
text_of (get k) = []
text_of (put k v) = v
text_of (remove k) = []
text_of (swap k e v) = v
text_of (drop_if k v) = v

abbrev pub command_by : ℕ → List ℕ → Perhaps → List ℕ → Command
command_by n k e v =
    pick (n == 0) (get k) (pick (n == 1) (put k v) (pick (n == 2) (remove k) (pick (n == 3) (swap k e v) (drop_if k v))))

-- a command in 76 words: 1 for its number, 9 for the name, 33 for what is expected, 33 for the text
abbrev pub command_words : Command → List ℕ
command_words x = tag x ∷ (text_words 8 (name_of x) ++ (perhaps_words 32 (expects x) ++ text_words 32 (text_of x)))

abbrev pub command_in : List ℕ → Command
command_in ws =
    command_by (slice_index ws 0) (text_in (take 9 (drop 1 ws))) (perhaps_in (take 33 (drop 10 ws))) (text_in (take 33 (drop 43 ws)))

-- what the words can hold
abbrev pub GoodCommand : Command → Type 0
GoodCommand x = Text 64 (name_of x) × PerhapsText 256 (expects x) × Text 256 (text_of x)
