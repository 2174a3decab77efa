-- The words at the front of a memory: what layout it has, and its limits. Assumes nothing: these are definitions.
use Rattle.std.specs.Prelude.{ℕ, List, [], ◌∷◌}
use Rattle.servers.specs.declared.limits.Limits.{Limits}
use Rattle.memory.specs.Layout.{mark}

abbrev pub head_words : Limits → List ℕ
head_words l = mark ∷ (l.servers ∷ (l.me ∷ (l.clients ∷ (l.room ∷ []))))
