use Rattle.std.proofs.Common.{◌≡◌, map, take}
use Rattle.texts.specs.Words.{number_be}
use Rattle.texts.proofs.pack.pack_whole.Given as goal

abbrev pub invariant-loop-k : goal.invariant-loop-k
invariant-loop-k l = take l.k l.row ≡ map (number_be 8) (take l.k l.chunks)
