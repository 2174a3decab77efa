use Rattle.std.proofs.Common.{◌≡◌, ◌*◌, take}
use Rattle.texts.specs.Words.{unpacked}
use Rattle.texts.proofs.unpack.unpack_whole.Given as goal

abbrev pub invariant-loop-k : goal.invariant-loop-k
invariant-loop-k l = take (8 * l.k) l.out ≡ unpacked (take l.k l.row)
