use Rattle.std.proofs.Common.{◌≡◌, ◌%◌, length}
use Rattle.script.specs.Text.{InHex, Pushed}
use Rattle.script.proofs.Refusing.{Still}
use Rattle.script.proofs.text.push_hex.Given as goal

-- what was read is pushed, and the rest is in pairs
abbrev pub invariant-loop-rest : goal.invariant-loop-rest
invariant-loop-rest l = record {
  pushed : Pushed InHex l.digits l.rest l.initial.out.items l.out.items;
  still : Still InHex l.digits l.rest;
  pairs : length l.rest % 2 ≡ 0;
}

abbrev pub decreases-loop-rest : goal.decreases-loop-rest
decreases-loop-rest l = length l.rest
