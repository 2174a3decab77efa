use Rattle.std.proofs.Common.{length}
use Rattle.script.specs.Text.{InText, Pushed}
use Rattle.script.proofs.Refusing.{Still}
use Rattle.script.proofs.text.push_text.Given as goal

abbrev pub invariant-loop-rest : goal.invariant-loop-rest
invariant-loop-rest l = record {
  pushed : Pushed InText l.initial.rest l.rest l.initial.out.items l.out.items;
  still : Still InText l.initial.rest l.rest;
}

abbrev pub decreases-loop-rest : goal.decreases-loop-rest
decreases-loop-rest l = length l.rest
