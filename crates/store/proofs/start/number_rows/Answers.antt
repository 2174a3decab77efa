use Rattle.std.proofs.Common.{refl, arith}
use Rattle.std.proofs.lemmas.List.{take_more_set}
use Rattle.store.specs.Region.{numbers}
use Rattle.store.proofs.RowNumbers.{numbers_more}
use Rattle.store.proofs.start.number_rows.Goals as goal

pub loop-i-init : goal.loop-i-init
unfolding numbers
loop-i-init c = refl

pub loop-i-preserved : goal.loop-i-preserved
loop-i-preserved c =
    let a = take_more_set c.loop-i.index c.loop-i.i c.loop-i.i (omega arith) in
    let b = numbers_more 0 c.loop-i.i c.loop-i.i (omega arith) in
    cc
