use Rattle.std.proofs.Common.{sym, ◌∙◌}
use Rattle.std.proofs.lemmas.Slice.Zip.{Zip-more}
use Rattle.std.proofs.lemmas.Iterator.{empty_from_Zip}
use Rattle.texts.proofs.Parts.{less_here, less_not, less_end}
use Rattle.texts.proofs.compare.less.Goals as goal

pub returns-then-x-y : goal.returns-then-x-y
returns-then-x-y c =
    let m = Zip-more c.loop-x.x-iterator c.next.new.self c.next.result (c.in-Some.x, c.in-Some.y) c.in-Some.is c.next.ensures.steps in
    sym (less_here _ _ _ _ _ _ _ m.0 m.1 c.if-x-y.true) ∙ c.loop-x.invariant.1

pub returns-then-y-x : goal.returns-then-y-x
returns-then-y-x c =
    let m = Zip-more c.loop-x.x-iterator c.next.new.self c.next.result (c.in-Some.x, c.in-Some.y) c.in-Some.is c.next.ensures.steps in
    sym (less_not _ _ _ _ _ _ _ m.0 m.1 c.if-y-x.true) ∙ c.loop-x.invariant.1

pub returns : goal.returns
returns c =
    let m = empty_from_Zip c.loop-x.x-iterator c.next.new.self c.next.result c.in-None.is c.next.ensures.steps c.loop-x.invariant.0 in
    sym (less_end _ _ _ m.0) ∙ c.loop-x.invariant.1
