use Rattle.std.proofs.Common.{◌∙◌}
use Rattle.std.proofs.lemmas.Iterator.{empty_from_Zip}
use Rattle.texts.proofs.Parts.{same_end}
use Rattle.texts.proofs.compare.same.Goals as goal

pub returns : goal.returns
returns c =
    let m = empty_from_Zip c.loop-x.x-iterator c.next.new.self c.next.result c.in-None.is c.next.ensures.steps c.loop-x.invariant.0 in
    same_end _ _ c.loop-x.same m.0 m.1 ∙ c.loop-x.invariant.1
