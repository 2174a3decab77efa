use Rattle.std.proofs.Common.{◌∙◌, arith}
use Rattle.std.proofs.lemmas.List.{append-nil, drop_all, take_all}
use Rattle.texts.proofs.copy.copy_text.Goals as goal

pub returns : goal.returns
returns c =
    let f = rw c.unwrap.ensures at c.first_chunk.ensures.cases in
    let d = drop_all 33 c.args.to.now (omega arith) in
    rw (d, append-nil c.unwrap.result.now) (f.same ∙ take_all 33 c.args.from.now (omega arith))
