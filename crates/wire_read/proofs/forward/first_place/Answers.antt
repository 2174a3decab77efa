use Rattle.std.proofs.Common.{◌∙◌, arith}
use Rattle.wire_read.proofs.Heads.{first_headed}
use Rattle.wire_read.proofs.forward.first_place.Goals as goal

pub number_at-index-requires : goal.number_at-index-requires
number_at-index-requires c =
    let h = (first_headed c.args.es.count c.args.es.bytes.now c.requires c.args.es.there).long in
    omega arith

pub number_at-term-requires : goal.number_at-term-requires
number_at-term-requires c =
    let h = (first_headed c.args.es.count c.args.es.bytes.now c.requires c.args.es.there).long in
    omega arith

pub returns : goal.returns
returns c =
    let h = first_headed c.args.es.count c.args.es.bytes.now c.requires c.args.es.there in
    record { index = c.number_at-index.ensures ∙ h.index_there; term = c.number_at-term.ensures ∙ h.term_there }
