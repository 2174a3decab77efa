use Rattle.std.proofs.Common.{ℕ, List, sym, ◌∙◌}
use Rattle.state.specs.Memory.{state_of}
use Rattle.state.proofs.Laws.{said}
use Rattle.replication.proofs.Hearing.{heard_by_case}
use Rattle.replication.specs.declared.appended.Heard.TheVariants.{OtherTerm, Has, Lacks}
use Rattle.replication.proofs.appended.appended_comes.Goals as goal

pub returns-in-OtherTerm : goal.returns-in-OtherTerm
returns-in-OtherTerm c =
    let m = c.args.mem.now in
    said m c.advance.new.self _ _
    (heard_by_case (state_of m) c.args.h c.args.term c.args.index c.term-own.result c.args.ok OtherTerm
    c.term-own.ensures.value (sym c.hear.ensures ∙ c.in-OtherTerm.is)) c.advance.ensures

pub returns-in-Has : goal.returns-in-Has
returns-in-Has c =
    let m = c.args.mem.now in
    said m c.has.new.mem _ _
    (heard_by_case (state_of m) c.args.h c.args.term c.args.index c.term-own.result c.args.ok (Has c.in-Has.up_to)
    c.term-own.ensures.value (sym c.hear.ensures ∙ c.in-Has.is)) c.has.ensures

pub returns-in-Lacks : goal.returns-in-Lacks
returns-in-Lacks c =
    let m = c.args.mem.now in
    said m c.lacks.new.mem _ _
    (heard_by_case (state_of m) c.args.h c.args.term c.args.index c.term-own.result c.args.ok Lacks
    c.term-own.ensures.value (sym c.hear.ensures ∙ c.in-Lacks.is)) c.lacks.ensures
