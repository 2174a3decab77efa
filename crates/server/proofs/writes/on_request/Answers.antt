use Rattle.std.proofs.Common.{sym, refl, ◌∙◌}
use Rattle.servers.specs.Server.{Event, request}
use Rattle.wire_read.specs.Means.{command_of}
use Rattle.checks.specs.declared.refusal.Refusal.TheVariants.{LogFull}
use Rattle.state.specs.Memory.{limits_of, state_of}
use Rattle.server.proofs.Answering.{turned_away}
use Rattle.server.proofs.Events.{request_full, request_free, request_declined}
use Rattle.server.proofs.writes.on_request.Goals as goal

pub returns-then-full : goal.returns-then-full
returns-then-full c =
    let m = c.args.mem.now in
    let x = command_of c.args.command in
    let ev : Event = request c.args.client c.args.id x in
    let e = c.requires.passed ∙ request_full (limits_of m) (state_of m) c.args.client c.args.id x
    (sym c.is_full-full.ensures ∙ c.if-full.true) in
    turned_away m c.args.out.now c.refuse.new.out ev LogFull c.refuse.result e refl
    c.refuse.ensures.answer c.refuse.ensures.bytes

pub returns-then-not-leads : goal.returns-then-not-leads
returns-then-not-leads c =
    let m = c.args.mem.now in
    let x = command_of c.args.command in
    let e = c.requires.passed ∙ request_free (limits_of m) (state_of m) c.args.client c.args.id x
    (sym c.is_full-full.ensures ∙ c.if-full.false) in
    request_declined m c.args.out.now c.decline.new.mem c.decline.new.out c.args.client c.args.id x
    c.decline.result e (sym c.is_leader-leads.ensures ∙ c.if-not-leads.true)
    c.decline.ensures.state c.decline.ensures.answer c.decline.ensures.bytes
