use Rattle.std.proofs.Common.{sym, refl}
use Rattle.servers.specs.Server.{Event, comes, append}
use Rattle.wire_read.specs.Means.{entries_of}
use Rattle.state.specs.Memory.{limits_of, state_of}
use Rattle.entries.proofs.Given.{append_given}
use Rattle.server.specs.First.{first_of}
use Rattle.server.specs.declared.first.First.{First}
use Rattle.server.specs.declared.first.First.TheVariants.{Reply}
use Rattle.server.proofs.Answering.{Taken, taken}
use Rattle.server.proofs.writes.on_append.Goals as goal

pub append-reply-requires-clause-can : goal.append-reply-requires-clause-can
append-reply-requires-clause-can c =
    (append_given c.args.mem.now c.args.from c.args.term c.args.before c.args.before_term c.args.commit c.args.entries
    c.requires.taken c.requires.readable).3

pub returns : goal.returns
returns c =
    let m = c.args.mem.now in
    let m₁ = c.append-reply.new.mem in
    let v = c.append-reply.result in
    let x : First = Reply c.args.from v.term v.index v.ok in
    let es = entries_of c.args.entries in
    let ev : Event = comes c.args.from (append c.args.term c.args.before c.args.before_term es c.args.commit) in
    let t : Taken (limits_of m) (state_of m) ev = record { free = c.requires.taken; goes_on = refl; told = refl } in
    taken m m₁ c.finish.new.mem c.args.out.now c.finish.new.out ev (first_of (limits_of m₁) (state_of m₁) x)
    c.finish.result t c.append-reply.ensures.state (sym c.append-reply.ensures.reply) c.finish.ensures
