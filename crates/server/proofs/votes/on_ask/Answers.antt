use Rattle.std.proofs.Common.{sym, refl}
use Rattle.servers.specs.Server.{Event, comes, ask_vote}
use Rattle.state.specs.Memory.{limits_of, state_of}
use Rattle.server.specs.First.{first_of}
use Rattle.server.specs.declared.first.First.{First}
use Rattle.server.specs.declared.first.First.TheVariants.{Vote}
use Rattle.server.proofs.Answering.{Taken, taken}
use Rattle.server.proofs.votes.on_ask.Goals as goal

pub returns : goal.returns
returns c =
    let m = c.args.mem.now in
    let m₁ = c.asked_for_vote-reply.new.mem in
    let b = c.asked_for_vote-reply.ensures.state in
    let v = c.asked_for_vote-reply.result in
    let x : First = Vote c.args.from v.term v.granted in
    let ev : Event = comes c.args.from (ask_vote c.args.term c.args.last c.args.of) in
    let t : Taken (limits_of m) (state_of m) ev = record { free = c.requires.taken; goes_on = refl; told = refl } in
    taken m m₁ c.finish.new.mem c.args.out.now c.finish.new.out ev (first_of (limits_of m₁) (state_of m₁) x)
    c.finish.result t b (sym c.asked_for_vote-reply.ensures.reply) c.finish.ensures
