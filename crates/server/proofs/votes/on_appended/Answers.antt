use Rattle.std.proofs.Common.{[], refl}
use Rattle.servers.specs.Server.{Event, comes, appended}
use Rattle.state.specs.Memory.{limits_of, state_of}
use Rattle.server.proofs.Answering.{Taken, taken}
use Rattle.server.proofs.votes.on_appended.Goals as goal

pub returns : goal.returns
returns c =
    let m = c.args.mem.now in
    let m₁ = c.appended_comes.new.mem in
    let ev : Event = comes c.args.from (appended c.args.term c.args.index c.args.ok) in
    let t : Taken (limits_of m) (state_of m) ev = record { free = c.requires.taken; goes_on = refl; told = refl } in
    taken m m₁ c.finish.new.mem c.args.out.now c.finish.new.out ev [] c.finish.result t c.appended_comes.ensures refl
    c.finish.ensures
