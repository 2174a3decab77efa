use Rattle.std.proofs.Common.{length, refl}
use Rattle.servers.specs.Server.{timeout}
use Rattle.state.specs.Memory.{limits_of, state_of}
use Rattle.server.specs.First.{first_of}
use Rattle.server.proofs.Answering.{Taken, taken, room_taken}
use Rattle.server.proofs.Events.{timeout_letters}
use Rattle.server.proofs.votes.go_on.Goals as goal

pub finish-requires : goal.finish-requires
finish-requires c =
    let m = c.args.mem.now in
    let m₁ = c.time_is_up-leads.new.mem in
    let b = c.time_is_up-leads.ensures.state in
    let x = c.asks_unless-first.result in
    let e = timeout_letters m m₁ c.time_is_up-leads.result x b c.time_is_up-leads.ensures.leads c.asks_unless-first.ensures in
    let t : Taken (limits_of m) (state_of m) timeout = record { free = c.requires.taken; goes_on = refl; told = refl } in
    record { room = room_taken m m₁ timeout (first_of (limits_of m₁) (state_of m₁) x) (length c.args.out.now) t b e c.requires.room }

pub returns : goal.returns
returns c =
    let m = c.args.mem.now in
    let m₁ = c.time_is_up-leads.new.mem in
    let b = c.time_is_up-leads.ensures.state in
    let x = c.asks_unless-first.result in
    let e = timeout_letters m m₁ c.time_is_up-leads.result x b c.time_is_up-leads.ensures.leads c.asks_unless-first.ensures in
    let t : Taken (limits_of m) (state_of m) timeout = record { free = c.requires.taken; goes_on = refl; told = refl } in
    taken m m₁ c.finish.new.mem c.args.out.now c.finish.new.out timeout (first_of (limits_of m₁) (state_of m₁) x)
    c.finish.result t b e c.finish.ensures
