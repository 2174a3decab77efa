use Rattle.std.proofs.Common.{not, [], refl, ap}
use Rattle.servers.specs.Server.{Event, request}
use Rattle.wire_read.specs.Means.{command_of}
use Rattle.state.specs.Memory.{limits_of, state_of}
use Rattle.entries.proofs.Given.{request_given}
use Rattle.server.proofs.Answering.{Taken, taken}
use Rattle.server.proofs.Events.{request_step}
use Rattle.server.proofs.writes.take_request.Goals as goal

pub request-requires-clause-good : goal.request-requires-clause-good
request-requires-clause-good c =
    let m = c.args.mem.now in
    (request_given (limits_of m) (state_of m) c.args.client c.args.id (command_of c.args.command) c.requires.taken
    c.requires.readable c.requires.leads).2

pub returns : goal.returns
returns c =
    let m = c.args.mem.now in
    let m₁ = c.request.new.mem in
    let x = command_of c.args.command in
    let ev : Event = request c.args.client c.args.id x in
    let b = request_step m m₁ c.args.client c.args.id x c.requires.leads c.request.ensures in
    let t : Taken (limits_of m) (state_of m) ev = record { free = c.requires.taken; goes_on = refl; told = ap not c.requires.leads } in
    taken m m₁ c.finish.new.mem c.args.out.now c.finish.new.out ev [] c.finish.result t b refl c.finish.ensures
