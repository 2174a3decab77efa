use Rattle.std.proofs.Common.{◌≡◌, ap, ◌∙◌}
use Rattle.servers.specs.Store.{Command, Reply}
use Rattle.texts.specs.Commands.{command_in}
use Rattle.store.specs.Region.{region_do}
use Rattle.state.specs.Memory.{region_in, state_of}
use Rattle.apply.specs.Applied.{answered, reply_in, with_session, with_store_done}
use Rattle.apply.specs.InMemory.{entry_of}
use Rattle.state.proofs.Laws.{turns_then}
use Rattle.apply.proofs.Turning.{done_kept}
use Rattle.apply.proofs.one.do_new.Goals as goal

pub returns : goal.returns
returns c =
    let m = c.args.mem.now in
    let x : Command = command_in c.copy_from_slice.new.self in
    let y : Command = (entry_of m c.args.index).command in
    let q : Reply = reply_in c.do_in_store-reply.result.after c.do_in_store-reply.result.before in
    let same : x ≡ y = ap command_in c.copy_from_slice.ensures.after ∙ c.command_at.ensures.value in
    turns_then (with_session c.args.client (answered c.args.number q)) m c.do_in_store-reply.new.mem c.keep.new.mem
    (with_store_done x (state_of m)) _ (region_do x (region_in m)) _ c.do_in_store-reply.ensures.turns c.keep.ensures
    (done_kept (state_of m) x y q c.args.client c.args.number same c.do_in_store-reply.ensures.reply)
    (ap (λ (z : Command). region_do z (region_in m)) same)
