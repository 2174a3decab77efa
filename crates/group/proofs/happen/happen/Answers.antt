use Rattle.std.proofs.Common.{refl}
use Rattle.group.proofs.Playing.{denied, played}
use Rattle.group.proofs.happen.happen.Goals as goal

pub returns-in_err-room_for : goal.returns-in_err-room_for
returns-in_err-room_for c =
    denied c.args.g c.args.kept c.args.server c.args.event.now c.args.mems.now c.args.events.now c.args.answers.now _
    c.from_residual.result c.from_residual.ensures.1 (c.in_err-room_for.ensures c.args.server c.args.event.now refl)

pub returns : goal.returns
returns c =
    played c.args.g c.args.kept c.turn.result c.args.server c.put_came-end.result c.args.event.now c.args.mems.now
    c.args.events.now c.args.answers.now c.turn.new.mems c.put_came-end.new.events c.turn.new.answers c.requires.playing
    c.requires.there c.requires.can c.put_came-end.ensures.bytes c.turn.ensures
