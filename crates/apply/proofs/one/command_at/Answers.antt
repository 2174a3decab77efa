use Rattle.std.proofs.Common.{ℕ, List, drop, ap, ◌∙◌, arith}
use Rattle.store.proofs.CommandParts.{command_long}
use Rattle.apply.proofs.Doing.{command_held}
use Rattle.apply.proofs.one.command_at.Goals as goal

pub returns : goal.returns
returns c =
    let i : ℕ = c.args.index in
    let ws : List ℕ = c.command_at.result.now in
    let there = c.requires.there in
    let long = c.log.ensures.long in
    let e = c.command_at.ensures ∙ ap (drop 4) (c.log.ensures.rows i c.requires.some (omega arith)) in
    let x = command_held c.args.mem.now.words.now ws i c.args.mem.now.held c.requires.some c.requires.there e in
    record { command = x.0; long = command_long ws x.0; value = x.1 }
