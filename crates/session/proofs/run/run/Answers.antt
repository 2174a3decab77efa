use Rattle.std.proofs.Common.{ℕ, List}
use Rattle.session.proofs.Taking.{going_none, going_more, leaves}
use Rattle.session.proofs.run.run.Goals as goal

pub taking-init : goal.taking-init
taking-init c =
    let m : List ℕ = c.args.mem.now in
    let bs : List ℕ = c.args.records.now in
    let xs : List ℕ = c.args.out.now in
    going_none m bs xs c.requires.reached

pub taking-smaller : goal.taking-smaller
taking-smaller c = (leaves c.taking.rest.now c.in-Ok.event.now c.in-Ok.after.now c.in-Ok.ensures).0

pub taking-preserved : goal.taking-preserved
taking-preserved c =
    going_more c.args.mem.now c.args.records.now c.args.out.now c.taking.mem c.taking.out c.taking.rest.now c.taking.written c.in-Ok.event.now
    c.run_one-written.new.mem c.run_one-written.new.out c.in-Ok.after.now c.run_one-written.result c.taking.invariant c.in-Ok.ensures
    c.run_one-written.ensures
