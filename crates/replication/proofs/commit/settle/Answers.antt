use Rattle.std.proofs.Common.{◌≡◌, ℕ, List, sym, ap, ◌∙◌, arith}
use Rattle.servers.specs.Server.{settled_to}
use Rattle.state.specs.Held as held
use Rattle.state.specs.Memory.{limits_of, room_in, state_of}
use Rattle.state.specs.View as view
use Rattle.state.specs.declared.view.View.{View}
use Rattle.state.specs.declared.words.Memory.{Memory}
use Rattle.memory.proofs.Logs.{settled_low}
use Rattle.state.proofs.Laws.{stays, said}
use Rattle.replication.proofs.Settling.{settles_leading, settles_following}
use Rattle.replication.proofs.commit.settle.Goals as goal

-- how far it settles is said of the words that are lent
far_is : (v : View) (m : Memory) (far : ℕ) → v.words.now ≡ m.words.now
    → far ≡ settled_to (view.limits_of v) (view.state_of v) (view.state_of v).log → far ≡ settled_to (limits_of m) (state_of m) (state_of m).log
far_is v m far e k =
    k ∙ ap (λ (z : List ℕ). settled_to (held.limits_of z) (held.state_of z) (held.state_of z).log) e

pub set_commit-requires : goal.set_commit-requires
set_commit-requires c =
    let m = c.args.mem.now in
    let f = c.args.mem.now.held.fits.1 in
    let is = far_is c.view.result m c.settled_to-far.result c.view.ensures c.settled_to-far.ensures in
    let low = settled_low (limits_of c.args.mem.now) (state_of c.args.mem.now) (room_in c.args.mem.now)
    (state_of c.args.mem.now).log f.row f.room f.commit in
    record { low = omega arith }

pub returns-then-leads : goal.returns-then-leads
returns-then-leads c =
    let m = c.args.mem.now in
    said m c.set_commit.new.self _ _
    (settles_leading (limits_of m) (state_of m) c.settled_to-far.result
    (far_is c.view.result m c.settled_to-far.result c.view.ensures c.settled_to-far.ensures)
    (sym c.is_leader-leads.ensures ∙ c.if-leads.true)) c.set_commit.ensures

pub returns-else-leads : goal.returns-else-leads
returns-else-leads c =
    let m = c.args.mem.now in
    said m m _ _
    (settles_following (limits_of m) (state_of m) (sym c.is_leader-leads.ensures ∙ c.if-leads.false))
    (stays m)
