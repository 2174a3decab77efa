use Rattle.std.proofs.Common.{◌≡◌, ℕ, ap}
use Rattle.servers.specs.Server.{with_applied, at_least}
use Rattle.state.specs.Memory.{state_of}
use Rattle.state.proofs.Laws.{said, at_least_is}
use Rattle.apply.proofs.all.finish.Goals as goal

pub returns : goal.returns
returns c =
    let m = c.args.mem.now in
    let s = state_of m in
    let n : c.max-done.result ≡ at_least s.applied s.commit = let k = at_least_is s.applied s.commit in cc in
    said m c.set_applied.new.self _ _ (ap (λ (k : ℕ). with_applied k s) n) c.set_applied.ensures
