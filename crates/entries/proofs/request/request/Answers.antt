use Rattle.std.proofs.Common.{◌≡◌, ℕ, suc, ◌+◌, true, List, refl, ap, arith}
use Rattle.servers.specs.Store.{Command}
use Rattle.servers.specs.Server.{Limits, State, last_index, set_at, with_send, with_request}
use Rattle.servers.specs.declared.limits.Limits as code
use Rattle.raft_log.specs.declared.row.Numbers.{Numbers}
use Rattle.wire_read.specs.Means.{command_of}
use Rattle.state.specs.Memory.{limits_of, state_of}
use Rattle.state.specs.States.{with_matches}
use Rattle.state.proofs.Laws.{then_to}
use Rattle.entries.specs.Steps.{pushed}
use Rattle.entries.proofs.request.request.Goals as goal

abbrev own_match : ℕ → ℕ → State → State
own_match h i s = with_matches (set_at s.matches h i) s

-- the entry, its own match index, and the reason to send, all at once
requested : (l : Limits) (s : State) (c k : ℕ) (x : Command) (t h i : ℕ) → t ≡ s.term → h ≡ l.me → i ≡ suc (last_index s.log)
    → with_send true (own_match h i (pushed s (record { term = t; server = h; client = c; number = k }) x)) ≡ with_request l c k x s
requested l s c k x t h i e p q = rw (e, p, q) refl

pub returns : goal.returns
returns c =
    let m = c.args.mem.now in
    let m₂ = c.set_match.new.self in
    let s : State = state_of m in
    let h : ℕ = c.limits-me.result.me in
    let t : ℕ = c.term.result in
    let i : ℕ = c.last_index-last.result + 1 in
    let x : Command = command_of c.args.command in
    let more : i ≡ suc (last_index s.log) = omega (arith, c.last_index-last.ensures.last) in
    let n : Numbers = record { term = t; server = h; client = c.args.client; number = c.args.id } in
    let written : State = pushed s n x in
    then_to (with_send true) m m₂ c.set_send.new.self (own_match h i written) (with_request (limits_of m) c.args.client c.args.id x s)
    (then_to (own_match h i) m c.push_entry.new.mem m₂ written (own_match h i written) c.push_entry.ensures c.set_match.ensures refl)
    c.set_send.ensures
    (requested (limits_of m) s c.args.client c.args.id x t h i c.term.ensures.value
    (ap (λ (l : code.Limits). l.me) c.limits-me.ensures) more)
