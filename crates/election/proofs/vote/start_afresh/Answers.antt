use Rattle.std.proofs.Common.{◌≡◌, ℕ, ap, refl}
use Rattle.servers.specs.Server.{Limits, State, set_at, last_index}
use Rattle.servers.specs.declared.limits.Limits as code
use Rattle.state.specs.Memory.{limits_of, state_of}
use Rattle.state.specs.States.{with_matches, forgot}
use Rattle.state.proofs.Laws.{then_to}
use Rattle.election.specs.Steps.{fresh}
use Rattle.election.proofs.vote.start_afresh.Goals as goal

own_log : (l : Limits) (s : State) (h i : ℕ) → h ≡ l.me → i ≡ last_index s.log
    → with_matches (set_at (forgot l s).matches h i) (forgot l s) ≡ fresh l s
own_log l s h i e f = rw (e, f) refl

pub returns : goal.returns
returns c =
    let m = c.args.mem.now in
    let h : ℕ = c.limits-me.result.me in
    let i : ℕ = c.last_index-last.result in
    then_to (λ (s : State). with_matches (set_at s.matches h i) s) m c.forget.new.self c.set_match.new.self
    (forgot (limits_of m) (state_of m)) _ c.forget.ensures c.set_match.ensures
    (own_log (limits_of m) (state_of m) h i (ap (λ (x : code.Limits). x.me) c.limits-me.ensures) c.last_index-last.ensures.last)
