use Rattle.std.proofs.Common.{◌≡◌, ℕ, ◌+◌, ◌-◌, take, drop, ap, ◌∙◌, arith}
use Rattle.state.proofs.view.View.session.Goals as goal
use Rattle.state.proofs.Sessions.{session_held}

pub returns : goal.returns
returns c =
    let at : ℕ = c.session_at-at.result in
    let k : at + 68 - at ≡ 68 = omega arith in
    ap (λ (n : ℕ). take n (drop at c.args.self.words.now)) k
    ∙ session_held c.args.self.words.now c.args.client at c.args.self.held c.requires.there c.session_at-at.ensures.value
