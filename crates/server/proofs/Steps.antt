-- What was checked of an event by the limits that a memory holds, and what is answered to it.
use Rattle.std.proofs.Common.{◌≡◌, ℕ, List, Result, subst}
use Rattle.servers.specs.Server as server
use Rattle.servers.specs.Opened as opened
use Rattle.servers.specs.declared.limits.Limits.{Limits}
use Rattle.wire_read.specs.declared.parts.Event.{Event}
use Rattle.wire_write.specs.declared.answer.Answer.{Answer}
use Rattle.checks.specs.Outcome.{Checked}
use Rattle.checks.specs.Refusals.{can_do}
use Rattle.checks.specs.declared.refusal.Refusal.{Refusal}
use Rattle.state.specs.Memory.{limits_held, limits_of}
use Rattle.state.specs.declared.words.Memory.{Memory}
use Rattle.server.specs.Answered.{Answered}

-- what is answered to one is answered to the other
pub answered_as : {m : Memory} {xs : List ℕ} {m' : Memory} {ys : List ℕ} {e f : server.Event} {r : Answer} → e ≡ f → Answered m xs m' ys e r → Answered m xs m' ys f r
answered_as {m = m} {xs = xs} {m' = m'} {ys = ys} {r = r} q a = subst (λ (z : server.Event). Answered m xs m' ys z r) q a

-- what the checks say, by the limits that the memory holds
pub checked_by : (m : Memory) {l : Limits} {e : Event} {r s : Result Event Refusal} → l ≡ limits_held m → r ≡ s
    → Checked (opened.limits_of can_do l) e r → Checked (limits_of m) e s
checked_by m {l = l} {e = e} {s = s} p q c =
    subst (λ (z : Limits). Checked (opened.limits_of can_do z) e s) p
    (subst (λ (z : Result Event Refusal). Checked (opened.limits_of can_do l) e z) q c)
