-- For those who act on what the checks found: what is left to refuse.
use Rattle.std.proofs.Common.{◌≡◌, ℕ, eqb, Ok, Err, sym, refl, ap, ◌∙◌}
use Rattle.servers.specs.Store.{pick}
use Rattle.servers.specs.Server as server
use Rattle.servers.specs.Server.{turned, State}
use Rattle.wire_read.specs.Means.{means}
use Rattle.wire_read.specs.declared.parts.Event.{Event}
use Rattle.checks.specs.Outcome.{Checked, refusal_number}
use Rattle.checks.specs.Refusals.{by_state}
use Rattle.checks.specs.declared.refusal.Refusal.{Refusal}
use Rattle.checks.specs.declared.refusal.Refusal.TheVariants.{NoEvent, OutOfRange, OutOfRow, LogFull, LastTerm}
use Rattle.checks.proofs.Laws.{refusals_in_order}

-- an event that was handed on: only the state can refuse it
pub turned_handed :
    (l : server.Limits) (s : State) (e v : Event) → Checked l e (Ok v) →
    turned l s (means e) ≡ by_state l s (means e)
turned_handed l s e v c =
    refusals_in_order l s (means e)
    ∙ ap (λ (n : ℕ). pick (eqb n 0) (by_state l s (means e)) n) (sym c.number)

-- an event that was refused: its number, its answer, and the state as it was
nonzero : {A : Type 0} (x : Refusal) (a b : A) → pick (eqb (refusal_number x) 0) a b ≡ b
nonzero (NoEvent n) a b = refl
nonzero OutOfRange a b = refl
nonzero OutOfRow a b = refl
nonzero LogFull a b = refl
nonzero LastTerm a b = refl

pub turned_refused :
    (l : server.Limits) (s : State) (e : Event) (x : Refusal) → Checked l e (Err x) →
    turned l s (means e) ≡ refusal_number x
turned_refused l s e x c =
    refusals_in_order l s (means e)
    ∙ ap (λ (n : ℕ). pick (eqb n 0) (by_state l s (means e)) n) (sym c.number)
    ∙ nonzero x (by_state l s (means e)) (refusal_number x)
