-- Letters are written after commands were applied: they are those of the state before, since applying changes nothing that they say.
use Rattle.std.proofs.Common.{◌≡◌, ℕ, false, eqb, List, [], ◌∷◌, sym, refl, ap, ◌∙◌}
use mathlib.Core.Path.{fun_ext}
use Rattle.servers.specs.Store.{Store}
use Rattle.servers.specs.Server.{
  Entry,
  Cached,
  Limits,
  State,
  Message,
  timeout,
  is_new,
  do_one,
  do_all,
  dues,
  wants,
  with_done,
  with_send,
  settles,
  sent_now,
  finished,
  to_others,
  to_server,
  first_letters,
}
use Rattle.servers.proofs.Tests.{pick_by}
use Rattle.sending.specs.Letters.{asks}

-- what doing a command leaves as it is, doing all leaves
pub after_doing :
    {A : Type 0} (g : State → A) → ((d : Store) (c : List Cached) (s : State) → g (with_done d c s) ≡ g s) → (s : State) (es : List Entry)
    → g (do_all s es) ≡ g s
unfolding do_all
after_doing g k s [] = refl
after_doing g k s (e ∷ es) =
    after_doing g k (do_one s e) es
    ∙ pick_by (λ (x : State). g x ≡ g s) (is_new s e) _ s (λ q. k _ _ s) (λ q. refl)

-- a leader's entries
sent_later : (s : State) (h : ℕ) → to_server (finished (sent_now s)) h ≡ to_server s h
sent_later s h =
    after_doing (λ (x : State). to_server x h) (λ d c x. refl) (sent_now s) (dues (sent_now s))
    ∙ pick_by (λ (x : State). to_server x h ≡ to_server s h) (eqb s.kind 2) (with_send false s) s (λ q. refl) (λ q. refl)

pub entries_later :
    (n m : ℕ) (s : State) → to_others n m (λ h. to_server (finished (sent_now s)) h) ≡ to_others n m (λ h. to_server s h)
entries_later n m s = ap (to_others n m) (fun_ext (λ h. sent_later s h))

-- a candidate's requests for votes
pub asks_later :
    (l : Limits) (s : State) → eqb s.kind 2 ≡ false
    → to_others l.servers l.me (λ h. asks (finished (sent_now (settles l (wants l s))))) ≡ first_letters l s timeout
asks_later l s k =
    let w : State = wants l s in
    let e : asks (finished (sent_now (settles l w))) ≡ asks w = after_doing asks (λ d c x. refl) w (dues w) in
    ap (λ (x : Message). to_others l.servers l.me (λ h. x)) e
    ∙ sym (pick_false k)
  where
    pick_false : eqb s.kind 2 ≡ false → first_letters l s timeout ≡ to_others l.servers l.me (λ h. asks (wants l s))
    pick_false k = rw k refl
