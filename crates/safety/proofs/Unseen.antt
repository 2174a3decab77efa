-- Doing what is committed, and noting that letters went out, change nothing that the invariant is about.
use Rattle.std.proofs.Common.{◌≡◌, eqb, List, [], ◌∷◌, refl, ◌∙◌}
use Rattle.servers.specs.Server.{Entry, State, is_new, do_one, do_all, dues, finished, sent_now}
use Rattle.servers.proofs.Tests.{pick_by}
use Rattle.safety.proofs.Invariant.{view}

one_unseen : (s : State) (e : Entry) → view (do_one s e) ≡ view s
one_unseen s e = pick_by (λ x. view x ≡ view s) (is_new s e) _ s (λ q. refl) (λ q. refl)

pub all_unseen : (s : State) (es : List Entry) → view (do_all s es) ≡ view s
unfolding do_all
all_unseen s [] = refl
all_unseen s (e ∷ es) = all_unseen (do_one s e) es ∙ one_unseen s e

pub finished_unseen : (s : State) → view (finished s) ≡ view s
finished_unseen s = all_unseen s (dues s)

pub sent_unseen : (s : State) → view (sent_now s) ≡ view s
sent_unseen s = pick_by (λ x. view x ≡ view s) (eqb s.kind 2) _ s (λ q. refl) (λ q. refl)
