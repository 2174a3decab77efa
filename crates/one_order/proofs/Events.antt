-- ONE EVENT AT ONE SERVER: if the server's machine was that of its log up to the applied index, and the event left that part of the log
-- as it was and took back no commit, then it is so afterwards, and whoever is told is told what the order of the applied entries says.
-- (That the event does so is what safety is for: Agreement.)
use Rattle.std.proofs.Common.{◌≡◌, ℕ, ◌≤◌, Bool, not, ◌&&◌, eqb, List, [], ◌∷◌, ◌++◌, refl, ap, subst, arith}
use Rattle.servers.specs.Store.{pick}
use Rattle.servers.specs.Server.{Limits, State, Said, Letter, Event, Answer, refused, not_leader, does, at_least, up_to}
use Rattle.servers.specs.Server.{dues, tell_all, first_step, first_letters, settles, sends_now, sent_now, finished}
use Rattle.servers.specs.Server.{ends_there, is_request, stepped, doing, turned, place, after, answer}
use Rattle.servers.specs.World.{ToldBy, SaidIn, reply_in}
use Rattle.std.proofs.lemmas.Bool.Decides.{nat_tests}
use Rattle.servers.proofs.Tests.{bool_by, pick_by}
use Rattle.safety.proofs.Logs.{Contiguous}
use Rattle.safety.proofs.Invariant.{View}
use Rattle.safety.proofs.Unseen.{all_unseen}
use Rattle.one_order.specs.Order.{applied_order}
use Rattle.one_order.proofs.Applying.{machine, MadeBy, ClientsBelow}
use Rattle.one_order.proofs.Due.{due_applies, due_tells}
use Rattle.one_order.proofs.Steps.{core, settles_by, Steady, first_steady}

-- what is applied is committed, and the machine is that of the log up to there
pub record Applied (n : ℕ) (s : State) : Type 0 where
  pub low : s.applied ≤ s.commit
  pub made : MadeBy n (machine s) (applied_order s)

-- what is told is what the order of the applied entries says
abbrev pub Tells : State → Answer → Type 0
Tells s a = (x : Said) → ToldBy x a → reply_in (applied_order s) x.client x.id ≡ x.reply ∷ []

module _ (n : ℕ) (l : Limits) (s : State) (was : Applied n s) where
  -- what an event owes that leads to state y and answer a
  abbrev Owed : State → Answer → Type 0
  Owed y a =
      s.commit ≤ y.commit → Contiguous y.log → ClientsBelow n y.log → up_to s.applied y.log ≡ up_to s.applied s.log
      → Applied n y × Tells y a × (s.applied ≤ y.applied)

  -- the machine is the old one, so it is that of the log up to the applied index still
  made_still : (y : State) → Steady s (core y) → up_to s.applied y.log ≡ up_to s.applied s.log
      → MadeBy n (machine y) (applied_order y)
  made_still y st same = rw (st.0, st.1, st.2, same) was.made

  -- nothing is applied and nobody is told
  nothing_applied : (y : State) (a : Answer) → Steady s (core y) → ((x : Said) → ToldBy x a → ⊥) → Owed y a
  nothing_applied y a st none up r b same =
      let lo = was.low in let e = st.0 in
      (record { low = omega arith; made = made_still y st same }, λ x t. absurd (none x t), omega arith)

  -- what is due is applied, and some of those who are due are told
  due_applied : (m : State) → Steady s (core m) → (ss : List Said) (ls : List Letter)
      → ((x : Said) → SaidIn x ss → SaidIn x (tell_all l m (dues m))) → Owed (finished m) (does ss ls)
  unfolding ToldBy
  due_applied m st ss ls sub up r b same =
      let log : (finished m).log ≡ m.log = ap (λ (v : View). v.log) (all_unseen m (dues m)) in
      let commit : (finished m).commit ≡ m.commit = ap (λ (v : View). v.commit) (all_unseen m (dues m)) in
      let lo = was.low in let e = st.0 in
      let le : m.applied ≤ m.commit = omega arith in
      let row : Contiguous m.log = subst Contiguous log r in
      let below : ClientsBelow n m.log = subst (ClientsBelow n) log b in
      let old = made_still m st (subst (λ y. up_to s.applied y ≡ up_to s.applied s.log) log same) in
      let top : at_least m.applied m.commit ≡ m.commit = grind (arith, nat_tests) in (
        record { low = omega arith; made = rw (top, log) (due_applies n m m.applied m.commit m.log row below le old) },
        λ x t. rw (top, log) (due_tells n m m.applied m.commit m.log row below le old l x (sub x t)),
        omega arith,
      )

  -- an event that isn't turned away: restarts end with their first half, and all others apply what is due
  taken_applies : (e : Event) → Owed (stepped l s e) (doing l s e)
  unfolding ToldBy SaidIn
  taken_applies e =
      let half : State = first_step l s e in
      let m : State = sent_now (settles l half) in
      let letters : List Letter = first_letters l s e ++ sends_now l (settles l half) in
      let refuses : Bool = is_request e && not (eqb s.kind 2) in
      let f = first_steady l s e in
      let g = settles_by (Steady s) l half f in
      bool_by (λ z. Owed (pick z half (finished m)) (pick refuses not_leader (pick z (does [] []) (does (tell_all l m (dues m)) letters))))
      (ends_there e)
      (λ q. pick_by (λ (a : Answer). Owed half a) refuses not_leader (does [] [])
      (λ p. nothing_applied half not_leader f (λ x t. t)) (λ p. nothing_applied half (does [] []) f (λ x t. t)))
      (λ q. pick_by (λ (a : Answer). Owed (finished m) a) refuses not_leader (does (tell_all l m (dues m)) letters)
      (λ p up r b same. let w = due_applied m g [] [] (λ x t. elim t [ ]) up r b same in (w.0, λ x t. elim t [ ], w.2))
      (λ p. due_applied m g (tell_all l m (dues m)) letters (λ x t. t)))

  -- any event: one that is turned away leaves all as it was
  pub event_applies : (e : Event) → Owed (after l s e) (answer l s e)
  unfolding ToldBy
  event_applies e =
      bool_by (λ z. Owed (pick z (stepped l s e) s) (pick z (doing l s e) (refused (turned l s e) (place e (turned l s e)))))
      (eqb (turned l s e) 0) (λ q. taken_applies e)
      (λ q. nothing_applied s (refused (turned l s e) (place e (turned l s e))) (refl, refl, refl) (λ x t. t))
