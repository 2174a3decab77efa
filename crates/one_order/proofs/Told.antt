-- WHAT CLIENTS ARE TOLD: whoever was told, by whichever server and whenever, was told what the linearization order says. The server that
-- told had applied the command; the order of what a server has applied only grows, and the linearization order extends it; and commands
-- on top change no reply.
use Rattle.std.proofs.Common.{◌≡◌, ℕ, ◌<◌, true, ◌&&◌, eqb, List, [], ◌∷◌, sym, refl, inl, inr}
use Rattle.servers.specs.Server.{Entry, State, Event, Said, Answer, refused, not_leader, does, up_to}
use Rattle.servers.specs.World.{Program, Group, Happening, World, happens, Asked, SaidIn, ToldBy, Told, reply_in, there}
use Rattle.servers.specs.World.{told_in, is_told, was_told}
use Rattle.servers.specs.Promise.{at_server}
use Rattle.std.proofs.lemmas.Bool.{and_parts, false≢true, or_cases, eqb-true}
use Rattle.one_order.specs.Order.{order, applied_order, committed, linearization, Extends}
use Rattle.one_order.proofs.Sequences.{reply_stays, replied_there}
use Rattle.one_order.proofs.Orders.{order_once}
use Rattle.one_order.proofs.Runs.{Run, Moment, runs_by, one_later}
use Rattle.one_order.proofs.Committed.{extends_server}
use Rattle.one_order.proofs.StateMachines.{applies_here, servers_applied, applied_grows}

-- a reply stands in every order that extends the one that it was read off
reply_stands : (es : List Entry) (os : List Asked) (s : Said) → Extends (order es) os
    → reply_in os s.client s.id ≡ s.reply ∷ [] → reply_in (order es) s.client s.id ≡ s.reply ∷ []
reply_stands es os s x q = reply_stays (order es) os s.client s.id s.reply x (order_once es) q

-- a server that has done the command, with this reply
abbrev DoneAt : Group → World → Said → Type 0
DoneAt g w s = (i : ℕ) × (i < g.servers) × (reply_in (applied_order (at_server g w i)) s.client s.id ≡ s.reply ∷ [])

-- Whoever was told was told of what the server that told has applied, and has in its order ever after.
pub told_applied : {f : Program} {g : Group} {w : World} → Run f g w → (s : Said) → Told s w.past → DoneAt g w s
unfolding Told
told_applied {f} {g} = runs_by (λ w. (s : Said) → Told s w.past → DoneAt g w s) (λ s t. elim t [ ]) later
  where
    later : (w : World) (i : ℕ) (e : Event) (m : Moment f g w i e) → ((s : Said) → Told s w.past → DoneAt g w s)
        → (s : Said) → Told s (happens f g w i e).past → DoneAt g (happens f g w i e) s
    later w i e m holds s (inl t) = (i, m.step.low, (applies_here m (servers_applied m.old i)).1 s t)
    later w i e m holds s (inr t) =
        let (v, low, q) = holds s t in
        let y : State = at_server g (happens f g w i e) v in
        let x = applied_grows m.new w (one_later f g w i e) v in
        (v, low, reply_stands (up_to y.applied y.log) (applied_order (at_server g w v)) s x q)

-- So was told what the linearization order says, which extends the order of what any server has applied.
pub told_right : {f : Program} {g : Group} {w : World} → Run f g w → (s : Said) → Told s w.past
    → reply_in (linearization g w) s.client s.id ≡ s.reply ∷ []
unfolding linearization
told_right {f} {g} {w} r s t =
    let (v, low, q) = told_applied r s t in
    let y : State = at_server g w v in
    reply_stands (committed g w) (applied_order y) s (extends_server r v y.applied low (servers_applied r v).low) q

-- and is in the order
pub told_there : {f : Program} {g : Group} {w : World} → Run f g w → (s : Said) → Told s w.past
    → there (linearization g w) s.client s.id ≡ true
told_there {f} {g} {w} r s t = replied_there (linearization g w) s.client s.id s.reply (told_right r s t)

-- AS A TEST

-- a reply to client c's command k
abbrev ReplyTo : ℕ → ℕ → (Said → Type 0) → Type 0
ReplyTo c k P = (s : Said) × P s × (s.client ≡ c) × (s.id ≡ k)

-- who was told was told something
said_of : (ss : List Said) (c k : ℕ) → told_in ss c k ≡ true → ReplyTo c k (λ s. SaidIn s ss)
unfolding told_in SaidIn
said_of [] c k q = absurd (false≢true q)
said_of (s ∷ ss) c k q =
    elim (or_cases (eqb c s.client && eqb k s.id) (told_in ss c k) q) [
      | inl p ↦ (let r = and_parts (eqb c s.client) (eqb k s.id) p in
          (s, inl refl, sym (eqb-true _ _ r.0), sym (eqb-true _ _ r.1)))
      | inr p ↦ (let r = said_of ss c k p in (r.0, inr r.1, r.2, r.3))
    ]

told_of : (a : Answer) (c k : ℕ) → is_told a c k ≡ true → ReplyTo c k (λ s. ToldBy s a)
unfolding is_told ToldBy
told_of (refused i j) c k q = absurd (false≢true q)
told_of not_leader c k q = absurd (false≢true q)
told_of (does ss ls) c k q = said_of ss c k q

was_told_of : (past : List Happening) (c k : ℕ) → was_told past c k ≡ true → ReplyTo c k (λ s. Told s past)
unfolding was_told Told
was_told_of [] c k q = absurd (false≢true q)
was_told_of (h ∷ hs) c k q =
    elim (or_cases (is_told h.answer c k) (was_told hs c k) q) [
      | inl p ↦ (let r = told_of h.answer c k p in (r.0, inl r.1, r.2, r.3))
      | inr p ↦ (let r = was_told_of hs c k p in (r.0, inr r.1, r.2, r.3))
    ]

-- Who was told is in the order.
pub was_told_there : {f : Program} {g : Group} {w : World} → Run f g w → (c k : ℕ) → was_told w.past c k ≡ true
    → there (linearization g w) c k ≡ true
was_told_there {f} {g} {w} r c k q =
    let s = was_told_of w.past c k q in
    rw (s.2, s.3) at (told_there r s.0 s.1)
