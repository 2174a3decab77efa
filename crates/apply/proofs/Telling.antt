-- What a client is told: it stands in the client's session once the entry is applied, and its bytes are those of the session's parts.
use Rattle.std.proofs.Common.{◌≡◌, ℕ, zero, suc, ◌<◌, ◌≤◌, Bool, true, false, ◌&&◌, ◌||◌, eqb, List, [], ◌∷◌, ◌++◌, length, get_or, take, drop, Some, None, Option, sym, refl, ap, ◌∙◌, arith}
use Rattle.std.proofs.lemmas.List.{append-nil}
use Rattle.std.proofs.lemmas.Bool.{and_parts, eqb-true}
use Rattle.servers.specs.Store.{pick, Reply, reply}
use Rattle.servers.specs.Server.{Entry, Said, Cached, Limits, State, nth, set_at, no_cached, is_new, is_again, do_one, tell_one}
use Rattle.texts.specs.Words.{perhaps_in}
use Rattle.wire.specs.Write.{write_number, write_perhaps, write_said, write_saids}
use Rattle.wire_write.specs.Put.{Room}
use Rattle.wire_write.specs.declared.writer.Writer.{Writer}
use Rattle.memory.specs.Words.{bit, cached_in}
use Rattle.servers.proofs.Tests.{bool_by, pick_by, pick_true, pick_false}
use Rattle.apply.specs.Applied.{session, answered, kept_for, told_client}

-- a part of a session's words, and the bytes that are written from it
abbrev pub part : ℕ → List ℕ → List ℕ
part a ws = take 33 (drop a ws)

abbrev pub reply_bytes : ℕ → List ℕ → List ℕ
reply_bytes a ws = write_perhaps (perhaps_in (part a ws))

pub session_bytes : (c : ℕ) (ws : List ℕ)
    → write_number c ++ (write_number (get_or ws 1 0) ++ (reply_bytes 2 ws ++ reply_bytes 35 ws)) ≡ write_said (kept_for c (cached_in ws))
unfolding cached_in
session_bytes c ws = refl

pub room_said : (c : ℕ) (ws : List ℕ) (v : Writer) → Room (length (write_said (kept_for c (cached_in ws)))) v
    → Room (length (write_number c ++ (write_number (get_or ws 1 0) ++ (reply_bytes 2 ws ++ reply_bytes 35 ws)))) v
room_said c ws v h = let e = ap length (session_bytes c ws) in omega arith

-- one that is told
pub one_said : (x : Said) → write_saids (x ∷ []) ≡ write_said x
unfolding write_saids
one_said x = append-nil (write_said x)

-- a session that was written is read
nth_set : (xs : List Cached) (n : ℕ) (x : Cached) → n < length xs → nth no_cached (set_at xs n x) n ≡ x
unfolding nth set_at
nth_set [] n x h = absurd (omega arith)
nth_set (y ∷ xs) zero x h = refl
nth_set (y ∷ xs) (suc n) x h = nth_set xs n x (omega arith)

-- whether this server tells
abbrev pub tells : Limits → State → Entry → Bool
tells l s e = eqb e.at l.me && (is_new s e || is_again s e)

abbrev says : Entry → ℕ → Reply → List Said
says e k q = record { client = e.client; id = k; reply = q } ∷ []

-- new or again, the reply told is the one in the session after the entry
again_if : (n a : Bool) → n ≡ false → (n || a) ≡ true → a ≡ true
again_if true a p q = let z : ◌≡◌ {A = ℕ} 1 0 = ap bit p in absurd (omega arith)
again_if false a p q = q

pub said_kept : (l : Limits) (s : State) (e : Entry) → e.client < length s.cache → tells l s e ≡ true
    → tell_one l s e ≡ kept_for e.client (session (do_one s e) e.client) ∷ []
said_kept l s e h t =
    let c : ℕ = e.client in
    let q : Reply = reply e.command s.store in
    let x : Cached = session s c in
    pick_true (tells l s e) _ [] t
    ∙ bool_by (λ (b : Bool). is_new s e ≡ b
    → says e e.id (pick (is_new s e) q x.reply) ≡ kept_for c (session (do_one s e) c) ∷ []) (is_new s e)
    (λ r n. ap (says e e.id) (pick_true _ q x.reply n)
    ∙ (ap (λ (y : Cached). kept_for c y ∷ []) (sym (nth_set s.cache c (answered e.id q) h))
    ∙ ap (λ (z : State). kept_for c (session z c) ∷ []) (sym (pick_true _ _ s n))))
    (λ r n. let again = and_parts x.there _ (again_if (is_new s e) (is_again s e) n (and_parts _ (is_new s e || is_again s e) t).1) in
    ap (says e e.id) (pick_false _ q x.reply n)
    ∙ (ap (λ (k : ℕ). says e k x.reply) (sym (eqb-true x.id e.id again.1))
    ∙ ap (λ (z : State). kept_for c (session z c) ∷ []) (sym (pick_false _ _ s n)))) refl

-- the client that is told is the entry's
abbrev as_list : Option ℕ → List ℕ
as_list None = []
as_list (Some k) = k ∷ []

pub told_some : (l : Limits) (s : State) (e : Entry) (k : ℕ) → e.client < length s.cache → Some k ≡ told_client (tell_one l s e)
    → (k ≡ e.client) × (tell_one l s e ≡ kept_for k (session (do_one s e) k) ∷ [])
told_some l s e k h t =
    bool_by (λ (b : Bool). tells l s e ≡ b → (k ≡ e.client) × (tell_one l s e ≡ kept_for k (session (do_one s e) k) ∷ []))
    (tells l s e)
    (λ r y.
    let is = said_kept l s e h y in
    let same : k ≡ e.client = ap (λ (o : Option ℕ). get_or (as_list o) 0 0) (t ∙ ap told_client is) in
    (same, is ∙ ap (λ (c : ℕ). kept_for c (session (do_one s e) c) ∷ []) (sym same)))
    (λ r y. let z = ap (λ (o : Option ℕ). length (as_list o)) (t ∙ ap told_client (pick_false (tells l s e) _ [] y)) in
    absurd (omega arith))
    refl

pub told_none : (l : Limits) (s : State) (e : Entry) → None ≡ told_client (tell_one l s e) → tell_one l s e ≡ []
told_none l s e t =
    bool_by (λ (b : Bool). tells l s e ≡ b → tell_one l s e ≡ []) (tells l s e)
    (λ r y. let z = ap (λ (o : Option ℕ). length (as_list o)) (t ∙ ap told_client (pick_true (tells l s e) _ [] y)) in
    absurd (omega arith))
    (λ r y. pick_false (tells l s e) _ [] y)
    refl

pub told_few : (l : Limits) (s : State) (e : Entry) → length (tell_one l s e) ≤ 1
told_few l s e = pick_by (λ (xs : List Said). length xs ≤ 1) (tells l s e) _ [] (λ q. omega arith) (λ q. omega arith)
