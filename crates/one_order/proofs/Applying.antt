-- THE STATE MACHINE: a server that applies the entries of a log has the store and the sessions that the log's order makes, and tells
-- its clients what that order says. This is the only file that looks into `do_one` and `tell_one`; it knows nothing of indices, terms
-- or other servers.
use Rattle.std.proofs.Common.{◌≡◌, ℕ, ◌<◌, true, false, ◌&&◌, ◌||◌, eqb, ◌⊎◌, List, [], ◌∷◌, ◌++◌, reverse, length, sym, refl, ap, ◌∙◌, subst, inl, inr, append_assoc, append-nil, arith}
use mathlib.Core.List.{reverse-cons}
use Rattle.servers.specs.Store.{pick, Reply, Store, done, reply}
use Rattle.servers.specs.Server.{Entry, Limits, State, Said, Cached, no_cached, nth, many, set_at, with_done, is_new, is_again}
use Rattle.servers.specs.Server.{do_one, do_all, tell_one, tell_all}
use Rattle.servers.specs.World.{Asked, store_after, reply_in, SaidIn}
use Rattle.std.proofs.lemmas.Bool.{and_parts, cases_eq, eq-eqb, ne_eqb, eqb-true}
use Rattle.std.proofs.lemmas.Bool.Decides.{nat_tests}
use Rattle.servers.proofs.Tests.{bool_by}
use Rattle.safety.proofs.Tables.{length_many, length_set_at, nth_many}
use Rattle.one_order.specs.Order.{remembered, session, new_to, asked_of, order}
use Rattle.one_order.proofs.Lists.{All, nth_set_same, nth_set_other}
use Rattle.one_order.proofs.Sequences.{reply_stays}
use Rattle.one_order.proofs.Sessions.{session_told}
use Rattle.one_order.proofs.Orders.{order_once, order_extends}

-- the replicated state machine of a server: its store and its clients' sessions
pub record Machine : Type 0 where
  pub store : Store
  pub cache : List Cached

abbrev pub machine : State → Machine
machine s = record { store = s.store; cache = s.cache }

-- the machine is as these commands, one after the other, make it of an empty one with n clients
pub record MadeBy (n : ℕ) (m : Machine) (os : List Asked) : Type 0 where
  pub clients : length m.cache ≡ n
  pub store : m.store ≡ store_after os
  pub sessions : (c : ℕ) → c < n → nth no_cached m.cache c ≡ session os c

pub made_by_none : (n : ℕ) → MadeBy n (record { store = []; cache = many n no_cached }) []
unfolding store_after session
made_by_none n = record { clients = length_many n no_cached; store = refl; sessions = λ c low. nth_many n no_cached c }

-- every entry's client has a session
abbrev pub ClientsBelow : ℕ → List Entry → Type 0
ClientsBelow n es = All (λ e. e.client < n) es

-- what the session of an entry's client remembers at a server
abbrev cached : State → Entry → Cached
cached s e = nth no_cached s.cache e.client

-- the machine after an entry whose command is done
abbrev machine_after : Machine → Entry → Machine
machine_after m e =
    record { store = done e.command m.store; cache = set_at m.cache e.client (remembered (asked_of e) m.store) }

-- what the client of an entry is told of it
abbrev answer_to : State → Entry → Reply
answer_to s e = pick (is_new s e) (reply e.command s.store) (cached s e).reply

-- ONE ENTRY

-- A new command is done, and its client's session remembers it.
new_is_remembered : (n : ℕ) (m : Machine) (os : List Asked) (e : Entry) → MadeBy n m os → e.client < n
    → MadeBy n (machine_after m e) (asked_of e ∷ os)
unfolding store_after session
new_is_remembered n m os e a low =
    record {
      clients = length_set_at m.cache e.client (remembered (asked_of e) m.store) ∙ a.clients;
      store = ap (done e.command) a.store;
      sessions = λ c lo. session_of c lo (cases_eq c e.client);
    }
  where
    session_of : (c : ℕ) → c < n → (c ≡ e.client) ⊎ (c ≡ e.client → ⊥)
        → nth no_cached (machine_after m e).cache c ≡ pick (eqb c e.client) (remembered (asked_of e) (store_after os)) (session os c)
    session_of c lo (inl p) =
        let here : e.client < length m.cache = rw a.clients low in
        let y : eqb e.client e.client ≡ true = eq-eqb _ _ refl in
        rw (p, y, nth_set_same no_cached m.cache e.client (remembered (asked_of e) m.store) here)
        (ap (remembered (asked_of e)) a.store)
    session_of c lo (inr ne) =
        let y : eqb c e.client ≡ false = ne_eqb _ _ ne in
        rw (y, nth_set_other no_cached m.cache e.client (remembered (asked_of e) m.store) c ne) (a.sessions c lo)

module _ (n : ℕ) (s : State) (e : Entry) (es : List Entry) (a : MadeBy n (machine s) (order es)) (low : e.client < n) where
  -- Applying one entry more: a command that isn't new to its session changes nothing.
  pub applies_one : MadeBy n (machine (do_one s e)) (order (e ∷ es))
  unfolding order
  applies_one =
      subst (λ x. MadeBy n (machine (do_one s e)) (pick (new_to x e.id) (asked_of e ∷ order es) (order es)))
      (a.sessions e.client low)
      (bool_by
      (λ z. MadeBy n (machine (pick z (with_done (machine_after (machine s) e).store (machine_after (machine s) e).cache s) s))
      (pick z (asked_of e ∷ order es) (order es)))
      (is_new s e) (λ q. new_is_remembered n (machine s) (order es) e a low) (λ q. a))

  reply_new : reply_in (asked_of e ∷ order es) e.client e.id ≡ reply e.command s.store ∷ []
  unfolding reply_in
  reply_new =
      let y : (eqb e.client e.client && eqb e.id e.id) ≡ true = grind (arith, nat_tests) in
      rw y (ap (λ w. reply e.command w ∷ []) (sym a.store))

  reply_again : is_again s e ≡ true → reply_in (order es) e.client e.id ≡ (cached s e).reply ∷ []
  reply_again q =
      let p = and_parts _ _ q in
      let t =
      subst (λ (x : Cached). x.there ≡ true → reply_in (order es) e.client x.id ≡ x.reply ∷ [])
      (sym (a.sessions e.client low)) (session_told (order es) e.client) p.0 in
      subst (λ k. reply_in (order es) e.client k ≡ (cached s e).reply ∷ []) (eqb-true _ _ p.1) t

  -- A new command is told its reply, and one that is asked again what its session remembers: the order has just that.
  reply_right : (is_new s e || is_again s e) ≡ true → reply_in (order (e ∷ es)) e.client e.id ≡ answer_to s e ∷ []
  unfolding order
  reply_right p =
      subst
      (λ x. reply_in (pick (new_to x e.id) (asked_of e ∷ order es) (order es)) e.client e.id ≡ answer_to s e ∷ [])
      (a.sessions e.client low)
      (bool_by
      (λ z. (z || is_again s e) ≡ true → reply_in (pick z (asked_of e ∷ order es) (order es)) e.client e.id
      ≡ pick z (reply e.command s.store) (cached s e).reply ∷ [])
      (is_new s e) (λ q h. reply_new) (λ q h. reply_again h) p)

  -- Who is told of an entry is told what the order says.
  tells_one : (l : Limits) (x : Said) → SaidIn x (tell_one l s e) → reply_in (order (e ∷ es)) x.client x.id ≡ x.reply ∷ []
  unfolding SaidIn
  tells_one l x h =
      bool_by
      (λ z. (eqb e.at l.me && (is_new s e || is_again s e)) ≡ z
      → SaidIn x (pick z (record { client = e.client; id = e.id; reply = answer_to s e } ∷ []) [])
      → reply_in (order (e ∷ es)) x.client x.id ≡ x.reply ∷ [])
      (eqb e.at l.me && (is_new s e || is_again s e))
      (λ q p t. said (and_parts _ _ p).1 t) (λ q p t. elim t [ ]) refl h
    where
      said : (is_new s e || is_again s e) ≡ true → (x ≡ record { client = e.client; id = e.id; reply = answer_to s e }) ⊎ ⊥
          → reply_in (order (e ∷ es)) x.client x.id ≡ x.reply ∷ []
      said p (inl q) =
          subst (λ (y : Said). reply_in (order (e ∷ es)) y.client y.id ≡ y.reply ∷ []) (sym q) (reply_right p)
      said p (inr q) = elim q [ ]

-- SEVERAL ENTRIES, the oldest first

do_append : (s : State) (xs ys : List Entry) → do_all s (xs ++ ys) ≡ do_all (do_all s xs) ys
unfolding do_all
do_append s [] ys = refl
do_append s (x ∷ xs) ys = do_append (do_one s x) xs ys

tell_append : (l : Limits) (s : State) (xs ys : List Entry) → tell_all l s (xs ++ ys) ≡ tell_all l s xs ++ tell_all l (do_all s xs) ys
unfolding tell_all do_all
tell_append l s [] ys = refl
tell_append l s (x ∷ xs) ys =
    ap (λ y. tell_one l s x ++ y) (tell_append l (do_one s x) xs ys)
    ∙ sym (append_assoc (tell_one l s x) (tell_all l (do_one s x) xs) (tell_all l (do_all (do_one s x) xs) ys))

said_either : (x : Said) (xs ys : List Said) → SaidIn x (xs ++ ys) → SaidIn x xs ⊎ SaidIn x ys
unfolding SaidIn
said_either x [] ys h = inr h
said_either x (y ∷ xs) ys (inl e) = inl (inl e)
said_either x (y ∷ xs) ys (inr h) = elim (said_either x xs ys h) [ inl a ↦ inl (inr a) | inr b ↦ inr b ]

-- Applying the entries ds after es makes the machine of the log that has ds on top of es.
pub applies_all : (n : ℕ) (s : State) (ds es : List Entry) → MadeBy n (machine s) (order es) → ClientsBelow n ds
    → MadeBy n (machine (do_all s (reverse ds))) (order (ds ++ es))
unfolding do_all
applies_all n s [] es a b = a
applies_all n s (d ∷ ds) es a b =
    rw (reverse-cons d ds, do_append s (reverse ds) (d ∷ []))
    (applies_one n (do_all s (reverse ds)) d (ds ++ es) (applies_all n s ds es a b.1) b.0)

-- Whoever is told of them is told what the order says in the end: what comes on top changes no reply.
pub tells_all : (n : ℕ) (l : Limits) (s : State) (ds es : List Entry) → MadeBy n (machine s) (order es) → ClientsBelow n ds
    → (x : Said) → SaidIn x (tell_all l s (reverse ds)) → reply_in (order (ds ++ es)) x.client x.id ≡ x.reply ∷ []
unfolding tell_all SaidIn
tells_all n l s [] es a b x h = elim h [ ]
tells_all n l s (d ∷ ds) es a b x h =
    let made = applies_all n s ds es a b.1 in
    let h' : SaidIn x (tell_all l s (reverse ds) ++ (tell_one l (do_all s (reverse ds)) d ++ [])) =
    rw (reverse-cons d ds, tell_append l s (reverse ds) (d ∷ [])) at h in
    elim (said_either x (tell_all l s (reverse ds)) (tell_one l (do_all s (reverse ds)) d ++ []) h') [
      | inl y ↦ reply_stays (order (d ∷ (ds ++ es))) (order (ds ++ es)) x.client x.id x.reply
          (order_extends (d ∷ []) (ds ++ es)) (order_once (d ∷ (ds ++ es))) (tells_all n l s ds es a b.1 x y)
      | inr y ↦ tells_one n (do_all s (reverse ds)) d (ds ++ es) made b.0 l x (rw append-nil at y)
    ]
