-- AN ORDER: commands done one after the other by nobody but one, the last first. Nothing here knows of logs or servers.
-- In an order that has each command once, commands that come on top change no reply and overtake nothing.
use Rattle.std.proofs.Common.{◌≡◌, ℕ, Bool, true, false, not, ◌&&◌, ◌||◌, eqb, ◌⊎◌, List, [], ◌∷◌, ◌++◌, sym, refl, ap, ◌∙◌, inl, inr, arith}
use Rattle.servers.specs.Store.{pick, Command, Reply, reply}
use Rattle.servers.specs.World.{Asked, store_after, reply_in, there, each_once, earlier}
use Rattle.std.proofs.lemmas.Bool.{cases_Bool, and_parts, false≢true, both_ways, not-true, or_cases, or_right, eqb-true}
use Rattle.std.proofs.lemmas.Bool.Decides.{nat_tests}
use Rattle.servers.proofs.Tests.{bool_by}
use Rattle.one_order.specs.Order.{Extends}

-- whether this is client c's command k
abbrev pub is : Asked → ℕ → ℕ → Bool
is o c k = eqb c o.client && eqb k o.id

pub is_same : (o : Asked) (c k : ℕ) → is o c k ≡ true → (c ≡ o.client) × (k ≡ o.id)
is_same o c k q =
    let p = and_parts (eqb c o.client) (eqb k o.id) q in (eqb-true c o.client p.0, eqb-true k o.id p.1)

there_append : (more os : List Asked) (c k : ℕ) → there (more ++ os) c k ≡ (there more c k || there os c k)
unfolding there
there_append [] os c k = refl
there_append (o ∷ more) os c k = rw (there_append more os c k) (grind (arith, nat_tests))

there_below : (more os : List Asked) (c k : ℕ) → there os c k ≡ true → there (more ++ os) c k ≡ true
there_below more os c k t = there_append more os c k ∙ or_right (there more c k) (there os c k) t

-- REPLIES

-- who has a reply in an order stands in it
pub replied_there : (os : List Asked) (c k : ℕ) (r : Reply) → reply_in os c k ≡ r ∷ [] → there os c k ≡ true
unfolding reply_in there
replied_there [] c k r = λ q. let z : ◌≡◌ {A = ℕ} 0 1 = cc in absurd (omega arith)
replied_there (o ∷ os) c k r =
    bool_by (λ z. pick z (reply o.command (store_after os) ∷ []) (reply_in os c k) ≡ r ∷ [] → (z || there os c k) ≡ true) (is o c k)
    (λ p q. refl) (λ p q. replied_there os c k r q)

-- in an order that has each command once, what stands below doesn't stand on top again
once_apart : (more os : List Asked) (c k : ℕ) → each_once (more ++ os) ≡ true → there os c k ≡ true → there more c k ≡ false
unfolding each_once there
once_apart [] os c k o t = refl
once_apart (x ∷ more) os c k o t =
    let p = and_parts (not (there (more ++ os) x.client x.id)) (each_once (more ++ os)) o in
    bool_by (λ z. is x c k ≡ z → (z || there more c k) ≡ false) (is x c k)
    (λ y q. absurd (twice (is_same x c k y) (not-true _ p.0))) (λ y q. once_apart more os c k p.1 t) refl
  where
    twice : (c ≡ x.client) × (k ≡ x.id) → there (more ++ os) x.client x.id ≡ false → ⊥
    twice same h =
        let e : there (more ++ os) c k ≡ false = rw (same.0, same.1) h in both_ways _ e (there_below more os c k t)

reply_below : (more os : List Asked) (c k : ℕ) → there more c k ≡ false → reply_in (more ++ os) c k ≡ reply_in os c k
unfolding there reply_in
reply_below [] os c k = λ h. refl
reply_below (o ∷ more) os c k =
    bool_by
    (λ z. (z || there more c k) ≡ false
    → pick z (reply o.command (store_after (more ++ os)) ∷ []) (reply_in (more ++ os) c k) ≡ reply_in os c k) (is o c k)
    (λ q h. absurd (both_ways _ h refl)) (λ q h. reply_below more os c k h)

-- Commands on top change no reply.
pub reply_stays : (big small : List Asked) (c k : ℕ) (r : Reply) → Extends big small → each_once big ≡ true
    → reply_in small c k ≡ r ∷ [] → reply_in big c k ≡ r ∷ []
reply_stays big small c k r (more, e) once q =
    let once' : each_once (more ++ small) ≡ true = rw e at once in
    rw e (reply_below more small c k (once_apart more small c k once' (replied_there small c k r q)) ∙ q)

-- WHICH COMES FIRST

earlier_on_top : (more os : List Asked) (c k d j : ℕ) → there os c k ≡ true → there more d j ≡ true
    → earlier (more ++ os) c k d j ≡ true
unfolding there earlier
earlier_on_top [] os c k d j t = λ h. absurd (false≢true h)
earlier_on_top (o ∷ more) os c k d j t =
    bool_by (λ z. (z || there more d j) ≡ true → pick z (there (more ++ os) c k) (earlier (more ++ os) c k d j) ≡ true) (is o d j)
    (λ q h. there_below more os c k t) (λ q h. earlier_on_top more os c k d j t h)

-- Commands on top overtake nothing: what wasn't there comes later than what was.
pub new_is_later : (big small : List Asked) (c k d j : ℕ) → Extends big small → there small c k ≡ true
    → there small d j ≡ false → there big d j ≡ true → earlier big c k d j ≡ true
new_is_later big small c k d j (more, e) t not_there h =
    let h' : (there more d j || there small d j) ≡ true = sym (there_append more small d j) ∙ (rw e at h) in
    rw e
    (earlier_on_top more small c k d j t (elim (or_cases _ _ h') [ inl y ↦ y | inr y ↦ absurd (both_ways _ not_there y) ]))

-- where a command stands that comes after another: what stands below it, and what it is told
pub record Stands (os : List Asked) (c k d j : ℕ) : Type 0 where
  pub command : Command
  pub since : List Asked
  pub so_far : List Asked
  pub at : os ≡ since ++ (record { client = d; id = j; command = command } ∷ so_far)
  pub seen : there so_far c k ≡ true
  pub told : reply_in os d j ≡ reply command (store_after so_far) ∷ []

pub stands_after : (os : List Asked) (c k d j : ℕ) → earlier os c k d j ≡ true → Stands os c k d j
unfolding earlier reply_in
stands_after [] c k d j h = absurd (false≢true h)
stands_after (o ∷ os) c k d j h = go (cases_Bool (is o d j)) (stands_after os c k d j) h
  where
    go : (is o d j ≡ true) ⊎ (is o d j ≡ false) → (earlier os c k d j ≡ true → Stands os c k d j)
        → pick (is o d j) (there os c k) (earlier os c k d j) ≡ true → Stands (o ∷ os) c k d j
    go (inl q) ih h =
        let same = is_same o d j q in
        record {
          command = o.command;
          since = [];
          so_far = os;
          at = rw (same.0, same.1);
          seen = rw q at h;
          told = rw q;
        }
    go (inr q) ih h =
        let s = ih (rw q at h) in
        record {
          command = s.command;
          since = o ∷ s.since;
          so_far = s.so_far;
          at = ap (λ y. o ∷ y) s.at;
          seen = s.seen;
          told = rw q s.told;
        }
