-- The commands, from what their steps leave.
use Rattle.std.proofs.Common.{◌≡◌, ℕ, ◌<◌, ◌≤◌, Bool, true, false, List, [], ◌∷◌, Ok, Err, Result, MatchResult, IfOk, length, sym, refl, ap, ◌∙◌, subst, arith}
use Rattle.servers.specs.Store.{same_text, same_perhaps, Perhaps, Command, get, put, remove, swap, drop_if, Reply, look, reply}
use Rattle.texts.specs.Words.{Text, PerhapsText, perhaps_words}
use Rattle.texts.proofs.Cells.{length_perhaps_words}
use Rattle.texts.proofs.Order.{perhaps_same}
use Rattle.store.specs.Region.{count, capacity, items_of, place, found, replaced_at, inserted_at, removed_at, region_put}
use Rattle.store.specs.Region.{region_remove, region_do, RegionOk}
use Rattle.store.specs.Calls.{Held, SpotOf, Does, text_there}
use Rattle.servers.proofs.Tests.{pick_by, pick_true, pick_false}
use Rattle.store.proofs.Stores.{look_place, place_within, found_within}
use Rattle.store.proofs.Regions.{items_count, holds_put, holds_remove}
use Rattle.store.proofs.Reading.{Nth, nth_good}

-- a spot is within
pub spot_in : (k r : List ℕ) (p : ℕ) → Held r → SpotOf k r (Ok p) → p < count r
spot_in k r p o q =
    let m = items_count (capacity r) r o in let e = q.0 in let w = (found_within k (items_of r) q.1).0 in omega arith

pub spot_most : (k r : List ℕ) (p : ℕ) → Held r → SpotOf k r (Err p) → p ≤ count r
spot_most k r p o q =
    let m = items_count (capacity r) r o in let e = q.0 in let w = place_within k (items_of r) in omega arith

pub spot_within : (k r : List ℕ) (s : Result ℕ ℕ) → Held r → SpotOf k r s → IfOk s (λ p. p < count r)
spot_within k r (Ok p) o q = spot_in k r p o q
spot_within k r (Err p) o q = tt

spot_key : (k r : List ℕ) (p : ℕ) → SpotOf k r (Ok p) → (Nth r p).key ≡ k
spot_key k r p q = ap (λ (j : ℕ). (Nth r j).key) q.0 ∙ (found_within k (items_of r) q.1).1

-- what is there is what is looked up
pub spot_look : (k r : List ℕ) (s : Result ℕ ℕ) → Held r → SpotOf k r s → text_there s (items_of r) ≡ look k (items_of r)
spot_look k r (Ok p) o q =
    ap (λ (j : ℕ). text_there (Ok j) (items_of r)) q.0
    ∙ sym (look_place k (items_of r) o.parts.sorted ∙ pick_true (found k (items_of r)) _ _ q.1)
spot_look k r (Err p) o q = sym (look_place k (items_of r) o.parts.sorted ∙ pick_false (found k (items_of r)) _ _ q.1)

pub look_good : (k r : List ℕ) → Held r → PerhapsText 256 (look k (items_of r))
look_good k r o =
    let m = items_count (capacity r) r o in
    subst (PerhapsText 256) (sym (look_place k (items_of r) o.parts.sorted))
    (pick_by (PerhapsText 256) (found k (items_of r)) ((Nth r (place k (items_of r))).value ∷ []) []
    (λ t. let w = (found_within k (items_of r) t).0 in ((nth_good r (place k (items_of r)) o (omega arith)).1, refl)) (λ t. tt))

-- a name put in, and a name taken out
pub replaced_put : (k v r : List ℕ) (p : ℕ) → SpotOf k r (Ok p) → replaced_at p (Nth r p).key v r ≡ region_put k v r
unfolding region_put
replaced_put k v r p q =
    ap (λ (a : List ℕ). replaced_at p a v r) (spot_key k r p q)
    ∙ (ap (λ (j : ℕ). replaced_at j k v r) q.0 ∙ sym (pick_true (found k (items_of r)) _ _ q.1))

pub inserted_put : (k v r : List ℕ) (p : ℕ) → SpotOf k r (Err p) → inserted_at p k v r ≡ region_put k v r
unfolding region_put
inserted_put k v r p q = ap (λ (j : ℕ). inserted_at j k v r) q.0 ∙ sym (pick_false (found k (items_of r)) _ _ q.1)

-- for a text put at a spot
pub ruleset put_parts = (spot_most, spot_in, replaced_put, inserted_put)

pub removed_do : (k r r' : List ℕ) (s : Result ℕ ℕ) → SpotOf k r s → MatchResult s (λ p. r' ≡ removed_at p r) (λ p. r' ≡ r)
    → r' ≡ region_remove k r
unfolding region_remove
removed_do k r r' (Ok p) q e = e ∙ (ap (λ (j : ℕ). removed_at j r) q.0 ∙ sym (pick_true (found k (items_of r)) _ _ q.1))
removed_do k r r' (Err p) q e = e ∙ sym (pick_false (found k (items_of r)) _ _ q.1)

-- what is told of a name
abbrev pub Told : List ℕ → List ℕ → List ℕ → Type 0
Told k r b = b ≡ perhaps_words 32 (look k (items_of r))

pub length_told : (p : Perhaps) (ws : List ℕ) → ws ≡ perhaps_words 32 p → length ws ≡ 33
length_told p ws e = ap length e ∙ length_perhaps_words 32 p

-- compared with a text or none by words
pub tested : (k r b ws : List ℕ) (x : Perhaps) (t : Bool) → Held r → Told k r b → ws ≡ perhaps_words 32 x → PerhapsText 256 x
    → t ≡ same_text b ws
    → same_perhaps (look k (items_of r)) x ≡ t
tested k r b ws x t o e f g h =
    sym (h ∙ (ap (λ (ys : List ℕ). same_text ys ws) e
    ∙ (ap (λ (ys : List ℕ). same_text (perhaps_words 32 (look k (items_of r))) ys) f
    ∙ sym (perhaps_same 32 (look k (items_of r)) x (look_good k r o) g))))

-- what is a region with the room of r stays one
abbrev Kept : List ℕ → List ℕ → Type 0
Kept r r' = Held r' × (capacity r' ≡ capacity r)

kept : (r r' q : List ℕ) → r' ≡ q → RegionOk (capacity r) q → Kept r r'
kept r r' q e o =
    subst (Kept r) (sym e) (subst (λ (n : ℕ). RegionOk n q) (sym o.room) o, o.room)

-- each command, from what was told before it
pub did_get : (k r b : List ℕ) → Held r → Told k r b → Does (get k) r r b b
unfolding region_do reply
did_get k r b o e = record { region = refl; held = o; room = refl; after = e; before = e }

pub did_put : (k v r r' a b : List ℕ) → Held r → Text 64 k → Text 256 v → length (items_of r) < capacity r → Told k r b
    → r' ≡ region_put k v r → a ≡ perhaps_words 32 (v ∷ []) → Does (put k v) r r' a b
unfolding region_do reply
did_put k v r r' a b o g h l e f z =
    let m = items_count (capacity r) r o in
    let q = kept r r' (region_put k v r) f (holds_put (capacity r) r k v o g h (omega arith)).0 in
    record { region = f; held = q.0; room = q.1; after = z; before = e }

pub did_remove : (k r r' a b : List ℕ) (s : Result ℕ ℕ) → Held r → SpotOf k r s → Told k r b
    → MatchResult s (λ p. r' ≡ removed_at p r) (λ p. r' ≡ r) → a ≡ perhaps_words 32 [] → Does (remove k) r r' a b
unfolding region_do reply
did_remove k r r' a b s o p e f z =
    let g = removed_do k r r' s p f in
    let q = kept r r' (region_remove k r) g (holds_remove (capacity r) r k o).0 in
    record { region = g; held = q.0; room = q.1; after = z; before = e }

-- one command does what another does
does_as : (x y : Command) (r r' a b : List ℕ) → region_do x r ≡ region_do y r → reply x (items_of r) ≡ reply y (items_of r)
    → Does x r r' a b → Does y r r' a b
does_as x y r r' a b e f d =
    record {
      region = d.region ∙ e;
      held = d.held;
      room = d.room;
      after = d.after ∙ ap (λ (q : Reply). perhaps_words 32 q.now) f;
      before = d.before ∙ ap (λ (q : Reply). perhaps_words 32 q.old) f;
    }

pub swap_puts : (k v r r' a b : List ℕ) (x : Perhaps) → same_perhaps (look k (items_of r)) x ≡ true → Does (put k v) r r' a b
    → Does (swap k x v) r r' a b
unfolding region_do reply
swap_puts k v r r' a b x t = does_as (put k v) (swap k x v) r r' a b (rw t refl) (rw t refl)

pub swap_gets : (k v r r' a b : List ℕ) (x : Perhaps) → same_perhaps (look k (items_of r)) x ≡ false → Does (get k) r r' a b
    → Does (swap k x v) r r' a b
unfolding region_do reply
swap_gets k v r r' a b x t = does_as (get k) (swap k x v) r r' a b (rw t refl) (rw t refl)

pub drop_removes : (k v r r' a b : List ℕ) → same_perhaps (look k (items_of r)) (v ∷ []) ≡ true → Does (remove k) r r' a b
    → Does (drop_if k v) r r' a b
unfolding region_do reply
drop_removes k v r r' a b t = does_as (remove k) (drop_if k v) r r' a b (rw t refl) (rw t refl)

pub drop_gets : (k v r r' a b : List ℕ) → same_perhaps (look k (items_of r)) (v ∷ []) ≡ false → Does (get k) r r' a b
    → Does (drop_if k v) r r' a b
unfolding region_do reply
drop_gets k v r r' a b t = does_as (get k) (drop_if k v) r r' a b (rw t refl) (rw t refl)
