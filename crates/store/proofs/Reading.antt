-- A region as the code reads it: the index word at p, and the name and the text of the p-th item.
use Rattle.std.proofs.Common.{◌≡◌, ℕ, ◌+◌, ◌*◌, ◌<◌, ◌≤◌, Bool, true, false, ◌&&◌, ltb, List, length, get_or, take, drop, sym, ap, ◌∙◌, subst, ⊎_elim, arith}
use Rattle.std.proofs.lemmas.List.{get_or-take, get_or-drop, drop-drop}
use Rattle.std.proofs.lemmas.Bool.{both_ways, cases_lt, cases_Bool, lt-ltb, le-ltb}
use Rattle.servers.specs.Store.{same_text, less_text, Item, Store}
use Rattle.texts.specs.Words.{Text, text_words, text_in}
use Rattle.texts.specs.Order.{less_words}
use Rattle.texts.proofs.Order.{words_order, words_same}
use Rattle.store.specs.Region.{blank, rows_words, count, capacity, index_of, rows_of, items_of, place, found, GoodItem, Sorted}
use Rattle.store.specs.Calls.{Held, OfText}
use Rattle.store.proofs.Order.{less_trans}
use Rattle.store.proofs.Stores.{place_is, sorted_at, found_at}
use Rattle.store.proofs.Rows.{name_at, text_at, good_at}
use Rattle.store.proofs.Regions.{rows_part, items_count, item_at, row_below, long}

-- a region's length, and that the counts are within
pub held_long : (r : List ℕ) → Held r → length r ≡ 2 + 43 * capacity r
held_long r o = long (capacity r) r o

pub held_few : (r : List ℕ) → Held r → count r ≤ capacity r
held_few r o = o.parts.few

pub rows_tail : (r : List ℕ) → Held r → drop (2 + capacity r) r ≡ rows_words (rows_of r)
rows_tail r o =
    ap (drop (2 + capacity r)) o.whole ∙ rows_part (capacity r) (count r) (index_of r) (rows_of r) o.parts.index

pub index_word : (r : List ℕ) (p : ℕ) → p < capacity r → get_or (index_of r) p 0 ≡ get_or r (2 + p) 0
index_word r p h = get_or-take (capacity r) (drop 2 r) p 0 h ∙ get_or-drop 2 r p 0

pub index_below : (r : List ℕ) (p : ℕ) → Held r → p < capacity r → get_or (index_of r) p 0 < capacity r
index_below r p o h = row_below (capacity r) (count r) (index_of r) (rows_of r) o.parts p h

-- a number in the index, as a word of the region
pub word_below : (r : List ℕ) (p : ℕ) → Held r → p < capacity r → get_or r (2 + p) 0 < capacity r
word_below r p o h = let e = index_word r p h in let b = index_below r p o h in omega arith

-- the p-th item
abbrev pub Nth : List ℕ → ℕ → Item
Nth r p = get_or (items_of r) p blank

abbrev pub RowPlace : List ℕ → ℕ → ℕ
RowPlace r p = 2 + capacity r + 42 * get_or (index_of r) p 0

pub nth_is : (r : List ℕ) (p : ℕ) → Held r → p < count r → Nth r p ≡ get_or (rows_of r) (get_or (index_of r) p 0) blank
nth_is r p o h = item_at (capacity r) (count r) (index_of r) (rows_of r) o.parts p h

pub nth_good : (r : List ℕ) (p : ℕ) → Held r → p < count r → GoodItem (Nth r p)
nth_good r p o h = subst GoodItem (sym (nth_is r p o h)) (good_at (rows_of r) (get_or (index_of r) p 0) o.parts.good)

row_within : (r : List ℕ) (p : ℕ) → Held r → p < count r → get_or (index_of r) p 0 < length (rows_of r)
row_within r p o h = let f = held_few r o in let b = index_below r p o (omega arith) in let w = o.parts.rows in omega arith

pub name_in : (r : List ℕ) (p : ℕ) → Held r → p < count r → take 9 (drop (RowPlace r p) r) ≡ text_words 8 (Nth r p).key
name_in r p o h =
    let i : ℕ = get_or (index_of r) p 0 in
    ap (take 9) (sym (drop-drop (42 * i) (2 + capacity r) r) ∙ ap (drop (42 * i)) (rows_tail r o))
    ∙ (name_at (rows_of r) i (row_within r p o h) ∙ ap (λ (x : Item). text_words 8 x.key) (sym (nth_is r p o h)))

pub text_part : (r : List ℕ) (p a k : ℕ) → Held r → p < count r → a ≡ RowPlace r p + 9 → k ≡ 33
    → take k (drop a r) ≡ text_words 32 (Nth r p).value
text_part r p a k o h e f =
    let i : ℕ = get_or (index_of r) p 0 in
    let g : a ≡ 2 + capacity r + (42 * i + 9) = omega arith in
    rw (f, g)
    (ap (take 33) (sym (drop-drop (42 * i + 9) (2 + capacity r) r) ∙ ap (drop (42 * i + 9)) (rows_tail r o))
    ∙ (text_at (rows_of r) i (row_within r p o h) ∙ ap (λ (x : Item). text_words 32 x.value) (sym (nth_is r p o h))))

-- names compared by their words
pub less_is : (a k ws : List ℕ) → a ≡ text_words 8 k → Text 64 k → OfText 8 ws → less_words a ws ≡ less_text k (text_in ws)
less_is a k ws e g o =
    ap (λ (x : List ℕ). less_words x ws) e
    ∙ (ap (λ (y : List ℕ). less_words (text_words 8 k) y) o.is ∙ sym (words_order 8 k (text_in ws) g o.fits))

pub same_is : (a k ws : List ℕ) → a ≡ text_words 8 k → Text 64 k → OfText 8 ws → same_text a ws ≡ same_text k (text_in ws)
same_is a k ws e g o =
    ap (λ (x : List ℕ). same_text x ws) e
    ∙ (ap (λ (y : List ℕ). same_text (text_words 8 k) y) o.is ∙ sym (words_same 8 k (text_in ws) g o.fits))

-- a half less, in the one way or the other
pub below_mid : (s : Store) (k : List ℕ) (m j : ℕ) → Sorted s → m < length s → j < m + 1 → less_text (get_or s m blank).key k ≡ true
    → less_text (get_or s j blank).key k ≡ true
below_mid s k m j o h l e =
    ⊎_elim (λ (p : j < m). less_trans (get_or s j blank).key (get_or s m blank).key k (sorted_at s j m o p h) e)
    (λ (p : m ≤ j). let q : j ≡ m = omega arith in rw q e) (cases_lt j m)

pub above_mid : (s : Store) (k : List ℕ) (m j : ℕ) → Sorted s → m ≤ j → j < length s → less_text (get_or s m blank).key k ≡ false
    → less_text (get_or s j blank).key k ≡ false
above_mid s k m j o h l e =
    ⊎_elim
    (λ (p : m < j).
    ⊎_elim
    (λ t. absurd (both_ways (less_text (get_or s m blank).key k) e
    (less_trans (get_or s m blank).key (get_or s j blank).key k (sorted_at s m j o p l) t)))
    (λ f. f) (cases_Bool (less_text (get_or s j blank).key k)))
    (λ (p : j ≤ m). let q : j ≡ m = omega arith in rw q e) (cases_lt m j)

pub place_found : (k : List ℕ) (r : List ℕ) (lo : ℕ) → Held r → lo ≤ count r
    → ((j : ℕ) → j < lo → less_text (Nth r j).key k ≡ true) → ((j : ℕ) → lo ≤ j → j < count r → less_text (Nth r j).key k ≡ false)
    → lo ≡ place k (items_of r)
place_found k r lo o h f g =
    let m = items_count (capacity r) r o in
    sym (place_is k (items_of r) lo (omega arith) f (λ l. g lo (omega arith) (omega arith))).0

-- whether it is there, by the item at its place
spot_there : (k r : List ℕ) (p : ℕ) → Held r → p ≡ place k (items_of r)
    → found k (items_of r) ≡ (ltb p (count r) && same_text (Nth r p).key k)
spot_there k r p o e =
    found_at k (items_of r)
    ∙ (ap (λ (n : ℕ). ltb (place k (items_of r)) n && same_text (Nth r (place k (items_of r))).key k) (items_count (capacity r) r o)
    ∙ ap (λ (q : ℕ). ltb q (count r) && same_text (Nth r q).key k) (sym e))

pub spot_here : (k r : List ℕ) (p : ℕ) → Held r → p ≡ place k (items_of r) → p < count r → found k (items_of r) ≡ same_text (Nth r p).key k
spot_here k r p o e h =
    spot_there k r p o e ∙ ap (λ (t : Bool). t && same_text (Nth r p).key k) (lt-ltb p (count r) h)

pub spot_past : (k r : List ℕ) (p : ℕ) → Held r → p ≡ place k (items_of r) → count r ≤ p → found k (items_of r) ≡ false
spot_past k r p o e h =
    spot_there k r p o e ∙ ap (λ (t : Bool). t && same_text (Nth r p).key k) (le-ltb p (count r) h)
