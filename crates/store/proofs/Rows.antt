-- The rows of items: each at its place, read back, and one of them written.
use Rattle.std.proofs.Common.{◌≡◌, ℕ, zero, suc, ◌+◌, ◌-◌, ◌*◌, ◌<◌, ◌≤◌, List, [], ◌∷◌, ◌++◌, length, get_or, take, drop, set, replicate, sym, refl, ap, ◌∙◌, arith}
use Rattle.std.proofs.lemmas.List.{append_assoc, length-append, length-take-le, take_at, take_all, drop_at, drop-drop, drop_more, take-append-drop, set_split, replicate-append-replicate}
use Rattle.servers.specs.Store.{Item}
use Rattle.texts.specs.Words.{All, word, text_words, text_in}
use Rattle.texts.proofs.Cells.{length_text_words, cells_nil, text_back, text_fits}
use Rattle.store.specs.Region.{blank, item, item_words, item_in, rows_words, rows_in, GoodItem}

pub all_append : {A : Type 0} (P : A → Type 0) (xs ys : List A) → All P xs → All P ys → All P (xs ++ ys)
all_append P [] ys a b = b
all_append P (x ∷ xs) ys a b = (a.0, all_append P xs ys a.1 b)

pub length_item_words : (x : Item) → length (item_words x) ≡ 42
length_item_words x =
    let a = length-append (text_words 8 x.key) (text_words 32 x.value) in
    let b = length_text_words 8 x.key in let c = length_text_words 32 x.value in omega arith

pub length_rows_words : (xs : List Item) → length (rows_words xs) ≡ 42 * length xs
unfolding rows_words
length_rows_words [] = refl
length_rows_words (x ∷ xs) =
    let a = length-append (item_words x) (rows_words xs) in
    let b = length_item_words x in let c = length_rows_words xs in omega arith

pub length_rows_in : (n : ℕ) (ws : List ℕ) → length (rows_in n ws) ≡ n
unfolding rows_in
length_rows_in zero ws = refl
length_rows_in (suc n) ws = ap suc (length_rows_in n (drop 42 ws))

-- what is written is read back
item_back : (x : Item) → GoodItem x → item_in (item_words x) ≡ x
item_back x g =
    at (text_words 8 x.key) (text_words 32 x.value) (length_text_words 8 x.key) (length_text_words 32 x.value)
    (text_back 8 x.key g.0) (text_back 32 x.value g.1)
  where
    at : (us vs : List ℕ) → length us ≡ 9 → length vs ≡ 33 → text_in us ≡ x.key → text_in vs ≡ x.value → item_in (us ++ vs) ≡ x
    at us vs l m e f =
        let a : take 9 (us ++ vs) ≡ us = take_at us vs 9 l in
        let b : drop 9 (us ++ vs) ≡ vs = drop_at us vs 9 l in
        let d : take 33 vs ≡ vs = take_all 33 vs (omega arith) in
        rw (a, b, d, e, f) refl

pub rows_back : (xs : List Item) → All GoodItem xs → rows_in (length xs) (rows_words xs) ≡ xs
unfolding rows_words rows_in
rows_back [] g = refl
rows_back (x ∷ xs) g =
    at (item_words x) (rows_words xs) (length_item_words x) (item_back x g.0) (rows_back xs g.1)
  where
    at : (us vs : List ℕ) → length us ≡ 42 → item_in us ≡ x → rows_in (length xs) vs ≡ xs
        → item_in (take 42 (us ++ vs)) ∷ rows_in (length xs) (drop 42 (us ++ vs)) ≡ x ∷ xs
    at us vs l e f = rw (take_at us vs 42 l, drop_at us vs 42 l, e, f) refl

-- each is a word
pub rows_fit : (xs : List Item) → All GoodItem xs → All (λ w. w < word) (rows_words xs)
unfolding rows_words
rows_fit [] g = tt
rows_fit (x ∷ xs) g =
    let k = g.0.0.0 in let v = g.0.1.0 in
    all_append (λ w. w < word) (item_words x) (rows_words xs)
    (all_append (λ w. w < word) (text_words 8 x.key) (text_words 32 x.value)
    (text_fits 8 x.key g.0.0 (omega arith)) (text_fits 32 x.value g.0.1 (omega arith)))
    (rows_fit xs g.1)

-- rows of nothing are zeros
pub rows_blank : (n : ℕ) → rows_words (replicate n blank) ≡ replicate (42 * n) 0
unfolding rows_words
rows_blank zero = refl
rows_blank (suc n) =
    let m : 42 * suc n ≡ 42 + 42 * n = omega arith in
    rw m (blanks (item_words blank) (rows_words (replicate n blank)) one (rows_blank n))
  where
    one : item_words blank ≡ replicate 42 0
    one = rw (cells_nil 8, cells_nil 32) refl

    blanks : (us vs : List ℕ) → us ≡ replicate 42 0 → vs ≡ replicate (42 * n) 0 → us ++ vs ≡ replicate (42 + 42 * n) 0
    blanks us vs e f = rw (e, f) (replicate-append-replicate {A = ℕ} 42 (42 * n) 0)

pub good_blanks : (n : ℕ) → All GoodItem (replicate n blank)
good_blanks zero = tt
good_blanks (suc n) = (((omega arith, tt), (omega arith, tt)), good_blanks n)

pub good_set : (xs : List Item) (i : ℕ) (x : Item) → GoodItem x → All GoodItem xs → All GoodItem (set xs i x)
good_set [] i x g a = tt
good_set (y ∷ xs) zero x g a = (g, a.1)
good_set (y ∷ xs) (suc i) x g a = (a.0, good_set xs i x g a.1)

pub good_at : (xs : List Item) (i : ℕ) → All GoodItem xs → GoodItem (get_or xs i blank)
good_at [] i a = ((omega arith, tt), (omega arith, tt))
good_at (y ∷ xs) zero a = a.0
good_at (y ∷ xs) (suc i) a = good_at xs i a.1

pub rows_append : (xs ys : List Item) → rows_words (xs ++ ys) ≡ rows_words xs ++ rows_words ys
unfolding rows_words
rows_append [] ys = refl
rows_append (x ∷ xs) ys =
    ap (λ (ws : List ℕ). item_words x ++ ws) (rows_append xs ys) ∙ sym (append_assoc (item_words x) (rows_words xs) (rows_words ys))

-- the rows before row i, row i, and the rows after it
pub rows_split : (xs : List Item) (i : ℕ) → i < length xs
    → rows_words xs ≡ rows_words (take i xs) ++ (item_words (get_or xs i blank) ++ rows_words (drop (i + 1) xs))
unfolding rows_words
rows_split xs i h =
    ap rows_words (sym (take-append-drop i xs) ∙ ap (λ (ys : List Item). take i xs ++ ys) (drop_more xs i blank h))
    ∙ rows_append (take i xs) (get_or xs i blank ∷ drop (i + 1) xs)

rows_set : (xs : List Item) (i : ℕ) (x : Item) → i < length xs
    → rows_words (set xs i x) ≡ rows_words (take i xs) ++ (item_words x ++ rows_words (drop (i + 1) xs))
unfolding rows_words
rows_set xs i x h =
    let z : suc i ≡ i + 1 = omega arith in
    ap rows_words (set_split xs i x h ∙ ap (λ (n : ℕ). take i xs ++ (x ∷ drop n xs)) z) ∙ rows_append (take i xs) (x ∷ drop (i + 1) xs)

length_front : (xs : List Item) (i : ℕ) → i < length xs → length (rows_words (take i xs)) ≡ 42 * i
length_front xs i h = let a = length_rows_words (take i xs) in let b = length-take-le i xs (omega arith) in omega arith

-- a part of a list in three parts
mid_of : (ps ms qs : List ℕ) (a k : ℕ) → length ps ≡ a → length ms ≡ k → take k (drop a (ps ++ (ms ++ qs))) ≡ ms
mid_of ps ms qs a k l m = rw (drop_at ps (ms ++ qs) a l) (take_at ms qs k m)

put_of : (ps ms qs us : List ℕ) (a b : ℕ) → length ps ≡ a → length ms ≡ b - a → a ≤ b
    → take a (ps ++ (ms ++ qs)) ++ (us ++ drop b (ps ++ (ms ++ qs))) ≡ ps ++ (us ++ qs)
put_of ps ms qs us a b l m h =
    let e : a + (b - a) ≡ b = omega arith in
    let d : drop b (ps ++ (ms ++ qs)) ≡ qs =
    ap (λ (k : ℕ). drop k (ps ++ (ms ++ qs))) (sym e)
    ∙ (sym (drop-drop (b - a) a (ps ++ (ms ++ qs))) ∙ rw (drop_at ps (ms ++ qs) a l) (drop_at ms qs (b - a) m)) in
    rw (take_at ps (ms ++ qs) a l, d) refl

-- row i, its name and its text
pub row_at : (xs : List Item) (i : ℕ) → i < length xs → take 42 (drop (42 * i) (rows_words xs)) ≡ item_words (get_or xs i blank)
row_at xs i h =
    ap (λ (ws : List ℕ). take 42 (drop (42 * i) ws)) (rows_split xs i h)
    ∙ mid_of (rows_words (take i xs)) (item_words (get_or xs i blank)) (rows_words (drop (i + 1) xs)) (42 * i) 42 (length_front xs i h)
    (length_item_words (get_or xs i blank))

regroup : (a b c d : List ℕ) → a ++ ((b ++ c) ++ d) ≡ (a ++ b) ++ (c ++ d)
regroup a b c d = simp append_assoc

pub name_at : (xs : List Item) (i : ℕ) → i < length xs → take 9 (drop (42 * i) (rows_words xs)) ≡ text_words 8 (get_or xs i blank).key
name_at xs i h =
    let k : List ℕ = text_words 8 (get_or xs i blank).key in
    let v : List ℕ = text_words 32 (get_or xs i blank).value in
    ap (λ (ws : List ℕ). take 9 (drop (42 * i) ws))
    (rows_split xs i h ∙ ap (λ (ws : List ℕ). rows_words (take i xs) ++ ws) (append_assoc k v (rows_words (drop (i + 1) xs))))
    ∙ mid_of (rows_words (take i xs)) k (v ++ rows_words (drop (i + 1) xs)) (42 * i) 9 (length_front xs i h)
    (length_text_words 8 (get_or xs i blank).key)

pub text_at : (xs : List Item) (i : ℕ) → i < length xs
    → take 33 (drop (42 * i + 9) (rows_words xs)) ≡ text_words 32 (get_or xs i blank).value
text_at xs i h =
    let p : List ℕ = rows_words (take i xs) in
    let k : List ℕ = text_words 8 (get_or xs i blank).key in
    let v : List ℕ = text_words 32 (get_or xs i blank).value in
    let a = length-append p k in let b = length_front xs i h in let c = length_text_words 8 (get_or xs i blank).key in
    ap (λ (ws : List ℕ). take 33 (drop (42 * i + 9) ws)) (rows_split xs i h ∙ regroup p k v (rows_words (drop (i + 1) xs)))
    ∙ mid_of (p ++ k) v (rows_words (drop (i + 1) xs)) (42 * i + 9) 33 (omega arith) (length_text_words 32 (get_or xs i blank).value)

-- row i written, and its text alone
pub row_put : (xs : List Item) (i : ℕ) (x : Item) → i < length xs
    → take (42 * i) (rows_words xs) ++ (item_words x ++ drop (42 * i + 42) (rows_words xs)) ≡ rows_words (set xs i x)
row_put xs i x h =
    let a = length_item_words (get_or xs i blank) in
    ap (λ (ws : List ℕ). take (42 * i) ws ++ (item_words x ++ drop (42 * i + 42) ws)) (rows_split xs i h)
    ∙ (put_of (rows_words (take i xs)) (item_words (get_or xs i blank)) (rows_words (drop (i + 1) xs)) (item_words x) (42 * i) (42 * i + 42)
    (length_front xs i h) (omega arith) (omega arith)
    ∙ sym (rows_set xs i x h))

pub text_put : (xs : List Item) (i : ℕ) (v : List ℕ) → i < length xs
    → take (42 * i + 9) (rows_words xs) ++ (text_words 32 v ++ drop (42 * i + 42) (rows_words xs))
    ≡ rows_words (set xs i (item (get_or xs i blank).key v))
text_put xs i v h =
    let p : List ℕ = rows_words (take i xs) in
    let q : List ℕ = rows_words (drop (i + 1) xs) in
    let k : List ℕ = text_words 8 (get_or xs i blank).key in
    let o : List ℕ = text_words 32 (get_or xs i blank).value in
    let u : List ℕ = text_words 32 v in
    let a = length-append p k in let b = length_front xs i h in let c = length_text_words 8 (get_or xs i blank).key in
    let d = length_text_words 32 (get_or xs i blank).value in
    ap (λ (ws : List ℕ). take (42 * i + 9) ws ++ (u ++ drop (42 * i + 42) ws)) (rows_split xs i h ∙ regroup p k o q)
    ∙ (put_of (p ++ k) o q u (42 * i + 9) (42 * i + 42) (omega arith) (omega arith) (omega arith)
    ∙ (sym (regroup p k u q) ∙ sym (rows_set xs i (item (get_or xs i blank).key v) h)))
