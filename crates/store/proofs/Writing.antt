-- A region as the code writes it: a row, a text of a row, the index.
use Rattle.std.proofs.Common.{◌≡◌, ℕ, suc, ◌+◌, ◌-◌, ◌*◌, ◌<◌, ◌≤◌, List, [], ◌∷◌, ◌++◌, length, get_or, take, drop, set, replicate, sym, ap, ◌∙◌, subst, arith}
use borrow.Rule.Slice.PartMut.{put_mid}
use Rattle.std.proofs.lemmas.List.{append_assoc, drop-drop, drop_at, take_at, length-take-le, length-drop, drop-replicate}
use Rattle.servers.specs.Store.{Item}
use Rattle.texts.specs.Words.{All, Byte, Text, text_words, text_in}
use Rattle.texts.proofs.Cells.{length_text_words, text_back}
use Rattle.texts.proofs.Parts.{take_past}
use Rattle.store.specs.Region.{blank, item, item_words, rows_words, region_of, count, capacity, index_of, rows_of, opened}
use Rattle.store.specs.Region.{replaced_at, inserted_at, numbers, empty_region}
use Rattle.store.specs.Calls.{Held, OfText}
use Rattle.store.proofs.Rows.{row_put, text_put, rows_blank}
use Rattle.store.proofs.Reading.{Nth, RowPlace, nth_is, index_below, held_few}

-- words of a text are words of that text
pub of_text : (n : ℕ) (ws v : List ℕ) → ws ≡ text_words n v → Text (8 * n) v → OfText n ws
of_text n ws v e h =
    let b : text_in ws ≡ v = ap text_in e ∙ text_back n v h in
    record { is = e ∙ ap (text_words n) (sym b); fits = subst (Text (8 * n)) (sym b) h }

pub length_of_text : (n : ℕ) (ws : List ℕ) → OfText n ws → length ws ≡ suc n
length_of_text n ws o = ap length o.is ∙ length_text_words n (text_in ws)

-- how long `&s[a..a + k]` is
pub part_long : (xs : List ℕ) (a k m : ℕ) → m ≡ k → a + k ≤ length xs → length (take m (drop a xs)) ≡ k
part_long xs a k m e h = let d = length-drop a xs in ap (λ (j : ℕ). length (take j (drop a xs))) e ∙ length-take-le k (drop a xs)
    (omega arith)

-- words put behind the index, from a to b
put_tail : (c n a b : ℕ) (is rs us : List ℕ) → length is ≡ n
    → take (2 + n + a) (c ∷ (n ∷ (is ++ rs))) ++ (us ++ drop (2 + n + b) (c ∷ (n ∷ (is ++ rs))))
    ≡ c ∷ (n ∷ (is ++ (take a rs ++ (us ++ drop b rs))))
put_tail c n a b is rs us e =
    let x : 2 + n + a ≡ suc (suc (n + a)) = omega arith in
    let y : 2 + n + b ≡ suc (suc (n + b)) = omega arith in
    let t : take (n + a) (is ++ rs) ≡ is ++ take a rs = take_past is rs n a e in
    let d : drop (n + b) (is ++ rs) ≡ drop b rs = sym (drop-drop b n (is ++ rs)) ∙ ap (drop b) (drop_at is rs n e) in
    rw (x, y, t, d) (ap (λ (ys : List ℕ). c ∷ (n ∷ ys)) (append_assoc is (take a rs) (us ++ drop b rs)))

put_rows : (r : List ℕ) (a b : ℕ) (us : List ℕ) (xs : List Item) → Held r
    → take a (rows_words (rows_of r)) ++ (us ++ drop b (rows_words (rows_of r))) ≡ rows_words xs
    → take (2 + capacity r + a) r ++ (us ++ drop (2 + capacity r + b) r) ≡ region_of (count r) (capacity r) (index_of r) xs
put_rows r a b us xs o e =
    ap (λ (ys : List ℕ). take (2 + capacity r + a) ys ++ (us ++ drop (2 + capacity r + b) ys)) o.whole
    ∙ (put_tail (count r) (capacity r) a b (index_of r) (rows_words (rows_of r)) us o.parts.index
    ∙ ap (λ (ys : List ℕ). count r ∷ (capacity r ∷ (index_of r ++ ys))) e)

-- the row whose number is at p written, and its text alone
pub row_written : (r ws : List ℕ) (p at k : ℕ) (x : Item) → Held r → p < capacity r → at ≡ RowPlace r p → k ≡ 42 → ws ≡ item_words x
    → put_mid at k r ws ≡ region_of (count r) (capacity r) (index_of r) (set (rows_of r) (get_or (index_of r) p 0) x)
row_written r ws p at k x o h e f g =
    let i : ℕ = get_or (index_of r) p 0 in
    let w = o.parts.rows in let b = index_below r p o h in
    let y : at + k ≡ 2 + capacity r + (42 * i + 42) = omega arith in
    ap (λ (ys : List ℕ). take at r ++ (ws ++ ys)) (drop-drop k at r)
    ∙ (ap (λ (j : ℕ). take at r ++ (ws ++ drop j r)) y
    ∙ (ap (λ (j : ℕ). take j r ++ (ws ++ drop (2 + capacity r + (42 * i + 42)) r)) e
    ∙ (ap (λ (us : List ℕ). take (RowPlace r p) r ++ (us ++ drop (2 + capacity r + (42 * i + 42)) r)) g
    ∙ put_rows r (42 * i) (42 * i + 42) (item_words x) (set (rows_of r) i x) o (row_put (rows_of r) i x (omega arith)))))

pub text_written : (r ws v : List ℕ) (p at k : ℕ) → Held r → p < count r → at ≡ RowPlace r p → k ≡ 33 → ws ≡ text_words 32 v
    → put_mid (at + 9) k r ws ≡ replaced_at p (Nth r p).key v r
text_written r ws v p at k o h e f g =
    let i : ℕ = get_or (index_of r) p 0 in
    let w = o.parts.rows in let l = held_few r o in let b = index_below r p o (omega arith) in
    let z : at + 9 ≡ 2 + capacity r + (42 * i + 9) = omega arith in
    let y : at + 9 + k ≡ 2 + capacity r + (42 * i + 42) = omega arith in
    ap (λ (ys : List ℕ). take (at + 9) r ++ (ws ++ ys)) (drop-drop k (at + 9) r)
    ∙ (ap (λ (j : ℕ). take (at + 9) r ++ (ws ++ drop j r)) y
    ∙ (ap (λ (j : ℕ). take j r ++ (ws ++ drop (2 + capacity r + (42 * i + 42)) r)) z
    ∙ (ap (λ (us : List ℕ). take (2 + capacity r + (42 * i + 9)) r ++ (us ++ drop (2 + capacity r + (42 * i + 42)) r)) g
    ∙ (put_rows r (42 * i + 9) (42 * i + 42) (text_words 32 v) (set (rows_of r) i (item (get_or (rows_of r) i blank).key v)) o
    (text_put (rows_of r) i v (omega arith))
    ∙ ap (λ (x : Item). region_of (count r) (capacity r) (index_of r) (set (rows_of r) i (item x.key v))) (sym (nth_is r p o h))))))

-- the index written
index_written : (c n k : ℕ) (is js : List ℕ) (xs : List Item) → length is ≡ n → k ≡ n
    → put_mid 2 k (region_of c n is xs) js ≡ region_of c n js xs
index_written c n k is js xs e f =
    ap (λ (ys : List ℕ). c ∷ (n ∷ (js ++ ys))) (drop_at is (rows_words xs) k (e ∙ sym f))

-- an item in
pub insert_is : (r name text ws js : List ℕ) (p at k m : ℕ) → Held r → count r < capacity r → OfText 8 name → OfText 32 text
    → at ≡ RowPlace r (count r) → k ≡ 42 → m ≡ capacity r → ws ≡ name ++ text
    → js ≡ opened p (count r) (take m (drop 2 (put_mid at k r ws)))
    → set (put_mid 2 m (put_mid at k r ws) js) 0 (count r + 1) ≡ inserted_at p (text_in name) (text_in text) r
insert_is r name text ws js p at k m o h n t e f g w j =
    let x : Item = item (text_in name) (text_in text) in
    let ys : List Item = set (rows_of r) (get_or (index_of r) (count r) 0) x in
    let u : ws ≡ item_words x = w ∙ (ap (λ (a : List ℕ). a ++ text) n.is ∙ ap (λ (b : List ℕ). text_words 8 (text_in name) ++ b)
    t.is) in
    let a = row_written r ws (count r) at k x o h e f u in
    let i : take m (drop 2 (put_mid at k r ws)) ≡ index_of r =
    ap (λ (q : List ℕ). take m (drop 2 q)) a ∙ take_at (index_of r) (rows_words ys) m (o.parts.index ∙ sym g) in
    let s : js ≡ opened p (count r) (index_of r) = j ∙ ap (opened p (count r)) i in
    ap (λ (q : List ℕ). set (put_mid 2 m q js) 0 (count r + 1)) a
    ∙ (ap (λ (q : List ℕ). set q 0 (count r + 1)) (index_written (count r) (capacity r) m (index_of r) js ys o.parts.index g)
    ∙ ap (λ (q : List ℕ). region_of (count r + 1) (capacity r) q ys) s)

-- what a slice of bytes holds
pub all_bytes : (t : List ℕ) → ((i : ℕ) → get_or t i 0 < 256) → All Byte t
all_bytes [] f = tt
all_bytes (x ∷ t) f = (f 0, all_bytes t (λ i. f (suc i)))

-- an empty region, from zeros
pub start_is : (n k : ℕ) (zs js : List ℕ) → zs ≡ replicate (2 + 43 * n) 0 → k ≡ n → js ≡ numbers 0 n
    → put_mid 2 k (set zs 1 n) js ≡ empty_region n
start_is n k zs js e f g =
    let z : 2 + 43 * n ≡ suc (suc (43 * n)) = omega arith in
    let d : 43 * n - k ≡ 42 * n = omega arith in
    ap (λ (ys : List ℕ). put_mid 2 k (set ys 1 n) js) (e ∙ ap (λ (m : ℕ). replicate m 0) z)
    ∙ (ap (λ (ys : List ℕ). 0 ∷ (n ∷ (js ++ ys)))
    (drop-replicate {X = ℕ} k (43 * n) 0 ∙ (ap (λ (m : ℕ). replicate m 0) d ∙ sym (rows_blank n)))
    ∙ ap (λ (is : List ℕ). region_of 0 n is (replicate n blank)) g)
