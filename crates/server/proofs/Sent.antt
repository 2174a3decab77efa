-- Letters one after the other: how many bytes, and the promise of who writes them.
use Rattle.std.proofs.Common.{◌≡◌, ℕ, ◌+◌, Bool, true, false, List, [], ◌∷◌, ◌++◌, length, sym, refl, ap, ◌∙◌}
use Rattle.std.proofs.lemmas.List.{append_assoc, append-nil, length-append}
use Rattle.servers.specs.Server.{Letter, Message, vote, appended}
use Rattle.wire.specs.Write.{write_letter, write_letters, write_number}
use Rattle.wire_write.specs.Put.{Room, Wrote}
use Rattle.wire_write.specs.declared.writer.Writer.{Writer}
use Rattle.wire_write.proofs.Putting.{wrote_as, wrote_none, wrote_then}
use Rattle.sending.specs.Letters.{post}

pub letters_append : (xs ys : List Letter) → write_letters (xs ++ ys) ≡ write_letters xs ++ write_letters ys
unfolding write_letters
letters_append [] ys = refl
letters_append (x ∷ xs) ys = rw (letters_append xs ys) (sym (append_assoc (write_letter x) (write_letters xs) (write_letters ys)))

pub length_letters : (xs ys : List Letter) → length (write_letters (xs ++ ys)) ≡ length (write_letters xs) + length (write_letters ys)
length_letters xs ys = ap length (letters_append xs ys) ∙ length-append (write_letters xs) (write_letters ys)

-- one letter, and none
pub letters_one : (h : ℕ) (m : Message) → write_letters (record { to = h; message = m } ∷ []) ≡ post h m
unfolding write_letters
letters_one h m = append-nil (post h m)

pub letters_none : (v : Writer) → Room 0 v → Wrote (write_letters []) v v
unfolding write_letters
letters_none v h = wrote_none v h

pub length_vote : (h t : ℕ) (ok : Bool) → length (write_letters (record { to = h; message = vote t ok } ∷ [])) ≡ 19
unfolding write_letters write_number
length_vote h t true = refl
length_vote h t false = refl

pub length_reply : (h t i : ℕ) (ok : Bool) → length (write_letters (record { to = h; message = appended t i ok } ∷ [])) ≡ 27
unfolding write_letters write_number
length_reply h t i true = refl
length_reply h t i false = refl

-- the number of letters, those that go first, and the others
pub all_sent :
    {k : ℕ} {t u v w : Writer} (ls es : List Letter) → k ≡ length (ls ++ es) → Wrote (write_number k) t u → Wrote (write_letters ls) u v
    → Wrote (write_letters es) v w → Wrote (write_number (length (ls ++ es)) ++ write_letters (ls ++ es)) t w
all_sent ls es e a b c =
    wrote_as (ap (λ (n : ℕ). write_number n ++ write_letters (ls ++ es)) e)
    (wrote_then a (wrote_as (sym (letters_append ls es)) (wrote_then b c)))
