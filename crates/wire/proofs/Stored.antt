-- What commands leave in the store and in replies: texts of bytes, none longer than 256.
use Rattle.std.proofs.Common.{◌≡◌, ℕ, ◌≤◌, true, List, [], ◌∷◌, length, refl, arith}
use Rattle.std.specs.List.{AllByRecursion as All}
use Rattle.std.proofs.lemmas.Bool.{and_parts, leb-true, lt-ltb}
use Rattle.std.proofs.lemmas.Bool.Decides.{nat_tests}
use Rattle.servers.specs.Store.{Perhaps, Command, get, put, remove, swap, drop_if, Reply, Store, same_text, less_text, same_perhaps}
use Rattle.servers.specs.Store.{look, with_item, without_item, done, reply}
use Rattle.servers.specs.Server.{short, all_short}
use Rattle.servers.specs.Promise.{bytes, fine}
use Rattle.wire.specs.Codec.{sized_perhaps, sized_command}
use Rattle.servers.proofs.Tests.{pick_by}
use Rattle.wire.proofs.Commands.{GoodCommand}
use Rattle.wire.proofs.Writable.{good_command}

-- what is short has a length that eight bytes can say
short_perhaps : (e : Perhaps) → all_short 256 e ≡ true → sized_perhaps e ≡ true
unfolding all_short
short_perhaps [] q = refl
short_perhaps (t ∷ ts) q =
    let l = leb-true (length t) 256 (and_parts _ _ (and_parts _ _ q).0).0 in lt-ltb (length t) 18446744073709551616 (omega arith)

short_sized : (x : Command) → short x ≡ true → sized_command x ≡ true
short_sized (get k) q = grind (arith, nat_tests)
short_sized (put k v) q = grind (arith, nat_tests)
short_sized (remove k) q = grind (arith, nat_tests)
short_sized (swap k e v) q = let p = short_perhaps e in grind (arith, nat_tests)
short_sized (drop_if k v) q = grind (arith, nat_tests)

pub short_command : (x : Command) → fine x ≡ true → short x ≡ true → GoodCommand x
short_command x f q = good_command x f (short_sized x q)

abbrev pub Value : List ℕ → Type 0
Value t = (bytes t ≡ true) × (length t ≤ 256)

abbrev pub Small : Perhaps → Type 0
Small [] = Unit {0}
Small (t ∷ ts) = Value t × (ts ≡ [])

abbrev pub SmallReply : Reply → Type 0
SmallReply r = Small r.now × Small r.old

abbrev pub Values : Store → Type 0
Values d = All (λ x. Value x.value) d

-- the text that a command may leave
abbrev pub Leaves : Command → Type 0
Leaves (get k) = Unit {0}
Leaves (put k v) = Value v
Leaves (remove k) = Unit {0}
Leaves (swap k e v) = Value v
Leaves (drop_if k v) = Unit {0}

pub leaves : (x : Command) → GoodCommand x → short x ≡ true → Leaves x
leaves (get k) g q = tt
leaves (put k v) g q = (g.1.0, leb-true (length v) 256 (and_parts _ _ q).1)
leaves (remove k) g q = tt
leaves (swap k e v) g q = (g.1.1.0, leb-true (length v) 256 (and_parts _ _ q).1)
leaves (drop_if k v) g q = tt

look_small : (k : List ℕ) (d : Store) → Values d → Small (look k d)
unfolding look
look_small k [] a = tt
look_small k (x ∷ xs) a = pick_by Small (same_text k x.key) _ _ (λ e. (a.0, refl)) (λ e. look_small k xs a.1)

with_values : (k v : List ℕ) (d : Store) → Value v → Values d → Values (with_item k v d)
unfolding with_item
with_values k v [] h a = (h, tt)
with_values k v (x ∷ xs) h a =
    pick_by Values (less_text k x.key) _ _ (λ e. (h, a))
    (λ e. pick_by Values (less_text x.key k) _ _ (λ f. (a.0, with_values k v xs h a.1)) (λ f. (h, a.1)))

without_values : (k : List ℕ) (d : Store) → Values d → Values (without_item k d)
unfolding without_item
without_values k [] a = tt
without_values k (x ∷ xs) a = pick_by Values (same_text k x.key) _ _ (λ e. a.1) (λ e. (a.0, without_values k xs a.1))

pub done_values : (x : Command) (d : Store) → Leaves x → Values d → Values (done x d)
unfolding done
done_values (get k) d h a = a
done_values (put k v) d h a = with_values k v d h a
done_values (remove k) d h a = without_values k d a
done_values (swap k e v) d h a = pick_by Values (same_perhaps (look k d) e) _ _ (λ q. with_values k v d h a) (λ q. a)
done_values (drop_if k v) d h a = pick_by Values (same_perhaps (look k d) (v ∷ [])) _ _ (λ q. without_values k d a) (λ q. a)

pub reply_small : (x : Command) (d : Store) → Leaves x → Values d → SmallReply (reply x d)
unfolding reply
reply_small (get k) d h a = let o = look_small k d a in (o, o)
reply_small (put k v) d h a = ((h, refl), look_small k d a)
reply_small (remove k) d h a = (tt, look_small k d a)
reply_small (swap k e v) d h a =
    let o = look_small k d a in (pick_by Small (same_perhaps (look k d) e) _ _ (λ q. (h, refl)) (λ q. o), o)
reply_small (drop_if k v) d h a =
    let o = look_small k d a in (pick_by Small (same_perhaps (look k d) (v ∷ [])) _ _ (λ q. tt) (λ q. o), o)
