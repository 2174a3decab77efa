-- Letters: what is among those that were sent, and what a server adds to them.
use Rattle.std.proofs.Common.{◌≡◌, ℕ, zero, suc, Bool, true, false, eqb, ◌⊎◌, List, [], ◌∷◌, ◌++◌, sym, refl, ap, subst, inl, inr}
use Rattle.servers.specs.Store.{pick}
use Rattle.servers.specs.Server.{Letter, Message, to_others}
use Rattle.servers.specs.World.{Sent, In, from}

pub in_left : (x : Sent) (xs ys : List Sent) → In x xs → In x (xs ++ ys)
unfolding In
in_left x [] ys h = elim h [ ]
in_left x (y ∷ xs) ys (inl e) = inl e
in_left x (y ∷ xs) ys (inr h) = inr (in_left x xs ys h)

pub in_either : (x : Sent) (xs ys : List Sent) → In x (xs ++ ys) → In x xs ⊎ In x ys
unfolding In
in_either x [] ys h = inr h
in_either x (y ∷ xs) ys (inl e) = inl (inl e)
in_either x (y ∷ xs) ys (inr h) = elim (in_either x xs ys h) [ inl a ↦ inl (inr a) | inr b ↦ inr b ]

pub from_by : (i : ℕ) (ls : List Letter) (x : Sent) → In x (from i ls) → x.by ≡ i
unfolding In from
from_by i [] x h = elim h [ ]
from_by i (l ∷ ls) x (inl e) = ap (λ (y : Sent). y.by) e
from_by i (l ∷ ls) x (inr h) = from_by i ls x h

pub from_append : (i : ℕ) (as' bs : List Letter) → from i (as' ++ bs) ≡ from i as' ++ from i bs
unfolding from
from_append i [] bs = refl
from_append i (a ∷ as') bs = ap (λ y. record { by = i; letter = a } ∷ y) (from_append i as' bs)

-- a letter is an old one, or one of those added, of which something holds
pub old_or_new : (i : ℕ) (sent : List Sent) (ls : List Letter) (P : Sent → Type 0) → ((x : Sent) → In x (from i ls) → P x)
    → (x : Sent) → In x (sent ++ from i ls) → In x sent ⊎ P x
old_or_new i sent ls P new x h = elim (in_either x sent (from i ls) h) [ inl old ↦ inl old | inr n ↦ inr (new x n) ]

-- what holds of the letters: of none, of one, of one to each other server
pub all_none : (i : ℕ) (P : Sent → Type 0) (x : Sent) → In x (from i []) → P x
unfolding In from
all_none i P x h = elim h [ ]

pub all_one : (i : ℕ) (y : Letter) (P : Sent → Type 0) → P (record { by = i; letter = y }) → (x : Sent) → In x (from i (y ∷ [])) → P x
unfolding In from
all_one i y P h x (inl e) = subst P (sym e) h
all_one i y P h x (inr e) = elim e [ ]

pub all_others : (i n m : ℕ) (f : ℕ → Message) (P : Sent → Type 0)
    → ((d : ℕ) → P (record { by = i; letter = record { to = d; message = f d } })) → (x : Sent) → In x (from i (to_others n m f)) → P x
unfolding In from to_others
all_others i zero m f P p x h = elim h [ ]
all_others i (suc n) m f P p x h =
    let before : List Letter = to_others n m f in
    let here : List Letter = pick (eqb n m) [] (record { to = n; message = f n } ∷ []) in
    elim (in_either x (from i before) (from i here) (rw (from_append i before here) at h))
    [ inl a ↦ all_others i n m f P p x a | inr b ↦ last (eqb n m) b ]
  where
    last : (c : Bool) → In x (from i (pick c [] (record { to = n; message = f n } ∷ []))) → P x
    last true h = elim h [ ]
    last false h = all_one i (record { to = n; message = f n }) P (p n) x h
