-- That a memory is held can be proved in one way only, which the check asks of a fact that a struct carries. Assumes nothing: each line
-- follows from the definitions.
use Rattle.std.specs.Prelude.{ℕ, ◌<◌, Bool, List, [], ◌∷◌}
use mathlib.Core.HLevel.{Unit-prop}
use Rattle.std.specs.Coded.{×_prop}
use Rattle.std.specs.Coded.{le_prop}
use Rattle.std.proofs.Common.{ap}
use mathlib.Core.List.{is_set as List-set}
use native.Mathlib.Nat.{ℕ_set}
use mathlib.Core.HLevel.{collapsible→set}
use denote.Struct.Props.{props}
use Rattle.servers.specs.Server.{Entry, Cached, Limits, State}
use Rattle.servers.specs.Store.{Store, Item, Command, Perhaps}
use Rattle.texts.specs.Words.{All, Text, PerhapsText}
use Rattle.texts.specs.Commands.{GoodCommand, name_of, expects, text_of}
use Rattle.store.specs.Region.{Apart, Sorted, PartsOk, RegionOk, GoodItem}
use Rattle.raft_log.specs.Rows.{GoodEntry, Row}
use Rattle.memory.specs.Words.{GoodCached, OneBelow}
use Rattle.memory.specs.Fits.{Head, Logged, Known, Kept, Bounded, Fits}
use Rattle.memory.specs.Layout.{region_in}
use Rattle.state.specs.Held.{Held, limits_of, state_of}

lt_once : {m n : ℕ} → IsProp (m < n)
lt_once = hlevel props

All_once : {A : Type 0} {P : A → Type 0} → ((x : A) → IsProp (P x)) → (xs : List A) → IsProp (All P xs)
All_once f [] = Unit-prop
All_once f (x ∷ xs) = ×_prop (f x) (All_once f xs)

Text_once : (n : ℕ) (t : List ℕ) → IsProp (Text n t)
Text_once n t = ×_prop (hlevel props) (All_once (λ x. hlevel props) t)

PerhapsText_once : (n : ℕ) (e : Perhaps) → IsProp (PerhapsText n e)
PerhapsText_once n [] = Unit-prop
PerhapsText_once n (t ∷ ts) = ×_prop (Text_once n t) (hlevel props)

OneBelow_once : (n : ℕ) (xs : List ℕ) → IsProp (OneBelow n xs)
OneBelow_once n [] = Unit-prop
OneBelow_once n (x ∷ xs) = hlevel props

Row_once : (es : List Entry) → IsProp (Row es)
Row_once [] = Unit-prop
Row_once (e ∷ es) = ×_prop (hlevel props) (Row_once es)

Apart_once : (is : List ℕ) → IsProp (Apart is)
Apart_once [] = Unit-prop
Apart_once (i ∷ is) = ×_prop (All_once (λ j. hlevel props) is) (Apart_once is)

Sorted_once : (xs : Store) → IsProp (Sorted xs)
Sorted_once [] = Unit-prop
Sorted_once (x ∷ xs) = ×_prop (All_once (λ y. hlevel props) xs) (Sorted_once xs)

GoodItem_once : (x : Item) → IsProp (GoodItem x)
GoodItem_once x = ×_prop (Text_once 64 x.key) (Text_once 256 x.value)

PartsOk_once : (n c : ℕ) (is : List ℕ) (xs : List Item) → IsProp (PartsOk n c is xs)
PartsOk_once n c is xs a b =
    λ i. record {
      few = le_prop a.few b.few i;
      index = ℕ_set _ _ a.index b.index i;
      below = All_once (λ x. hlevel props) is a.below b.below i;
      apart = Apart_once is a.apart b.apart i;
      rows = ℕ_set _ _ a.rows b.rows i;
      good = All_once GoodItem_once xs a.good b.good i;
      sorted = Sorted_once _ a.sorted b.sorted i;
    }

numbers_set : IsSet (List ℕ)
numbers_set = hlevel props

RegionOk_once : (n : ℕ) (r : List ℕ) → IsProp (RegionOk n r)
RegionOk_once n r a b =
    λ i. record {
      room = ℕ_set _ _ a.room b.room i;
      whole = numbers_set _ _ a.whole b.whole i;
      parts = PartsOk_once _ _ _ _ a.parts b.parts i;
    }

GoodCommand_once : (x : Command) → IsProp (GoodCommand x)
GoodCommand_once x a b =
    λ i. (
      Text_once 64 (name_of x) a.0 b.0 i,
      PerhapsText_once 256 (expects x) a.1 b.1 i,
      Text_once 256 (text_of x) a.2 b.2 i,
    )

GoodEntry_once : (servers clients last : ℕ) (e : Entry) → IsProp (GoodEntry servers clients last e)
GoodEntry_once servers clients last e a b =
    λ i. record {
      at = lt_once a.at b.at i;
      client = lt_once a.client b.client i;
      id = lt_once a.id b.id i;
      term = le_prop a.term b.term i;
      command = GoodCommand_once e.command a.command b.command i;
    }

GoodCached_once : (c : Cached) → IsProp (GoodCached c)
GoodCached_once c a b =
    λ i. record {
      id = lt_once a.id b.id i;
      now = PerhapsText_once 256 _ a.now b.now i;
      old = PerhapsText_once 256 _ a.old b.old i;
    }

item_set : IsSet Item
item_set =
    let pair : (Item → List ℕ × List ℕ) = λ x. (x.key, x.value) in
    let item : (List ℕ × List ℕ → Item) = λ p. record { key = p.0; value = p.1 } in
    let pairs : IsSet (List ℕ × List ℕ) = hlevel props in
    collapsible→set (λ x y p. ap item (ap pair p)) (λ x y p q. ap (λ z. ap item z) (pairs (pair x) (pair y) (ap pair p) (ap pair q)))

items_set : IsSet Store
items_set = List-set item_set

Head_once : (l : Limits) (t : ℕ) (v d : List ℕ) (k : ℕ) → IsProp (Head l t v d k)
Head_once l t v d k a b =
    λ i. record {
      term = le_prop a.term b.term i;
      voted = OneBelow_once _ v a.voted b.voted i;
      leader = OneBelow_once _ d a.leader b.leader i;
      kind = le_prop a.kind b.kind i;
    }

Logged_once : (l : Limits) (log : List Entry) (c n : ℕ) → IsProp (Logged l log c n)
Logged_once l log c n a b =
    λ i. record {
      row = Row_once log a.row b.row i;
      entries = All_once (GoodEntry_once _ _ _) log a.entries b.entries i;
      room = le_prop a.room b.room i;
      commit = le_prop a.commit b.commit i;
      applied = le_prop a.applied b.applied i;
    }

Known_once : (l : Limits) (nexts : List (List ℕ)) (matches : List ℕ) (vs : List Bool) → IsProp (Known l nexts matches vs)
Known_once l nexts matches vs a b =
    λ i. record {
      next_each = All_once (OneBelow_once _) nexts a.next_each b.next_each i;
      next_long = ℕ_set _ _ a.next_long b.next_long i;
      match_each = All_once (λ m. le_prop) matches a.match_each b.match_each i;
      match_long = ℕ_set _ _ a.match_long b.match_long i;
      votes = ℕ_set _ _ a.votes b.votes i;
    }

Kept_once : (l : Limits) (cache : List Cached) (store : Store) (n : ℕ) (r : List ℕ) → IsProp (Kept l cache store n r)
Kept_once l cache store n r a b =
    λ i. record {
      cache_each = All_once GoodCached_once cache a.cache_each b.cache_each i;
      cache_long = ℕ_set _ _ a.cache_long b.cache_long i;
      items = All_once GoodItem_once store a.items b.items i;
      few = le_prop a.few b.few i;
      ok = RegionOk_once _ r a.ok b.ok i;
      same = items_set _ _ a.same b.same i;
    }

Bounded_once : (l : Limits) → IsProp (Bounded l)
Bounded_once l a b =
    λ i. record {
      two = le_prop a.two b.two i;
      servers = le_prop a.servers b.servers i;
      me = lt_once a.me b.me i;
      client = le_prop a.client b.client i;
      clients = le_prop a.clients b.clients i;
      entry = le_prop a.entry b.entry i;
      room = le_prop a.room b.room i;
    }

Fits_once : (l : Limits) (s : State) (r : List ℕ) → IsProp (Fits l s r)
Fits_once l s r a b =
    λ i. (
      Head_once l s.term s.voted s.leader s.kind a.0 b.0 i,
      Logged_once l s.log s.commit s.applied a.1 b.1 i,
      Known_once l s.nexts s.matches s.votes a.2 b.2 i,
      Kept_once l s.cache s.store s.applied r a.3 b.3 i,
    )

pub Held_once : (m : List ℕ) → IsProp (Held m)
Held_once m a b =
    λ i. record {
      is = numbers_set _ _ a.is b.is i;
      fits = Fits_once (limits_of m) (state_of m) (region_in m) a.fits b.fits i;
      good = Bounded_once _ a.good b.good i;
    }
