use Rattle.std.proofs.Common.{◌≡◌, ℕ, ◌-◌, ◌<◌, ◌≤◌, true, false, get_or}
use Rattle.servers.specs.Store.{less_text}
use Rattle.texts.specs.Words.{text_in}
use Rattle.store.specs.Region.{blank, count, items_of}
use Rattle.store.proofs.find.lower_bound.Given as goal

abbrev pub invariant-loop-lo : goal.invariant-loop-lo
invariant-loop-lo l =
    (l.lo ≤ l.hi) × (l.hi ≤ count l.region)
    × ((j : ℕ) → j < l.lo → less_text (get_or (items_of l.region) j blank).key (text_in l.name) ≡ true)
    × ((j : ℕ) → l.hi ≤ j → j < count l.region → less_text (get_or (items_of l.region) j blank).key (text_in l.name) ≡ false)

abbrev pub decreases-loop-lo : goal.decreases-loop-lo
decreases-loop-lo l = l.hi - l.lo
