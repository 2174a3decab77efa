-- What a region owes: it is small, and it holds what the store of the definitions holds. Assumes nothing: these are statements.
use Rattle.std.specs.Prelude.{◌≡◌, ℕ, ◌+◌, ◌*◌, ◌<◌, ◌≤◌, List, [], length}
use Rattle.servers.specs.Store.{Command, done}
use Rattle.texts.specs.Words.{All, word}
use Rattle.texts.specs.Commands.{GoodCommand}
use Rattle.store.specs.Region.{items_of, empty_region, region_do, region_size, RegionOk}

pub record RegionLaws : Type 0 where
  pub small : (n : ℕ) → region_size n ≤ 64 * n + 100
  pub ok_empty : (n : ℕ) → RegionOk n (empty_region n)
  pub items_empty : (n : ℕ) → items_of (empty_region n) ≡ []
  pub ok_do : (n : ℕ) (x : Command) (r : List ℕ) → RegionOk n r → GoodCommand x → length (items_of r) < n
      → RegionOk n (region_do x r)
  pub items_do : (n : ℕ) (x : Command) (r : List ℕ) → RegionOk n r → GoodCommand x → length (items_of r) < n
      → items_of (region_do x r) ≡ done x (items_of r)
  pub long : (n : ℕ) (r : List ℕ) → RegionOk n r → length r ≡ region_size n
  pub words : (n : ℕ) (r : List ℕ) → RegionOk n r → n < word → All (λ w. w < word) r
