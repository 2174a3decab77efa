-- Limits that were opened are good: each test that was passed is the bound that it tests.
use Rattle.std.proofs.Common.{◌≡◌, ℕ, Bool, true, false, ◌&&◌, ltb, leb, Ok, Err, Result, refl, arith}
use Rattle.std.proofs.lemmas.Bool.Decides.{nat_tests}
use Rattle.servers.specs.declared.limits.Limits.{Limits}
use Rattle.servers.specs.declared.limits.Limit.{Limit}
use Rattle.servers.specs.declared.limits.Limit.TheVariants.{Servers, Me, Clients, Room}
use Rattle.servers.specs.Store.{pick}
use Rattle.servers.specs.Opened.{OpenedIsGood}

-- what was not refused passed the test
passed : (b : Bool) (x : Result Limits Limit) (u : Limit) (l : Limits) → pick b x (Err u) ≡ Ok l → (b ≡ true) × (x ≡ Ok l)
passed true x u l h = (refl, h)
passed false x u l h = let z : ◌≡◌ {A = ℕ} 0 1 = cc in absurd (omega arith)

pub opened_is_good : OpenedIsGood
opened_is_good can s m c r l h =
    let p = passed (leb 2 s && leb s 16) _ Servers l h in
    let q = passed (ltb m s) _ Me l p.1 in
    let u = passed (leb 1 c && leb c 4096) _ Clients l q.1 in
    let v = passed (leb 1 r && leb r 65536) _ Room l u.1 in
    let e : ◌≡◌ {A = Limits} (record { servers = s; me = m; clients = c; room = r }) l = cc in
    rw (← e) (grind (arith, nat_tests), grind (arith, nat_tests), grind (arith, nat_tests), grind (arith, nat_tests), grind (arith, nat_tests), grind (arith, nat_tests), grind (arith, nat_tests), λ k. refl)
