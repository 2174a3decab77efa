-- What a writer wrote stands in the bytes that were lent to it.
use Rattle.std.proofs.Common.{◌≡◌, ℕ, List, sym, subst}
use Rattle.wire_write.specs.Put.{Writes}

pub lent : {at n : ℕ} {bs xs ys zs : List ℕ} → zs ≡ ys → Writes at bs xs ys n → Writes at bs xs zs n
lent {at = at} {n = n} {bs = bs} {xs = xs} e w = subst (λ (z : List ℕ). Writes at bs xs z n) (sym e) w
