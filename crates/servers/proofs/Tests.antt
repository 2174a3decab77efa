-- Cases of a test: the definitions choose by `pick`, and these lemmas take the choice apart.
use Rattle.std.proofs.Common.{◌≡◌, Bool, true, false, refl}
use Rattle.servers.specs.Store.{pick}

-- in a goal that names the test anywhere: one goal for each outcome, with the outcome as an equation
pub bool_by : (P : Bool → Type 0) (b : Bool) → (b ≡ true → P true) → (b ≡ false → P false) → P b
bool_by P true f g = f refl
bool_by P false f g = g refl

-- in a goal that names the test once, in a choice
pub pick_by : {A : Type 0} (P : A → Type 0) (b : Bool) (x y : A) → (b ≡ true → P x) → (b ≡ false → P y) → P (pick b x y)
pick_by P true x y f g = f refl
pick_by P false x y f g = g refl

pub pick_true : {A : Type 0} (b : Bool) (x y : A) → b ≡ true → pick b x y ≡ x
pick_true b x y e = rw e

pub pick_false : {A : Type 0} (b : Bool) (x y : A) → b ≡ false → pick b x y ≡ y
pick_false b x y e = rw e

-- where the other way is ruled out, the test holds
pub pick_first : {A : Type 0} (P : A → Type 0) (b : Bool) (x y : A) → P (pick b x y) → (P y → ⊥) → (b ≡ true) × P x
pick_first P true x y p f = (refl, p)
pick_first P false x y p f = absurd (f p)
