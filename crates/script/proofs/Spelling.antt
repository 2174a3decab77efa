-- A word is spelled byte by byte.
use Rattle.std.proofs.Common.{◌≡◌, ℕ, ◌-◌, ◌≤◌, List, [], ◌∷◌, ◌++◌, length, get_or, take, drop, arith, sym, refl, ap, ◌∙◌, append_assoc}
use Rattle.std.proofs.lemmas.List.{append-nil, take_rest}
use Rattle.script.specs.Text.{Spells, Pushed}

spells_more : (one : ℕ → List ℕ → Type 0) (bs f x : List ℕ) (b : ℕ) → Spells one bs f → one b x → Spells one (bs ++ b ∷ []) (f ++ x)
unfolding Spells
spells_more one [] f x b s o = (x, [], o, ap (λ (z : List ℕ). z ++ x) s ∙ sym (append-nil x), refl)
spells_more one (c ∷ cs) f x b s o = (
  s.0,
  s.1 ++ x,
  s.2,
  ap (λ (z : List ℕ). z ++ x) s.3 ∙ append_assoc s.0 s.1 x,
  spells_more one cs s.1 x b s.4 o,
)

pub pushed_none : (one : ℕ → List ℕ → Type 0) (w xs : List ℕ) → Pushed one w w xs xs
unfolding Spells
pushed_none one w xs = record { bytes = []; front = []; spelled = refl; whole = refl; pushed = sym (append-nil xs) }

pub pushed_more : (one : ℕ → List ℕ → Type 0) (w rest rest' xs ys x : List ℕ) (b : ℕ) → Pushed one w rest xs ys → one b x
    → rest ≡ x ++ rest' → Pushed one w rest' xs (ys ++ b ∷ [])
pushed_more one w rest rest' xs ys x b p o e =
    record {
      bytes = p.bytes ++ b ∷ [];
      front = p.front ++ x;
      spelled = spells_more one p.bytes p.front x b p.spelled o;
      whole = p.whole ∙ (ap (λ (z : List ℕ). p.front ++ z) e ∙ sym (append_assoc p.front x rest'));
      pushed = ap (λ (z : List ℕ). z ++ b ∷ []) p.pushed ∙ append_assoc xs p.bytes (b ∷ []);
    }

pub none_left : (xs : List ℕ) → length xs ≡ 0 → xs ≡ []
none_left [] e = refl
none_left (x ∷ xs) e = absurd (omega arith)

-- two bytes in front, and what stands after them
pub two_first : (xs : List ℕ) → 2 ≤ length xs → xs ≡ (get_or xs 0 0 ∷ (get_or xs 1 0 ∷ [])) ++ take (length xs - 2) (drop 2 xs)
two_first [] h = absurd (omega arith)
two_first (x ∷ []) h = absurd (omega arith)
two_first (x ∷ (y ∷ xs)) h = ap (λ (z : List ℕ). x ∷ (y ∷ z)) (sym (take_rest (x ∷ (y ∷ xs)) 2))
