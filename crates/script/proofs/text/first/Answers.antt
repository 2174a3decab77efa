use Rattle.std.proofs.Common.{ℕ, List, [], ◌∷◌, length, get_or, refl, sym, subst, ap, ◌∙◌, inl, inr, arith}
use Rattle.std.proofs.lemmas.List.{length-drop, take_rest}
use Rattle.script.proofs.Spelling.{two_first}
use Rattle.script.specs.Text.{InText, OnlyFirst}
use Rattle.script.proofs.Refusing.{empty_none, short_escape, wrong_escape, only_escaped, only_plain, not_plain}
use Rattle.script.proofs.text.first.Goals as goal

pub returns-then-b-eq92-clause-some : goal.returns-then-b-eq92-clause-some
returns-then-b-eq92-clause-some c =
    let r : List ℕ = c.in_ok-b.rest.now in
    let parts = c.in_ok-b.ensures.cases in
    let one = parts.1 in
    let t = ap length (take_rest r 2) in
    let d = length-drop 2 r in (
      omega arith,
      (
        92 ∷ (get_or r 0 0 ∷ (get_or r 1 0 ∷ [])),
        inl (ap (λ (z : List ℕ). 92 ∷ z) c.in_ok-byte.ensures),
        parts.0
            ∙ (ap (λ (z : ℕ). z ∷ r) c.if-b-eq92.true
            ∙ ap (λ (z : List ℕ). 92 ∷ z) (two_first r c.in-len2-up.len_at_least)),
      ),
    )

pub returns-then-is_ascii_graphic-clause-some : goal.returns-then-is_ascii_graphic-clause-some
returns-then-is_ascii_graphic-clause-some c =
    let parts = c.in_ok-b.ensures.cases in
    let one = parts.1 in
    let g = c.if-is_ascii_graphic.ensures.cases in
    (omega arith, (c.in_ok-b.b.now ∷ [], inr (omega arith, omega arith, c.if-b-eq92.false, refl), parts.0))

pub returns-in_err-b-clause-only : goal.returns-in_err-b-clause-only
returns-in_err-b-clause-only c = rw c.from_residual.ensures (empty_none c.args.word.now c.in_err-b.ensures.cases)

pub returns-in_default-clause-only : goal.returns-in_default-clause-only
returns-in_default-clause-only c =
    short_escape c.args.word.now c.in_ok-b.rest.now
    (c.in_ok-b.ensures.cases.0 ∙ ap (λ (z : ℕ). z ∷ c.in_ok-b.rest.now) c.if-b-eq92.true) c.in_default.len_below

pub returns-in_err-byte-clause-only : goal.returns-in_err-byte-clause-only
returns-in_err-byte-clause-only c =
    rw c.from_residual-in_err-byte.ensures
    (wrong_escape c.args.word.now c.in_ok-b.rest.now
    (c.in_ok-b.ensures.cases.0 ∙ ap (λ (z : ℕ). z ∷ c.in_ok-b.rest.now) c.if-b-eq92.true) c.in_err-byte.ensures)

pub returns-then-b-eq92-clause-only : goal.returns-then-b-eq92-clause-only
returns-then-b-eq92-clause-only c =
    let r : List ℕ = c.in_ok-b.rest.now in
    let e = c.in_ok-b.ensures.cases.0 ∙ ap (λ (z : ℕ). z ∷ r) c.if-b-eq92.true in
    subst (λ (z : List ℕ). OnlyFirst InText c.args.word.now z) (sym (take_rest r 2)) (only_escaped c.args.word.now r e)

pub returns-then-is_ascii_graphic-clause-only : goal.returns-then-is_ascii_graphic-clause-only
returns-then-is_ascii_graphic-clause-only c =
    only_plain c.args.word.now c.in_ok-b.rest.now c.in_ok-b.b.now c.in_ok-b.ensures.cases.0 c.if-b-eq92.false

pub returns-else-is_ascii_graphic-clause-only : goal.returns-else-is_ascii_graphic-clause-only
returns-else-is_ascii_graphic-clause-only c =
    not_plain c.args.word.now c.in_ok-b.rest.now c.in_ok-b.b.now c.in_ok-b.ensures.cases.0 c.if-b-eq92.false
    (λ low high. let g = c.if-is_ascii_graphic.ensures.cases in omega arith)
