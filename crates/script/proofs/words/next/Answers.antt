use Rattle.std.proofs.Common.{◌≡◌, ℕ, ◌-◌, ◌<◌, List, length, take, drop, sym, ap, ◌∙◌, arith}
use Rattle.std.specs.List.{take_while}
use Rattle.std.proofs.lemmas.List.{take_rest}
use Rattle.std.proofs.lemmas.List.Folds.{length-prefix_len}
use Rattle.std.proofs.lemmas.Bool.Decides.{nat_tests}
use Rattle.script.specs.Words.{in_word, without_spaces}
use Rattle.script.proofs.Spaces.{some_word}
use Rattle.script.proofs.words.next.Goals as goal

pub returns : goal.returns
returns c =
    let xs : List ℕ = c.args.line.now in
    let t : List ℕ = take (length xs - c.spaces.result) (drop c.spaces.result xs) in
    let e : t ≡ without_spaces xs = take_rest xs c.spaces.result ∙ ap (λ (k : ℕ). drop k xs) c.spaces.ensures in
    let is = c.split_at.ensures.front ∙ (ap (λ (k : ℕ). take k t) (c.before_space.ensures ∙ length-prefix_len in_word t)
    ∙ ap (take_while in_word) e) in
    let l = ap length e in
    let h : 0 < length t = grind (arith, nat_tests) in
    let w = some_word xs (omega arith) in
    let m = ap length is in
    record { some = omega arith; is = is; whole = sym c.split_at.ensures.by_index.0 ∙ e }
