use Rattle.std.proofs.Common.{◌≡◌, Ok, Err, Result, None, sym, ◌∙◌}
use Rattle.std.specs.Result.{MatchResult, result_ok}
use Rattle.std.proofs.lemmas.Str.{IsUtf8-from_ascii}
use Rattle.std.proofs.lemmas.Fmt.{IsAscii-from_digits}
use Rattle.script.proofs.words.number.Goals as goal

-- what can't be read as text is none
none_read : {A E : Type 0} (U : Type 0) (P : A → Type 0) (V : E → Type 0) (r : Result A E) → result_ok r ≡ None
    → MatchResult r P (λ e. ¬ U × V e) → ¬ U
none_read U P V (Ok x) e m = cc
none_read U P V (Err x) e m = m.0

pub returns-in_err-ok : goal.returns-in_err-ok
returns-in_err-ok c =
    let e : result_ok c.from_utf8.result ≡ None = sym c.ok.ensures.value ∙ c.in_err-ok.was in
    rw c.from_residual.ensures
    (λ n. absurd (none_read _ _ _ c.from_utf8.result e c.from_utf8.ensures.cases (IsUtf8-from_ascii _ (IsAscii-from_digits _ n.1))))
