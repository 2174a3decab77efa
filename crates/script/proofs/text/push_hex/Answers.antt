use Rattle.std.proofs.Common.{ℕ, ◌-◌, List, [], ◌∷◌, length, get_or, take, drop, sym, ap, subst, arith}
use Rattle.std.proofs.lemmas.List.{length-drop, take_rest}
use Rattle.script.specs.Text.{InHex, Pushed}
use Rattle.script.proofs.Spelling.{none_left, pushed_more, pushed_none, two_first}
use Rattle.script.proofs.Refusing.{Still, still_all, still_more, only_pair, none_pair, odd_unspelled, unspelled}
use Rattle.script.proofs.text.push_hex.Goals as goal

pub loop-rest-init : goal.loop-rest-init
loop-rest-init c = record { pushed = pushed_none InHex c.args.digits.now c.args.out.now.items; still = still_all InHex c.args.digits.now; pairs = omega arith }

pub loop-rest-preserved : goal.loop-rest-preserved
loop-rest-preserved c =
    let i = c.loop-rest.invariant in
    let r : List ℕ = c.loop-rest.rest.now in
    let after : List ℕ = take (length r - 2) (drop 2 r) in
    let long = c.in-len2-up.len_at_least in
    let t = ap length (take_rest r 2) in
    let d = length-drop 2 r in
    record {
      pushed =
          subst (λ (z : List ℕ). Pushed InHex c.args.digits.now after c.args.out.now.items z) (sym c.in_ok-push.ensures.items)
          (pushed_more InHex c.args.digits.now r after c.args.out.now.items c.loop-rest.out.items
          (get_or r 0 0 ∷ (get_or r 1 0 ∷ [])) c.in-Some.b i.pushed c.in-Some.ensures (two_first r long));
      still = subst (λ (z : List ℕ). Still InHex c.args.digits.now z) (sym (take_rest r 2))
          (still_more InHex c.args.digits.now r (drop 2 r) (omega arith) (only_pair r) i.still);
      pairs = omega arith;
    }

pub returns-clause-ok : goal.returns-clause-ok
returns-clause-ok c =
    let i = c.loop-rest.invariant in
    let pairs = i.pairs in
    let few = c.in_default.len_below in
    subst (λ (z : List ℕ). Pushed InHex c.args.digits.now z c.args.out.now.items c.loop-rest.out.items)
    (none_left c.loop-rest.rest.now (omega arith)) i.pushed

pub returns-then-digits-ne0-clause-err : goal.returns-then-digits-ne0-clause-err
returns-then-digits-ne0-clause-err c = odd_unspelled c.args.digits.now c.if-digits-ne0.true

pub returns-in_default-byte-clause-err : goal.returns-in_default-byte-clause-err
returns-in_default-byte-clause-err c =
    let r : List ℕ = c.loop-rest.rest.now in
    let long = c.in-len2-up.len_at_least in
    unspelled InHex c.args.digits.now r (omega arith) (none_pair r c.in_default-byte.ensures) c.loop-rest.invariant.still
