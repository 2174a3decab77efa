use Rattle.std.proofs.Common.{ℕ, List, sym, subst, arith}
use Rattle.std.proofs.lemmas.Bool.Decides.{nat_tests}
use Rattle.script.specs.Text.{InText, Pushed}
use Rattle.script.proofs.Spelling.{pushed_more, pushed_none}
use Rattle.script.proofs.Refusing.{still_all, still_more, unspelled}
use Rattle.script.proofs.text.push_text.Goals as goal

pub loop-rest-init : goal.loop-rest-init
loop-rest-init c =
    record { pushed = pushed_none InText c.args.word.now c.args.out.now.items; still = still_all InText c.args.word.now }

pub loop-rest-preserved : goal.loop-rest-preserved
loop-rest-preserved c =
    let w : List ℕ = c.args.word.now in
    let r : List ℕ = c.loop-rest.rest.now in
    let after : List ℕ = c.in-Some.after.now in
    let f = c.in-Some.ensures.some in
    record {
      pushed =
          subst (λ (z : List ℕ). Pushed InText w after c.args.out.now.items z) (sym c.in_ok-push.ensures.items)
          (pushed_more InText w r after c.args.out.now.items c.loop-rest.out.items f.1.0 c.in-Some.b
          c.loop-rest.invariant.pushed f.1.1 f.1.2);
      still = still_more InText w r after (grind (arith, nat_tests)) c.in-Some.ensures.only c.loop-rest.invariant.still;
    }

pub returns-in_default-clause-err : goal.returns-in_default-clause-err
returns-in_default-clause-err c =
    unspelled InText c.args.word.now c.loop-rest.rest.now (grind (arith, nat_tests)) c.in_default.ensures.only
    c.loop-rest.invariant.still
