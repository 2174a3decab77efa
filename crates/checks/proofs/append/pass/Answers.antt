use Rattle.std.proofs.Common.{◌≡◌, ◌+◌, ◌-◌, ◌&&◌, [], length, sym, refl, ap, ◌∙◌, arith}
use Rattle.std.proofs.Math.Logic.{⊎_elim}
use Rattle.std.proofs.lemmas.List.{nil_from_length}
use Rattle.std.specs.Iterator.Adapters.{rev_source, zip_first, zip_second}
use Rattle.std.specs.Range.{range_inclusive_left}
use Rattle.servers.specs.Opened.{limits_of}
use Rattle.servers.specs.Server.{in_a_row}
use Rattle.wire_read.specs.Means.{entries_of, entry_of}
use Rattle.checks.specs.Refusals.{can_do}
use Rattle.checks.proofs.Entries.{entries_long, last_number, none_good, numbers_left, pass_none, some_good, turn_passed, turn_refused}
use Rattle.checks.proofs.append.pass.Goals as goal

pub loop-left-init : goal.loop-left-init
loop-left-init c =
    let it = c.into_iter-left-iterator.ensures.into_iter_gives in
    let new = c.new.ensures in
    let first = ap (λ z. rev_source (zip_first z)) it ∙ ap rev_source c.zip-left-items.ensures.first ∙ c.rev.ensures.source in
    let second = ap zip_second it ∙ c.zip-left-items.ensures.second in
    rw (first, second)
    ((tt, tt), tt, new.start, numbers_left _ _ _ new.start new.end new.exhausted ∙ sym (entries_long c.args.entries), refl)

pub loop-left-preserved : goal.loop-left-preserved
loop-left-preserved c =
    let steps = c.in-Some.ensures.steps in
    let old = rev_source (zip_first c.loop-left.left-iterator) in
    let new = rev_source (zip_first c.next.new.self) in
    let down : range_inclusive_left (λ a b. b - a) new + 1 ≡ range_inclusive_left (λ a b. b - a) old = steps.0.1.1 in
    let v = c.loop-left.invariant in
    let many = v.3 in
    let one = ap length steps.1 in
    let good = some_good _ c.in-Some.entry c.in_ok-entry.entry c.in_ok-entry.ensures in
    let left = steps.0.1.0 ∙ last_number old.start old.end old.exhausted v.2 (many ∙ one) ∙ sym one in (
      (tt, tt),
      tt,
      steps.0.0 ∙ v.2,
      omega arith,
      turn_passed (limits_of can_do c.args.l) c.args.before c.in-Some.left c.loop-left.row c.stands-row.result
          (entry_of c.in-Some.entry) (entries_of (zip_second c.next.new.self)) (entries_of (zip_second c.loop-left.left-iterator))
          steps.1 left good.0 (rw (← good.1) c.stands-row.ensures)
          ∙ v.4,
    )

pub returns-in_err-entry : goal.returns-in_err-entry
returns-in_err-entry c =
    let it = entries_of (zip_second c.loop-left.left-iterator) in
    c.from_residual.ensures
    ∙ sym (turn_refused (limits_of can_do c.args.l) (c.loop-left.row && in_a_row c.args.before it) (entry_of c.in-Some.entry)
    (entries_of (zip_second c.next.new.self)) it c.in-Some.ensures.steps.1 (none_good _ _ c.in_err-entry.ensures))
    ∙ c.loop-left.invariant.4

pub returns : goal.returns
returns c =
    let v = c.loop-left.invariant in
    let many = v.3 in
    let rest = entries_of (zip_second c.loop-left.left-iterator) in
    let none : rest ≡ [] = ⊎_elim (λ r. let k = r.1.1.0 in nil_from_length rest (sym many ∙ k)) (λ r. r.1.0) c.in-None.ensures.steps in
    sym (pass_none (limits_of can_do c.args.l) c.args.before c.loop-left.row rest none) ∙ v.4
