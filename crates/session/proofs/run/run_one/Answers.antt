use Rattle.std.proofs.Common.{rules, ℕ, ◌+◌, ◌-◌, List, length, drop, refl, arith}
use Rattle.std.proofs.lemmas.List.{length-drop, length-take-le}
use Rattle.session.proofs.Records.{ran_one}
use Rattle.session.proofs.run.run_one.Goals as goal

pub returns : goal.returns
returns c =
    let xs : List ℕ = c.args.out.now in
    let a : ℕ = c.args.at + 8 in
    let room = c.requires.room in
    let d = length-drop a xs in
    let t = length-take-le (length xs - a) (drop a xs) (omega arith) in
    let s = c.step-answer.ensures.done in
    let long = s.bytes.long in
    ran_one {xs = xs} {at = c.args.at} {k = length xs - a} s (omega arith) refl (omega arith) (assumption)
    (search rules) c.number.ensures.bytes.writes c.step-answer.ensures.reached c.step-answer.ensures.limits
