use Rattle.std.proofs.Common.{◌≡◌, ℕ, ◌+◌, ◌-◌, ◌*◌, List, length, take, drop, sym, ap, ◌∙◌, arith}
use Rattle.std.proofs.lemmas.List.{length-drop, length-take-le}
use Rattle.group.specs.Playing.{group_of}
use Rattle.group.proofs.Opening.{opened_more, all_open}
use Rattle.group.proofs.Playing.{part_within}
use Rattle.group.proofs.open.open_group.Goals as goal

pub loop-i-preserved : goal.loop-i-preserved
loop-i-preserved c =
    let i : ℕ = c.loop-i.i in
    let words : ℕ = c.args.g.words in
    let m : List ℕ = c.loop-i.mems in
    let within = part_within i c.args.g.servers words c.loop-i-test.true in
    let long = c.requires.long in
    let same = c.loop-i.auto.mems in
    let d = length-drop (i * words) m in
    let t = length-take-le words (drop (i * words) m) (omega arith) in
    let k : i * words + words - i * words ≡ words = omega arith in
    let e : length (take (i * words + words - i * words) (drop (i * words) m)) ≡ words =
    ap (λ (n : ℕ). length (take n (drop (i * words) m))) k ∙ t in
    opened_more (group_of c.args.g) words i (i * words + words - i * words) m c.open_one.new.mem (sym k) (omega arith)
    (omega arith) c.open_one.ensures c.loop-i.invariant

pub returns-clause-playing : goal.returns-clause-playing
returns-clause-playing c =
    let long = c.requires.long in
    let same = c.loop-i.auto.mems in
    let all = c.loop-i-test.false in
    all_open c.args.g c.loop-i.mems c.requires.sized (omega arith) (λ j low. c.loop-i.invariant j (omega arith))
