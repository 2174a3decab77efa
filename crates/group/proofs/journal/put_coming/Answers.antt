use Rattle.std.proofs.Common.{◌≡◌, ℕ, ◌+◌, List, ◌∷◌, length, ap, rules, arith}
use Rattle.wire.specs.Write.{write_number}
use Rattle.wire_write.proofs.Putting.{wrote_as, wrote_then}
use Rattle.group.proofs.Lent.{lent}
use Rattle.group.proofs.journal.put_coming.Goals as goal

pub returns-clause-bytes : goal.returns-clause-bytes
returns-clause-bytes c =
    let t : List ℕ = 2 ∷ (c.args.from ∷ c.args.message.now) in
    let two : length c.args.message.now + 2 ≡ length t = omega arith in
    lent (search rules)
    (wrote_then c.byte.ensures.bytes
    (wrote_then (wrote_as (ap write_number two) c.number.ensures.bytes) c.comes.ensures.bytes)).writes
