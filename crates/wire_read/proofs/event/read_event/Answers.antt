use Rattle.std.proofs.Common.{arith}
use Rattle.wire_read.proofs.Ends.{front_ends, good_within}
use Rattle.wire_read.proofs.event.read_event.Goals as goal

pub overflow_sub-result : goal.overflow_sub-result
overflow_sub-result c =
    let h = front_ends c.args.b.now (λ i. let f = c.type_inv.b i in omega arith) in
    let z = rw c.in-Ok.ensures at h in
    z.1

pub overflow_sub-result-in-Err : goal.overflow_sub-result-in-Err
overflow_sub-result-in-Err c =
    let h = front_ends c.args.b.now (λ i. let f = c.type_inv.b i in omega arith) in
    rw c.in-Err.ensures at h

pub returns-in-Ok-default-empty-clause-within : goal.returns-in-Ok-default-empty-clause-within
returns-in-Ok-default-empty-clause-within c =
    let h = front_ends c.args.b.now (λ i. let f = c.type_inv.b i in omega arith) in
    let z = rw c.in-Ok-default-empty.ensures at h in
    good_within c.args.b.now c.in-Ok-default-empty.event z.0
