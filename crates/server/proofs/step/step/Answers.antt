use Rattle.std.proofs.Common.{rules, ◌≤◌, ℕ, List, length, sym, subst, arith}
use Rattle.wire.specs.Read.{read_event}
use Rattle.wire.proofs.Places.{read_is_readable}
use Rattle.wire.specs.Sizes.{answer_size}
use Rattle.state.specs.Held.{limits_of}
use Rattle.server.specs.Reached.{Reached}
use Rattle.server.specs.Answered.{Stepped}
use Rattle.server.proofs.Below.{slice}
use Rattle.server.proofs.Reaching.{Left, left, reached_held, reached_limits, reached_self, reached_room, reached_on, stepped}
use Rattle.server.proofs.step.step.Goals as goal

pub new-memory-requires : goal.new-memory-requires
new-memory-requires c = reached_held (limits_of c.args.mem.now) c.args.mem.now c.requires.reached

pub act-requires : goal.act-requires
act-requires c =
    let e = sym c.new-memory.ensures.words in
    let n : ℕ = length c.args.out.now in
    let p = read_is_readable c.args.event.now (slice c.args.event.now (λ i. let f = c.type_inv.event i in omega arith) (omega arith)) in
    let x = subst (λ (z : List ℕ). Reached (limits_of z) z) e c.requires.reached in
    let room = subst (λ (z : List ℕ). answer_size (limits_of z) ≤ n) e c.requires.room in
    record {
      readable = p;
      room = reached_room c.new-memory.result (read_event c.args.event.now) n x p room;
      enough = omega arith;
    }

pub returns : goal.returns
returns c =
    let w : List ℕ = c.args.mem.now in
    let b : List ℕ = c.args.event.now in
    let o : List ℕ = c.args.out.now in
    let m = c.new-memory.result in
    let m' = c.act.new.mem in
    let o' : List ℕ = c.act.new.out in
    let e = c.new-memory.ensures.words in
    let p = read_is_readable b (slice b (λ i. let f = c.type_inv.event i in omega arith) (omega arith)) in
    let x = subst (λ (z : List ℕ). Reached (limits_of z) z) (sym e) c.requires.reached in
    let s = subst (λ (z : List ℕ). Stepped z b o m'.words.now o' c.act.result) e (stepped m b o m' o' c.act.result x p c.act.ensures.answered) in
    let y = reached_on (limits_of w) w m'.words.now (read_event b) c.requires.reached p s.memory in
    let a : Left w b o m'.words.now o' c.act.result = record {
      done = s;
      reached = reached_self (limits_of w) m'.words.now y;
      limits = reached_limits (limits_of w) m'.words.now y;
    } in
    let k = left (search rules) a in
    record { done = k.done; reached = k.reached; limits = k.limits }
