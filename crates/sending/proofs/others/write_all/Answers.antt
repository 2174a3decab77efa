use Rattle.std.proofs.Common.{ℕ, ◌+◌, length, ap, ◌∙◌, arith}
use Rattle.std.proofs.lemmas.List.{length-append}
use Rattle.servers.specs.Server.{Message}
use Rattle.servers.specs.declared.limits.Limits.{Limits}
use Rattle.state.specs.View.{me_in, servers_in, state_of}
use Rattle.wire_write.proofs.Putting.{length_wrote}
use Rattle.sending.specs.Letters.{post}
use Rattle.sending.specs.Others.{message_to}
use Rattle.sending.proofs.others.write_all.Goals as goal
use Rattle.sending.proofs.others.write_all.Goals.{then-h-all, else-h-all}
use Rattle.sending.proofs.ToAll.{sent_bytes, sent_start, sent_more, sent_on, sent_past, same_end, sent_fewer}

pub loop-h-init : goal.loop-h-init
loop-h-init c =
    let m = c.args.mem in
    let f : (ℕ → Message) = message_to c.args.sent (state_of m) in
    let room = c.requires.room in
    sent_start c.args.to.now (me_in m) f (omega arith)

pub write_one-requires : goal.write_one-requires
write_one-requires c =
    let m = c.args.mem in
    let h : ℕ = c.loop-h.h in
    let f : (ℕ → Message) = message_to c.args.sent (state_of m) in
    let few = ap (λ (l : Limits). l.servers) c.limits-all.ensures in
    let me = ap (λ (l : Limits). l.me) c.limits-all.ensures in
    let a = ap length (sent_more h (me_in m) f (λ z. c.if-h-all.true (omega arith))) in
    let b = length-append (sent_bytes h (me_in m) f) (post h (f h)) in
    let d = sent_fewer (h + 1) (servers_in m) (me_in m) f (omega arith) in
    let n = c.loop-h.invariant.writes.next in
    let same = length_wrote c.loop-h.invariant in
    let room = c.requires.room in
    record { here = omega arith; room = omega arith }

pub loop-h-preserved : goal.loop-h-preserved
loop-h-preserved c =
    let m = c.args.mem in
    let h : ℕ = c.loop-h.h in
    let f : (ℕ → Message) = message_to c.args.sent (state_of m) in
    let me = ap (λ (l : Limits). l.me) c.limits-all.ensures in
    elim c.if-h-all.branch [
      | then-h-all w ↦
          same_end w.to-is
          (sent_on h (me_in m) f (λ z. w.if-h-all.true (omega arith)) c.loop-h.invariant w.write_one.ensures)
      | else-h-all w ↦ same_end w.to-is (sent_past h (me_in m) f (w.if-h-all.false ∙ me) c.loop-h.invariant)
    ]
