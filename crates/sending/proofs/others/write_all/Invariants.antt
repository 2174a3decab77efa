use Rattle.wire_write.specs.Put.{Wrote}
use Rattle.state.specs.View.{me_in, state_of}
use Rattle.sending.specs.Others.{message_to}
use Rattle.sending.proofs.ToAll.{sent_bytes}
use Rattle.sending.proofs.others.write_all.Given as goal

-- the letters to the servers so far
abbrev pub invariant-loop-h : goal.invariant-loop-h
invariant-loop-h l =
    Wrote (sent_bytes l.h (me_in l.mem) (message_to l.sent (state_of l.mem))) l.fn.to l.to
