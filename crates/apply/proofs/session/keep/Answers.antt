use Rattle.std.proofs.Common.{refl, ◌≡◌, ℕ, ◌+◌, ◌-◌, List, length, take, drop, ap, ◌∙◌, arith}
use Rattle.raft_log.proofs.Written.{length_part}
use Rattle.state.proofs.Laws.{of_words}
use Rattle.state.proofs.Sessions.{session_written}
use Rattle.apply.specs.Applied.{answered, reply_in}
use Rattle.apply.proofs.Sessions.{kept_words}
use Rattle.apply.proofs.session.keep.Goals as goal

pub pack_session-requires : goal.pack_session-requires
pack_session-requires c =
    let m = c.args.mem.now.words.now in
    let at : ℕ = c.session_at-at.result in
    let k : at + 68 - at ≡ 68 = omega arith in
    ap (λ (n : ℕ). length (take n (drop at m))) k ∙ length_part at 68 m c.session_at-at.ensures.end

pub invariant_of-mem : goal.invariant_of-mem
invariant_of-mem c =
    let a : List ℕ = c.args.reply.now.after in
    let b : List ℕ = c.args.reply.now.before in
    let at : ℕ = c.session_at-at.result in
    record {
      held = (
          session_written c.args.mem.now.words.now c.pack_session.new.row c.args.client (answered c.args.number (reply_in a b))
          at (at + 68 - at) c.args.mem.now.held c.requires.there c.session_at-at.ensures.value (omega arith)
          (c.pack_session.ensures ∙ kept_words c.args.number a b c.requires.after c.requires.before)
          (record { id = omega arith; now = c.requires.after.fits; old = c.requires.before.fits })).held;
    }

pub returns : goal.returns
returns c =
    let a : List ℕ = c.args.reply.now.after in
    let b : List ℕ = c.args.reply.now.before in
    let at : ℕ = c.session_at-at.result in
    of_words _ _ _ refl
    (session_written c.args.mem.now.words.now c.pack_session.new.row c.args.client (answered c.args.number (reply_in a b))
    at (at + 68 - at) c.args.mem.now.held c.requires.there c.session_at-at.ensures.value (omega arith)
    (c.pack_session.ensures ∙ kept_words c.args.number a b c.requires.after c.requires.before)
    (record { id = omega arith; now = c.requires.after.fits; old = c.requires.before.fits }))
