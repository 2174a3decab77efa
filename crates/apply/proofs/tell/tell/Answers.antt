use Rattle.std.proofs.Common.{ℕ, ◌≤◌, List, length, get_or, sym, ap, ◌∙◌, subst}
use Rattle.servers.specs.Server.{Cached}
use Rattle.wire.specs.Write.{write_said}
use Rattle.wire_write.specs.Put.{Room}
use Rattle.wire_write.proofs.Putting.{wrote_as}
use Rattle.memory.specs.Words.{cached_in}
use Rattle.memory.proofs.Parts.{length_cached}
use Rattle.state.specs.View.{state_of}
use Rattle.apply.specs.Applied.{session, kept_for}
use Rattle.apply.proofs.Sessions.{session_good, session_back, now_low, old_low}
use Rattle.apply.proofs.tell.tell.Goals as goal

pub write_session-requires : goal.write_session-requires
write_session-requires c =
    let x : Cached = session (state_of c.args.mem) c.args.client in
    let g = session_good c.args.mem.words.now c.args.client c.args.mem.held in
    let e = c.session.ensures in
    record {
      size = ap length e ∙ length_cached x;
      after = subst (λ (z : List ℕ). get_or z 2 0 ≤ 257) (sym e) (now_low x g);
      before = subst (λ (z : List ℕ). get_or z 35 0 ≤ 257) (sym e) (old_low x g);
      room = subst (λ (y : Cached). Room (length (write_said (kept_for c.args.client y))) c.args.to.now)
          (sym (ap cached_in e ∙ session_back x g)) c.requires.room;
    }

pub returns : goal.returns
returns c =
    let x : Cached = session (state_of c.args.mem) c.args.client in
    let g = session_good c.args.mem.words.now c.args.client c.args.mem.held in
    wrote_as (ap (λ (y : Cached). write_said (kept_for c.args.client y)) (ap cached_in c.session.ensures ∙ session_back x g))
    c.write_session.ensures
