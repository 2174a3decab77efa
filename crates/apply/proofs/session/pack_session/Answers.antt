use Rattle.std.proofs.Common.{ℕ, List, set, ap, ◌∙◌, arith}
use borrow.Rule.Slice.PartMut.{put_mid}
use Rattle.apply.proofs.Sessions.{packed}
use Rattle.apply.proofs.session.pack_session.Goals as goal

pub returns : goal.returns
returns c =
    let row : List ℕ = set (set c.args.row.now 0 1) 1 c.args.number in
    ap (λ (z : List ℕ). put_mid 35 33 (put_mid 2 33 row z) c.copy_text-2.new.to) c.copy_text.ensures
    ∙ (ap (λ (z : List ℕ). put_mid 35 33 (put_mid 2 33 row c.args.reply.now.after) z) c.copy_text-2.ensures
    ∙ packed c.args.number c.args.row.now c.args.reply.now.after c.args.reply.now.before c.requires (omega arith) (omega arith))
