use Rattle.std.proofs.Common.{rules, ◌≡◌, ℕ, Bool, List, length, ap, ◌∙◌, arith}
use Rattle.servers.specs.Server.{Letter, Limits, tell_all, dues}
use Rattle.wire.specs.Write.{write_letters}
use Rattle.wire_write.proofs.Putting.{length_wrote}
use Rattle.state.specs.Held as held
use Rattle.state.specs.Memory.{limits_of, state_of}
use Rattle.state.specs.View as view
use Rattle.state.specs.declared.view.View.{View}
use Rattle.state.specs.declared.words.Memory.{Memory}
use Rattle.apply.proofs.Sizes.{told_fits}
use Rattle.server.specs.First.{letters_of}
use Rattle.server.specs.declared.first.First.{First}
use Rattle.server.proofs.Finishing.{Pieces, pieces_turn, pieces_tell, pieces_send, letters_fit}
use Rattle.server.proofs.Written.{does_written, does_answered, finished_as}
use Rattle.server.proofs.finish.finish.Goals as goal

pub apply_all-told-requires : goal.apply_all-told-requires
apply_all-told-requires c =
    let m₂ = c.take_send-send.new.mem in
    let most = told_fits m₂ in
    let same = ap (λ (l : Limits). l.room) (c.take_send-send.ensures.state.limits ∙ c.settle.ensures.limits) in
    let room = c.requires.room.told in
    record { room = omega arith }

-- the letters are read from the words that are lent
letters_from : (v : View) (m : Memory) (send : Bool) (x : First) → v.words.now ≡ m.words.now
    → letters_of send (view.limits_of v) (view.state_of v) x ≡ letters_of send (limits_of m) (state_of m) x
letters_from v m send x e = ap (λ (z : List ℕ). letters_of send (held.limits_of z) (held.state_of z) x) e

pub write_letters-letters-requires : goal.write_letters-letters-requires
write_letters-letters-requires c =
    let m = c.args.mem.now in
    let m₁ = c.settle.new.mem in
    let m₂ = c.take_send-send.new.mem in
    let m₃ = c.apply_all-told.new.mem in
    let p : Pieces m m₁ m₂ m₃ c.take_send-send.result = record {
      settled = c.settle.ensures;
      sent = c.take_send-send.ensures.state;
      why = c.take_send-send.ensures.value;
      done = c.apply_all-told.ensures.turns;
    } in
    let fit = letters_fit m m₁ m₂ m₃ c.take_send-send.result c.args.first (length c.args.out.now) p c.requires.room.answer in
    let next = c.apply_all-told.ensures.bytes.writes.next in
    let same : length c.apply_all-told.new.to.out.now ≡ length c.args.out.now = length_wrote c.apply_all-told.ensures.bytes in
    let lent = ap (λ (z : List Letter). length (write_letters z))
    (letters_from c.view.result m₃ c.take_send-send.result c.args.first c.view.ensures) in
    record { room = omega arith }

pub returns : goal.returns
returns c =
    let m = c.args.mem.now in
    let m₁ = c.settle.new.mem in
    let m₂ = c.take_send-send.new.mem in
    let m₃ = c.apply_all-told.new.mem in
    let b = c.take_send-send.result in
    let p : Pieces m m₁ m₂ m₃ b = record {
      settled = c.settle.ensures;
      sent = c.take_send-send.ensures.state;
      why = c.take_send-send.ensures.value;
      done = c.apply_all-told.ensures.turns;
    } in
    let ss = tell_all (limits_of m₂) (state_of m₂) (dues (state_of m₂)) in
    let lent = letters_from c.view.result m₃ b c.args.first c.view.ensures in
    let ls = letters_of b (view.limits_of c.view.result) (view.state_of c.view.result) c.args.first in
    let w = does_written ss ls c.apply_all-told.ensures.count c.apply_all-told.ensures.bytes.writes
    c.write_letters-letters.ensures.bytes.writes c.does_head.ensures.bytes.writes (omega (arith, c.does_head.ensures.at)) in
    let a = does_answered (pieces_tell m m₁ m₂ m₃ b p) (lent ∙ pieces_send m m₁ m₂ m₃ b c.args.first p)
    c.apply_all-told.ensures.count c.write_letters-letters.ensures.count w in
    finished_as (search rules) (record { turns = pieces_turn m m₁ m₂ m₃ b p; answer_is = a.0; bytes = a.1 })
