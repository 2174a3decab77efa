use Rattle.std.proofs.Common.{◌≡◌, ℕ, List, length, sym, ap, ◌∙◌, arith}
use Rattle.wire.specs.Write.{write_said, write_saids}
use Rattle.wire_write.proofs.Putting.{wrote_as, wrote_none}
use Rattle.memory.specs.Layout as layout
use Rattle.state.specs.Held as held
use Rattle.state.specs.Memory.{limits_of, state_of}
use Rattle.state.specs.View as view
use Rattle.state.specs.declared.view.View.{View}
use Rattle.state.specs.declared.words.Memory.{Memory}
use Rattle.apply.specs.Applied.{session, kept_for, told_client}
use Rattle.apply.proofs.Telling.{one_said, told_none}
use Rattle.apply.specs.InMemory.{entry_of}
use Rattle.apply.proofs.Going.{same_told, next_turns, next_told}
use Rattle.apply.proofs.all.apply_next.Goals as goal

-- what is told is read from the words that are lent
told_from : (v : View) (m : Memory) (client : ℕ) → v.words.now ≡ m.words.now
    → write_said (kept_for client (session (view.state_of v) client)) ≡ write_said (kept_for client (session (state_of m) client))
told_from v m client e = ap (λ (z : List ℕ). write_said (kept_for client (session (held.state_of z) client))) e

pub tell-requires : goal.tell-requires
tell-requires c =
    let m = c.args.mem.now in
    let m₂ = c.do_one.new.mem in
    let i : ℕ = c.args.index in
    let k : ℕ = c.in-Some.client in
    let b = c.set_applied.ensures in
    let next = c.requires.next in
    let room = c.requires.room in
    let t = next_turns m c.set_applied.new.self i b m₂ c.do_one.ensures.turns in
    let e = sym c.in-Some.is
    ∙ (c.do_one.ensures.told ∙ ap told_client (same_told m c.set_applied.new.self i b)) in
    let x = next_told m m₂ i k (omega arith) c.requires.there t e in
    let same = ap length (ap write_saids x.1 ∙ one_said (kept_for k (session (state_of m₂) k))) in
    let lent = ap length (told_from c.view.result m₂ k c.view.ensures) in
    let clients = ap layout.clients_in c.view.ensures in
    let there = x.0 in
    record { there = omega arith; room = omega arith }

pub returns-in-Some : goal.returns-in-Some
returns-in-Some c =
    let m = c.args.mem.now in
    let m₂ = c.do_one.new.mem in
    let i : ℕ = c.args.index in
    let k : ℕ = c.in-Some.client in
    let b = c.set_applied.ensures in
    let next = c.requires.next in
    let t = next_turns m c.set_applied.new.self i b m₂ c.do_one.ensures.turns in
    let e = sym c.in-Some.is
    ∙ (c.do_one.ensures.told ∙ ap told_client (same_told m c.set_applied.new.self i b)) in
    let x = next_told m m₂ i k (omega arith) c.requires.there t e in
    let one = ap length x.1 in
    record {
      turns = t;
      bytes = wrote_as
          (told_from c.view.result m₂ k c.view.ensures
          ∙ sym (ap write_saids x.1 ∙ one_said (kept_for k (session (state_of m₂) k)))) c.tell.ensures;
      count = omega arith;
    }

pub returns-in-None : goal.returns-in-None
unfolding write_saids
returns-in-None c =
    let m = c.args.mem.now in
    let i : ℕ = c.args.index in
    let b = c.set_applied.ensures in
    let room = c.requires.room in
    let none = told_none (limits_of m) (state_of m) (entry_of m i) (sym c.in-None.is
    ∙ (c.do_one.ensures.told ∙ ap told_client (same_told m c.set_applied.new.self i b))) in
    let zero = ap length none in
    record {
      turns = next_turns m c.set_applied.new.self i b c.do_one.new.mem c.do_one.ensures.turns;
      bytes = wrote_as (sym (ap write_saids none)) (wrote_none c.args.to.now (omega arith));
      count = omega arith;
    }
