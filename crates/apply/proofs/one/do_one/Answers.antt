use Rattle.std.proofs.Common.{◌≡◌, ℕ, true, false, List, Option, sym, ap, ◌∙◌}
use Rattle.servers.specs.Server.{Entry, is_new}
use Rattle.state.specs.Held as held
use Rattle.state.specs.Memory.{region_in, state_of}
use Rattle.state.specs.View as view
use Rattle.state.specs.declared.view.View.{View}
use Rattle.state.specs.declared.words.Memory.{Memory}
use Rattle.state.proofs.Laws.{stays, turns_said}
use Rattle.apply.specs.Applied.{session}
use Rattle.apply.specs.InMemory.{entry_of}
use Rattle.apply.specs.Means.{last_of}
use Rattle.apply.proofs.Turning.{new_tested, new_state, new_region, old_state, old_region}
use Rattle.apply.proofs.one.do_one.Goals as goal

-- the last done is read from the words that are lent
last_in : (v : View) (m : Memory) (client : ℕ) (last : Option ℕ) → v.words.now ≡ m.words.now → last ≡ last_of (session (view.state_of v) client)
    → last ≡ last_of (session (state_of m) client)
last_in v m client last e k = k ∙ ap (λ (z : List ℕ). last_of (session (held.state_of z) client)) e

pub returns-then-new-clause-turns : goal.returns-then-new-clause-turns
returns-then-new-clause-turns c =
    let m = c.args.mem.now in
    let e : Entry = entry_of m c.args.index in
    let n = c.numbers_at-numbers.ensures.value in
    let last = last_in c.view.result m _ c.last_done-last.result c.view.ensures c.last_done-last.ensures in
    let new : is_new (state_of m) e ≡ true =
    sym (new_tested (state_of m) e c.numbers_at-numbers.result c.last_done-last.result c.is_new-new.result n last
    c.is_new-new.ensures) ∙ c.if-new.true in
    turns_said m c.do_new.new.mem _ _ _ _ (new_state (state_of m) e c.numbers_at-numbers.result n new)
    (new_region (state_of m) e (region_in m) new) c.do_new.ensures

pub returns-else-new-clause-turns : goal.returns-else-new-clause-turns
returns-else-new-clause-turns c =
    let m = c.args.mem.now in
    let e : Entry = entry_of m c.args.index in
    let last = last_in c.view.result m _ c.last_done-last.result c.view.ensures c.last_done-last.ensures in
    let old : is_new (state_of m) e ≡ false =
    sym (new_tested (state_of m) e c.numbers_at-numbers.result c.last_done-last.result c.is_new-new.result
    c.numbers_at-numbers.ensures.value last c.is_new-new.ensures) ∙ c.if-new.false in
    turns_said m m _ _ _ _ (old_state (state_of m) e old) (old_region (state_of m) e (region_in m) old)
    (stays m)
