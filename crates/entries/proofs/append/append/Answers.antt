use Rattle.std.proofs.Common.{◌≡◌, ℕ, true, false, List, [], ◌∷◌, sym, ap, ◌∙◌}
use Rattle.servers.specs.Server.{Entry, Letter, Message, appended, State, has_new, appends, append_reply, advanced, following}
use Rattle.wire_read.specs.Means.{entries_of}
use Rattle.servers.proofs.Tests.{pick_true, pick_false}
use Rattle.state.specs.Memory.{state_of}
use Rattle.state.proofs.Laws.{stays, next_then, said}
use Rattle.entries.specs.Steps.{extended_if, accepts, accepted}
use Rattle.entries.specs.declared.append.Last.{Last}
use Rattle.entries.proofs.append.append.Goals as goal
use Rattle.entries.proofs.Taking.{appends_is, reply_is, before_low, taken_is}

abbrev letter : ℕ → Message → Letter
letter h x = record { to = h; message = x }

pub extend_by_new-requires-clause-within : goal.extend_by_new-requires-clause-within
extend_by_new-requires-clause-within c =
    before_low (state_of c.args.mem.now) c.args.term c.args.before c.args.before_term c.args.mem.now.held.fits.1.row
    (sym c.accepts-taken.ensures ∙ c.if-not-taken.false)

-- nothing is changed where they are not taken
pub returns-then-not-taken-clause-state : goal.returns-then-not-taken-clause-state
returns-then-not-taken-clause-state c =
    let m = c.args.mem.now in
    let s : State = state_of m in
    let es : List Entry = entries_of c.args.entries in
    let no : accepts s c.args.term c.args.before c.args.before_term ≡ false = sym c.accepts-taken.ensures ∙ c.if-not-taken.true in
    let same : appends s c.args.from c.args.term c.args.before c.args.before_term es c.args.commit ≡ s =
    appends_is s c.args.from c.args.term c.args.before c.args.before_term es c.args.commit c.args.mem.now.held.fits.1.row
    ∙ pick_false _ (accepted s c.args.from c.args.term c.args.before es c.args.commit) s no in
    said m m _ _ (sym same) (stays m)

pub returns : goal.returns
returns c =
    let m = c.args.mem.now in
    let s : State = state_of m in
    let es : List Entry = entries_of c.args.entries in
    let h : ℕ = c.args.from in
    let t : ℕ = c.args.term in
    let i : ℕ = c.args.before in
    let u : ℕ = c.args.before_term in
    let k : ℕ = c.args.commit in
    let m₁ = c.extend_by_new.new.mem in
    let m₂ = c.follow_leader.new.mem in
    let yes : accepts s t i u ≡ true = sym c.accepts-taken.ensures ∙ c.if-not-taken.false in
    let whole : following h (advanced t (extended_if (has_new s es) s i es k)) ≡ appends s h t i u es k =
    taken_is s h t i es k ∙ sym (appends_is s h t i u es k c.args.mem.now.held.fits.1.row ∙ pick_true _ _ _ yes) in
    let says : append_reply s t i u es ≡ appended t c.last_of-last.result.index true =
    reply_is s t i u es ∙ (pick_true _ _ _ yes ∙ ap (λ (x : Last). appended t x.index true) (sym c.last_of-last.ensures)) in
    record {
      state = said m m₂ _ _ whole
          (next_then (λ l x. following h (advanced t x)) m m₁ m₂ (extended_if (has_new s es) s i es k)
          c.extend_by_new.ensures c.follow_leader.ensures);
      reply = ap (λ (x : Message). letter h x ∷ []) says;
    }
