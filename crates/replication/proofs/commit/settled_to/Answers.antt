use Rattle.std.proofs.Common.{◌≡◌, ℕ, ◌-◌, eqb, List, length, sym, ap, ◌∙◌, arith}
use Rattle.std.proofs.lemmas.Bool.{ltb-true, ltb-false}
use Rattle.servers.specs.declared.limits.Limits as code
use Rattle.servers.specs.Server.{State, Limits}
use Rattle.raft_log.specs.Places.{entry_in}
use Rattle.state.specs.View.{limits_of, log_part, servers_in, state_of}
use Rattle.replication.proofs.Settling.{have_yes, have_no, settled_yes, settled_few, settled_other, settled_none}
use Rattle.replication.proofs.commit.settled_to.Goals as goal
use Rattle.replication.proofs.commit.settled_to.Goals.{then-has+else-is_majority, else-has}
use Rattle.replication.proofs.commit.settled_to.Goals.{then-is_of+else-loop-j-test, else-is_of}

pub loop-j-preserved : goal.loop-j-preserved
loop-j-preserved c =
    let ms : List ℕ = (state_of c.args.mem).matches in
    let len : length ms ≡ servers_in c.args.mem = c.args.mem.held.fits.2.match_long in
    let all = ap (λ (l : code.Limits). l.servers) c.limits-all.ensures in
    elim c.if-has.branch [
      | then-has+else-is_majority w ↦ let few = ltb-false _ _ (sym w.is_majority.ensures ∙ w.if-is_majority.false) in
          let y = have_yes c.settled.i c.loop-j.j ms (omega arith) (sym c.has.ensures ∙ w.if-has.true) in
          (omega arith, omega arith, omega arith, omega arith)
      | else-has w ↦
          let y = have_no c.settled.i c.loop-j.j ms (omega arith) (sym c.has.ensures ∙ w.if-has.false) in
          (omega arith, omega arith, omega arith, omega arith)
    ]

pub settled-preserved : goal.settled-preserved
settled-preserved c =
    let l : Limits = limits_of c.args.mem in
    let s : State = state_of c.args.mem in
    let ws : List ℕ = log_part c.args.mem in
    let i : ℕ = c.settled.i in
    let some = c.settled-test.true in
    let e = c.is_of.ensures ∙ ap (eqb (entry_in i ws).term) c.term-term.ensures.value in
    elim c.if-is_of.branch [
      | then-is_of+else-loop-j-test w ↦
          let all = ap (λ (l : code.Limits). l.servers) c.limits-all.ensures in
          let j : w.loop-j.j ≡ servers_in c.args.mem = omega arith in
          let no = settled_few l s ws i w.loop-j.j (omega arith) (c.args.mem.held.fits.2.match_long ∙ sym j) (omega arith) in
          (cc, cc)
      | else-is_of w ↦
          let no = settled_other l s ws i (omega arith) (sym e ∙ w.if-is_of.false) in
          (cc, cc)
    ]

pub returns-after-is_of : goal.returns-after-is_of
returns-after-is_of c =
    let l : Limits = limits_of c.args.mem in
    let s : State = state_of c.args.mem in
    let ws : List ℕ = log_part c.args.mem in
    let i : ℕ = c.settled.i in
    let some = c.settled-test.true in
    let k = c.commit-commit.ensures.value in
    let e = c.is_of.ensures ∙ ap (eqb (entry_in i ws).term) c.term-term.ensures.value in
    let none = settled_none l s ws (i - 1) (omega arith) in
    elim c.if-is_of.branch [
      | then-is_of+else-loop-j-test w ↦
          let all = ap (λ (l : code.Limits). l.servers) c.limits-all.ensures in
          let j : w.loop-j.j ≡ servers_in c.args.mem = omega arith in
          let no = settled_few l s ws i w.loop-j.j (omega arith) (c.args.mem.held.fits.2.match_long ∙ sym j) (omega arith) in
          cc
      | else-is_of w ↦
          let no = settled_other l s ws i (omega arith) (sym e ∙ w.if-is_of.false) in
          cc
    ]

pub returns : goal.returns
returns c =
    let m = c.args.mem in
    let k = c.commit-commit.ensures.value in
    let no = settled_none (limits_of m) (state_of m) (log_part m) c.settled.i (omega arith) in
    cc

pub returns-then-is_majority : goal.returns-then-is_majority
returns-then-is_majority c =
    let s : State = state_of c.args.mem in
    let ws : List ℕ = log_part c.args.mem in
    let i : ℕ = c.settled.i in
    let len : length s.matches ≡ servers_in c.args.mem = c.args.mem.held.fits.2.match_long in
    let all = ap (λ (l : code.Limits). l.servers) c.limits-all.ensures in
    let e = c.is_of.ensures ∙ ap (eqb (entry_in i ws).term) c.term-term.ensures.value in
    let k = c.commit-commit.ensures.value in
    let more = ltb-true _ _ (sym c.is_majority.ensures ∙ c.if-is_majority.true) in
    let y = have_yes i c.loop-j.j s.matches (omega arith) (sym c.has.ensures ∙ c.if-has.true) in
    let yes = settled_yes (limits_of c.args.mem) s ws i (sym e ∙ c.if-is_of.true) (omega arith) (omega arith) in
    cc
