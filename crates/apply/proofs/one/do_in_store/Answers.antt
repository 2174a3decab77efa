use Rattle.std.proofs.Common.{refl, ℕ, ◌-◌, List, length, take, drop, ap, ◌∙◌, arith}
use Rattle.servers.specs.Store.{reply, Command}
use Rattle.texts.specs.Words.{perhaps_words}
use Rattle.texts.specs.Commands.{command_in}
use Rattle.store.specs.Region.{items_of}
use Rattle.state.proofs.Laws.{long, of_turns}
use Rattle.state.specs.Held.{state_of}
use Rattle.apply.proofs.Doing.{region_lent, region_held, region_room, stored, reply_read}
use Rattle.apply.proofs.one.do_in_store.Goals as goal

pub slice_bounds-do_command-count : goal.slice_bounds-do_command-count
slice_bounds-do_command-count c = let z = long c.args.mem.now.words.now c.args.mem.now.held in let at = c.store_at-at.ensures in omega arith

pub slice_bounds-do_command-start : goal.slice_bounds-do_command-start
slice_bounds-do_command-start c = let z = long c.args.mem.now.words.now c.args.mem.now.held in let at = c.store_at-at.ensures in omega arith

pub do_command-requires : goal.do_command-requires
do_command-requires c =
    let m = c.args.mem.now.words.now in
    let at : ℕ = c.store_at-at.result in
    let r : List ℕ = take (length m - at) (drop at m) in
    let e = region_lent m at c.store_at-at.ensures in
    record {
      held = region_held m r c.args.mem.now.held e;
      room = region_room m r c.args.mem.now.held e c.requires.few;
      command = c.requires.command;
    }

pub invariant_of-mem : goal.invariant_of-mem
invariant_of-mem c =
    let m = c.args.mem.now.words.now in
    let at : ℕ = c.store_at-at.result in
    let r : List ℕ = take (length m - at) (drop at m) in
    let x : Command = command_in c.args.command.now in
    let p = c.store_at-at.ensures in
    let e = region_lent m at p in
    let z = long m c.args.mem.now.held in
    let d = c.do_command.ensures in
    let read = reply_read x (state_of m).store c.do_command.result.after c.do_command.result.before c.requires.command.good
    c.args.mem.now.held.fits.3.items
    (d.after ∙ ap (λ (y : List ℕ). perhaps_words 32 (reply x (items_of y)).now) e)
    (d.before ∙ ap (λ (y : List ℕ). perhaps_words 32 (reply x (items_of y)).old) e) in
    record {
      held = (stored m x r c.do_command.new.region c.do_command.result.after c.do_command.result.before at (length m - at)
          c.args.mem.now.held e p (omega arith) c.requires.few c.requires.command.good d).held;
    }

pub returns : goal.returns
returns c =
    let m = c.args.mem.now.words.now in
    let at : ℕ = c.store_at-at.result in
    let r : List ℕ = take (length m - at) (drop at m) in
    let x : Command = command_in c.args.command.now in
    let p = c.store_at-at.ensures in
    let e = region_lent m at p in
    let z = long m c.args.mem.now.held in
    let d = c.do_command.ensures in
    let read = reply_read x (state_of m).store c.do_command.result.after c.do_command.result.before c.requires.command.good
    c.args.mem.now.held.fits.3.items
    (d.after ∙ ap (λ (y : List ℕ). perhaps_words 32 (reply x (items_of y)).now) e)
    (d.before ∙ ap (λ (y : List ℕ). perhaps_words 32 (reply x (items_of y)).old) e) in
    record {
      turns = of_turns _ _ _ _ refl (stored m x r c.do_command.new.region c.do_command.result.after c.do_command.result.before at (length m - at)
          c.args.mem.now.held e p (omega arith) c.requires.few c.requires.command.good d);
      after = read.0;
      before = read.1;
      reply = read.2;
    }
