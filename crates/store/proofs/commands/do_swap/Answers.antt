use Rattle.std.proofs.Common.{ℕ, List}
use Rattle.servers.specs.Store.{Perhaps}
use Rattle.texts.specs.Words.{text_in, perhaps_in}
use Rattle.store.proofs.Doing.{tested, did_get, did_put, swap_puts, swap_gets}
use Rattle.store.proofs.commands.do_swap.Goals as goal

pub returns-then-same : goal.returns-then-same
returns-then-same c =
    let k : List ℕ = text_in c.args.name.now in let v : List ℕ = text_in c.args.text.now in
    let x : Perhaps = perhaps_in c.args.expected.now in let r : List ℕ = c.args.region.now in
    swap_puts k v r c.put_item.new.region _ _ x
    (tested k r _ c.args.expected.now x _ c.requires.held c.find_before-spot.ensures.told c.requires.expected.is
    c.requires.expected.fits c.if-same.ensures)
    (did_put k v r c.put_item.new.region _ _ c.requires.held c.requires.name.fits c.requires.text.fits c.requires.room
    c.find_before-spot.ensures.told c.put_item.ensures c.told_text-after.ensures)

pub returns-else-same : goal.returns-else-same
returns-else-same c =
    let k : List ℕ = text_in c.args.name.now in let x : Perhaps = perhaps_in c.args.expected.now in
    let r : List ℕ = c.args.region.now in
    swap_gets k (text_in c.args.text.now) r r _ _ x
    (tested k r _ c.args.expected.now x _ c.requires.held c.find_before-spot.ensures.told c.requires.expected.is
    c.requires.expected.fits c.if-same.ensures)
    (did_get k r _ c.requires.held c.find_before-spot.ensures.told)
