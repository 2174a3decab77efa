use Rattle.texts.specs.Words.{text_in}
use Rattle.store.proofs.Doing.{did_remove}
use Rattle.store.proofs.commands.do_remove.Goals as goal

pub returns : goal.returns
returns c =
    did_remove (text_in c.args.name.now) c.args.region.now c.remove_item.new.region _ _ c.find_before-spot.result.0 c.requires.held
    c.find_before-spot.ensures.spot c.find_before-spot.ensures.told c.remove_item.ensures c.told_none-after.ensures
