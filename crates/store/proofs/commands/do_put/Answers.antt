use Rattle.texts.specs.Words.{text_in}
use Rattle.store.proofs.Doing.{did_put}
use Rattle.store.proofs.commands.do_put.Goals as goal

pub returns : goal.returns
returns c =
    did_put (text_in c.args.name.now) (text_in c.args.text.now) c.args.region.now c.put_item.new.region _ _ c.requires.held
    c.requires.name.fits c.requires.text.fits c.requires.room c.find_before-spot.ensures.told c.put_item.ensures
    c.told_text-after.ensures
