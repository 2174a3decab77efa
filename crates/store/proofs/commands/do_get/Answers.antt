use Rattle.texts.specs.Words.{text_in}
use Rattle.store.proofs.Doing.{did_get}
use Rattle.store.proofs.commands.do_get.Goals as goal

pub returns : goal.returns
returns c = did_get (text_in c.args.name.now) c.args.region.now _ c.requires.held c.find_before.ensures.told
