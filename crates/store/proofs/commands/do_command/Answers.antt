use Rattle.store.proofs.CommandParts.{command_text}
use Rattle.store.proofs.commands.do_command.Goals as goal

pub do_drop_if-requires-clause-text : goal.do_drop_if-requires-clause-text
do_drop_if-requires-clause-text c = command_text c.args.command.now c.requires.command
