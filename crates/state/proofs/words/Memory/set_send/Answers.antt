use Rattle.std.proofs.Common.{◌≡◌, Bool, true, false, refl, ◌∙◌}
use Rattle.std.specs.Int.{from_bool}
use Rattle.memory.specs.Words.{bit}
use Rattle.state.proofs.words.Memory.set_send.Goals as goal
use Rattle.state.proofs.Laws.{of_words}
use Rattle.state.proofs.HeadWords.{send_written}

bit_is : (b : Bool) → from_bool b ≡ bit b
bit_is true = refl
bit_is false = refl

pub invariant_of-self : goal.invariant_of-self
invariant_of-self c =
    record { held = (send_written c.args.self.now.words.now c.args.send c.from.result c.args.self.now.held (c.from.ensures ∙ bit_is c.args.send)).held }

pub returns : goal.returns
returns c = of_words _ _ _ refl (send_written c.args.self.now.words.now c.args.send c.from.result c.args.self.now.held (c.from.ensures ∙ bit_is c.args.send))
