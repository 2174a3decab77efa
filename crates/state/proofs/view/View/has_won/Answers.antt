use Rattle.std.proofs.Common.{◌/◌, ltb, get_or, ap, ◌∙◌}
use lib.Count.{ones}
use Rattle.memory.specs.Layout.{servers_in}
use Rattle.state.specs.Held.{state_of}
use Rattle.servers.specs.declared.limits.Limits.{Limits}
use Rattle.state.proofs.view.View.has_won.Goals as goal
use Rattle.state.proofs.PeerWords.{votes_word}
use Rattle.state.proofs.VoteBits.{ones_bits}

pub returns : goal.returns
returns c =
    c.is_majority.ensures
    ∙ (ap (λ (l : Limits). ltb (l.servers / 2) (ones (get_or c.args.self.words.now 12 0))) c.limits-all.ensures
    ∙ ap (ltb (servers_in c.args.self.words.now / 2))
    (ap ones (votes_word c.args.self.words.now c.args.self.held) ∙ ones_bits (state_of c.args.self.words.now).votes))
