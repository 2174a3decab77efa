-- What is sent to each of the others, as the code chooses it. Assumes nothing: these are definitions.
use Rattle.std.specs.Prelude.{ℕ, List}
use Rattle.servers.specs.Server.{Letter, State, Message, to_others, to_server}
use Rattle.state.specs.View.{me_in, servers_in, state_of}
use Rattle.state.specs.declared.view.View.{View}
use Rattle.sending.specs.Letters.{asks}
use Rattle.sending.specs.declared.others.Sent.{Sent}
use Rattle.sending.specs.declared.others.Sent.TheVariants.{Ask, Entries}

abbrev pub message_to : Sent → State → ℕ → Message
message_to Ask s h = asks s
message_to Entries s h = to_server s h

abbrev pub letters_to_all : Sent → View → List Letter
letters_to_all x m = to_others (servers_in m) (me_in m) (message_to x (state_of m))
