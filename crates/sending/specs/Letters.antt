-- Letters by what they say. Assumes nothing: these are definitions.
use Rattle.std.specs.Prelude.{ℕ, List}
use Rattle.servers.specs.Server.{Entry, Letter, State, Message, ask_vote, append, last_index, last_term, term_of, entry_at, above}
use Rattle.servers.specs.Server.{to_others, to_server}
use Rattle.wire.specs.Write.{write_letter}
use Rattle.state.specs.View.{me_in, servers_in, state_of}
use Rattle.state.specs.declared.view.View.{View}

-- the bytes of a message to a server
abbrev pub post : ℕ → Message → List ℕ
post h m = write_letter (record { to = h; message = m })

-- who stands asks for votes in its term, with the last index and term of its log
abbrev pub asks : State → Message
asks s = ask_vote s.term (last_index s.log) (last_term s.log)

-- what comes after an index of a log
abbrev pub append_from : List Entry → ℕ → ℕ → ℕ → Message
append_from log t i c = append t i (term_of (entry_at i log)) (above i log) c

-- to all others, by the state that a memory holds: a candidate's letters, and a leader's
abbrev pub asks_to_all : View → List Letter
asks_to_all m = to_others (servers_in m) (me_in m) (λ h. asks (state_of m))

abbrev pub entries_to_all : View → List Letter
entries_to_all m = to_others (servers_in m) (me_in m) (λ h. to_server (state_of m) h)
