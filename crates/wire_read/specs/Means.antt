-- What the code's parts mean, and the one shape of a reader's promise. Assumes nothing: these are definitions.
use Rattle.std.specs.Prelude.{◌≡◌, ℕ, ◌≤◌, List, [], ◌∷◌, length, Some, None, Ok, Err, Option, Result}
use Rattle.std.specs.Borrow.{Bor}
use Rattle.servers.specs.Store as store
use Rattle.servers.specs.Server as server
use Rattle.wire.specs.Read.{Read, got, stuck, read_entries}
use Rattle.wire_read.specs.Got.{list_read}
use Rattle.wire_read.specs.declared.parts.Command.{Command}
use Rattle.wire_read.specs.declared.parts.Command.TheVariants.{Get, Put, Remove, Swap, DropIf}
use Rattle.wire_read.specs.declared.parts.Entry.{Entry}
use Rattle.wire_read.specs.declared.parts.Entries.{Entries}
use Rattle.wire_read.specs.declared.parts.Message.{Message}
use Rattle.wire_read.specs.declared.parts.Message.TheVariants.{AskVote, Vote, Append, Appended}
use Rattle.wire_read.specs.declared.parts.Event.{Event}
use Rattle.wire_read.specs.declared.parts.Event.TheVariants.{Timeout, Request, Comes, Restart, Garbled}
use Rattle.wire_read.specs.declared.read.Stuck.{Stuck}

-- numbers stand for themselves
abbrev pub itself : {V : Type 0} → V → V
itself v = v

abbrev pub text_of : Bor (List ℕ) → List ℕ
text_of t = t.now

abbrev pub perhaps_of : Option (Bor (List ℕ)) → store.Perhaps
perhaps_of None = []
perhaps_of (Some t) = t.now ∷ []

abbrev pub command_of : Command → store.Command
command_of (Get k) = store.get k.now
command_of (Put k v) = store.put k.now v.now
command_of (Remove k) = store.remove k.now
command_of (Swap k e v) = store.swap k.now (perhaps_of e) v.now
command_of (DropIf k v) = store.drop_if k.now v.now

abbrev pub entry_of : Entry → server.Entry
entry_of e =
    record {
      at = e.at;
      client = e.client;
      id = e.id;
      index = e.index;
      term = e.term;
      command = command_of e.command;
    }

abbrev pub entries_of : Entries → List server.Entry
entries_of es = list_read (read_entries es.count es.bytes.now)

abbrev pub message_of : Message → server.Message
message_of (AskVote t i u) = server.ask_vote t i u
message_of (Vote t ok) = server.vote t ok
message_of (Append t i u c es) = server.append t i u (entries_of es) c
message_of (Appended t i ok) = server.appended t i ok

-- THE EVENT of the code's event
abbrev pub means : Event → server.Event
means Timeout = server.timeout
means (Request c k x) = server.request c k (command_of x)
means (Comes h m) = server.comes h (message_of m)
means Restart = server.restart
means (Garbled n) = server.garbled n

-- A READER'S PROMISE: its value, as what it means, and the bytes after it, or how many are left where it is refused, are what
-- the definition reads.
abbrev pub Reads : {V A : Type 0} → (V → A) → Read A → Result (V × Bor (List ℕ)) Stuck → Type 0
Reads f d (Ok p) = d ≡ got (f p.0) p.1.now
Reads f d (Err s) = d ≡ stuck s.left

-- the place of a refusal lies within the bytes
abbrev pub Within : List ℕ → Event → Type 0
Within bs (Garbled n) = n ≤ length bs
Within bs Timeout = Unit {0}
Within bs (Request c k x) = Unit {0}
Within bs (Comes h m) = Unit {0}
Within bs Restart = Unit {0}
