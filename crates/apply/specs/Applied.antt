-- What applying an entry means, by parts: a client's session, the state after a command, and who is told what.
-- Assumes nothing: these are definitions.
use Rattle.std.specs.Prelude.{ℕ, true, List, [], ◌∷◌, Some, None, Option}
use Rattle.servers.specs.Store.{pick, Command, Reply, done, reply}
use Rattle.servers.specs.Server.{Entry, Said, Cached, State, nth, set_at, no_cached, with_done, with_applied, is_new, do_one}
use Rattle.texts.specs.Words.{perhaps_in}
use Rattle.store.specs.Region.{region_do}

-- the session of a client
abbrev pub session : State → ℕ → Cached
session s c = nth no_cached s.cache c

-- the session after a command of that number
abbrev pub answered : ℕ → Reply → Cached
answered k r = record { there = true; id = k; reply = r }

-- a reply by the words of its two parts
abbrev pub reply_in : List ℕ → List ℕ → Reply
reply_in a b = record { now = perhaps_in a; old = perhaps_in b }

abbrev pub with_session : ℕ → Cached → State → State
with_session c x s = with_done s.store (set_at s.cache c x) s

abbrev pub with_store_done : Command → State → State
with_store_done x s = with_done (done x s.store) s.cache s

-- a command of a client done, and its reply kept
abbrev pub did : Command → ℕ → ℕ → State → State
did x c k s = with_done (done x s.store) (set_at s.cache c (answered k (reply x s.store))) s

-- the store's region after an entry
abbrev pub region_one : State → Entry → List ℕ → List ℕ
region_one s e r = pick (is_new s e) (region_do e.command r) r

-- the state after the next entry, at that index
abbrev pub next_one : ℕ → State → Entry → State
next_one i s e = with_applied i (do_one s e)

-- what a session has for its client
abbrev pub kept_for : ℕ → Cached → Said
kept_for c x = record { client = c; id = x.id; reply = x.reply }

-- the client that is told something, or none
abbrev pub told_client : List Said → Option ℕ
told_client [] = None
told_client (x ∷ xs) = Some x.client
