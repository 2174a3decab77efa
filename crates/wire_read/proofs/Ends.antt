-- How far the reader of events comes: not past the end of the bytes.
use Rattle.std.proofs.Common.{◌≡◌, ℕ, suc, ◌<◌, ◌≤◌, ltb, true, List, [], ◌∷◌, length, get_or, refl, arith}
use Rattle.std.proofs.lemmas.Bool.{and_from, lt-ltb}
use Rattle.std.proofs.lemmas.List.{length-append}
use Rattle.servers.specs.Promise.{all_below, bytes}
use Rattle.servers.specs.Server.{Event}
use Rattle.wire.specs.Read.{Read, got, stuck, read_front}
use Rattle.wire.specs.Write.{write_event}
use Rattle.wire.proofs.Codecs.{Seen, whole, short, wrong}
use Rattle.wire.proofs.Events.{GoodEvent, event}
use Rattle.wire_read.specs.Means.{Within, means}
use Rattle.wire_read.specs.declared.parts.Event as parts
use Rattle.wire_read.specs.declared.parts.Event.TheVariants.{Timeout, Request, Comes, Restart, Garbled}

pub are_bytes : (bs : List ℕ) → ((i : ℕ) → get_or bs i 0 < 256) → bytes bs ≡ true
unfolding all_below
are_bytes [] h = refl
are_bytes (b ∷ bs) h = and_from (ltb b 256) (bytes bs) (lt-ltb b 256 (h 0)) (are_bytes bs (λ i. h (suc i)))

-- an event is read, with no more left than there was; or so many are left, and no more than there were
abbrev pub Ends : ℕ → Read Event → Type 0
Ends n (got e r) = GoodEvent e × (length r ≤ n)
Ends n (stuck k) = k ≤ n

pub front_ends : (bs : List ℕ) → ((i : ℕ) → get_or bs i 0 < 256) → Ends (length bs) (read_front bs)
front_ends bs h = so (event.seen bs (are_bytes bs h))
  where
    so : Seen write_event GoodEvent read_front bs → Ends (length bs) (read_front bs)
    so (whole e rest g q) =
        let l = length-append (write_event e) rest in
        rw (q, event.back e rest g) (g, omega arith)
    so (short e more g s r) = rw r (omega arith)
    so (wrong p b y e more q g s f) =
        let l = length-append p (b ∷ y) in
        rw (q, f y) (omega arith)

pub good_within : (bs : List ℕ) (e : parts.Event) → GoodEvent (means e) → Within bs e
good_within bs Timeout g = tt
good_within bs (Request c k x) g = tt
good_within bs (Comes h m) g = tt
good_within bs Restart g = tt
good_within bs (Garbled n) g = absurd g
