-- Messages and events: their codecs.
use Rattle.std.proofs.Common.{◌≡◌, ℕ, zero, suc, true, false, List, [], ◌∷◌, ◌++◌, length, refl, arith}
use Rattle.std.proofs.lemmas.Bool.Decides.{nat_tests}
use Rattle.servers.specs.Server.{Message, ask_vote, vote, append, appended, Event, timeout, request, comes, restart, garbled}
use Rattle.servers.specs.Promise.{all_below, bytes}
use Rattle.wire.specs.Read.{got, read_append, read_message, read_front}
use Rattle.wire.specs.Write.{write_message, write_event}
use Rattle.wire.proofs.Codecs.{Codec, Seen, Arm, arm, whole, same, then, last, counted, tag, no_tag, no_byte}
use Rattle.wire.proofs.Numbers.{Byte, Number, byte, number, bool}
use Rattle.wire.proofs.Commands.{GoodCommand, GoodEntries, command, entries}

abbrev pub GoodMessage : Message → Type 0
GoodMessage (ask_vote t i u) = Number t × (Number i × Number u)
GoodMessage (vote t ok) = Number t × Unit {0}
GoodMessage (append t i u es c) = Number t × (Number i × (Number u × (Number c × (GoodEntries es × Number (length es)))))
GoodMessage (appended t i ok) = Number t × (Number i × Unit {0})

abbrev asking : Arm Message
asking = arm (then number (λ t. then number (λ i. last number (λ u. ask_vote t i u))))

abbrev voting : Arm Message
voting = arm (then number (λ t. last bool (λ ok. vote t ok)))

abbrev appending : Arm Message
appending =
    arm (then number (λ t. then number (λ i. then number (λ u.
    then number (λ c. counted number (λ n. last (entries n) (λ es. append t i u es c)))))))

abbrev replying : Arm Message
replying = arm (then number (λ t. then number (λ i. last bool (λ ok. appended t i ok))))

pub message : Codec same write_message GoodMessage read_message
unfolding read_message read_append all_below
message = record { some = vote 0 false; good = (refl, tt); low = low; back = on; seen = so }
  where
    low : (m : Message) → GoodMessage m → bytes (write_message m) ≡ true
    low (ask_vote t i u) q = asking.laws.low (t, (i, u)) q
    low (vote t ok) q = voting.laws.low (t, ok) q
    low (append t i u es c) q = appending.laws.low (t, (i, (u, (c, es)))) q
    low (appended t i ok) q = replying.laws.low (t, (i, ok)) q

    on : (m : Message) (rest : List ℕ) → GoodMessage m → read_message (write_message m ++ rest) ≡ got m rest
    on (ask_vote t i u) rest q = asking.laws.back (t, (i, u)) rest q
    on (vote t ok) rest q = voting.laws.back (t, ok) rest q
    on (append t i u es c) rest q = appending.laws.back (t, (i, (u, (c, es)))) rest q
    on (appended t i ok) rest q = replying.laws.back (t, (i, ok)) rest q

    so : (bs : List ℕ) → bytes bs ≡ true → Seen write_message GoodMessage read_message bs
    so [] q = no_byte (vote 0 false) (refl, tt) refl
    so (zero ∷ bs) q = tag 0 asking.laws (λ z. refl) (λ x g. (g, refl)) bs q
    so (suc zero ∷ bs) q = tag 1 voting.laws (λ z. refl) (λ x g. (g, refl)) bs q
    so (suc (suc zero) ∷ bs) q = tag 2 appending.laws (λ z. refl) (λ x g. (g, refl)) bs q
    so (suc (suc (suc zero)) ∷ bs) q = tag 3 replying.laws (λ z. refl) (λ x g. (g, refl)) bs q
    so (suc (suc (suc (suc b))) ∷ bs) q = no_tag (vote 0 false) (refl, tt) (suc (suc (suc (suc b)))) bs (λ z. grind (arith, nat_tests))

abbrev pub GoodEvent : Event → Type 0
GoodEvent timeout = Unit {0}
GoodEvent (request c k x) = Number c × (Number k × GoodCommand x)
GoodEvent (comes h m) = Byte h × GoodMessage m
GoodEvent restart = Unit {0}
GoodEvent (garbled n) = ⊥

abbrev requesting : Arm Event
requesting = arm (then number (λ c. then number (λ k. last command (λ x. request c k x))))

abbrev coming : Arm Event
coming = arm (then byte (λ h. last message (λ m. comes h m)))

pub event : Codec same write_event GoodEvent read_front
unfolding read_front all_below
event = record { some = timeout; good = tt; low = low; back = on; seen = so }
  where
    low : (e : Event) → GoodEvent e → bytes (write_event e) ≡ true
    low timeout q = refl
    low (request c k x) q = requesting.laws.low (c, (k, x)) q
    low (comes h m) q = coming.laws.low (h, m) q
    low restart q = refl
    low (garbled n) q = refl

    on : (e : Event) (rest : List ℕ) → GoodEvent e → read_front (write_event e ++ rest) ≡ got e rest
    on timeout rest q = refl
    on (request c k x) rest q = requesting.laws.back (c, (k, x)) rest q
    on (comes h m) rest q = coming.laws.back (h, m) rest q
    on restart rest q = refl
    on (garbled n) rest q = absurd q

    so : (bs : List ℕ) → bytes bs ≡ true → Seen write_event GoodEvent read_front bs
    so [] q = no_byte timeout tt refl
    so (zero ∷ bs) q = whole timeout bs tt refl
    so (suc zero ∷ bs) q = tag 1 requesting.laws (λ z. refl) (λ x g. (g, refl)) bs q
    so (suc (suc zero) ∷ bs) q = tag 2 coming.laws (λ z. refl) (λ x g. (g, refl)) bs q
    so (suc (suc (suc zero)) ∷ bs) q = whole restart bs tt refl
    so (suc (suc (suc (suc b))) ∷ bs) q = no_tag timeout tt (suc (suc (suc (suc b)))) bs (λ z. grind (arith, nat_tests))
