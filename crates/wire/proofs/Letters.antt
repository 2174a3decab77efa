-- There and back for answers; and letters handed on.
use Rattle.std.proofs.Common.{◌≡◌, ℕ, ◌+◌, true, List, [], ◌∷◌, ◌++◌, length, take, drop, sym, refl, ap, ◌∙◌}
use Rattle.std.proofs.lemmas.List.{append_assoc, take_at, drop_at, drop-drop}
use Rattle.std.proofs.lemmas.Bool.{and_parts, ltb-true}
use Rattle.servers.specs.Store.{Perhaps}
use Rattle.servers.specs.Server.{Message, comes, Said, Letter, Answer, refused, not_leader, does}
use Rattle.servers.specs.Promise.{all_below, bytes}
use Rattle.wire.specs.Write.{write_number, write_message, write_said, write_saids, write_letter, write_letters}
use Rattle.wire.specs.Read.{got, number_of, read_event, read_said, read_saids, read_letter, read_letters, read_answer}
use Rattle.wire.specs.Answers.{fine_perhaps, fine_said, fine_saids, fine_letter, fine_letters}
use Rattle.wire.specs.Answers.{AnswerRoundTrip, AnswersApart, AnswerIsBytes, message_length, LettersHandOn}
use Rattle.wire.proofs.Codecs.{Codec, Arm, arm, same, then, last, recode, bytes_append}
use Rattle.wire.proofs.Numbers.{Byte, Number, MaybeText, byte, number, perhaps, number_bytes, length_bytes_of}
use Rattle.wire.proofs.Events.{GoodMessage, message}
use Rattle.wire.proofs.Writable.{good_perhaps, good_message}
use Rattle.wire.proofs.Trips.{round_trip}

abbrev GoodSaid : Said → Type 0
GoodSaid s = Number s.client × (Number s.id × (MaybeText s.reply.now × MaybeText s.reply.old))

-- what is told
saying : Codec same write_said GoodSaid read_said
unfolding read_said
saying =
    recode
    (then number (λ c. then number (λ k. then perhaps (λ a.
    last perhaps (λ b. record { client = c; id = k; reply = record { now = a; old = b } })))))
    (λ x. record { client = x.0; id = x.1.0; reply = record { now = x.1.1.0; old = x.1.1.1 } }) (λ x g. (g, refl))
    (λ s. (s.client, (s.id, (s.reply.now, s.reply.old)))) (λ s g. (g, refl, refl))

good_said : (s : Said) → fine_said s ≡ true → GoodSaid s
good_said s f =
    let p = and_parts _ _ f in let n = and_parts _ _ p.0 in let r = and_parts _ _ p.1 in
    (n.0, (n.1, (good s.reply.now r.0, good s.reply.old r.1)))
  where
    good : (e : Perhaps) → fine_perhaps e ≡ true → MaybeText e
    good e q = let p = and_parts _ _ q in let r = and_parts _ _ p.1 in good_perhaps e p.0 r.0 r.1

pub saids_back : (ss : List Said) (rest : List ℕ) → fine_saids ss ≡ true → read_saids (length ss) (write_saids ss ++ rest) ≡ got ss rest
unfolding read_saids write_saids fine_saids
saids_back [] rest f = refl
saids_back (s ∷ ss) rest f =
    let p = and_parts _ _ f in
    let e = saying.back s (write_saids ss ++ rest) (good_said s p.0) in
    rw (append_assoc (write_said s) (write_saids ss) rest, e, saids_back ss rest p.1)

saids_low : (ss : List Said) → fine_saids ss ≡ true → bytes (write_saids ss) ≡ true
unfolding write_saids fine_saids all_below
saids_low [] f = refl
saids_low (s ∷ ss) f =
    let p = and_parts _ _ f in bytes_append (write_said s) (write_saids ss) (saying.low s (good_said s p.0)) (saids_low ss p.1)

-- letters: the length in a letter is read, and says nothing that the message doesn't
abbrev Parts : Type 0
Parts = ℕ × (ℕ × Message)

abbrev GoodParts : Parts → Type 0
GoodParts x = Byte x.0 × (Number x.1.0 × GoodMessage x.1.1)

lettering :
    Codec (λ (x : Parts). record { to = x.0; message = x.1.1 })
    (λ x. x.0 ∷ (write_number x.1.0 ++ write_message x.1.1)) GoodParts
    read_letter
unfolding read_letter
lettering = then byte (λ h. then number (λ n. last message (λ m. record { to = h; message = m })))

abbrev parts : Letter → Parts
parts x = (x.to, (length (write_message x.message), x.message))

good_letter : (x : Letter) → fine_letter x ≡ true → GoodParts (parts x)
good_letter x f =
    let p = and_parts _ _ f in let n = and_parts _ _ p.0 in let m = and_parts _ _ p.1 in
    (n.0, (n.1, good_message x.message m.0 m.1))

pub letters_back :
    (xs : List Letter) (rest : List ℕ) → fine_letters xs ≡ true → read_letters (length xs) (write_letters xs ++ rest) ≡ got xs rest
unfolding read_letters write_letters fine_letters
letters_back [] rest f = refl
letters_back (x ∷ xs) rest f =
    let p = and_parts _ _ f in
    let e = lettering.back (parts x) (write_letters xs ++ rest) (good_letter x p.0) in
    rw (append_assoc (write_letter x) (write_letters xs) rest, e, letters_back xs rest p.1)

letters_low : (xs : List Letter) → fine_letters xs ≡ true → bytes (write_letters xs) ≡ true
unfolding write_letters fine_letters all_below
letters_low [] f = refl
letters_low (x ∷ xs) f =
    let p = and_parts _ _ f in
    bytes_append (write_letter x) (write_letters xs) (lettering.low (parts x) (good_letter x p.0)) (letters_low xs p.1)

abbrev refusing : Arm Answer
refusing = arm (then byte (λ j. last number (λ k. refused j k)))

pub answer_round_trip : AnswerRoundTrip
unfolding read_answer
answer_round_trip (refused j k) rest f = let p = and_parts _ _ f in refusing.laws.back (j, k) rest (p.0, p.1)
answer_round_trip not_leader rest f = refl
answer_round_trip (does ss ls) rest f =
    let p = and_parts _ _ f in let a = and_parts _ _ p.0 in let b = and_parts _ _ p.1 in
    rw (
      append_assoc (write_number (length ss)) (write_saids ss ++ (write_number (length ls) ++ write_letters ls)) rest,
      number.back (length ss) ((write_saids ss ++ (write_number (length ls) ++ write_letters ls)) ++ rest) a.0,
      append_assoc (write_saids ss) (write_number (length ls) ++ write_letters ls) rest,
      saids_back ss ((write_number (length ls) ++ write_letters ls) ++ rest) a.1,
      append_assoc (write_number (length ls)) (write_letters ls) rest,
      number.back (length ls) (write_letters ls ++ rest) b.0,
      letters_back ls rest b.1,
    )

pub answers_apart : AnswersApart
answers_apart a b p q e =
    let s : got a [] ≡ got b [] =
    sym (answer_round_trip a [] p) ∙ ap (λ (bs : List ℕ). read_answer (bs ++ [])) e ∙ answer_round_trip b [] q in
    cc

pub answer_is_bytes : AnswerIsBytes
unfolding all_below
answer_is_bytes (refused j k) f = let p = and_parts _ _ f in refusing.laws.low (j, k) (p.0, p.1)
answer_is_bytes not_leader f = refl
answer_is_bytes (does ss ls) f =
    let p = and_parts _ _ f in let a = and_parts _ _ p.0 in let b = and_parts _ _ p.1 in
    bytes_append (write_number (length ss)) (write_saids ss ++ (write_number (length ls) ++ write_letters ls))
    (number.low (length ss) a.0)
    (bytes_append (write_saids ss) (write_number (length ls) ++ write_letters ls) (saids_low ss a.1)
    (bytes_append (write_number (length ls)) (write_letters ls) (number.low (length ls) b.0) (letters_low ls b.1)))

pub letters_hand_on : LettersHandOn
unfolding write_number
letters_hand_on h x rest f =
    record {
      cut = cut;
      left = left;
      bytes = ap (λ (t : List ℕ). 2 ∷ (h ∷ t)) cut;
      event = λ w. ap (λ (t : List ℕ). read_event (2 ∷ (h ∷ t))) cut ∙ round_trip (comes h x.message) w;
    }
  where
    m : List ℕ
    m = write_message x.message

    all : drop 1 (write_letter x ++ rest) ≡ write_number (length m) ++ (m ++ rest)
    all = append_assoc (write_number (length m)) m rest

    long : message_length (write_letter x ++ rest) ≡ length m
    long =
        ap (λ (t : List ℕ). number_of (take 8 t)) all
        ∙ ap number_of (take_at (write_number (length m)) (m ++ rest) 8 (length_bytes_of 8 (length m)))
        ∙ number_bytes 8 (length m) (ltb-true (length m) 18446744073709551616 f)

    body : drop 9 (write_letter x ++ rest) ≡ m ++ rest
    body = ap (drop 8) all ∙ drop_at (write_number (length m)) (m ++ rest) 8 (length_bytes_of 8 (length m))

    cut : take (message_length (write_letter x ++ rest)) (drop 9 (write_letter x ++ rest)) ≡ m
    cut = rw (long, body) (take_at m rest (length m) refl)

    left : drop (9 + message_length (write_letter x ++ rest)) (write_letter x ++ rest) ≡ rest
    left =
        sym (drop-drop (message_length (write_letter x ++ rest)) 9 (write_letter x ++ rest))
        ∙ rw (long, body) (drop_at m rest (length m) refl)
