-- Commands and entries: their codecs.
use Rattle.std.proofs.Common.{◌≡◌, ℕ, zero, suc, true, List, [], ◌∷◌, ◌++◌, length, refl, ap, arith}
use Rattle.std.proofs.lemmas.List.{nil_from_length}
use Rattle.std.proofs.lemmas.Bool.Decides.{nat_tests}
use Rattle.servers.specs.Store.{Command, get, put, remove, swap, drop_if}
use Rattle.servers.specs.Server.{Entry}
use Rattle.servers.specs.Promise.{all_below, bytes}
use Rattle.wire.specs.Read.{got, read_command, read_entry, read_entries}
use Rattle.wire.specs.Write.{write_command, write_entry, write_entries}
use Rattle.wire.proofs.Codecs.{Codec, Seen, Arm, arm, whole, same, then, last, recode, tag, no_tag, no_byte}
use Rattle.wire.proofs.Numbers.{Byte, Number, Text, MaybeText, byte, number, text, perhaps}

abbrev pub GoodCommand : Command → Type 0
GoodCommand (get k) = Text k
GoodCommand (put k v) = Text k × Text v
GoodCommand (remove k) = Text k
GoodCommand (swap k e v) = Text k × (MaybeText e × Text v)
GoodCommand (drop_if k v) = Text k × Text v

abbrev named : (List ℕ → Command) → Arm Command
named f = arm (last text f)

abbrev paired : (List ℕ → List ℕ → Command) → Arm Command
paired f = arm (then text (λ k. last text (λ v. f k v)))

abbrev swapping : Arm Command
swapping = arm (then text (λ k. then perhaps (λ e. last text (λ v. swap k e v))))

pub command : Codec same write_command GoodCommand read_command
unfolding read_command all_below
command = record { some = get []; good = (refl, refl); low = low; back = on; seen = so }
  where
    low : (x : Command) → GoodCommand x → bytes (write_command x) ≡ true
    low (get k) q = (named get).laws.low k q
    low (put k v) q = (paired put).laws.low (k, v) q
    low (remove k) q = (named remove).laws.low k q
    low (swap k e v) q = swapping.laws.low (k, (e, v)) q
    low (drop_if k v) q = (paired drop_if).laws.low (k, v) q

    on : (x : Command) (rest : List ℕ) → GoodCommand x → read_command (write_command x ++ rest) ≡ got x rest
    on (get k) rest q = (named get).laws.back k rest q
    on (put k v) rest q = (paired put).laws.back (k, v) rest q
    on (remove k) rest q = (named remove).laws.back k rest q
    on (swap k e v) rest q = swapping.laws.back (k, (e, v)) rest q
    on (drop_if k v) rest q = (paired drop_if).laws.back (k, v) rest q

    so : (bs : List ℕ) → bytes bs ≡ true → Seen write_command GoodCommand read_command bs
    so [] q = no_byte (get []) (refl, refl) refl
    so (zero ∷ bs) q = tag 0 (named get).laws (λ z. refl) (λ x g. (g, refl)) bs q
    so (suc zero ∷ bs) q = tag 1 (paired put).laws (λ z. refl) (λ x g. (g, refl)) bs q
    so (suc (suc zero) ∷ bs) q = tag 2 (named remove).laws (λ z. refl) (λ x g. (g, refl)) bs q
    so (suc (suc (suc zero)) ∷ bs) q = tag 3 swapping.laws (λ z. refl) (λ x g. (g, refl)) bs q
    so (suc (suc (suc (suc zero))) ∷ bs) q = tag 4 (paired drop_if).laws (λ z. refl) (λ x g. (g, refl)) bs q
    so (suc (suc (suc (suc (suc b)))) ∷ bs) q = no_tag (get []) (refl, refl) (suc (suc (suc (suc (suc b))))) bs (λ z. grind (arith, nat_tests))

abbrev pub GoodEntry : Entry → Type 0
GoodEntry e =
    Byte e.at × (Number e.client × (Number e.id × (Number e.index × (Number e.term × GoodCommand e.command))))

pub entry : Codec same write_entry GoodEntry read_entry
unfolding read_entry
entry =
    recode
    (then byte (λ h. then number (λ c. then number (λ k. then number (λ i. then number (λ t.
    last command (λ x. record { at = h; client = c; id = k; index = i; term = t; command = x })))))))
    (λ x. record {
      at = x.0;
      client = x.1.0;
      id = x.1.1.0;
      index = x.1.1.1.0;
      term = x.1.1.1.1.0;
      command = x.1.1.1.1.1;
    })
    (λ x g. (g, refl))
    (λ e. (e.at, (e.client, (e.id, (e.index, (e.term, e.command)))))) (λ e g. (g, refl, refl))

abbrev pub GoodEntries : List Entry → Type 0
GoodEntries [] = Unit {0}
GoodEntries (e ∷ es) = GoodEntry e × GoodEntries es

-- so many entries
pub entries : (n : ℕ) → Codec same write_entries (λ es. GoodEntries es × (length es ≡ n)) (read_entries n)
unfolding read_entries write_entries all_below
entries zero =
    record {
      some = [];
      good = (tt, refl);
      low = λ es q. rw (nil_from_length es q.1);
      back = λ es rest q. rw (nil_from_length es q.1);
      seen = λ bs q. whole [] bs (tt, refl) refl;
    }
entries (suc n) =
    recode (then entry (λ e. last (entries n) (λ es. e ∷ es))) (λ x. x.0 ∷ x.1)
    (λ x g. (((g.0, g.1.0), ap suc g.1.1), refl)) from here
  where
    from : List Entry → Entry × List Entry
    from [] = (entry.some, [])
    from (e ∷ es) = (e, es)

    here :
        (es : List Entry) → GoodEntries es × (length es ≡ suc n)
        → (GoodEntry (from es).0 × (GoodEntries (from es).1 × (length (from es).1 ≡ n)))
        × (write_entry (from es).0 ++ write_entries (from es).1 ≡ write_entries es)
        × ((from es).0 ∷ (from es).1 ≡ es)
    here [] g = absurd (omega (arith, g.1))
    here (e ∷ es) g = ((g.0.0, (g.0.1, omega (arith, g.1))), refl, refl)
