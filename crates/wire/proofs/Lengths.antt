-- How many bytes the parts of events and answers have at most.
use Rattle.std.proofs.Common.{◌≡◌, ℕ, ◌+◌, ◌*◌, ◌≤◌, true, false, ◌&&◌, leb, List, [], ◌∷◌, ◌++◌, length, arith}
use Rattle.std.specs.List.{AllByRecursion as All}
use Rattle.std.proofs.lemmas.List.{length-append}
use Rattle.std.proofs.lemmas.Bool.{and_parts, leb-true}
use Rattle.servers.specs.Store.{Perhaps, Command, get, put, remove, swap, drop_if}
use Rattle.servers.specs.Server.{Entry, Message, ask_vote, vote, append, appended, all_short, short, all_short_entries}
use Rattle.wire.specs.Write.{write_number, write_text, write_perhaps, write_command, write_entry, write_entries, write_message}

pub perhaps_length : (e : Perhaps) → all_short 256 e ≡ true → length (write_perhaps e) ≤ 265
unfolding write_number all_short
perhaps_length [] q = omega arith
perhaps_length (t ∷ ts) q = let l = leb-true (length t) 256 (and_parts _ _ (and_parts _ _ q).0).0 in omega arith

two_texts : (k v : List ℕ) → (leb (length k) 64 && leb (length v) 256) ≡ true → length (write_text k ++ write_text v) ≤ 336
unfolding write_number
two_texts k v q =
    let p = and_parts _ _ q in let a = leb-true (length k) 64 p.0 in let b = leb-true (length v) 256 p.1 in
    let l = length-append k (write_text v) in omega arith

pub command_length : (x : Command) → short x ≡ true → length (write_command x) ≤ 602
unfolding write_number
command_length (get k) q = let a = leb-true (length k) 64 q in omega arith
command_length (put k v) q = let a = two_texts k v q in omega arith
command_length (remove k) q = let a = leb-true (length k) 64 q in omega arith
command_length (swap k e v) q =
    let p = and_parts _ _ q in let r = and_parts _ _ p.0 in
    let a = leb-true (length k) 64 r.0 in let b = perhaps_length e r.1 in let c = leb-true (length v) 256 p.1 in
    let l = length-append k (write_perhaps e ++ write_text v) in let m = length-append (write_perhaps e) (write_text v) in omega arith
command_length (drop_if k v) q = let a = two_texts k v q in omega arith

abbrev pub ShortEntry : Entry → Type 0
ShortEntry e = short e.command ≡ true

pub short_each : (es : List Entry) → all_short_entries es ≡ true → All ShortEntry es
unfolding all_short_entries
short_each [] q = tt
short_each (e ∷ es) q = let p = and_parts _ _ q in (p.0, short_each es p.1)

pub entries_length : (es : List Entry) → All ShortEntry es → length (write_entries es) ≤ 635 * length es
unfolding write_entries write_number
entries_length [] a = omega arith
entries_length (e ∷ es) a =
    let c = command_length e.command a.0 in let r = entries_length es a.1 in
    let l = length-append (write_entry e) (write_entries es) in omega arith

-- the entries that a message has
abbrev pub carried : Message → List Entry
carried (ask_vote t i u) = []
carried (vote t ok) = []
carried (append t i u es c) = es
carried (appended t i ok) = []

pub message_size : (m : Message) → All ShortEntry (carried m) → length (write_message m) ≤ 41 + 635 * length (carried m)
unfolding write_number
message_size (ask_vote t i u) a = omega arith
message_size (vote t true) a = omega arith
message_size (vote t false) a = omega arith
message_size (append t i u es c) a = let l = entries_length es a in omega arith
message_size (appended t i true) a = omega arith
message_size (appended t i false) a = omega arith
