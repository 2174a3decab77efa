-- How many bytes letters take at most: an answer's size has room for them.
use Rattle.std.proofs.Common.{◌≡◌, ℕ, zero, suc, ◌-◌, ◌*◌, ◌≤◌, List, length, get_or, ap, inl, inr, arith}
use Rattle.std.proofs.lemmas.List.{length-append}
use Rattle.std.proofs.lemmas.Bool.{cases_lt}
use Rattle.servers.specs.Server.{Entry, Message, to_others, to_server, next_for, entry_at, term_of, above}
use Rattle.wire.specs.Write.{write_entry, write_letters}
use Rattle.wire.specs.Sizes.{letter_size}
use Rattle.raft_log.specs.Places.{row_at, row_place, entry_in}
use Rattle.raft_log.specs.Bytes.{Sound}
use Rattle.raft_log.proofs.Entries.{above_bytes, above_more, above_end}
use Rattle.raft_log.proofs.Sizes.{entry_long, entry_most}
use Rattle.raft_log.proofs.Written.{length_part}
use Rattle.memory.specs.Layout.{servers_in, me_in, room_in, log_at, log_part}
use Rattle.state.specs.Held.{Held, limits_of, state_of}
use Rattle.state.specs.declared.view.View.{View}
use Rattle.state.proofs.Laws.{long, long_log}
use Rattle.sending.specs.Letters.{post, asks, asks_to_all, entries_to_all}
use Rattle.sending.specs.declared.others.Sent.{Sent}
use Rattle.sending.specs.declared.others.Sent.TheVariants.{Ask, Entries}
use Rattle.sending.specs.Others.{message_to}
use Rattle.sending.proofs.Letters.{length_post, length_append_message, length_ask_message}
use Rattle.sending.proofs.Rows.{held_sound}
use Rattle.sending.proofs.ToAll.{sent_most, how_many}

-- no entry takes more than 635 bytes
entries_most : (i n : ℕ) (ws : List ℕ) → 80 * n ≤ length ws → Sound n ws → length (above_bytes i n ws) ≤ 635 * n
entries_most i zero ws h s = let e = ap length (above_end i 0 ws (omega arith)) in omega arith
entries_most i (suc n) ws h s =
    elim (cases_lt i (suc n)) [
      | inl k ↦
          let z : suc n - 1 ≡ n = omega arith in
          let ih = entries_most i n ws (omega arith) (λ j a b. s j a (omega arith)) in
          let m = ap length (above_more i (suc n) ws k) in
          let l = length-append (write_entry (entry_in (suc n) ws)) (above_bytes i (suc n - 1) ws) in
          let q = ap (λ (j : ℕ). length (above_bytes i j ws)) z in
          let sound = s (suc n) (omega arith) (omega arith) in
          let w = length_part (row_place (suc n)) 80 ws (omega arith) in
          let a = entry_long (suc n) (row_at (suc n) ws) w sound in
          let b = entry_most (row_at (suc n) ws) sound in
          omega arith
      | inr k ↦ let e = ap length (above_end i (suc n) ws k) in omega arith
    ]

letter_most : (m : List ℕ) → Held m → (x : Sent) (h : ℕ) → length (post h (message_to x (state_of m) h)) ≤ letter_size (limits_of m)
letter_most m held Ask h = let p = length_post h (asks (state_of m)) in let a = length_ask_message (state_of m) in omega arith
letter_most m held Entries h =
    let n : ℕ = get_or m 10 0 in
    let i : ℕ = next_for (state_of m) h - 1 in
    let p = length_post h (to_server (state_of m) h) in
    let log : List Entry = (state_of m).log in
    let a = length_append_message (state_of m).term i (term_of (entry_at i log)) (state_of m).commit (above i log) in
    let few = long_log m held in
    let all = long m held in
    let w = length_part (log_at m) (80 * room_in m) m (omega arith) in
    let e = entries_most i n (log_part m) (omega arith) (held_sound m held) in
    omega arith

all_fit : (m : List ℕ) → Held m → (x : Sent)
    → length (write_letters (to_others (servers_in m) (me_in m) (message_to x (state_of m)))) ≤ (servers_in m - 1) * letter_size (limits_of m)
all_fit m held x =
    let f : (ℕ → Message) = message_to x (state_of m) in
    let n = how_many (servers_in m) (me_in m) f held.good.me in
    rw n (sent_most (servers_in m) (me_in m) (letter_size (limits_of m)) f (letter_most m held x))

-- the letters to all, by the limits
pub asks_fit : (v : View) → length (write_letters (asks_to_all v)) ≤ (servers_in v.words.now - 1) * letter_size (limits_of v.words.now)
asks_fit v = all_fit v.words.now v.held Ask

pub entries_fit : (v : View) → length (write_letters (entries_to_all v)) ≤ (servers_in v.words.now - 1) * letter_size (limits_of v.words.now)
entries_fit v = all_fit v.words.now v.held Entries
