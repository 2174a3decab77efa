-- A letter is what stands before its message, and the message.
use Rattle.std.proofs.Common.{◌≡◌, ℕ, ◌+◌, ◌-◌, List, ◌++◌, length, sym, refl, ap, ◌∙◌, arith}
use Rattle.std.proofs.lemmas.List.{length-append}
use Rattle.servers.specs.Server.{
  Entry,
  State,
  Message,
  append,
  ask_vote,
  above,
  entry_at,
  term_of,
  last_index,
  last_term,
  next_for,
  to_server,
}
use Rattle.wire.specs.Write.{write_number, write_message, write_entries}
use Rattle.wire_write.specs.Heads.{letter_head, append_head}
use Rattle.wire_write.specs.Put.{Writes, Wrote}
use Rattle.wire_write.specs.declared.writer.Writer.{Writer}
use Rattle.wire_write.proofs.Answering.{append_parts}
use Rattle.wire_write.proofs.Putting.{writes_as, writes_before, wrote_as, wrote_then}
use Rattle.wire_write.proofs.Texts.{length_number}
use Rattle.raft_log.specs.Rows.{Row}
use Rattle.raft_log.proofs.Places.{length_above}
use Rattle.state.specs.View.{state_of}
use Rattle.state.specs.declared.view.View.{View}
use Rattle.sending.specs.Letters.{post, asks, append_from}

-- the message stands there, then what is before it is written
pub sealed :
    {to : ℕ} {t u v w : Writer} {m n : Message} → m ≡ n → u.at ≡ t.at + 9 → u.out ≡ t.out → Wrote (write_message m) u v
    → Writes t.at (letter_head to (v.at - (t.at + 9))) v.out.now w.out.now (t.at + 9) → w.out.ghost_name ≡ v.out.ghost_name → w.at ≡ v.at
    → Wrote (post to n) t w
sealed {to = to} {t = t} {u = u} {v = v} {w = w} {m = m} {n = n} q e o a h s r =
    let b : Writes (t.at + 9) (write_message m) t.out.now v.out.now v.at = rw (← o, ← e) a.writes in
    let k = b.next in
    let l : v.at - (t.at + 9) ≡ length (write_message m) = omega arith in
    let p = writes_as (ap (λ (k : ℕ). letter_head to k ++ write_message m) l) (writes_before b h) in
    wrote_as (ap (post to) q) (record { same = s ∙ (a.same ∙ rw o refl); writes = rw r p })

pub length_post : (to : ℕ) (m : Message) → length (post to m) ≡ 9 + length (write_message m)
length_post to m =
    let n = length (write_message m) in
    let a = length-append (write_number n) (write_message m) in let b = length_number n in omega arith

pub length_append_message :
    (t i u c : ℕ) (es : List Entry) → length (write_message (append t i u es c)) ≡ 41 + length (write_entries es)
unfolding write_number
length_append_message t i u c es = omega arith

-- an append's head, and its entries from the log
pub append_written :
    {x y z : Writer} (t i u c k : ℕ) (log : List Entry) → Row log → u ≡ term_of (entry_at i log) → k ≡ length log - i
    → Wrote (append_head t i u c k) x y → Wrote (write_entries (above i log)) y z → Wrote (write_message (append_from log t i c)) x z
append_written t i u c k log row e f w v =
    let es : List Entry = above i log in
    wrote_as
    (ap (λ (x : ℕ). append_head t i x c k ++ write_entries es) e
    ∙ (ap (λ (x : ℕ). append_head t i (term_of (entry_at i log)) c x ++ write_entries es) (f ∙ sym (length_above i log row))
    ∙ append_parts t i (term_of (entry_at i log)) c es))
    (wrote_then w v)

-- what is read from a memory is what its state says
pub same_append :
    (m : View) (log : List Entry) (h t b c : ℕ) → log ≡ (state_of m).log → t ≡ (state_of m).term → b ≡ next_for (state_of m) h - 1
    → c ≡ (state_of m).commit → append_from log t b c ≡ to_server (state_of m) h
same_append m log h t b c p r s u = rw (p, r, s, u) refl

pub same_ask :
    (m : View) (log : List Entry) (n t u : ℕ) → log ≡ (state_of m).log → t ≡ (state_of m).term → n ≡ last_index (state_of m).log
    → u ≡ last_term log → ask_vote t n u ≡ asks (state_of m)
same_ask m log n t u p r s e = rw (r, s, e, p) refl

pub length_ask_message : (s : State) → length (write_message (asks s)) ≡ 25
unfolding write_number
length_ask_message s = refl
