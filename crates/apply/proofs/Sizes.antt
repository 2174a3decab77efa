-- How many bytes telling takes: the longest reply, and one at most for each entry that is due.
use Rattle.std.proofs.Common.{ℕ, suc, ◌+◌, ◌*◌, ◌≤◌, List, [], ◌∷◌, ◌++◌, length, ap, arith}
use Rattle.std.proofs.lemmas.List.{length-append}
use Rattle.servers.specs.Store.{pick, Perhaps, Reply, reply}
use Rattle.servers.specs.Server.{Entry, Said, Cached, Limits, State, no_cached, is_new, do_one, tell_one, tell_all, dues}
use Rattle.texts.specs.Words.{All, PerhapsText}
use Rattle.wire.specs.Write.{write_number, write_perhaps, write_said, write_saids}
use Rattle.wire_write.proofs.Texts.{length_number, length_text}
use Rattle.memory.specs.Words.{GoodCached}
use Rattle.memory.specs.Fits.{EntryFits, Mid}
use Rattle.servers.proofs.Tests.{pick_by}
use Rattle.memory.proofs.Each.{all_nth, all_due}
use Rattle.memory.proofs.Logs.{due_few}
use Rattle.memory.proofs.Stored.{reply_good}
use Rattle.memory.proofs.Doing.{mid_one}
use Rattle.state.specs.Memory.{limits_of, region_in, room_in, state_of}
use Rattle.state.specs.declared.words.Memory.{Memory}
use Rattle.apply.specs.InMemory.{all_told}
use Rattle.apply.specs.Applied.{session, region_one}
use Rattle.apply.proofs.Telling.{tells, one_said}
use Rattle.apply.proofs.Dues.{saids_append}

-- a reply
abbrev Small : Reply → Type 0
Small q = PerhapsText 256 q.now × PerhapsText 256 q.old

perhaps_small : (p : Perhaps) → PerhapsText 256 p → length (write_perhaps p) ≤ 265
perhaps_small [] g = omega arith
perhaps_small (t ∷ ts) g = let l = length_text t in let h = g.0.0 in omega arith

said_small : (x : Said) → Small x.reply → length (write_said x) ≤ 546
said_small x g =
    let now : List ℕ = write_perhaps x.reply.now in
    let old : List ℕ = write_perhaps x.reply.old in
    let a = length-append (write_number x.client) (write_number x.id ++ (now ++ old)) in
    let b = length-append (write_number x.id) (now ++ old) in
    let c = length-append now old in
    let d = length_number x.client in
    let e = length_number x.id in
    let f = perhaps_small x.reply.now g.0 in
    let h = perhaps_small x.reply.old g.1 in
    omega arith

-- what is told of one entry
one_small : (l : Limits) (n : ℕ) (s : State) (r : List ℕ) (e : Entry) → EntryFits l e → Mid l n s r
    → length (write_saids (tell_one l s e)) ≤ 546
unfolding write_saids
one_small l n s r e g f =
    let q : Reply = reply e.command s.store in
    let x : Cached = session s e.client in
    let old : GoodCached x = all_nth GoodCached no_cached s.cache e.client f.3.cache_each
    (record { id = omega arith; now = tt; old = tt }) in
    let small : Small (pick (is_new s e) q x.reply) = pick_by Small (is_new s e) q x.reply
    (λ t. reply_good e.command s.store g.command f.3.items) (λ t. (old.now, old.old)) in
    let y : Said = record { client = e.client; id = e.id; reply = pick (is_new s e) q x.reply } in
    let one = ap length (one_said y) in
    let low = said_small y small in
    pick_by (λ (xs : List Said). length (write_saids xs) ≤ 546) (tells l s e) (y ∷ []) [] (λ t. omega arith) (λ t. omega arith)

-- and of one after the other
all_small : (l : Limits) (n : ℕ) (s : State) (r : List ℕ) (es : List Entry) → All (EntryFits l) es → n + length es ≤ l.room → Mid l n s r
    → length (write_saids (tell_all l s es)) ≤ 546 * length es
unfolding tell_all write_saids
all_small l n s r [] g h f = omega arith
all_small l n s r (e ∷ es) g h f =
    let rest = all_small l (suc n) (do_one s e) (region_one s e r) es g.1 (omega arith) (mid_one l n s r e g.0 (omega arith) f) in
    let one = one_small l n s r e g.0 f in
    let a = ap length (saids_append (tell_one l s e) (tell_all l (do_one s e) es)) in
    let b = length-append (write_saids (tell_one l s e)) (write_saids (tell_all l (do_one s e) es)) in
    omega arith

pub told_fits : (m : Memory) → length (write_saids (all_told m)) ≤ 546 * room_in m
told_fits m =
    let s : State = state_of m in
    let f = m.held.fits in
    let k = due_few s.applied s.commit s.log f.1.row in
    let commit = f.1.commit in
    let applied = f.1.applied in
    let good = all_due (EntryFits (limits_of m)) s.applied s.commit s.log f.1.entries in
    let small = all_small (limits_of m) s.applied s (region_in m) (dues s) good (omega arith) f in
    omega arith
