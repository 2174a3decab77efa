use Rattle.std.proofs.Common.{◌≡◌, ℕ, ◌+◌, ◌-◌, ◌*◌, List, length, replicate, refl, ap, ◌∙◌, arith}
use borrow.Rule.Slice.PartMut.{put_mid}
use Rattle.servers.specs.Server.{Entry}
use Rattle.wire_read.specs.Means.{entries_of}
use Rattle.raft_log.proofs.replace.replace.Goals as goal
use Rattle.raft_log.proofs.Rows.{length_region}
use Rattle.raft_log.proofs.Regions.{replacing, written, cleared, none_left}

pub returns-then-end-len : goal.returns-then-end-len
returns-then-end-len c room es long row fits is =
    let new : List Entry = entries_of c.args.entries in
    let index : ℕ = c.args.index in
    let end : ℕ = index + c.args.entries.count in
    let at : ℕ = c.place.result in
    let width : ℕ = c.place-2.result - at in
    let a = c.place.ensures in
    let b = c.place-2.ensures in
    let count = c.pack_rows.ensures.count in
    let l = ap length is ∙ length_region room es (omega arith) in
    let there = c.requires.room in
    let less = c.if-end-len.true in
    let first : put_mid at width c.args.region.now c.pack_rows.new.rows ≡ replacing room index new es =
    ap (λ (z : List ℕ). put_mid at width z c.pack_rows.new.rows) is
    ∙ written room index new es c.pack_rows.new.rows at width row (omega arith) (omega arith) (omega arith)
    (omega arith) (omega arith) c.pack_rows.ensures.rows in
    c.clear.ensures
    ∙ (ap (λ (z : List ℕ). put_mid (80 * end) (80 * (c.args.len - end)) z (replicate (80 * (c.args.len - end)) 0)) first
    ∙ cleared room index new es (replicate (80 * (c.args.len - end)) 0) (80 * end) (80 * (c.args.len - end)) row
    (omega arith) (omega arith) (omega arith) (omega arith) refl)

pub returns-else-end-len : goal.returns-else-end-len
returns-else-end-len c room es long row fits is =
    let new : List Entry = entries_of c.args.entries in
    let index : ℕ = c.args.index in
    let at : ℕ = c.place.result in
    let width : ℕ = c.place-2.result - at in
    let a = c.place.ensures in
    let b = c.place-2.ensures in
    let count = c.pack_rows.ensures.count in
    let l = ap length is ∙ length_region room es (omega arith) in
    let there = c.requires.room in
    let none = c.if-end-len.false in
    ap (λ (z : List ℕ). put_mid at width z c.pack_rows.new.rows) is
    ∙ (written room index new es c.pack_rows.new.rows at width row (omega arith) (omega arith) (omega arith)
    (omega arith) (omega arith) c.pack_rows.ensures.rows
    ∙ none_left room index new es row (omega arith) (omega arith) (omega arith))
