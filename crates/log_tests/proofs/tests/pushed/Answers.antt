use Rattle.std.proofs.Common.{ℕ, ◌+◌, List, ◌∷◌, take, drop, sym, subst, arith}
use Rattle.servers.specs.Store.{put}
use Rattle.servers.specs.Server.{Entry}
use Rattle.texts.specs.Words.{Text, word}
use Rattle.raft_log.specs.Rows.{GoodEntry}
use Rattle.raft_log.specs.Numbers.{entry_by}
use Rattle.log_tests.proofs.tests.pushed.Goals as goal
use Rattle.log_tests.proofs.Held.{held_long, part_text}

pub push-requires : goal.push-requires
push-requires c =
    let room = c.requires.room in
    let long = held_long c.args.len c.args.region.now c.requires.held (omega arith) in
    record { low = omega arith; room = omega arith }

pub returns : goal.returns
returns c =
    let held = c.requires.held in
    let long = held.long in
    let bs : List ℕ = c.args.b.now in
    let term = c.ranges.term in
    let name : Text 64 (take 16 (drop 0 bs)) =
    subst (λ (x : List ℕ). Text 64 (take 16 (drop 0 x))) (sym c.requires.bytes)
    (part_text 64 0 16 80 97 (omega arith) (omega arith) (omega arith)) in
    let text : Text 256 (take 64 (drop 16 bs)) =
    subst (λ (x : List ℕ). Text 256 (take 64 (drop 16 x))) (sym c.requires.bytes)
    (part_text 256 16 64 80 97 (omega arith) (omega arith) (omega arith)) in
    let new : Entry = entry_by (record { term = c.args.term; server = 2; client = 1; number = 6 }) (c.args.len + 1)
    (put (take 16 (drop 0 bs)) (take 64 (drop 16 bs))) in
    let entry : GoodEntry 256 word word new =
    record { at = omega arith; client = omega arith; id = omega arith; term = omega arith; command = (name, tt, text) } in
    record {
      log = new ∷ held.log;
      long = omega arith;
      good = (entry, held.good);
      is = c.push.ensures 4 (c.args.len + 1) held.log held.long held.is;
    }
