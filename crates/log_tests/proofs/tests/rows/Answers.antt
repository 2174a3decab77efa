use Rattle.std.proofs.Common.{◌≡◌, ℕ, ◌*◌, ◌/◌, List, length, take, ap, ◌∙◌, arith}
use Rattle.std.proofs.lemmas.List.{length-take-le}
use Rattle.raft_log.specs.Places.{words_of}
use Rattle.raft_log.proofs.Lent.{rows_cut}
use Rattle.log_tests.proofs.tests.rows.Goals as goal

pub returns : goal.returns
returns c =
    let n : ℕ = c.args.len in
    let part : List ℕ = take (80 * n) c.args.region.now in
    let l : length part ≡ 80 * n = length-take-le (80 * n) c.args.region.now c.requires in
    let count = c.as_chunks.ensures.front_len in
    record {
      words = ap words_of c.as_chunks.ensures.front ∙ rows_cut (length part / 80) n part (omega arith) l;
      long = count ∙ omega arith;
    }
