use Rattle.std.proofs.Common.{◌≡◌, ℕ, ◌+◌, ◌-◌, ◌*◌, List, get_or, take, drop, ap, ◌∙◌, arith}
use Rattle.memory.specs.Layout.{log_at}
use Rattle.state.proofs.view.View.log.Goals as goal
use Rattle.state.proofs.Laws.{long_log}
use Rattle.state.proofs.Lent.{log_ends, lent_row, lent_long, lent_log}

pub overflow_mul-self : goal.overflow_mul-self
overflow_mul-self c =
    let few = long_log c.args.self.words.now c.args.self.held in let room = c.args.self.held.good.room in omega arith

pub overflow_add-start : goal.overflow_add-start
overflow_add-start c =
    let few = long_log c.args.self.words.now c.args.self.held in
    let g = c.args.self.held.good in
    let at = c.log_at-start.ensures in
    let servers = g.servers in
    let clients = g.clients in
    let room = g.room in
    omega arith

pub slice_bounds-as_chunks-end : goal.slice_bounds-as_chunks-end
slice_bounds-as_chunks-end c =
    let ends = log_ends c.args.self.words.now c.args.self.held in let at = c.log_at-start.ensures in omega arith

pub returns : goal.returns
returns c =
    let m : List ℕ = c.args.self.words.now in
    let at : ℕ = c.log_at-start.result in
    let size : ℕ = 80 * get_or m 10 0 in
    let part : List ℕ = take (at + size - at) (drop at m) in
    let z : at + size - at ≡ size = omega arith in
    let is : part ≡ take size (drop (log_at m) m) =
    ap (λ (n : ℕ). take n (drop at m)) z ∙ ap (λ (n : ℕ). take size (drop n m)) c.log_at-start.ensures in
    let rows : List (List ℕ) = c.as_chunks.result.0.now in
    let cut = c.as_chunks.ensures.front in
    let count = c.as_chunks.ensures.front_len in
    record {
      log = lent_log m part rows c.args.self.held is cut count;
      rows = lent_row m part rows c.args.self.held is cut count;
      long = lent_long m part rows c.args.self.held is cut count;
    }
