use Rattle.std.proofs.Common.{refl, arith}
use Rattle.servers.specs.Server.{State}
use Rattle.raft_log.specs.Places.{log_of}
use Rattle.state.specs.View.{state_of}
use Rattle.sending.specs.Letters.{asks}
use Rattle.sending.proofs.letter.write_ask_letter.Goals as goal
use Rattle.sending.proofs.Letters.{sealed, same_ask, length_post, length_ask_message}

pub ask_vote-requires : goal.ask_vote-requires
ask_vote-requires c =
    let s : State = state_of c.args.mem in
    let p = length_post c.args.h (asks s) in
    let m = length_ask_message s in
    let room = c.requires.room in
    omega arith

pub returns : goal.returns
returns c =
    sealed
    (same_ask c.args.mem (log_of c.log.result.now) c.last_index-len.result c.term-term.result c.last_term-last.result
    c.log.ensures.log c.term-term.ensures.value c.last_index-len.ensures.last c.last_term-last.ensures)
    refl refl c.ask_vote.ensures.bytes c.seal.ensures.head c.seal.ensures.same c.seal.ensures.end
