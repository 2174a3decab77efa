use Rattle.std.proofs.Common.{◌≡◌, ℕ, ◌+◌, ◌-◌, List, drop, subst, arith}
use Rattle.std.proofs.lemmas.List.{length-drop, length-take-le}
use Rattle.wire_write.specs.Put.{Writes}
use Rattle.group.specs.Letters.{message_coming}
use Rattle.group.specs.Journals.{events_of, answers_of, write_came}
use Rattle.group.specs.Playing.{TurnedOn}
use Rattle.group.proofs.Playing.{denied, ends, played, came_part}
use Rattle.group.proofs.happen.come.Goals as goal

pub returns-in_err-room_for : goal.returns-in_err-room_for
returns-in_err-room_for c =
    let ys : List ℕ = c.args.answers.now in
    let bs : List ℕ = message_coming c.args.from c.args.start c.args.len ys in
    let j = c.requires.playing.journals in
    let used = ends c.args.kept.answers ys (answers_of j.kept) j.answers_end j.answers_are in
    let within = c.requires.within in
    let d = length-drop c.args.start ys in
    let t = length-take-le c.args.len (drop c.args.start ys) (omega arith) in
    denied c.args.g c.args.kept c.args.server bs c.args.mems.now c.args.events.now ys _
    c.from_residual.result c.from_residual.ensures.1 (c.in_err-room_for.ensures c.args.server bs (omega arith))

pub returns : goal.returns
returns c =
    let p = c.args.g in
    let k = c.args.kept in
    let i : ℕ = c.args.server in
    let m : List ℕ = c.args.mems.now in
    let ys : List ℕ = c.args.answers.now in
    let xs : List ℕ = c.args.events.now in
    let xs' : List ℕ = c.put_coming-end.new.events in
    let to : ℕ = c.put_coming-end.result in
    let start : ℕ = c.args.start in
    let bs : List ℕ = message_coming c.args.from start c.args.len ys in
    let n : start + c.args.len - start ≡ c.args.len = omega arith in
    let j = c.requires.playing.journals in
    let put : Writes k.events (write_came i bs) xs xs' to =
    subst (λ (z : ℕ). Writes k.events (write_came i (message_coming c.args.from start z ys)) xs xs' to) n
    c.put_coming-end.ensures.bytes in
    let used = ends k.events xs (events_of j.kept) j.events_end j.events_are in
    let e = came_part k.events i to bs xs xs' used put in
    let on : TurnedOn p k i to bs m ys c.turn.new.mems c.turn.new.answers c.turn.result =
    subst (λ (z : List ℕ). TurnedOn p k i to z m ys c.turn.new.mems c.turn.new.answers c.turn.result) e c.turn.ensures in
    played p k c.turn.result i to bs m xs ys c.turn.new.mems xs' c.turn.new.answers c.requires.playing c.requires.there
    c.requires.can put on
