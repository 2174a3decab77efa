use Rattle.std.proofs.Common.{◌≡◌, ℕ, ◌+◌, ◌-◌, ◌*◌, ◌≤◌, List, length, take, drop, refl, subst, arith}
use borrow.Rule.Slice.PartMut.{put_mid}
use Rattle.std.proofs.lemmas.List.{length-drop, length-take-le}
use Rattle.wire.specs.Sizes.{answer_size}
use Rattle.state.specs.Held.{limits_of}
use Rattle.group.specs.Playing.{Turned}
use Rattle.server.specs.Reached.{Reached}
use Rattle.server.specs.Answered.{Stepped}
use Rattle.server.proofs.Below.{slice}
use Rattle.group.proofs.Turning.{rest_long, turning}
use Rattle.group.proofs.Playing.{few, ready}
use Rattle.group.proofs.happen.turn.Goals as goal

pub step-answer-requires : goal.step-answer-requires
step-answer-requires c =
    let words : ℕ = c.args.g.words in
    let at : ℕ = c.args.kept.answers in
    let a : ℕ = c.args.server * words in
    let d : List ℕ = drop a c.args.mems.now in
    let ys : List ℕ = c.args.answers.now in
    let e : words ≡ a + words - a = omega arith in
    let rest = rest_long at ys in
    let r = ready c.args.g c.args.kept c.args.mems.now c.requires.playing.0 ys c.args.server c.requires.there c.requires.room c.requires.playing.1 in
    record {
      reached = subst (λ (k : ℕ). Reached (limits_of (take k d)) (take k d)) e r.reached;
      room = subst (λ (k : ℕ). answer_size (limits_of (take k d)) ≤ length (take (length ys - at) (drop at ys))) e (omega arith);
    }

pub overflow_add-result : goal.overflow_add-result
overflow_add-result c =
    let k = c.args.kept in
    let n = few k.happenings k.events k.answers c.requires.playing.0 c.args.answers.now c.requires.playing.1.journals in
    let past = c.requires.past in
    omega arith

pub returns : goal.returns
returns c =
    let words : ℕ = c.args.g.words in
    let i : ℕ = c.args.server in
    let at : ℕ = c.args.kept.answers in
    let m : List ℕ = c.args.mems.now in
    let bs : List ℕ = c.args.event.now in
    let ys : List ℕ = c.args.answers.now in
    let p : List ℕ = c.step-answer.new.mem in
    let q : List ℕ = c.step-answer.new.out in
    let a = c.step-answer.result in
    let e : words ≡ i * words + words - i * words = omega arith in
    let room = c.requires.room in
    let within = (ready c.args.g c.args.kept m c.requires.playing.0 ys i c.requires.there room c.requires.playing.1).within in
    let d = length-drop (i * words) m in
    let t = length-take-le words (drop (i * words) m) (omega arith) in
    let long : length p ≡ words = omega arith in
    let b = slice bs (λ j. let f = c.type_inv.event j in omega arith) (omega arith) in
    record {
      answer = a;
      turned =
          subst (λ (k : ℕ). Stepped (take k (drop (i * words) m)) bs (take (length ys - at) (drop at ys)) p q a
          → Turned words i at bs m ys (put_mid (i * words) k m p) (put_mid at (length ys - at) ys q) a) e
          (λ s. turning words i at bs m ys p q a within (omega arith) (omega arith) long b s) c.step-answer.ensures.done;
      happenings = omega arith;
      events = refl;
      answers = omega arith;
    }
