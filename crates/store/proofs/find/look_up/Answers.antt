use Rattle.std.proofs.Common.{◌≡◌, ℕ, List, [], ◌∷◌, Ok, ap, ◌∙◌}
use Rattle.texts.specs.Words.{text_in}
use Rattle.texts.proofs.Cells.{text_back}
use Rattle.store.proofs.Reading.{Nth, nth_good}
use Rattle.store.proofs.Doing.{spot_in, spot_look}
use Rattle.store.proofs.find.look_up.Goals as goal

pub returns-in-Ok : goal.returns-in-Ok
returns-in-Ok c =
    let r : List ℕ = c.args.region.now in
    let p : ℕ = c.in-Ok.p in
    let w = spot_in (text_in c.args.name.now) r p c.requires.held c.in-Ok.ensures in
    let b : text_in c.text_at.result.now ≡ (Nth r p).value =
    ap text_in c.text_at.ensures ∙ text_back 32 (Nth r p).value (nth_good r p c.requires.held w).1 in
    ap (λ (t : List ℕ). t ∷ []) b ∙ spot_look (text_in c.args.name.now) r (Ok p) c.requires.held c.in-Ok.ensures
