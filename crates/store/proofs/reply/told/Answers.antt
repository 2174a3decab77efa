use Rattle.std.proofs.Common.{◌≡◌, ℕ, List, [], ◌∷◌, sym, ap, ◌∙◌}
use Rattle.texts.specs.Words.{text_in, perhaps_words}
use Rattle.texts.proofs.Cells.{text_back}
use Rattle.store.specs.Calls.{text_there}
use Rattle.store.specs.Region.{items_of}
use Rattle.store.proofs.Reading.{Nth, nth_good}
use Rattle.store.proofs.Writing.{of_text}
use Rattle.store.proofs.reply.told.Goals as goal

pub told_text-requires : goal.told_text-requires
told_text-requires c =
    let w = rw c.in-Ok.is at c.requires.within in
    of_text 32 c.text_at.result.now (Nth c.args.region.now c.in-Ok.p).value c.text_at.ensures
    (nth_good c.args.region.now c.in-Ok.p c.requires.held w).1

pub returns-in-Ok : goal.returns-in-Ok
returns-in-Ok c =
    let w = rw c.in-Ok.is at c.requires.within in
    let v : List ℕ = (Nth c.args.region.now c.in-Ok.p).value in
    let b : text_in c.text_at.result.now ≡ v =
    ap text_in c.text_at.ensures ∙ text_back 32 v (nth_good c.args.region.now c.in-Ok.p c.requires.held w).1 in
    c.told_text.ensures
    ∙ (ap (λ (t : List ℕ). perhaps_words 32 (t ∷ [])) b
    ∙ ap (λ s. perhaps_words 32 (text_there s (items_of c.args.region.now))) (sym c.in-Ok.is))
