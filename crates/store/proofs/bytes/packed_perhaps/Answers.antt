use Rattle.std.proofs.Common.{ℕ, List, [], ◌∷◌, sym, refl, ap, ◌∙◌}
use Rattle.texts.specs.Words.{text_in, perhaps_in}
use Rattle.texts.specs.Means.{perhaps_of}
use Rattle.texts.proofs.Cells.{perhaps_back}
use Rattle.store.proofs.CommandParts.{of_perhaps}
use Rattle.store.proofs.bytes.packed_perhaps.Goals as goal

pub returns-in-Some : goal.returns-in-Some
returns-in-Some c =
    let t : List ℕ = text_in c.packed.result in
    let w = c.packed.ensures.words.fits in
    record {
      words = of_perhaps 32 c.told_text.result (t ∷ []) c.told_text.ensures (w, refl);
      text = ap perhaps_in c.told_text.ensures
          ∙ (perhaps_back 32 (t ∷ []) (w, refl)
          ∙ (ap (λ (x : List ℕ). x ∷ []) c.packed.ensures.text ∙ ap perhaps_of (sym c.in-Some.is)));
    }
