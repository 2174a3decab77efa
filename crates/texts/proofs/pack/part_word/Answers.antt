use Rattle.std.proofs.Common.{ℕ, ◌-◌, length, ◌∙◌}
use Rattle.std.proofs.lemmas.List.{drop-replicate}
use Rattle.texts.proofs.Parts.{number_padded}
use Rattle.texts.proofs.pack.part_word.Goals as goal

pub returns : goal.returns
returns c =
    let f = c.copy_from_slice.ensures.after in
    let g = number_padded 8 (8 - length c.args.text.now) c.args.text.now in
    let d = drop-replicate {X = ℕ} (length c.args.text.now) 8 0 in
    c.number8.ensures ∙ simp (f, d) g
