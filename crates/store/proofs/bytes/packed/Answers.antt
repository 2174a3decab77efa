use Rattle.std.proofs.Common.{◌≡◌, ◌-◌, ap, ◌∙◌, arith}
use Rattle.std.proofs.lemmas.List.{length-replicate}
use Rattle.texts.specs.Words.{text_words, text_in}
use Rattle.texts.proofs.Cells.{text_back}
use Rattle.store.proofs.Writing.{of_text, all_bytes}
use Rattle.store.proofs.bytes.packed.Goals as goal

pub returns-clause-words : goal.returns-clause-words
returns-clause-words g c =
    let b = all_bytes c.args.text.now (λ i. let f = c.type_inv.text i in omega arith) in
    of_text (g.row.N - 1) c.write_text.new.row c.args.text.now (simp length-replicate at c.write_text.ensures) (omega arith, b)

pub returns-clause-text : goal.returns-clause-text
returns-clause-text g c =
    let b = all_bytes c.args.text.now (λ i. let f = c.type_inv.text i in omega arith) in
    let e : c.write_text.new.row ≡ text_words (g.row.N - 1) c.args.text.now = simp length-replicate at c.write_text.ensures in
    ap text_in e ∙ text_back (g.row.N - 1) c.args.text.now (omega arith, b)
