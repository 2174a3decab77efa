use Rattle.std.proofs.Common.{ℕ, List, [], ◌∷◌, refl}
use Rattle.texts.specs.Words.{text_in}
use Rattle.store.proofs.Doing.{tested, did_get, did_remove, drop_removes, drop_gets}
use Rattle.store.proofs.commands.do_drop_if.Goals as goal

pub returns-then-same : goal.returns-then-same
returns-then-same c =
    let k : List ℕ = text_in c.args.name.now in let v : List ℕ = text_in c.args.text.now in let r : List ℕ = c.args.region.now in
    drop_removes k v r c.remove_item.new.region _ _
    (tested k r _ c.told_text-given.result (v ∷ []) _ c.requires.held c.find_before-spot.ensures.told c.told_text-given.ensures
    (c.requires.text.fits, refl) c.if-same.ensures)
    (did_remove k r c.remove_item.new.region _ _ c.find_before-spot.result.0 c.requires.held c.find_before-spot.ensures.spot
    c.find_before-spot.ensures.told c.remove_item.ensures c.told_none-after.ensures)

pub returns-else-same : goal.returns-else-same
returns-else-same c =
    let k : List ℕ = text_in c.args.name.now in let v : List ℕ = text_in c.args.text.now in let r : List ℕ = c.args.region.now in
    drop_gets k v r r _ _
    (tested k r _ c.told_text-given.result (v ∷ []) _ c.requires.held c.find_before-spot.ensures.told c.told_text-given.ensures
    (c.requires.text.fits, refl) c.if-same.ensures)
    (did_get k r _ c.requires.held c.find_before-spot.ensures.told)
