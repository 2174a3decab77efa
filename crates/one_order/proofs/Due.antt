-- WHAT IS DUE: the entries above the applied index, up to the commit index, the oldest first. So applying what is due takes a server
-- from its log up to the applied index to its log up to the commit index. Here alone indices matter.
use Rattle.std.proofs.Common.{◌≡◌, ℕ, ◌<◌, ◌≤◌, true, false, ◌&&◌, ltb, leb, ◌⊎◌, List, [], ◌∷◌, ◌++◌, reverse, sym, refl, ap, ◌∙◌, subst, inl, inr, append-nil, arith}
use mathlib.Core.List.{reverse-cons}
use Rattle.servers.specs.Server.{Entry, Limits, State, Said, last_index, up_to, above, due, do_all, tell_all}
use Rattle.servers.specs.World.{reply_in, SaidIn}
use Rattle.std.proofs.lemmas.Bool.{cases_lt}
use Rattle.std.proofs.lemmas.Bool.Decides.{nat_tests}
use Rattle.safety.proofs.Logs.{Contiguous, contiguous_last, contiguous_up_to, up_to_all, up_to_cons, up_to_up_to, above_up_to}
use Rattle.one_order.specs.Order.{order}
use Rattle.one_order.proofs.Lists.{all_up_to, all_above}
use Rattle.one_order.proofs.Applying.{machine, MadeBy, ClientsBelow, applies_all, tells_all}

due_none : (lo hi : ℕ) (l : List Entry) → Contiguous l → last_index l ≤ lo → due lo hi l ≡ []
unfolding due
due_none lo hi [] r h = refl
due_none lo hi (e ∷ es) r h =
    let p = r.0 in
    let k = contiguous_last es r.1 in
    let ih = due_none lo hi es r.1 (omega arith) in
    let z : (ltb lo e.index && leb e.index hi) ≡ false = grind (arith, nat_tests) in
    rw (ih, z)

above_none : (lo : ℕ) (l : List Entry) → last_index l ≤ lo → above lo l ≡ []
unfolding above
above_none lo [] h = refl
above_none lo (e ∷ es) h = let z : ltb lo e.index ≡ false = grind (arith, nat_tests) in rw z

pub due_is_above : (lo hi : ℕ) (l : List Entry) → Contiguous l → lo ≤ hi → due lo hi l ≡ reverse (above lo (up_to hi l))
unfolding due above
due_is_above lo hi [] r h = rw (up_to_all hi [] (omega arith))
due_is_above lo hi (e ∷ es) r h = go (cases_lt hi e.index) (cases_lt lo e.index) (due_is_above lo hi es r.1 h)
  where
    go : (hi < e.index) ⊎ (e.index ≤ hi) → (lo < e.index) ⊎ (e.index ≤ lo) → due lo hi es ≡ reverse (above lo (up_to hi es))
        → due lo hi (e ∷ es) ≡ reverse (above lo (up_to hi (e ∷ es)))
    go (inl p) q ih =
        let z : (ltb lo e.index && leb e.index hi) ≡ false = grind (arith, nat_tests) in
        rw (z, up_to_cons hi e es p) (append-nil (due lo hi es) ∙ ih)
    go (inr p) (inl q) ih =
        let i = r.0 in
        let k = contiguous_last es r.1 in
        let z : (ltb lo e.index && leb e.index hi) ≡ true = grind (arith, nat_tests) in
        let y : ltb lo e.index ≡ true = grind (arith, nat_tests) in
        let all : up_to hi es ≡ es = up_to_all hi es (omega arith) in
        rw (z, up_to_all hi (e ∷ es) p, y, reverse-cons) (ap (λ d. d ++ (e ∷ [])) (ih ∙ ap (λ x. reverse (above lo x)) all))
    go (inr p) (inr q) ih = rw (due_none lo hi (e ∷ es) r q, up_to_all hi (e ∷ es) p, above_none lo (e ∷ es) q)

-- what is due stands on top of what is applied
pub above_applied : (lo hi : ℕ) (l : List Entry) → Contiguous l → lo ≤ hi → above lo (up_to hi l) ++ up_to lo l ≡ up_to hi l
above_applied lo hi l r h =
    ap (λ x. above lo (up_to hi l) ++ x) (sym (up_to_up_to lo hi l h)) ∙ above_up_to lo (up_to hi l) (contiguous_up_to hi l r)

module _ (n : ℕ) (s : State) (lo hi : ℕ) (log : List Entry) (row : Contiguous log) (below : ClientsBelow n log) (le : lo ≤ hi)
    (made : MadeBy n (machine s) (order (up_to lo log))) where
  due_below : ClientsBelow n (above lo (up_to hi log))
  due_below = all_above _ lo (up_to hi log) (all_up_to _ hi log below)

  -- Applying what is due brings the machine to the commit index.
  pub due_applies : MadeBy n (machine (do_all s (due lo hi log))) (order (up_to hi log))
  due_applies =
      rw (due_is_above lo hi log row le)
      (subst (λ x. MadeBy n (machine (do_all s (reverse (above lo (up_to hi log))))) (order x)) (above_applied lo hi log row le)
      (applies_all n s (above lo (up_to hi log)) (up_to lo log) made due_below))

  -- Whoever is told of it is told what the order up to the commit index says.
  pub due_tells : (l : Limits) (x : Said) → SaidIn x (tell_all l s (due lo hi log))
      → reply_in (order (up_to hi log)) x.client x.id ≡ x.reply ∷ []
  due_tells l x h =
      subst (λ y. reply_in (order y) x.client x.id ≡ x.reply ∷ []) (above_applied lo hi log row le)
      (tells_all n l s (above lo (up_to hi log)) (up_to lo log) made due_below x (rw (due_is_above lo hi log row le) at h))
