-- THE ORDER OF A LOG: which of its entries count. An entry counts if its number is new to its client's session. So the numbers of
-- each client rise along the order, whatever the log is, and entries on top of a log only put commands on top of its order.
use Rattle.std.proofs.Common.{◌≡◌, true, List, [], ◌∷◌, ◌++◌, refl, ap}
use Rattle.servers.specs.Store.{pick}
use Rattle.servers.specs.Server.{Entry, request}
use Rattle.servers.specs.World.{Happening, Happened, each_once}
use Rattle.servers.specs.Promise.{all_asked}
use Rattle.servers.proofs.Tests.{bool_by, pick_by}
use Rattle.one_order.specs.Order.{session, new_to, asked_of, order, Extends}
use Rattle.one_order.proofs.Lists.{All}
use Rattle.one_order.proofs.Sessions.{Rises, rises_once}

pub order_rises : (es : List Entry) → Rises (order es)
unfolding order
order_rises [] = tt
order_rises (e ∷ es) =
    bool_by (λ z. new_to (session (order es) e.client) e.id ≡ z → Rises (pick z (asked_of e ∷ order es) (order es)))
    (new_to (session (order es) e.client) e.id) (λ q p. (p, order_rises es)) (λ q p. order_rises es) refl

-- each command once
pub order_once : (es : List Entry) → each_once (order es) ≡ true
order_once es = rises_once (order es) (order_rises es)

-- entries on top of a log put commands on top of its order
pub order_extends : (ds es : List Entry) → Extends (order (ds ++ es)) (order es)
unfolding order
order_extends [] es = ([], refl)
order_extends (d ∷ ds) es =
    let (more, p) = order_extends ds es in
    pick_by (λ y. Extends y (order es)) (new_to (session (order (ds ++ es)) d.client) d.id)
    (asked_of d ∷ order (ds ++ es)) (order (ds ++ es))
    (λ q. (asked_of d ∷ more, ap (λ y. asked_of d ∷ y) p)) (λ q. (more, p))

-- what is in the order was asked, if the entries were
pub order_asked : (past : List Happening) (es : List Entry) → All (λ e. Happened (request e.client e.id e.command) past) es
    → all_asked past (order es)
unfolding all_asked order
order_asked past [] a = tt
order_asked past (e ∷ es) a =
    pick_by (λ y. all_asked past y) (new_to (session (order es) e.client) e.id) (asked_of e ∷ order es) (order es)
    (λ q. (a.0, order_asked past es a.1)) (λ q. order_asked past es a.1)
