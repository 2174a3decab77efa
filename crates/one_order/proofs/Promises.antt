-- THE STATEMENTS, from what the other files show. Each is the contract of a function in src/lib.rt.
use Rattle.std.proofs.Common.{◌≡◌, ℕ, Bool, List, [], ◌∷◌, ◌++◌, map, sym, ◌∙◌, subst}
use Rattle.servers.specs.Store.{reply}
use Rattle.servers.specs.Server.{Entry, request}
use Rattle.servers.specs.World.{Program, Group, Happening, World, Lived, Asked, Happened, store_after, reply_in}
use Rattle.servers.specs.Promise.{GoodGroup, Right, readable_world, all_asked, at_server, AsIfOne, ToldTheSame, ToldWasAsked}
use Rattle.one_order.specs.Order.{asked_of, order, committed, linearization}
use Rattle.one_order.specs.Linearizable.{RightIsLinearizable, Linearizes, OrderLinearizes, OrderOnlyGrows, LaterSeesEarlier}
use Rattle.one_order.specs.Linearizable.{AtMostOnce, NumbersRise, ToldTheSameAlways, ServersFollow}
use Rattle.one_order.specs.Linearizable.{AppliedStays, AppliedAgree, EntriesWereAsked, ToldIsApplied}
use Rattle.one_order.proofs.Lists.{All}
use Rattle.one_order.proofs.Sequences.{stands_after}
use Rattle.one_order.proofs.Sessions.{Rises, rises_times, rises_below, new_is_higher}
use Rattle.one_order.proofs.Orders.{order_rises, order_once}
use Rattle.one_order.proofs.Runs.{Run}
use Rattle.one_order.proofs.Committed.{only_grows, extends_server}
use Rattle.one_order.proofs.Asked.{WasAsked, entries_asked, linearization_asked, in_order_asked}
use Rattle.one_order.proofs.StateMachines.{servers_applied, applied_up, applied_stays, applied_agree}
use Rattle.one_order.proofs.Told.{told_applied, told_right, told_there}
use Rattle.one_order.proofs.RealTime.{in_real_time}

abbrev run : (can : ℕ → Bool) (f : Program) (g : Group) (w : World) → Right can f → GoodGroup can g → Lived f g w → readable_world w
    → Run f g w
run can f g w right group lived fine = record { can = can; right = right; group = group; lived = lived; fine = fine }

linearizes : {f : Program} {g : Group} {w : World} → Run f g w → Linearizes w.past (linearization g w)
unfolding linearization
linearizes {f} {g} {w} r =
    record { once = order_once (committed g w); asked = linearization_asked r; told = told_right r; real_time = in_real_time r }

pub order_linearizes : OrderLinearizes
order_linearizes can f g w right group lived fine = linearizes (run can f g w right group lived fine)

pub right_is_linearizable : RightIsLinearizable
unfolding AsIfOne
right_is_linearizable can f right g w group lived fine one =
    let h = linearizes (run can f g w right group lived fine) in (linearization g w, (h.once, h.asked, h.told, h.real_time))

pub order_only_grows : OrderOnlyGrows
order_only_grows can f g w w' right group lived fine later = only_grows (run can f g w' right group lived fine) w later

-- what stands in an order was asked
asked_in : (past : List Happening) (since : List Asked) (o : Asked) (so_far : List Asked) → all_asked past (since ++ (o ∷ so_far))
    → Happened (request o.client o.id o.command) past
unfolding all_asked
asked_in past [] o so_far a = a.0
asked_in past (x ∷ since) o so_far a = asked_in past since o so_far a.1

pub later_sees_earlier : LaterSeesEarlier
later_sees_earlier can f g w right group lived fine c k t q told =
    let r = run can f g w right group lived fine in
    let s = stands_after (linearization g w) c k t.client t.id (in_real_time r c k t.client t.id q (told_there r t told)) in
    record {
      command = s.command;
      asked = asked_in w.past s.since _ s.so_far (subst (all_asked w.past) s.at (linearization_asked r));
      since = s.since;
      so_far = s.so_far;
      stands = s.at;
      seen = s.seen;
      reply = let e : t.reply ∷ [] ≡ reply s.command (store_after s.so_far) ∷ [] = sym (told_right r t told) ∙ s.told in cc;
    }

pub at_most_once : AtMostOnce
unfolding linearization
at_most_once can f g w right group lived fine c k = rises_times (order (committed g w)) (order_rises (committed g w)) c k

pub numbers_rise : NumbersRise
unfolding linearization
numbers_rise can f g w right group lived fine o since so_far k q t =
    let r = rises_below since (o ∷ so_far) (subst Rises q (order_rises (committed g w))) in
    new_is_higher so_far r.1 o.client k o.id r.0 t

pub told_the_same_always : ToldTheSameAlways
told_the_same_always can f g w right group lived fine s t a b p q =
    let r = run can f g w right group lived fine in
    let x = told_right r s a in
    let y = told_right r t b in
    let z : reply_in (linearization g w) s.client s.id ≡ reply_in (linearization g w) t.client t.id = cc in
    cc

pub told_the_same : ToldTheSame
unfolding ToldTheSame
told_the_same can f g w s t right group lived fine one = told_the_same_always can f g w right group lived fine s t

pub told_was_asked : ToldWasAsked
unfolding ToldWasAsked
told_was_asked can f g w right group lived fine s t =
    let r = run can f g w right group lived fine in in_order_asked r s.client s.id (told_there r s t)

-- what is asked of every entry is asked of every command
all_asked_of : (g : Group) (past : List Happening) (es : List Entry) → All (WasAsked g past) es → all_asked past (map asked_of es)
unfolding all_asked
all_asked_of g past [] a = tt
all_asked_of g past (e ∷ es) a = (a.0.1, all_asked_of g past es a.1)

pub entries_were_asked : EntriesWereAsked
entries_were_asked can f g w right group lived fine i low =
    all_asked_of g w.past (at_server g w i).log ((entries_asked (run can f g w right group lived fine)).logs i)

pub told_is_applied : ToldIsApplied
told_is_applied can f g w right group lived fine = told_applied (run can f g w right group lived fine)

pub servers_follow : ServersFollow
servers_follow can f g w right group lived fine i low =
    let r = run can f g w right group lived fine in
    let a = servers_applied r i in
    record {
      applied = a.low;
      behind = extends_server r i (at_server g w i).applied low a.low;
      store = a.made.store;
      sessions = a.made.sessions;
    }

pub what_is_applied_stays : AppliedStays
what_is_applied_stays can f g w w' right group lived fine later i low =
    let r = run can f g w' right group lived fine in (applied_up r w later i, applied_stays r w later i)

pub what_is_applied_agrees : AppliedAgree
what_is_applied_agrees can f g w right group lived fine = applied_agree (run can f g w right group lived fine)
