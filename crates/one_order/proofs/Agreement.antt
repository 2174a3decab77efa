-- AGREEMENT: what this proof takes from the safety of the logs, and all that it takes. Logs are contiguous; no commit index falls; what
-- was ever committed at one server is what was ever committed at any, and stays. No other file here reads the invariant of safety.
use Rattle.std.proofs.Common.{◌≡◌, ℕ, ◌≤◌, List, [], sym, refl}
use Rattle.servers.specs.Server.{up_to}
use Rattle.servers.specs.World.{Program, Group, Happening, World}
use Rattle.servers.specs.Promise.{at_server}
use Rattle.safety.specs.Safety.{Until, at_moment, StateMachineSafety, CommitsStay}
use Rattle.safety.proofs.Logs.{Contiguous, agree_below}
use Rattle.safety.proofs.Worlds.{history}
use Rattle.safety.proofs.OverTime.{state_machine_safety, commits_stay}
use Rattle.one_order.specs.Order.{Later}
use Rattle.one_order.proofs.Runs.{Run}

module _ {f : Program} {g : Group} {w : World} (r : Run f g w) where
  pub log_contiguous : (v : ℕ) → Contiguous (at_server g w v).log
  log_contiguous v = ((history r.can f g r.right r.group r.lived r.fine).inv.servers v).log.contiguous

  -- what is committed at two servers agrees, whatever the two moments, and whichever is the earlier
  pub agree_ever : (a b : List Happening) → Until a w.past → Until b w.past → (u v n : ℕ)
      → n ≤ (at_moment g a u).commit → n ≤ (at_moment g b v).commit → up_to n (at_moment g a u).log ≡ up_to n (at_moment g b v).log
  unfolding StateMachineSafety
  agree_ever = state_machine_safety r.can f g w r.right r.group r.lived r.fine

  pub agree_now : (u v n : ℕ) → n ≤ (at_server g w u).commit → n ≤ (at_server g w v).commit
      → up_to n (at_server g w u).log ≡ up_to n (at_server g w v).log
  agree_now = agree_ever w.past w.past ([], refl) ([], refl)

module _ {f : Program} {g : Group} {w' : World} (r : Run f g w') (w : World) (later : Later w w') where
  pub commits_up : (v : ℕ) → (at_server g w v).commit ≤ (at_server g w' v).commit
  unfolding CommitsStay
  commits_up v =
      (commits_stay r.can f g w' r.right r.group r.lived r.fine w.past w'.past ([], refl) later v).1

  -- what was committed at a server stays in its log
  pub committed_stays : (v n : ℕ) → n ≤ (at_server g w v).commit → up_to n (at_server g w v).log ≡ up_to n (at_server g w' v).log
  unfolding CommitsStay
  committed_stays v n h =
      agree_below n (at_server g w v).commit (at_server g w v).log (at_server g w' v).log h
      (sym (commits_stay r.can f g w' r.right r.group r.lived r.fine w.past w'.past ([], refl) later v).2)
