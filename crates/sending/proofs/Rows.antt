-- The rows of a memory that is held can be written as bytes.
use Rattle.std.proofs.Common.{◌≡◌, ℕ, ◌-◌, ◌*◌, ◌<◌, ◌≤◌, List, length, get_or, replicate, sym, ap, ◌∙◌, subst, arith}
use Rattle.servers.specs.Server.{Limits, State, last_of_all}
use Rattle.raft_log.specs.Places.{words_of, row_at}
use Rattle.raft_log.specs.Bytes.{Sound, SoundRow}
use Rattle.raft_log.proofs.Places.{log_in_row}
use Rattle.raft_log.proofs.Sound.{sound_log}
use Rattle.memory.specs.Layout.{log_part, region_in}
use Rattle.memory.proofs.Back.{log_back}
use Rattle.state.specs.Held.{Held, limits_of, state_of}

pub held_sound : (m : List ℕ) → Held m → Sound (get_or m 10 0) (log_part m)
held_sound m h =
    let l : Limits = limits_of m in
    let s : State = state_of m in
    let few = h.good.servers in
    let e = ap log_part h.is ∙ log_back l s.applied s (region_in m) h.fits in
    let n = (log_in_row (get_or m 10 0) (log_part m)).1 in
    let p = sound_log l.servers l.clients last_of_all s.log (replicate (80 * (l.room - length s.log)) 0) (omega arith)
    h.fits.1.entries in
    subst (λ (k : ℕ). Sound k (log_part m)) n (subst (λ (z : List ℕ). Sound (length s.log) z) (sym e) p)

-- and as they are lent
pub lent_sound : (m : List ℕ) (rows : List (List ℕ)) → Held m → length rows ≡ length (state_of m).log
    → ((i : ℕ) → 0 < i → i ≤ length rows → row_at i (words_of rows) ≡ row_at i (log_part m)) → Sound (length rows) (words_of rows)
lent_sound m rows h l e i some most =
    let n = (log_in_row (get_or m 10 0) (log_part m)).1 in
    subst (λ (x : List ℕ). SoundRow x) (sym (e i some most)) (held_sound m h i some (omega arith))
