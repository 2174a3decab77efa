-- What words that hold a log give to the log's functions, and commands of one byte over and over.
use Rattle.std.proofs.Common.{◌≡◌, ℕ, zero, suc, ◌+◌, ◌-◌, ◌*◌, ◌<◌, ◌≤◌, List, [], length, take, drop, replicate, sym, refl, ap, ◌∙◌, subst, arith}
use Rattle.std.proofs.lemmas.List.{length-replicate, take_all, take-replicate, drop-replicate}
use Rattle.texts.specs.Words.{All, Byte, Text, word}
use Rattle.raft_log.specs.Rows.{log_words, log_region}
use Rattle.raft_log.specs.Places.{words_of, row_at}
use Rattle.raft_log.specs.Bytes.{Sound, SoundRow}
use Rattle.raft_log.proofs.Lent.{row_of_part}
use Rattle.raft_log.proofs.Rows.{length_region}
use Rattle.raft_log.proofs.Sound.{sound_log}
use Rattle.log_tests.specs.Held.{Held}

pub held_long : (n : ℕ) (ws : List ℕ) → Held n ws → n ≤ 4 → length ws ≡ 320
held_long n ws h k = let l = h.long in ap length h.is ∙ length_region 4 h.log (omega arith)

pub held_sound : (n : ℕ) (ws : List ℕ) → Held n ws → Sound n ws
held_sound n ws h =
    let s : Sound (length h.log) (log_region 4 h.log) =
    sound_log 256 word word h.log (replicate (80 * (4 - length h.log)) 0) (omega arith) h.good in
    subst (λ (k : ℕ). Sound k ws) h.long (subst (λ (x : List ℕ). Sound (length h.log) x) (sym h.is) s)

-- and the rows that are lent of them
pub rows_sound : (n : ℕ) (ws : List ℕ) (rows : List (List ℕ)) → Held n ws → n ≤ 4 → words_of rows ≡ take (80 * n) ws → length rows ≡ n
    → Sound (length rows) (words_of rows)
rows_sound n ws rows h k w l i some most =
    let long = held_long n ws h k in
    let all : take (80 * 4) ws ≡ ws = take_all (80 * 4) ws (omega arith) in
    let row : row_at i (words_of rows) ≡ row_at i ws =
    ap (row_at i) w ∙ (row_of_part i n 4 0 ws some (omega arith) k ∙ ap (row_at i) all) in
    subst (λ (x : List ℕ). SoundRow x) (sym row) (held_sound n ws h i some (omega arith))

pub held_none : (ws : List ℕ) → ws ≡ replicate 320 0 → Held 0 ws
unfolding log_words
held_none ws e = record { log = []; long = refl; good = tt; is = e }

-- the same byte so many times
same_bytes : (n x : ℕ) → x < 256 → All Byte (replicate n x)
same_bytes zero x h = tt
same_bytes (suc n) x h = (h, same_bytes n x h)

pub part_text : (most at len all x : ℕ) → x < 256 → at + len ≤ all → len ≤ most → Text most (take len (drop at (replicate all x)))
part_text most at len all x h k m =
    subst (λ (t : List ℕ). Text most t) (sym (ap (take len) (drop-replicate at all x) ∙ take-replicate len (all - at) x (omega arith)))
    (let l = length-replicate len x in omega arith, same_bytes len x h)
