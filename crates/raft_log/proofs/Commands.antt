-- The words of a command as bytes: its parts stand where they do, and there is room for each.
use Rattle.std.proofs.Common.{◌≡◌, ℕ, ◌+◌, ◌<◌, ◌≤◌, List, [], ◌∷◌, ◌++◌, length, get_or, take, drop, ap, ◌∙◌, arith}
use Rattle.std.proofs.lemmas.List.{get_or-take, get_or-drop}
use Rattle.texts.specs.Words.{text_in, perhaps_in}
use Rattle.wire.specs.Write.{write_text, write_command}
use Rattle.raft_log.specs.Rows.{command_in}
use Rattle.wire_write.specs.Put.{Room, Wrote}
use Rattle.wire_write.specs.declared.writer.Writer.{Writer}
use Rattle.wire_write.proofs.Putting.{room_next, wrote_then, wrote_as}
use Rattle.raft_log.specs.Bytes.{write_expected, write_last}
use Rattle.raft_log.proofs.Rooms.{command_bytes}

-- the first word of a part
pub first_of : (a k : ℕ) (ws : List ℕ) → 0 < k → get_or (take k (drop a ws)) 0 0 ≡ get_or ws a 0
first_of a k ws h =
    let z : a + 0 ≡ a = omega arith in
    get_or-take k (drop a ws) 0 0 h ∙ (get_or-drop a ws 0 0 ∙ ap (λ (i : ℕ). get_or ws i 0) z)

-- the bytes of the parts
abbrev pub name_bytes : List ℕ → List ℕ
name_bytes ws = write_text (text_in (take 9 (drop 1 ws)))

abbrev pub expected_bytes : List ℕ → List ℕ
expected_bytes ws = write_expected (get_or ws 0 0) (perhaps_in (take 33 (drop 10 ws)))

abbrev pub last_bytes : List ℕ → List ℕ
last_bytes ws = write_last (get_or ws 0 0) (text_in (take 33 (drop 43 ws)))

pub by_parts : (ws : List ℕ) → get_or ws 0 0 < 5
    → get_or ws 0 0 ∷ (name_bytes ws ++ (expected_bytes ws ++ last_bytes ws)) ≡ write_command (command_in ws)
by_parts ws h =
    command_bytes (get_or ws 0 0) (text_in (take 9 (drop 1 ws))) (text_in (take 33 (drop 43 ws))) (perhaps_in (take 33 (drop 10 ws))) h

-- room before each, and what they write together
abbrev pub rest_bytes : List ℕ → List ℕ
rest_bytes ws = name_bytes ws ++ (expected_bytes ws ++ last_bytes ws)

pub room_name : {v w : Writer} (ws : List ℕ) → get_or ws 0 0 < 5 → Room (length (write_command (command_in ws))) v
    → Wrote (get_or ws 0 0 ∷ []) v w → Room (length (rest_bytes ws)) w
room_name ws tag room w = let e = ap length (by_parts ws tag) in room_next (rest_bytes ws) (omega arith) w

pub command_written : {v v₁ v₂ v₃ v₄ : Writer} (ws : List ℕ) → get_or ws 0 0 < 5
    → Wrote (get_or ws 0 0 ∷ []) v v₁ → Wrote (name_bytes ws) v₁ v₂ → Wrote (expected_bytes ws) v₂ v₃
    → Wrote (last_bytes ws) v₃ v₄ → Wrote (write_command (command_in ws)) v v₄
command_written ws tag w₁ w₂ w₃ w₄ = wrote_as (by_parts ws tag) (wrote_then w₁ (wrote_then w₂ (wrote_then w₃ w₄)))
