-- The parts of a command in words: its name, what is expected, its text.
use Rattle.std.proofs.Common.{◌≡◌, ℕ, ◌*◌, List, ◌++◌, length, take, drop, sym, ap, ◌∙◌, subst, arith}
use Rattle.std.proofs.lemmas.List.{length-append, take_at, take_all, drop_at, drop-drop}
use Rattle.servers.specs.Store.{Perhaps, Command}
use Rattle.texts.specs.Words.{PerhapsText, text_words, perhaps_words, perhaps_in}
use Rattle.texts.specs.Commands.{name_of, expects, text_of, command_in}
use Rattle.texts.proofs.Cells.{length_text_words, length_perhaps_words, perhaps_back}
use Rattle.store.specs.Calls.{OfText, OfPerhaps, OfCommand}
use Rattle.store.proofs.Writing.{of_text}

pub of_perhaps : (n : ℕ) (ws : List ℕ) (p : Perhaps) → ws ≡ perhaps_words n p → PerhapsText (8 * n) p → OfPerhaps n ws
of_perhaps n ws p e h =
    let b : perhaps_in ws ≡ p = ap perhaps_in e ∙ perhaps_back n p h in
    record { is = e ∙ ap (perhaps_words n) (sym b); fits = subst (PerhapsText (8 * n)) (sym b) h }

-- of three parts
first_part : (us vs ws : List ℕ) → length us ≡ 9 → take 9 (us ++ (vs ++ ws)) ≡ us
first_part us vs ws e = take_at us (vs ++ ws) 9 e

second_part : (us vs ws : List ℕ) → length us ≡ 9 → length vs ≡ 33 → take 33 (drop 9 (us ++ (vs ++ ws))) ≡ vs
second_part us vs ws e f = ap (take 33) (drop_at us (vs ++ ws) 9 e) ∙ take_at vs ws 33 f

third_part : (us vs ws : List ℕ) → length us ≡ 9 → length vs ≡ 33 → length ws ≡ 33 → take 33 (drop 42 (us ++ (vs ++ ws))) ≡ ws
third_part us vs ws e f g =
    ap (take 33) (sym (drop-drop 33 9 (us ++ (vs ++ ws))) ∙ (ap (drop 33) (drop_at us (vs ++ ws) 9 e) ∙ drop_at vs ws 33 f))
    ∙ take_all 33 ws (omega arith)

module _ (ws : List ℕ) (o : OfCommand ws) where
  pub command_long : length ws ≡ 76
  command_long =
      let x : Command = command_in ws in
      let a = length-append (text_words 8 (name_of x)) (perhaps_words 32 (expects x) ++ text_words 32 (text_of x)) in
      let b = length-append (perhaps_words 32 (expects x)) (text_words 32 (text_of x)) in
      let c = length_text_words 8 (name_of x) in let d = length_perhaps_words 32 (expects x) in let e = length_text_words 32 (text_of x) in
      ap length o.is ∙ omega arith

  pub command_name : OfText 8 (take 9 (drop 1 ws))
  command_name =
      let x : Command = command_in ws in
      of_text 8 (take 9 (drop 1 ws)) (name_of x)
      (ap (λ (z : List ℕ). take 9 (drop 1 z)) o.is
      ∙ first_part (text_words 8 (name_of x)) (perhaps_words 32 (expects x)) (text_words 32 (text_of x)) (length_text_words 8 (name_of x)))
      o.good.0

  pub command_expects : OfPerhaps 32 (take 33 (drop 10 ws))
  command_expects =
      let x : Command = command_in ws in
      of_perhaps 32 (take 33 (drop 10 ws)) (expects x)
      (ap (λ (z : List ℕ). take 33 (drop 10 z)) o.is
      ∙ second_part (text_words 8 (name_of x)) (perhaps_words 32 (expects x)) (text_words 32 (text_of x)) (length_text_words 8 (name_of x))
      (length_perhaps_words 32 (expects x)))
      o.good.1

  pub command_text : OfText 32 (take 33 (drop 43 ws))
  command_text =
      let x : Command = command_in ws in
      of_text 32 (take 33 (drop 43 ws)) (text_of x)
      (ap (λ (z : List ℕ). take 33 (drop 43 z)) o.is
      ∙ third_part (text_words 8 (name_of x)) (perhaps_words 32 (expects x)) (text_words 32 (text_of x)) (length_text_words 8 (name_of x))
      (length_perhaps_words 32 (expects x)) (length_text_words 32 (text_of x)))
      o.good.2

-- for a command's parts
pub ruleset command_parts = (command_long, command_name, command_expects, command_text)
