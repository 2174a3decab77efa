-- A group that was opened plays.
use Rattle.std.proofs.Common.{◌≡◌, ℕ, ◌+◌, ◌*◌, ◌<◌, ◌≤◌, ◌⊎◌, List, length, sym, ◌∙◌, subst, inl, inr, arith}
use borrow.Rule.Slice.PartMut.{put_mid}
use Rattle.std.proofs.lemmas.Bool.{cases_eq}
use Rattle.servers.specs.World.{Group, limits}
use Rattle.memory.specs.Program.{opened}
use Rattle.group.specs.Journals.{replay}
use Rattle.group.specs.Parts.{part}
use Rattle.group.specs.Playing.{group_of, Playing}
use Rattle.group.specs.Opening.{Sized, none_kept}
use Rattle.group.specs.declared.happen.Group as code
use Rattle.group.proofs.Journals.{journals_open}
use Rattle.group.proofs.Parts.{parts_open, alive_new}
use Rattle.group.proofs.Turning.{part_put, others}

-- one more server is opened
pub opened_more :
    (g : Group) (words i k : ℕ) (m p : List ℕ) → words ≡ k → i * words + words ≤ length m → length p ≡ words → p ≡ opened (limits g i)
    → ((j : ℕ) → j < i → part words j m ≡ opened (limits g j))
    → (j : ℕ) → j < i + 1 → part words j (put_mid (i * words) k m p) ≡ opened (limits g j)
opened_more g words i k m p e h long is before j low =
    subst (λ (z : ℕ). part words j (put_mid (i * words) z m p) ≡ opened (limits g j)) e (so (cases_eq j i))
  where
    so : (j ≡ i) ⊎ (j ≡ i → ⊥) → part words j (put_mid (i * words) words m p) ≡ opened (limits g j)
    so (inl q) =
        subst (λ (z : ℕ). part words z (put_mid (i * words) words m p) ≡ opened (limits g z)) (sym q)
        (part_put (i * words) words m p (omega arith) long ∙ is)
    so (inr ne) = others words i j m p h long ne ∙ before j (omega arith)

-- and once all are, the group plays
pub all_open :
    (p : code.Group) (m : List ℕ) → Sized p → p.servers * p.words ≤ length m
    → ((j : ℕ) → j < p.servers → part p.words j m ≡ opened (limits (group_of p) j))
    → (events answers : List ℕ) → Playing p none_kept m events answers
unfolding replay
all_open p m s long each events answers =
    let longest = s.answer in
    record {
      good = s.good;
      longest = omega arith;
      long = long;
      journals = (journals_open events answers).0;
      parts = parts_open (group_of p) p.words m each;
      alive = alive_new (group_of p);
    }
