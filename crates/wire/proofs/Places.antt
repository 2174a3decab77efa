-- What reading makes of a slice of bytes: an event whose bytes they are, or the place where they cease to be one's.
use Rattle.std.proofs.Common.{◌≡◌, ℕ, zero, suc, ◌-◌, ◌<◌, true, ◌⊎◌, List, [], ◌∷◌, ◌++◌, length, take, sym, refl, ap, ◌∙◌, subst, inl, inr, arith}
use Rattle.std.proofs.lemmas.List.{append_assoc, append-nil, length-append, take_at, take_all}
use Rattle.std.proofs.lemmas.Bool.{lt-ltb}
use Rattle.servers.specs.Server.{Event, garbled}
use Rattle.servers.specs.Promise.{bytes, readable}
use Rattle.wire.specs.Read.{stuck, read_front, read_event}
use Rattle.wire.specs.Read as read
use Rattle.wire.specs.Write.{write_event}
use Rattle.wire.specs.Codec.{Writable, Placed, WrittenBack, ReadIsReadable, PlaceIsExact}
use Rattle.wire.proofs.Codecs.{Seen, whole, short, wrong}
use Rattle.wire.proofs.Events.{GoodEvent, event}
use Rattle.wire.proofs.Writable.{writable}
use Rattle.wire.proofs.Trips.{front, round_trip}

take_past : (p : List ℕ) (b : ℕ) (y : List ℕ) (n : ℕ) → length p < n → take n (p ++ (b ∷ y)) ≡ p ++ (b ∷ take (n - suc (length p)) y)
take_past p b y zero h = absurd (omega arith)
take_past [] b y (suc n) h = let e : suc n - 1 ≡ n = omega arith in rw e
take_past (x ∷ p) b y (suc n) h =
    let e : suc n - suc (suc (length p)) ≡ n - suc (length p) = omega arith in rw (e, take_past p b y n (omega arith))

-- where some event's bytes begin so, and none's have the next byte, the place is there
placed :
    (bs p : List ℕ) (b : ℕ) (y : List ℕ) → bs ≡ p ++ (b ∷ y) → (e : Event) (more : List ℕ) → GoodEvent e → write_event e ≡ p ++ more
    → ((d : Event) (z : List ℕ) → Writable d → write_event d ≡ p ++ (b ∷ z) → ⊥) → Placed bs (length p)
placed bs p b y q e more g s f =
    record {
      within = let l = ap length q ∙ length-append p (b ∷ y) in omega arith;
      begun = (e, writable e g, (more, rw (q, take_at p (b ∷ y) (length p) refl) s));
      longest = λ d n w l m t.
          f d (take (n - suc (length p)) y ++ t.0) w
          (t.1 ∙ rw (q, take_past p b y n l, append_assoc p (b ∷ take (n - suc (length p)) y) t.0));
      none = λ d w t. f d y w (t ∙ q);
    }

-- where the bytes end too early, the place is their length
placed_last :
    (bs : List ℕ) (e : Event) (more : List ℕ) → GoodEvent e → write_event e ≡ bs ++ more → read_front bs ≡ stuck 0 → Placed bs (length bs)
placed_last bs e more g s r =
    record {
      within = omega arith;
      begun = (e, writable e g, (more, rw (take_all (length bs) bs (omega arith)) s));
      longest = λ d n w l m t. omega arith;
      none = λ d w t. let c : ◌≡◌ {A = ℕ} 0 1 = cc (front d w, ap read_front t, r) in omega arith;
    }

abbrev Known : List ℕ → Type 0
Known bs = ((e : Event) × GoodEvent e × (write_event e ≡ bs)) ⊎ ((p : ℕ) × (read_event bs ≡ garbled p) × Placed bs p)

known : (bs : List ℕ) → bytes bs ≡ true → Known bs
known bs h = so (event.seen bs h)
  where
    at : (p : List ℕ) (b : ℕ) (y : List ℕ) → bs ≡ p ++ (b ∷ y) → length bs - suc (length y) ≡ length p
    at p b y q = let l = ap length q ∙ length-append p (b ∷ y) in omega arith

    past : (e : Event) (rest : List ℕ) → GoodEvent e → bs ≡ write_event e ++ rest → Known bs
    past e [] g q = inl (e, g, sym (q ∙ append-nil (write_event e)))
    past e (b ∷ y) g q =
        inr (
          length (write_event e),
          ap (read.whole (length bs)) (ap read_front q ∙ event.back e (b ∷ y) g) ∙ ap garbled (at (write_event e) b y q),
          placed bs (write_event e) b y q e [] g (sym (append-nil (write_event e)))
              (λ d z w t. let c : ◌≡◌ {A = ℕ} 0 1 = cc (front d w, ap read_front t, event.back e (b ∷ z) g) in omega arith),
        )

    so : Seen write_event GoodEvent read_front bs → Known bs
    so (whole e rest g q) = past e rest g q
    so (short e more g s r) =
        let z : length bs - 0 ≡ length bs = omega arith in
        inr (length bs, ap (read.whole (length bs)) r ∙ ap garbled z, placed_last bs e more g s r)
    so (wrong p b y e more q g s f) =
        inr (
          length p,
          ap (read.whole (length bs)) (ap read_front q ∙ f y) ∙ ap garbled (at p b y q),
          placed bs p b y q e more g s (λ d z w t. let c : ◌≡◌ {A = ℕ} 0 1 = cc (front d w, ap read_front t, f z) in omega arith),
        )

pub written_back : WrittenBack
written_back bs s ok = so (known bs s.0)
  where
    so : Known bs → write_event (read_event bs) ≡ bs
    so (inl (e, g, q)) = ap write_event (ap read_event (sym q) ∙ round_trip e (writable e g)) ∙ q
    so (inr (p, q, l)) = absurd (ok p q)

pub read_is_readable : ReadIsReadable
read_is_readable bs s = so (known bs s.0)
  where
    so : Known bs → readable (read_event bs) ≡ true
    so (inl (e, g, q)) = ap readable (ap read_event (sym q) ∙ round_trip e (writable e g)) ∙ (writable e g).0
    so (inr (p, q, l)) = ap readable q ∙ lt-ltb p 18446744073709551616 (let w = l.within in omega (arith, s.1))

pub place_is_exact : PlaceIsExact
place_is_exact bs p s q = so (known bs s.0)
  where
    so : Known bs → Placed bs p
    so (inl (e, g, t)) = absurd (subst GoodEvent (sym (round_trip e (writable e g)) ∙ ap read_event t ∙ q) g)
    so (inr (n, t, l)) = let e : n ≡ p = cc in subst (Placed bs) e l
