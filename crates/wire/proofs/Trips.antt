-- There and back: what is promised of the bytes of events.
use Rattle.std.proofs.Common.{◌≡◌, [], length, sym, ap, ◌∙◌, subst}
use Rattle.std.proofs.lemmas.List.{append-nil}
use Rattle.servers.specs.Server.{Event}
use Rattle.wire.specs.Read.{got, read_front, read_event, whole}
use Rattle.wire.specs.Write.{write_event}
use Rattle.wire.specs.Codec.{Writable, RoundTrip, Injective, WrittenIsBytes}
use Rattle.wire.proofs.Events.{event}
use Rattle.wire.proofs.Writable.{good_event}

pub front : (e : Event) → Writable e → read_front (write_event e) ≡ got e []
front e w = subst (λ bs. read_front bs ≡ got e []) (append-nil (write_event e)) (event.back e [] (good_event e w))

pub round_trip : RoundTrip
round_trip e w = ap (whole (length (write_event e))) (front e w)

pub injective : Injective
injective e d w v q = sym (round_trip e w) ∙ ap read_event q ∙ round_trip d v

pub written_is_bytes : WrittenIsBytes
written_is_bytes e w = event.low e (good_event e w)
