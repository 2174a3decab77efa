use Rattle.wire.proofs.Trips.{written_is_bytes, round_trip, injective}
use Rattle.wire.proofs.promises.round_trip_stands.Goals as goal

pub returns : goal.returns
returns c = record { bytes = written_is_bytes; back = round_trip; apart = injective }
