use Rattle.store.proofs.Regions.{region_laws}
use Rattle.store.proofs.region_stands.Goals as goal

pub returns : goal.returns
returns c = region_laws
