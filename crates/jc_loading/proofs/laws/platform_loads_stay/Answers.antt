use Rattle.jc_loading.proofs.Loads.{still-loads}
use Rattle.jc_loading.proofs.laws.platform_loads_stay.Goals as goal

pub returns : goal.returns
returns c = still-loads
