use Rattle.ctw_flat.proofs.Accesses.{load_size, store_size}
use Rattle.ctw_flat.proofs.laws.sizes_of_accesses.Goals as goal

pub returns-clause-loads : goal.returns-clause-loads
returns-clause-loads c width label bytes signed align offset e = load_size width bytes signed e

pub returns-clause-stores : goal.returns-clause-stores
returns-clause-stores c width label bytes signed align offset e = store_size width bytes e.1
