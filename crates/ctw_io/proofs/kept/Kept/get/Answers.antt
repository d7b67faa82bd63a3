use Rattle.ctw_io.proofs.Places.{missing, found}
use Rattle.ctw_io.proofs.kept.Kept.get.Goals as goal

pub returns-in_err-place : goal.returns-in_err-place
returns-in_err-place c = rw c.from_residual.ensures (missing c.self.inside.files.items c.deref.result.now c.args.self.now c.args.name.now c.self.view_is c.deref.ensures.value c.in_err-place.ensures)

pub returns : goal.returns
returns c = found c.self.inside.files.items c.deref.result.now c.args.self.now c.args.name.now c.as_slice.result.now c.in_ok-place.place c.index.result.now c.self.view_is c.deref.ensures.value c.in_ok-place.ensures c.index.ensures c.as_slice.ensures.value
