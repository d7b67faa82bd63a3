use Rattle.std.proofs.Common.{arith}
use Rattle.ctw_module.proofs.Functions.{view_at}
use Rattle.ctw_module.proofs.Readers.{elements_size, slot_functions}
use Rattle.ctw_module.proofs.module.Module.functions_before.Goals as goal

pub index-requires : goal.index-requires
index-requires c =
    let h = view_at c.self.inside c.args.self.now c.self.invariant c.self.view_is in
    omega (arith, elements_size c.self.inside c.args.self.now h, c.if-elements-eq0.false)

pub returns : goal.returns
returns c =
    let h = view_at c.self.inside c.args.self.now c.self.invariant c.self.view_is in
    slot_functions c.self.inside c.args.self.now c.args.elements c.index.result.now h c.if-elements-eq0.false c.requires c.index.ensures
