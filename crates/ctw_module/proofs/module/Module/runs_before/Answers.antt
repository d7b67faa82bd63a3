use Rattle.std.proofs.Common.{◌∙◌, ap, arith}
use Rattle.ctw_module.proofs.Functions.{view_at}
use Rattle.ctw_module.proofs.Readers.{codes_size, slot_runs}
use Rattle.ctw_module.proofs.module.Module.runs_before.Goals as goal

pub index-slot-requires : goal.index-slot-requires
index-slot-requires c =
    let h = view_at c.self.inside c.args.self.now c.self.invariant c.self.view_is in
    omega (arith, codes_size c.self.inside c.args.self.now h, c.if-defined-eq0.false)

pub returns : goal.returns
returns c =
    let h = view_at c.self.inside c.args.self.now c.self.invariant c.self.view_is in
    ap (λ s. s.runs) c.slot.view_is ∙ slot_runs c.self.inside c.args.self.now c.args.defined c.index-slot.result.now h c.if-defined-eq0.false c.requires c.index-slot.ensures
