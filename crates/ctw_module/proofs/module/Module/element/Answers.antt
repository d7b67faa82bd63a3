use Rattle.std.proofs.Common.{◌<◌, length, ap, sym, ◌∙◌, arith}
use Rattle.std.proofs.lemmas.Option.{slice_get_past}
use Rattle.ctw_module.specs.Trees.{tree}
use Rattle.ctw_module.proofs.Functions.{view_at}
use Rattle.ctw_module.proofs.Readers.{elements_size, element_at}
use Rattle.ctw_module.proofs.module.Module.element.Goals as goal

pub returns-then-i-len : goal.returns-then-i-len
returns-then-i-len c =
    let h = view_at c.self.inside c.args.self.now c.self.invariant c.self.view_is in
    sym (slice_get_past (tree c.args.self.now).elements c.args.i (omega (arith, elements_size c.self.inside c.args.self.now h, c.len.ensures, c.if-i-len.true)))

pub functions_before-start-requires : goal.functions_before-start-requires
functions_before-start-requires c =
    let h = view_at c.self.inside c.args.self.now c.self.invariant c.self.view_is in
    omega (arith, elements_size c.self.inside c.args.self.now h, c.len.ensures, c.if-i-len.false)

pub part-requires-clause-from : goal.part-requires-clause-from
part-requires-clause-from c =
    let h = view_at c.self.inside c.args.self.now c.self.invariant c.self.view_is in
    let lt : c.args.i < length (tree c.args.self.now).elements = omega (arith, elements_size c.self.inside c.args.self.now h, c.len.ensures, c.if-i-len.false) in
    (element_at c.self.inside c.args.self.now c.args.i c.functions_before-start.result c.index-slot.result.now c.deref.result.now h lt c.index-slot.ensures c.deref.ensures.value c.functions_before-start.ensures).below

pub part-requires-clause-to : goal.part-requires-clause-to
part-requires-clause-to c =
    let h = view_at c.self.inside c.args.self.now c.self.invariant c.self.view_is in
    let lt : c.args.i < length (tree c.args.self.now).elements = omega (arith, elements_size c.self.inside c.args.self.now h, c.len.ensures, c.if-i-len.false) in
    (element_at c.self.inside c.args.self.now c.args.i c.functions_before-start.result c.index-slot.result.now c.deref.result.now h lt c.index-slot.ensures c.deref.ensures.value c.functions_before-start.ensures).within

pub invariant_of-result : goal.invariant_of-result
invariant_of-result c =
    let h = view_at c.self.inside c.args.self.now c.self.invariant c.self.view_is in
    let lt : c.args.i < length (tree c.args.self.now).elements = omega (arith, elements_size c.self.inside c.args.self.now h, c.len.ensures, c.if-i-len.false) in
    let e = element_at c.self.inside c.args.self.now c.args.i c.functions_before-start.result c.index-slot.result.now c.deref.result.now h lt c.index-slot.ensures c.deref.ensures.value c.functions_before-start.ensures in
    omega (arith, ap length (c.part.ensures ∙ e.are), e.short)

pub returns : goal.returns
returns c =
    let h = view_at c.self.inside c.args.self.now c.self.invariant c.self.view_is in
    let lt : c.args.i < length (tree c.args.self.now).elements = omega (arith, elements_size c.self.inside c.args.self.now h, c.len.ensures, c.if-i-len.false) in
    let e = element_at c.self.inside c.args.self.now c.args.i c.functions_before-start.result c.index-slot.result.now c.deref.result.now h lt c.index-slot.ensures c.deref.ensures.value c.functions_before-start.ensures in
    rw (e.table, e.offset, c.part.ensures ∙ e.are) (sym e.stands)
