use Rattle.std.proofs.Common.{sym, subst, get_or}
use Rattle.ctw_module.specs.Trees.{view_module}
use Rattle.ctw_link.specs.Sets.{set_of}
use Rattle.ctw_link.specs.SetInstances.{set_instances, LeadsToFunction}
use Rattle.ctw_link.specs.Linked.{IsValidPart}
use Rattle.ctw_link.proofs.LinkedParts.{all_at}
use Rattle.ctw_link.proofs.ValidParts.{function_typed}
use Rattle.ctw_launch.proofs.Loading.{loaded_shape}
use Rattle.ctw_session.proofs.Exporting.{part_read, function_leads}
use Rattle.ctw_session.proofs.exports.function_at.Goals as goal

pub func_type-requires : goal.func_type-requires
func_type-requires c =
    let p = get_or c.parts.result.now c.args.part c.index-parts-part.result in
    let at = part_read c.parts.result.now c.args.set.now c.args.part c.index-parts-part.result c.parts.ensures.value c.requires.0 c.requires.1 in
    function_typed (view_module p.«module») c.args.index c.type_of_func.result (all_at IsValidPart c.args.set.now c.args.part p c.parts.ensures.linked.valid at) c.type_of_func.ensures

pub returns-clause-ty : goal.returns-clause-ty
returns-clause-ty c =
    let set = c.args.set.now in
    let p = get_or c.parts.result.now c.args.part c.index-parts-part.result in
    let at = part_read c.parts.result.now set c.args.part c.index-parts-part.result c.parts.ensures.value c.requires.0 c.requires.1 in
    subst (λ t. LeadsToFunction (set_instances (set_of set)) t c.func.result) (sym c.func_type.ensures)
    (function_leads set c.parts.ensures.linked c.parts.ensures.matching _ (loaded_shape (set_of set)) c.args.part p at c.args.index c.type_of_func.result c.func.result c.type_of_func.ensures c.func.ensures.number)
