use Rattle.std.proofs.Common.{List, map, ap, sym, ◌∙◌}
use Rattle.std.specs.List.{flat_map}
use Rattle.ctw_ops.specs.declared.types.ExternTag.TheVariants.{Func}
use Rattle.ctw_text.specs.declared.fields.Field.{Field}
use Rattle.ctw_text.specs.Names.{Space, Wide, defined, faults_of, field_faults, function_of, leftmost, wide_of}
use Rattle.ctw_names.specs.Noted.{noted}
use Rattle.ctw_names.specs.Spaces.{space_in}
use Rattle.ctw_names.proofs.Modules.{all_noted, module_is, none_mapped}
use Rattle.ctw_names.proofs.naming.module_of.Goals as goal

pub returns-clause-module : goal.returns-clause-module
returns-clause-module c =
    let fs = c.in_ok-fields.fields in
    let S = space_in c.in_ok-space.space in
    let functions = c.in_ok-m-inside-2.field-0.items in
    let customs = c.in_ok-m-inside.field-0.items in
    ap (λ (w : Wide). record w { functions = functions; customs = customs }) c.m.view_is
    ∙ module_is c.args.ct fs S c.in_ok-m.m c.has_items-has.result functions customs c.in_ok-space.ensures.space c.in_ok-m.ensures
    (c.has_items-has.ensures (map (function_of S) (defined Func fs)) (none_mapped (function_of S) (defined Func fs) ∙ sym c.defines_no_function.ensures)) c.in_ok-m-inside-2.ensures.functions
    c.in_ok-m-inside.ensures
    ∙ ap (wide_of c.args.ct) c.in_ok-fields.ensures

pub returns-clause-faults : goal.returns-clause-faults
returns-clause-faults c =
    let fs = c.in_ok-fields.fields in
    let noted_before = c.space_of_fields.new.faults in
    all_noted fs c.args.faults.now noted_before c.functions.new.faults c.requires c.in_ok-space.ensures.faults
    (c.in_ok-m-inside-2.ensures.faults ∙ ap (λ (s : Space). noted noted_before (flat_map (field_faults s) fs)) c.in_ok-space.ensures.space)
    ∙ ap (λ (l : List Field). leftmost (faults_of l)) c.in_ok-fields.ensures
