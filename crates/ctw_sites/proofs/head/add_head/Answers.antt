use Rattle.std.proofs.Common.{◌∙◌, [], ◌∷◌, length, sym, ap, refl, arith}
use Rattle.ctw_module.specs.Trees.{view_module}
use Rattle.ctw_ops.specs.Tree.{function_entries, global_types}
use Rattle.ctw_labels.specs.declared.name.SiteName.TheVariants.{GlobalOf, Memory}
use Rattle.ctw_labels.specs.Names.{site}
use Rattle.ctw_labels.specs.Numbering.{site_if}
use Rattle.ctw_labels.specs.SitedModule.{function_sites}
use Rattle.ctw_sites.specs.Leaves.{named_from}
use Rattle.ctw_sites.specs.Packed.{after}
use Rattle.ctw_sites.proofs.Answered.{ok_then, ok_here}
use Rattle.ctw_sites.proofs.HeadLaws.{head_length, head_some, head_none}
use Rattle.ctw_sites.proofs.PackedLaws.{after_both, named_length}
use Rattle.ctw_sites.proofs.head.add_head.Goals as goal

pub add_functions-requires-clause-room : goal.add_functions-requires-clause-room
add_functions-requires-clause-room c =
    let m = view_module c.args.m.now in
    let l = head_length m (length (global_types m)) refl in
    omega (arith, l, c.requires.room)

pub add_globals-requires : goal.add_globals-requires
add_globals-requires c =
    let m = view_module c.args.m.now in
    let l = head_length m c.global_count.result c.global_count.ensures in
    let e = ap (λ z. z.count) c.in_ok-add_functions.ensures.sites in
    omega (arith, l, e, c.requires.room)

pub push-requires : goal.push-requires
push-requires c =
    let m = view_module c.args.m.now in
    let l = head_length m c.global_count.result c.global_count.ensures in
    let e = ap (λ z. z.count) c.in_ok-add_functions.ensures.sites in
    let g = ap (λ z. z.count) c.in_ok-add_globals.ensures in
    let n = named_length GlobalOf 0 c.global_count.result in
    let w = ap (λ z. length (site_if Memory z)) (sym c.memory.ensures ∙ c.in-Some.is) in
    omega (arith, l, e, g, n, w, c.requires.room)

pub returns-in-Some : goal.returns-in-Some
returns-in-Some c =
    let m = view_module c.args.m.now in
    let a = c.in_ok-add_globals.ensures ∙ ap (λ z. after z (named_from GlobalOf 0 c.global_count.result)) c.in_ok-add_functions.ensures.sites ∙ after_both c.args.packer.now (function_sites m 0 (function_entries m)) (named_from GlobalOf 0 c.global_count.result) in
    record {
      sites = ok_then c.push.result c.push.ensures (λ e. e ∙ ap (λ z. after z (site Memory ∷ [])) a ∙ head_some m c.args.packer.now c.global_count.result c.in-Some.field-0 c.global_count.ensures (sym c.memory.ensures ∙ c.in-Some.is));
      heads = ok_here c.push.result c.in_ok-add_functions.ensures.heads;
    }

pub returns-in-None : goal.returns-in-None
returns-in-None c =
    let m = view_module c.args.m.now in
    let a = c.in_ok-add_globals.ensures ∙ ap (λ z. after z (named_from GlobalOf 0 c.global_count.result)) c.in_ok-add_functions.ensures.sites ∙ after_both c.args.packer.now (function_sites m 0 (function_entries m)) (named_from GlobalOf 0 c.global_count.result) in
    record {
      sites = a ∙ head_none m c.args.packer.now c.global_count.result c.global_count.ensures (sym c.memory.ensures ∙ c.in-None.is);
      heads = c.in_ok-add_functions.ensures.heads;
    }
