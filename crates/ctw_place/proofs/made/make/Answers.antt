use Rattle.std.proofs.Common.{◌∙◌, [], length, map, ap, arith}
use Rattle.ctw_ops.specs.Tree.{function_entries}
use Rattle.ctw_labels.specs.Placed.{call_uses, use_to}
use Rattle.ctw_labels.specs.SitedModule.{bodies}
use Rattle.ctw_sites.proofs.BodiesLaws.{memory_room}
use Rattle.ctw_place.specs.Bodies.{function_variants}
use Rattle.ctw_place.specs.Settings.{module_of, labels_of, points_of, names_from}
use Rattle.ctw_place.specs.Variants.{name_in}
use Rattle.ctw_place.proofs.CodeLaws.{uses_split}
use Rattle.ctw_place.proofs.UseLaws.{all_grow}
use Rattle.ctw_place.proofs.made.make.Goals as goal

pub label_functions-requires-clause-room : goal.label_functions-requires-clause-room
label_functions-requires-clause-room c = let r = memory_room (module_of c.args.setting.now) c.requires.sites in omega (arith, r)

pub label_functions-requires-clause-few : goal.label_functions-requires-clause-few
label_functions-requires-clause-few c =
    let g = all_grow (function_variants c.args.setting.now) (map (use_to (labels_of c.args.setting.now)) (call_uses (bodies (module_of c.args.setting.now) (points_of c.args.setting.now)))) in
    let e = ap length (uses_split c.args.setting.now) in
    ([], c.new-variants.ensures, omega (arith, g, e, c.requires.short.few))

pub codes-requires-clause-held : goal.codes-requires-clause-held
codes-requires-clause-held c = c.in_ok-functions.ensures.held [] c.new-variants.ensures

pub returns : goal.returns
returns c = record {
  types = c.in_ok-functions.ensures.types [] (map (use_to (labels_of c.args.setting.now)) (call_uses (bodies (module_of c.args.setting.now) (points_of c.args.setting.now)))) c.new-variants.ensures
      ∙ ap (λ z. names_from (labels_of c.args.setting.now) (name_in (length (module_of c.args.setting.now).types) z) (module_of c.args.setting.now) (points_of c.args.setting.now) 0 0 (function_entries (module_of c.args.setting.now))) (uses_split c.args.setting.now);
  variants = c.in_ok-codes.ensures.held;
  codes = c.in_ok-codes.ensures.codes;
}
