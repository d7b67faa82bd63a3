use Rattle.std.proofs.Common.{List, [], ◌∷◌, ◌++◌, take, ap, ◌∙◌}
use Rattle.std.specs.Prelude.{Option}
use Rattle.std.proofs.lemmas.List.{append_assoc}
use Rattle.ctw_text.specs.Written.{Name}
use Rattle.ctw_text.specs.declared.fields.Variable.{Variable}
use Rattle.ctw_text.specs.Names.{NameFault, names_in}
use Rattle.ctw_names.specs.Noted.{noted}
use Rattle.ctw_names.specs.Doubles.{double_fault, doubles_onto}
use Rattle.ctw_names.proofs.Walks.{double_then, map_then}
use Rattle.ctw_names.proofs.typeuse.add_variables.Goals as goal

pub variables-preserved : goal.variables-preserved
variables-preserved c =
    let vs = c.args.variables.now in
    let i = c.variables.i in
    let x = c.at.result.now in
    let old = c.args.table.now in
    let before = names_in (take i vs) in
    let one = map_then vs i x c.at.ensures (λ (v : Variable). v.name) in (
      c.in_ok-add_name.ensures.names ∙ ap (λ (l : List (Option Name)). l ++ x.name ∷ []) c.variables.invariant.0
          ∙ append_assoc old before (x.name ∷ []) ∙ ap (λ (l : List (Option Name)). old ++ l) one,
      c.in_ok-add_name.ensures.faults ∙ ap (λ (l : List (Option Name)). noted c.variables.faults (double_fault x.name l)) c.variables.invariant.0
          ∙ ap (λ (b : Option NameFault). noted b (double_fault x.name (old ++ before))) c.variables.invariant.1
          ∙ double_then before x.name old c.args.faults.now ∙ ap (λ (l : List (Option Name)). noted c.args.faults.now (doubles_onto old l)) one,
    )
