use Rattle.std.proofs.Common.{◌++◌, ◌∷◌, [], take, Some, ap, sym, subst, ◌∙◌}
use Rattle.std.specs.Prelude.{IsSome}
use Rattle.std.specs.Str.{bytes_eq}
use Rattle.std.proofs.lemmas.Map.Text.{hash_map_updates_str}
use Rattle.indexmap.specs.IndexMap.{get_by}
use Rattle.ctw_ops.specs.Tree.{Export}
use Rattle.ctw_module.specs.Lookup.{export_in}
use Rattle.ctw_module.proofs.Indexing.{take_next, names_then, names_else, copied_none, copied_some}
use Rattle.ctw_module.proofs.viewing.names_of.Goals as goal
use Rattle.ctw_module.proofs.viewing.names_of.Goals.{then-is_none+in_ok-insert, else-is_none}

pub exports-preserved : goal.exports-preserved
exports-preserved c = λ name.
    let v : Export = record { name = c.export.inside.name.now; kind = c.export.inside.kind; index = c.export.inside.index } in
    let front = take c.exports.export-index c.args.exports.now in
    let more = take_next c.args.exports.now c.exports.export-index c.export-item.result c.exports-test.true c.export-item.is in
    let whole = ap (λ (x : Export). export_in name (front ++ x ∷ [])) c.export.view_is ∙ ap (export_in name) (sym more) in
    elim c.if-is_none.branch [
      | then-is_none+in_ok-insert w ↦
          let none = sym c.get.ensures.value ∙ copied_none c.get.result c.is_none.result c.is_none.ensures w.if-is_none.true in
          let after = hash_map_updates_str c.export.inside.name.now c.exports.names w.insert.new.self (Some (c.export.inside.kind, c.export.inside.index)) w.in_ok-insert.ensures.updates in
          ap (λ m. get_by (λ key. bytes_eq name key.now) m) w.names-is
          ∙ names_then front v (λ n. get_by (λ key. bytes_eq n key.now) c.exports.names) (λ n. get_by (λ key. bytes_eq n key.now) w.insert.new.self) c.exports.invariant none after name
          ∙ whole
      | else-is_none w ↦
          let some : IsSome (get_by (λ key. bytes_eq c.export.inside.name.now key.now) c.exports.names) = subst IsSome c.get.ensures.value (copied_some c.get.result c.is_none.result c.is_none.ensures w.if-is_none.false) in
          ap (λ m. get_by (λ key. bytes_eq name key.now) m) w.names-is
          ∙ names_else front v (λ n. get_by (λ key. bytes_eq n key.now) c.exports.names) c.exports.invariant some name
          ∙ whole
    ]
