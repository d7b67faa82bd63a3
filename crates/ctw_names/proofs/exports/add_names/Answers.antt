use Rattle.std.proofs.Common.{ℕ, List, [], ◌∷◌, ◌++◌, map, take, append_assoc, ap, ◌∙◌}
use Rattle.ctw_ops.specs.Tree.{Export}
use Rattle.ctw_names.specs.Wides.{export_of}
use Rattle.ctw_names.proofs.Walks.{map_then}
use Rattle.ctw_names.proofs.exports.add_names.Goals as goal

pub names-preserved : goal.names-preserved
names-preserved c =
    let one = export_of c.args.kind c.args.index in
    let old = c.args.exports.now.items in
    let before = map one (take c.names.i c.args.names.now) in
    let x = c.at.result.now in
    c.in_ok-push.ensures.items ∙ ap (λ (l : List Export). l ++ one c.in_ok-name.name.items ∷ []) c.names.invariant
    ∙ ap (λ (b : List ℕ). (old ++ before) ++ one b ∷ []) c.in_ok-name.ensures ∙ append_assoc old before (one x ∷ [])
    ∙ ap (λ (l : List Export). old ++ l) (map_then c.args.names.now c.names.i x c.at.ensures one)
