use Rattle.std.proofs.Common.{ℕ, List, [], ◌∷◌, ◌++◌, map, take, ap, ◌∙◌}
use Rattle.ctw_text.specs.Names.{find}
use Rattle.ctw_names.proofs.Walks.{map_then}
use Rattle.ctw_names.proofs.resolve.find_all.Goals as goal

pub indexes-preserved : goal.indexes-preserved
indexes-preserved c =
    let xs = c.args.xs.now in
    let i = c.indexes.i in
    let x = c.at.result.now in
    let names = c.args.names.now in
    c.in_ok-push.ensures.items ∙ ap (λ (l : List ℕ). l ++ c.find.result ∷ []) c.indexes.invariant
    ∙ ap (λ (n : ℕ). map (find names) (take i xs) ++ n ∷ []) c.find.ensures ∙ map_then xs i x c.at.ensures (find names)
