use Rattle.std.proofs.Common.{ℕ, List, [], ◌∷◌, ◌++◌, map, take, ap, ◌∙◌}
use Rattle.std.specs.Prelude.{Option}
use Rattle.ctw_text.specs.Names.{NameFault, find, use_faults}
use Rattle.ctw_names.specs.Noted.{noted}
use Rattle.ctw_names.proofs.Walks.{map_then, noted_then}
use Rattle.ctw_names.proofs.resolve.labels_of.Goals as goal

pub indexes-preserved : goal.indexes-preserved
indexes-preserved c =
    let xs = c.args.xs.now in
    let i = c.indexes.i in
    let x = c.at.result.now in
    let names = c.args.labels.now in (
      c.in_ok-push.ensures.items ∙ ap (λ (l : List ℕ). l ++ c.label.result ∷ []) c.indexes.invariant.0
          ∙ ap (λ (n : ℕ). map (find names) (take i xs) ++ n ∷ []) c.label.ensures.number ∙ map_then xs i x c.at.ensures (find names),
      c.label.ensures.faults ∙ ap (λ (b : Option NameFault). noted b (use_faults names x)) c.indexes.invariant.1
          ∙ noted_then xs i x c.at.ensures c.args.faults.now (use_faults names),
    )
