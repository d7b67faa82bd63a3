use Rattle.std.proofs.Common.{ℕ, List, ◌++◌, ap, ◌∙◌}
use Rattle.ctw_text.specs.Names.{starts_in}
use Rattle.ctw_names.specs.Spaces.{space_in}
use Rattle.ctw_names.proofs.Walks.{flat_then}
use Rattle.ctw_names.proofs.defined.starts.Goals as goal

pub fields-preserved : goal.fields-preserved
fields-preserved c =
    let give = starts_in (space_in c.args.space.now) in
    let x = c.at.result.now in
    c.in_ok-add_start.ensures ∙ ap (λ (l : List ℕ). l ++ give x) c.fields.invariant ∙ flat_then c.args.fields.now c.fields.i x c.at.ensures give
