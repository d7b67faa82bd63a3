use Rattle.std.proofs.Common.{ℕ, List, ◌++◌, take, ap, ◌∙◌}
use Rattle.std.specs.List.{flat_map}
use Rattle.ctw_names.proofs.Walks.{flat_then}
use Rattle.ctw_names.proofs.sizes.bytes_in.Goals as goal

pub strings-preserved : goal.strings-preserved
strings-preserved c =
    let strings = c.args.draft.now.strings in
    let x = c.at.result.now in
    c.in_ok-extend_from_slice.ensures.items ∙ ap (λ (l : List ℕ). l ++ c.as_slice.result.now) c.strings.invariant
    ∙ ap (λ (l : List ℕ). flat_map (λ (b : List ℕ). b) (take c.strings.i strings) ++ l) (c.as_slice.ensures.value ∙ c.in_ok-string.ensures) ∙ flat_then strings c.strings.i x c.at.ensures (λ (b : List ℕ). b)
