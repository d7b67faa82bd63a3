use Rattle.std.proofs.Common.{◌≡◌, ◌∙◌, ℕ, false, ◌==◌, ap, sym}
use Rattle.std.proofs.lemmas.Bool.{eq-eqb, false≢true}
use Rattle.ctw_modcheck.specs.Faults.{is_bare}
use Rattle.ctw_modcheck.proofs.Widths.{not_bare}
use Rattle.ctw_modcheck.proofs.functions.has_no_types.Goals as goal

not_zero : (n : ℕ) → false ≡ (n == 0) → n ≡ 0 → ⊥
not_zero n e q = false≢true (e ∙ eq-eqb n 0 q)

pub returns-else-is_empty : goal.returns-else-is_empty
returns-else-is_empty c =
    let bytes = c.ty.inside.params.now in
    c.is_empty.ensures ∙ sym c.if-is_empty.ensures ∙ sym (not_bare bytes c.ty.inside.result c.ty.invariant (not_zero _ c.if-is_empty.ensures)) ∙ ap is_bare (c.ty.view_is ∙ c.func_type-ty.ensures)
