-- Uses of types pass the test for equality exactly where they are equal.
use Rattle.std.proofs.Common.{◌≡◌, true, refl}
use Rattle.std.specs.Prelude.{◌==◌}
use Rattle.std.proofs.lemmas.Bool.{eqb-true, eq-eqb}
use Rattle.ctw_ops.specs.declared.types.Label.{Label}
use Rattle.ctw_ops.specs.Equal.{same_function_type}
use Rattle.ctw_ops.proofs.EqualLaws.{same_function_type_is, same_function_type_refl}
use Rattle.ctw_labels.specs.Placed.{TypeUse, same_use}
use Rattle.ctw_labels.proofs.ObeyLaws.{and_parts, and_both}

pub use_same : (u v : TypeUse Label) → same_use u v ≡ true → u ≡ v
use_same u v e =
    let p = and_parts (u.base == v.base) (same_function_type u.type v.type) e in
    λ i. record { base = eqb-true u.base v.base p.0 i; type = same_function_type_is u.type v.type p.1 i }

pub use_refl : (u : TypeUse Label) → same_use u u ≡ true
use_refl u = and_both (u.base == u.base) _ (eq-eqb u.base u.base refl) (same_function_type_refl u.type)
