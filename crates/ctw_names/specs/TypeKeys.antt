-- Bytes by which types are told apart.
use Rattle.std.specs.Prelude.{ℕ, List, ◌∷◌, ◌++◌, map}
use Rattle.ctw_ops.specs.declared.types.Trust.{Trust}
use Rattle.ctw_ops.specs.declared.types.Trust.TheVariants.{Untrusted, Trusted}
use Rattle.ctw_ops.specs.Types.{type_byte}
use Rattle.ctw_text.specs.Names.{Spelled}

abbrev pub trust_code : Trust → ℕ
trust_code Untrusted = 0
trust_code Trusted = 1

-- the trust, the parameters, a 0 and the results
abbrev pub type_key : Spelled → List ℕ
type_key t = trust_code t.trust ∷ (map type_byte t.params ++ 0 ∷ map type_byte t.results)
