-- Modules that bytes spell, under a profile.
use Rattle.std.proofs.Common.{◌≡◌, ◌∙◌, ℕ, List, Option, None, Result, Ok, Err, refl, sym, ap, subst}
use Rattle.ctw_ops.specs.declared.numeric.Profile.{Profile}
use Rattle.ctw_ops.specs.declared.types.Label.{Label}
use Rattle.ctw_ops.specs.Tree.{Module, under}
use Rattle.ctw_ops.specs.Valid.{IsFormed, IsValid}
use Rattle.ctw_ops.proofs.Profiles.{formed_under}
use Rattle.ctw_form.specs.declared.fault.FormFault.{FormFault}
use Rattle.ctw_form.specs.Spelled.{Spells}
use Rattle.ctw_form.specs.Read.{module_at}
use Rattle.ctw_form.proofs.FileForms.{module_sound}
use Rattle.ctw_form.proofs.Fitted.{module_formed}
use Rattle.ctw_modcheck.specs.declared.fault.Invalid.{Invalid}
use Rattle.ctw_modcheck.specs.Check.{fault_of}
use Rattle.ctw_inputs.specs.Outcome.{Outcome}
use Rattle.ctw_modcheck.proofs.Validity.{none_is_valid}
use Rattle.ctw_inputs.specs.Inputs.{module_under, with_profile, on_form, on_fault, check, read_valid}

pub under_ok : (p : Profile) (bytes : List ℕ) (m : Module Label) → module_at bytes ≡ Ok m → module_under p bytes ≡ Ok (under p m)
under_ok p bytes m e = by (module_at bytes) e
  where
    by : (r : Result (Module Label) FormFault) → r ≡ Ok m → with_profile p r ≡ Ok (under p m)
    by (Ok n) q = let same : n ≡ m = cc in ap (λ (x : Module Label). Ok (under p x)) same
    by (Err f) q = cc

pub under_err : (p : Profile) (bytes : List ℕ) (f : FormFault) → module_at bytes ≡ Err f → module_under p bytes ≡ Err f
under_err p bytes f e = by (module_at bytes) e
  where
    by : (r : Result (Module Label) FormFault) → r ≡ Err f → with_profile p r ≡ Err f
    by (Ok n) q = cc
    by (Err g) q = q

-- the module that bytes spell, of which this one is the same under the profile
pub under_from : (p : Profile) (bytes : List ℕ) (m : Module Label) → module_under p bytes ≡ Ok m → (t : Module Label) × (module_at bytes ≡ Ok t) × (m ≡ under p t)
under_from p bytes m e = by (module_at bytes) refl e
  where
    by : (r : Result (Module Label) FormFault) → module_at bytes ≡ r → with_profile p r ≡ Ok m → (t : Module Label) × (module_at bytes ≡ Ok t) × (m ≡ under p t)
    by (Ok n) q h = (n, q, cc)
    by (Err f) q h = absurd cc

pub spelled_under : (p : Profile) (bytes : List ℕ) (m : Module Label) → module_under p bytes ≡ Ok m → (t : Module Label) × Spells bytes t × (m ≡ under p t)
spelled_under p bytes m e =
    let t = under_from p bytes m e in
    (t.0, module_sound bytes t.0 t.1, t.2)

-- one without a fault is valid
pub valid_under : (p : Profile) (bytes : List ℕ) (m : Module Label) → module_under p bytes ≡ Ok m → fault_of m ≡ None → IsValid m
valid_under p bytes m e f =
    let t = spelled_under p bytes m e in
    none_is_valid m (subst IsFormed (sym t.2) (formed_under p t.0 (module_formed bytes t.0 t.1))) f

-- the module is read and valid
pub module_read_valid : (p : Profile) (name bytes : List ℕ) (m : Module Label) (go : Module Label → Outcome) → module_under p bytes ≡ Ok m → fault_of m ≡ None → read_valid p name bytes go ≡ go m
module_read_valid p name bytes m go e v =
    ap (λ (r : Result (Module Label) FormFault). on_form name r (λ m. check name m (go m))) e ∙ ap (λ (o : Option Invalid). on_fault name o (go m)) v
