-- Modules that are read and checked.
use Rattle.std.proofs.Common.{◌≡◌, ℕ, List, Option, Some, None, Result, Ok, Err, refl, sym, ap, ◌∙◌, subst}
use Rattle.ctw_ops.specs.declared.types.Label.{Label}
use Rattle.ctw_ops.specs.declared.numeric.Profile.{Profile}
use Rattle.ctw_ops.specs.Tree.{Module, under}
use Rattle.ctw_leb.specs.Reading.{chain}
use Rattle.ctw_form.specs.declared.fault.FormFault.{FormFault}
use Rattle.ctw_form.specs.Spelled.{File, Spells, module_in}
use Rattle.ctw_form.specs.Read.{file_at, module_at}
use Rattle.ctw_form.proofs.FileForms.{module_complete}
use Rattle.ctw_module.specs.Trees.{Lent, tree, view_module}
use Rattle.ctw_modcheck.specs.declared.fault.Invalid.{Invalid}
use Rattle.ctw_modcheck.specs.Check.{fault_of}
use Rattle.ctw_lines.specs.Lines.{read_line, check_line}
use Rattle.ctw_inputs.specs.declared.said.Status.TheVariants.{Refused}
use Rattle.ctw_inputs.specs.declared.said.Stop.{Stop}
use Rattle.ctw_inputs.specs.Outcome.{Outcome, ends}
use Rattle.ctw_inputs.specs.Inputs.{on_form, on_fault, check, with_profile, read, read_valid}
use Rattle.ctw_inputs.specs.Settling.{IsStop}

pub module_err : (bytes : List ℕ) (fault : FormFault) → file_at bytes ≡ Err fault → module_at bytes ≡ Err fault
unfolding module_at
module_err bytes fault e = ap (λ (r : Result File FormFault). chain r (λ f. Ok (module_in f))) e

module _ (name bytes : List ℕ) where
  -- the bytes spell this module
  pub form_read : (m : Module Label) (go : Module Label → Outcome) → Spells bytes m → read name bytes go ≡ go m
  form_read m go s = ap (λ (r : Result (Module Label) FormFault). on_form name r go) (module_complete bytes m s)

  -- they spell none
  pub form_refused : (fault : FormFault) (go : Module Label → Outcome) → file_at bytes ≡ Err fault → read name bytes go ≡ ends Refused (read_line name fault)
  form_refused fault go e = ap (λ (r : Result (Module Label) FormFault). on_form name r go) (module_err bytes fault e)

  module _ (profile : Profile) where
    -- a profile is put on a module that is read
    abbrev then_checked : (Module Label → Outcome) → Module Label → Outcome
    then_checked go m = check name (under profile m) (go (under profile m))

    under_form : (form : Result (Module Label) FormFault) (go : Module Label → Outcome) → on_form name (with_profile profile form) (λ m. check name m (go m)) ≡ on_form name form (then_checked go)
    under_form (Ok m) go = refl
    under_form (Err fault) go = refl

    read_first : (go : Module Label → Outcome) → read_valid profile name bytes go ≡ read name bytes (then_checked go)
    read_first go = under_form (module_at bytes) go

    -- the bytes spell no module
    pub unread : (why : Stop) (go : Module Label → Outcome) → ((go : Module Label → Outcome) → IsStop why (read name bytes go)) → IsStop why (read_valid profile name bytes go)
    unread why go told = subst (IsStop why) (sym (read_first go)) (told (then_checked go))

    module _ (lent under_lent : Lent) (told : (go : Module Label → Outcome) → read name bytes go ≡ go (tree lent)) (e : under_lent ≡ record { bytes = lent.bytes; profile = profile }) where
      same : view_module under_lent ≡ under profile (tree lent)
      unfolding tree
      same = ap view_module e

      read_then : (go : Module Label → Outcome) → read_valid profile name bytes go ≡ on_fault name (fault_of (view_module under_lent)) (go (view_module under_lent))
      read_then go = read_first go ∙ told (then_checked go) ∙ ap (λ (m : Module Label). check name m (go m)) (sym same)

      -- the module has no fault
      pub is_valid : (go : Module Label → Outcome) → fault_of (view_module under_lent) ≡ None → read_valid profile name bytes go ≡ go (view_module under_lent)
      is_valid go f = read_then go ∙ ap (λ (o : Option Invalid). on_fault name o (go (view_module under_lent))) f

      -- it has one
      pub is_invalid : (fault : Invalid) (go : Module Label → Outcome) → fault_of (view_module under_lent) ≡ Some fault → read_valid profile name bytes go ≡ ends Refused (check_line name fault)
      is_invalid fault go f = read_then go ∙ ap (λ (o : Option Invalid). on_fault name o (go (view_module under_lent))) f

pub spelled_under : (bytes : List ℕ) (lent under_lent : Lent) (profile : Profile) → under_lent ≡ record { bytes = lent.bytes; profile = profile } → Spells bytes (tree lent) → Spells bytes (tree under_lent)
unfolding tree
spelled_under bytes lent under_lent profile e s = subst (λ (l : Lent). Spells bytes (tree l)) (sym e) s
