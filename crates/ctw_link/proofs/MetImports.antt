-- No import lacks its export, nor has another type, exactly where each is met.
use Rattle.std.proofs.Common.{◌≡◌, ◌≤◌, ◌↔◌, ℕ, ◌+◌, Bool, true, false, List, [], ◌∷◌, ◌++◌, length, Option, Some, None, IfSome, All, refl, sym, ap, subst, ◌∙◌, append_assoc, append-nil, nat_le}
use Rattle.std.proofs.lemmas.List.Elements.{All-nil, All-cons, All-head, All-tail}
use Rattle.ctw_ops.specs.declared.types.Label.{Label}
use Rattle.ctw_ops.specs.declared.types.Limits.{Limits}
use Rattle.ctw_ops.specs.Types.{ValueType, VariableType}
use Rattle.ctw_ops.specs.Equal.{same_label, same_type}
use Rattle.ctw_ops.specs.Tree.{Module, Import}
use Rattle.ctw_ops.specs.ExternType.{ExternType}
use Rattle.ctw_ops.specs.ExternType as external
use Rattle.ctw_link.specs.declared.fault.LinkFault.TheVariants.{ImportType}
use Rattle.ctw_link.specs.Sets.{NamedModule, ModuleSet}
use Rattle.ctw_module.specs.Given.{extern_kind}
use Rattle.ctw_link.specs.Externals.{wanted, offered_by, IsAtMost, MeetsLimits, Meets, IsMet}
use Rattle.ctw_link.specs.Faults.{same_bool, at_most, meets_most, meets_limits, same_variable, meets, type_fault, import_fault, imports_fault_from, imports_fault}
use Rattle.ctw_ops.proofs.EqualLaws.{same_label_is, same_label_when, same_type_is, same_type_when, same_function_type_is, same_function_type_when}
use Rattle.ctw_link.proofs.Nones.{NoneWhere, none_if, none_or, none_same, both_tests, le_test}

-- ---- tests

bool_test : (b c : Bool) → (same_bool b c ≡ true) ↔ (b ≡ c)
bool_test true true = ((λ e. refl), (λ e. refl))
bool_test true false = ((λ e. absurd cc), (λ e. absurd cc))
bool_test false true = ((λ e. absurd cc), (λ e. absurd cc))
bool_test false false = ((λ e. refl), (λ e. refl))

most_test : (got : Option ℕ) (want : ℕ) → (at_most got want ≡ true) ↔ IsAtMost got want
most_test None want = ((λ e. absurd cc), (λ h. absurd h))
most_test (Some most) want = le_test most want

meets_most_test : (got want : Option ℕ) → (meets_most got want ≡ true) ↔ IfSome want (IsAtMost got)
meets_most_test got None = ((λ e. tt), (λ h. refl))
meets_most_test got (Some most) = most_test got most

limits_test : (got want : Limits) → (meets_limits got want ≡ true) ↔ MeetsLimits got want
limits_test got want = both_tests (nat_le want.min got.min) (meets_most got.max want.max) (want.min ≤ got.min) (IfSome want.max (IsAtMost got.max)) (le_test want.min got.min) (meets_most_test got.max want.max)

abbrev of_parts : Bool → ValueType Label → VariableType Label
of_parts mutable value = record { mutable = mutable; value = value }

variable_test : (got want : VariableType Label) → (same_variable got want ≡ true) ↔ (got ≡ want)
variable_test got want =
    let b = both_tests (same_bool got.mutable want.mutable) (same_type got.value want.value) (got.mutable ≡ want.mutable) (got.value ≡ want.value)
    (bool_test got.mutable want.mutable) (same_type_is got.value want.value, same_type_when got.value want.value) in (
      (λ e. let q = b.0 e in ap (λ m. of_parts m got.value) q.0 ∙ ap (λ (v : ValueType Label). of_parts want.mutable v) q.1),
      (λ e. b.1 (ap (λ (x : VariableType Label). x.mutable) e, ap (λ (x : VariableType Label). x.value) e)),
    )

meets_test : (got want : ExternType Label) → (meets got want ≡ true) ↔ Meets got want
meets_test (external.Func entry got) (external.Func index want) = (same_function_type_is got want, same_function_type_when got want)
meets_test (external.Table got) (external.Table want) = limits_test got want
meets_test (external.Memory got) (external.Memory want) =
    both_tests (same_label got.tag want.tag) (meets_limits got.limits want.limits) (got.tag ≡ want.tag) (MeetsLimits got.limits want.limits)
    (same_label_is got.tag want.tag, same_label_when got.tag want.tag) (limits_test got.limits want.limits)
meets_test (external.Global got) (external.Global want) = variable_test got want
meets_test (external.Func entry got) (external.Table want) = ((λ e. absurd cc), (λ h. absurd h))
meets_test (external.Func entry got) (external.Memory want) = ((λ e. absurd cc), (λ h. absurd h))
meets_test (external.Func entry got) (external.Global want) = ((λ e. absurd cc), (λ h. absurd h))
meets_test (external.Table got) (external.Func index want) = ((λ e. absurd cc), (λ h. absurd h))
meets_test (external.Table got) (external.Memory want) = ((λ e. absurd cc), (λ h. absurd h))
meets_test (external.Table got) (external.Global want) = ((λ e. absurd cc), (λ h. absurd h))
meets_test (external.Memory got) (external.Func index want) = ((λ e. absurd cc), (λ h. absurd h))
meets_test (external.Memory got) (external.Table want) = ((λ e. absurd cc), (λ h. absurd h))
meets_test (external.Memory got) (external.Global want) = ((λ e. absurd cc), (λ h. absurd h))
meets_test (external.Global got) (external.Func index want) = ((λ e. absurd cc), (λ h. absurd h))
meets_test (external.Global got) (external.Table want) = ((λ e. absurd cc), (λ h. absurd h))
meets_test (external.Global got) (external.Memory want) = ((λ e. absurd cc), (λ h. absurd h))

-- ---- one import

-- what is offered is there, and meets what is wanted
abbrev IsMetBy : ExternType Label → Option (ExternType Label) → Type 0
IsMetBy want o = (got : ExternType Label) × (o ≡ Some got) × Meets got want

type_none : (part import : ℕ) (want : ExternType Label) (o : Option (ExternType Label)) → NoneWhere (type_fault part import want o) (IsMetBy want o)
type_none part import want None = ((λ e. absurd cc), (λ h. absurd (let q : None ≡ Some h.0 = h.1 in cc)))
type_none part import want (Some got) =
    none_same (type_fault part import want (Some got)) (Meets got want) (IsMetBy want (Some got))
    (none_if (meets got want) (ImportType part import (extern_kind want) (extern_kind got)) (Meets got want) (meets_test got want))
    (λ h. (got, refl, h))
    (λ h. let q : h.0 ≡ got = let r : Some got ≡ Some h.0 = h.1 in cc in subst (λ g. Meets g want) q h.2)

-- ---- the imports of a part

from_none : (before : ModuleSet) (m : Module Label) (import : ℕ) (imports : List (Import Label)) → NoneWhere (imports_fault_from before m import imports) (All (IsMet before m) imports)
from_none before m import [] = ((λ e. All-nil (IsMet before m)), (λ h. refl))
from_none before m import (i ∷ imports) =
    none_same (imports_fault_from before m import (i ∷ imports)) (IsMet before m i × All (IsMet before m) imports) (All (IsMet before m) (i ∷ imports))
    (none_or (import_fault before m import i) (imports_fault_from before m (import + 1) imports) (IsMet before m i) (All (IsMet before m) imports)
    (type_none (length before) import (wanted m i.kind) (offered_by before i)) (from_none before m (import + 1) imports))
    (λ h. All-cons (IsMet before m) i imports h.0 h.1) (λ h. (All-head (IsMet before m) i imports h, All-tail (IsMet before m) i imports h))

-- ---- the imports of all parts

abbrev IsMetPart : ModuleSet → NamedModule → Type 0
IsMetPart before p = All (IsMet before p.tree) p.tree.imports

-- parts behind others, each of which is met by those before
abbrev AreMet : ModuleSet → ModuleSet → Type 0
AreMet before set = (between behind : ModuleSet) (p : NamedModule) → set ≡ between ++ p ∷ behind → IsMetPart (before ++ between) p

more_met : (before : ModuleSet) (p : NamedModule) (set : ModuleSet) → IsMetPart before p × AreMet (before ++ p ∷ []) set → AreMet before (p ∷ set)
more_met before p set h [] behind q e =
    let same : p ≡ q = cc in
    subst (λ (x : NamedModule). IsMetPart (before ++ []) x) same (subst (λ (b : ModuleSet). IsMetPart b p) (sym (append-nil before)) h.0)
more_met before p set h (x ∷ between) behind q e =
    let same : p ≡ x = cc in
    let rest : set ≡ between ++ q ∷ behind = cc in
    let there : (before ++ p ∷ []) ++ between ≡ before ++ (x ∷ between) = append_assoc before (p ∷ []) between ∙ ap (λ (y : NamedModule). before ++ (y ∷ between)) same in
    subst (λ (b : ModuleSet). IsMetPart b q) there (h.1 between behind q rest)

less_met : (before : ModuleSet) (p : NamedModule) (set : ModuleSet) → AreMet before (p ∷ set) → IsMetPart before p × AreMet (before ++ p ∷ []) set
less_met before p set h = (
  subst (λ (b : ModuleSet). IsMetPart b p) (append-nil before) (h [] set p refl),
  (λ between behind q e. subst (λ (b : ModuleSet). IsMetPart b q) (sym (append_assoc before (p ∷ []) between)) (h (p ∷ between) behind q (ap (λ (s : ModuleSet). p ∷ s) e))),
)

none_here : (before between behind : ModuleSet) (p : NamedModule) → [] ≡ between ++ p ∷ behind → IsMetPart (before ++ between) p
none_here before [] behind p e = absurd cc
none_here before (x ∷ between) behind p e = absurd cc

behind_none : (before set : ModuleSet) → NoneWhere (imports_fault before set) (AreMet before set)
behind_none before [] = ((λ e. none_here before), (λ h. refl))
behind_none before (p ∷ set) =
    none_same (imports_fault before (p ∷ set)) (IsMetPart before p × AreMet (before ++ p ∷ []) set) (AreMet before (p ∷ set))
    (none_or (imports_fault_from before p.tree 0 p.tree.imports) (imports_fault (before ++ p ∷ []) set) (IsMetPart before p) (AreMet (before ++ p ∷ []) set)
    (from_none before p.tree 0 p.tree.imports) (behind_none (before ++ p ∷ []) set))
    (more_met before p set) (less_met before p set)

pub imports_none : (set : ModuleSet) → NoneWhere (imports_fault [] set) ((before behind : ModuleSet) (p : NamedModule) → set ≡ before ++ p ∷ behind → All (IsMet before p.tree) p.tree.imports)
imports_none set = behind_none [] set
