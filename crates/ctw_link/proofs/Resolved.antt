-- An import that is compared with what is offered for it.
use Rattle.std.proofs.Common.{◌≡◌, ◌<◌, ℕ, Bool, true, cond, List, length, take, map, get_or, slice_get, Option, Some, None, option_map, refl, sym, ap, ap₂, ◌∙◌, subst}
use Rattle.std.specs.Prelude.{option_and_then}
use Rattle.std.proofs.lemmas.Bool.{false≢true}
use Rattle.std.proofs.lemmas.Option.{slice_get_within, slice_get-map, get_or_from_slice_get}
use Rattle.ctw_ops.specs.declared.types.Label.{Label}
use Rattle.ctw_ops.specs.declared.types.ExternTag.{ExternTag}
use Rattle.ctw_ops.specs.Tree.{Module, Import}
use Rattle.ctw_ops.specs.ExternType.{ExternType}
use Rattle.ctw_ops.specs.ExternType as of_type
use Rattle.ctw_module.specs.declared.types.ExternKind.{ExternKind}
use Rattle.ctw_module.specs.declared.types.ExternKind.TheVariants as external
use Rattle.ctw_module.specs.declared.types.Import.{Import as Given}
use Rattle.ctw_module.specs.Given.{extern_given, extern_type, extern_kind, import_given, HasTypeNamed}
use Rattle.ctw_link.specs.declared.fault.LinkFault.{LinkFault}
use Rattle.ctw_link.specs.declared.fault.LinkFault.TheVariants.{ImportType}
use Rattle.ctw_link.specs.Sets.{NamedModule, ModuleSet}
use Rattle.ctw_link.specs.Externals.{wanted, offered_by}
use Rattle.ctw_link.specs.Numbers.{LinkedModule, StoreNumbers, numbers_of, tag_of, linked, number_in}
use Rattle.ctw_link.specs.Faults.{meets, type_fault, import_fault}
use Rattle.ctw_link.specs.Resolving.{IsImport}
use Rattle.ctw_link.proofs.Lists.{front_length}

some_same : {A : Type 0} (o : Option A) (x y : A) → o ≡ Some x → o ≡ Some y → x ≡ y
some_same o x y e f = cc

-- the part and the import of two numbers are the only ones
pub for_import : (set : ModuleSet) (part import : ℕ) (p q : NamedModule) (i j : Import Label) (P : NamedModule → Import Label → Type 0) → IsImport set part import p i → P p i → IsImport set part import q j → P q j
for_import set part import p q i j P h x k =
    let same : p ≡ q = some_same (slice_get set part) p q h.0 k.0 in
    let there : slice_get q.tree.imports import ≡ Some i = subst (λ (r : NamedModule). slice_get r.tree.imports import ≡ Some i) same h.1 in
    let item : i ≡ j = some_same (slice_get q.tree.imports import) i j there k.1 in
    subst (λ (i : Import Label). P q i) item (subst (λ (p : NamedModule). P p i) same x)

wanted_given : (m : Module Label) (kind : ExternKind) → HasTypeNamed m kind → wanted m (extern_given kind) ≡ extern_type kind
wanted_given m (external.Func index type) h = ap (of_type.Func index) (sym h)
wanted_given m (external.Table limits) h = refl
wanted_given m (external.Memory type) h = refl
wanted_given m (external.Global type) h = refl

same_value : (kind : ExternKind) → extern_kind (extern_type kind) ≡ kind
same_value (external.Func index type) = refl
same_value (external.Table limits) = refl
same_value (external.Memory type) = refl
same_value (external.Global type) = refl

-- the fault of an import that is offered a type
pub fault_offered : (set : ModuleSet) (part import : ℕ) (p : NamedModule) (w : Given) (ty : ExternKind) (b : Bool) → slice_get set part ≡ Some p → HasTypeNamed p.tree w.kind → Some (extern_type ty) ≡ offered_by (take part set) (import_given w)
    → b ≡ meets (extern_type ty) (extern_type w.kind) → import_fault (take part set) p.tree import (import_given w) ≡ cond b None (Some (ImportType part import w.kind ty))
fault_offered set part import p w ty b is typed o e =
    let front = take part set in
    let told : ExternKind → ExternKind → ℕ → Option LinkFault = λ want got n. Some (ImportType n import want got) in
    ap (λ (k : ExternType Label). type_fault (length front) import k (offered_by front (import_given w))) (wanted_given p.tree w.kind typed)
    ∙ ap (type_fault (length front) import (extern_type w.kind)) (sym o)
    ∙ ap₂ (λ (want got : ExternKind). cond (meets (extern_type ty) (extern_type w.kind)) None (told want got (length front))) (same_value w.kind) (same_value ty)
    ∙ ap₂ (λ (c : Bool) (n : ℕ). cond c None (told w.kind ty n)) (sym e) (front_length set part p is)

-- what meets an import is of its kind
pub same_kind : (got want : ExternKind) → true ≡ meets (extern_type got) (extern_type want) → tag_of (extern_given got) ≡ tag_of (extern_given want)
same_kind (external.Func entry got) (external.Func index want) e = refl
same_kind (external.Table got) (external.Table want) e = refl
same_kind (external.Memory got) (external.Memory want) e = refl
same_kind (external.Global got) (external.Global want) e = refl
same_kind (external.Func entry got) (external.Table want) e = absurd (false≢true (sym e))
same_kind (external.Func entry got) (external.Memory want) e = absurd (false≢true (sym e))
same_kind (external.Func entry got) (external.Global want) e = absurd (false≢true (sym e))
same_kind (external.Table got) (external.Func index want) e = absurd (false≢true (sym e))
same_kind (external.Table got) (external.Memory want) e = absurd (false≢true (sym e))
same_kind (external.Table got) (external.Global want) e = absurd (false≢true (sym e))
same_kind (external.Memory got) (external.Func index want) e = absurd (false≢true (sym e))
same_kind (external.Memory got) (external.Table want) e = absurd (false≢true (sym e))
same_kind (external.Memory got) (external.Global want) e = absurd (false≢true (sym e))
same_kind (external.Global got) (external.Func index want) e = absurd (false≢true (sym e))
same_kind (external.Global got) (external.Table want) e = absurd (false≢true (sym e))
same_kind (external.Global got) (external.Memory want) e = absurd (false≢true (sym e))

-- where a number stands
pub record Stands (numbers : List StoreNumbers) (tag : ExternTag) (part index number : ℕ) : Type 0 where
  pub part_there : part < length numbers
  pub held : (d : StoreNumbers) → slice_get (numbers_of tag (get_or numbers part d)) index ≡ Some number

pub stands : (set : ModuleSet) (numbers : List StoreNumbers) (tag : ExternTag) (part index number : ℕ) → numbers ≡ map (λ p. p.numbers) (linked set) → number_in set tag part index ≡ Some number → Stands numbers tag part index number
stands set numbers tag part index number e n = go (slice_get (linked set) part) refl n
  where
    go : (o : Option LinkedModule) → slice_get (linked set) part ≡ o → option_and_then (λ (p : LinkedModule). slice_get (numbers_of tag p.numbers) index) o ≡ Some number → Stands numbers tag part index number
    go None is h = absurd (none h)
      where
        none : ◌≡◌ {A = Option ℕ} None (Some number) → ⊥
        none q = cc
    go (Some p) is h =
        let at : slice_get numbers part ≡ Some p.numbers = ap (λ (l : List StoreNumbers). slice_get l part) e ∙ slice_get-map (λ (p : LinkedModule). p.numbers) (linked set) part ∙ ap (option_map (λ (p : LinkedModule). p.numbers)) is in
        record {
          part_there = slice_get_within numbers part p.numbers at;
          held = λ d. ap (λ (n : StoreNumbers). slice_get (numbers_of tag n) index) (get_or_from_slice_get numbers part p.numbers d at) ∙ h;
        }
