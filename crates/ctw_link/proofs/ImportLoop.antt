-- The imports of a part, one after another.
use Rattle.std.proofs.Common.{◌≡◌, ◌≤◌, ◌<◌, ℕ, zero, suc, ◌+◌, Bool, true, false, cond, List, [], ◌∷◌, ◌++◌, length, take, drop, slice_get, Option, Some, None, ◌⊎◌, inl, inr, refl, sym, ap, ap₂, ◌∙◌, arith}
use Rattle.std.specs.Prelude.{filter_map}
use Rattle.std.specs.List.{cons_option}
use Rattle.std.proofs.lemmas.List.{take_all, drop_all}
use Rattle.std.proofs.lemmas.List.Elements.{filter_map-append}
use Rattle.ctw_ops.specs.declared.types.Label.{Label}
use Rattle.ctw_ops.specs.declared.types.ExternTag.{ExternTag}
use Rattle.ctw_ops.specs.Tree.{Import}
use Rattle.ctw_ops.specs.declared.types.ExternTag.TheVariants.{Func, Table, Memory, Global}
use Rattle.ctw_link.specs.declared.fault.LinkFault.{LinkFault}
use Rattle.ctw_link.specs.declared.fault.LinkFault.TheVariants.{NoMemory}
use Rattle.ctw_link.specs.Sets.{NamedModule, ModuleSet}
use Rattle.ctw_ops.specs.Equal.{same_tag}
use Rattle.ctw_link.specs.Numbers.{StoreNumbers, numbers_of, number_if, tag_of, import_number, linked}
use Rattle.ctw_link.specs.Users.{or_later}
use Rattle.ctw_link.specs.Faults.{import_fault, imports_fault_from}
use Rattle.ctw_link.specs.Resolving.{IsImport, HasImports, if_same, no_numbers}
use Rattle.ctw_link.proofs.Lists.{take_next, drop_next}

-- the first imports of the part are met, with these numbers
pub record MetBy (set : ModuleSet) (part i : ℕ) (numbers : StoreNumbers) (p : NamedModule) : Type 0 where
  pub numbered : (tag : ExternTag) → numbers_of tag numbers ≡ filter_map (number_if tag (linked (take part set))) (take i p.tree.imports)
  pub left : imports_fault_from (take part set) p.tree 0 p.tree.imports ≡ imports_fault_from (take part set) p.tree i (drop i p.tree.imports)

abbrev pub Met : ModuleSet → ℕ → ℕ → StoreNumbers → Type 0
Met set part i numbers = (p : NamedModule) → slice_get set part ≡ Some p → MetBy set part i numbers p

pub met_none : (set : ModuleSet) (part : ℕ) → Met set part 0 no_numbers
met_none set part = λ p is. record { numbered = λ tag. none tag; left = refl }
  where
    none : (tag : ExternTag) → numbers_of tag no_numbers ≡ []
    none Func = refl
    none Table = refl
    none Memory = refl
    none Global = refl

pub import_at : (imports : List (Import Label)) (i : ℕ) → i < length imports → (x : Import Label) × (slice_get imports i ≡ Some x)
import_at [] i lt = absurd (omega (arith, lt))
import_at (x ∷ imports) zero lt = (x, refl)
import_at (x ∷ imports) (suc i) lt = import_at imports i (omega (arith, lt))

fault_next : (set : ModuleSet) (part i : ℕ) (p : NamedModule) (x : Import Label) → slice_get p.tree.imports i ≡ Some x
    → imports_fault_from (take part set) p.tree i (drop i p.tree.imports) ≡ or_later (import_fault (take part set) p.tree i x) (imports_fault_from (take part set) p.tree (i + 1) (drop (i + 1) p.tree.imports))
fault_next set part i p x is = ap (imports_fault_from (take part set) p.tree i) (drop_next p.tree.imports i x is)

pub met_more : (set : ModuleSet) (part i : ℕ) (old new : StoreNumbers) (tag : ExternTag) (number : ℕ)
    → ((p : NamedModule) (x : Import Label) → IsImport set part i p x → import_fault (take part set) p.tree i x ≡ None)
    → ((p : NamedModule) (x : Import Label) → IsImport set part i p x → (tag ≡ tag_of x.kind) × (number ≡ import_number (linked (take part set)) x))
    → ((t : ExternTag) → numbers_of t new ≡ numbers_of t old ++ if_same t tag (number ∷ []))
    → ((p : NamedModule) → slice_get set part ≡ Some p → i < length p.tree.imports)
    → Met set part i old → Met set part (i + 1) new
met_more set part i old new tag number fault told pushed lt h = λ p is. step p is (import_at p.tree.imports i (lt p is))
  where
    one : (b : Bool) (n : ℕ) → cons_option (cond b (Some n) None) [] ≡ cond b (n ∷ []) []
    one true n = refl
    one false n = refl

    step : (p : NamedModule) → slice_get set part ≡ Some p → (x : Import Label) × (slice_get p.tree.imports i ≡ Some x) → MetBy set part (i + 1) new p
    step p is item =
        let x = item.0 in
        let front = linked (take part set) in
        let found = told p x (is, item.1) in
        record {
          numbered = λ t.
              pushed t
              ∙ ap₂ (λ (l : List ℕ) (m : List ℕ). l ++ m) ((h p is).numbered t)
              (ap₂ (λ (k : ExternTag) (n : ℕ). if_same t k (n ∷ [])) found.0 found.1 ∙ sym (one (same_tag t (tag_of x.kind)) (import_number front x)))
              ∙ sym (filter_map-append (number_if t front) (take i p.tree.imports) (x ∷ [])) ∙ ap (filter_map (number_if t front)) (sym (take_next p.tree.imports i x item.1));
          left = (h p is).left ∙ fault_next set part i p x item.1 ∙ ap (λ (o : Option LinkFault). or_later o (imports_fault_from (take part set) p.tree (i + 1) (drop (i + 1) p.tree.imports))) (fault p x (is, item.1));
        }

-- what a fault of the next import tells of all
pub met_fault : (set : ModuleSet) (part i : ℕ) (numbers : StoreNumbers) (e : LinkFault) → (found : (p : NamedModule) (x : Import Label) → IsImport set part i p x → (e ≡ NoMemory) ⊎ (import_fault (take part set) p.tree i x ≡ Some e))
    → ((p : NamedModule) → slice_get set part ≡ Some p → i < length p.tree.imports) → Met set part i numbers
    → (p : NamedModule) → slice_get set part ≡ Some p → (e ≡ NoMemory) ⊎ (imports_fault_from (take part set) p.tree 0 p.tree.imports ≡ Some e)
met_fault set part i numbers e found lt h p is = go (import_at p.tree.imports i (lt p is))
  where
    go : (x : Import Label) × (slice_get p.tree.imports i ≡ Some x) → (e ≡ NoMemory) ⊎ (imports_fault_from (take part set) p.tree 0 p.tree.imports ≡ Some e)
    go item = by (found p item.0 (is, item.1))
      where
        by : (e ≡ NoMemory) ⊎ (import_fault (take part set) p.tree i item.0 ≡ Some e) → (e ≡ NoMemory) ⊎ (imports_fault_from (take part set) p.tree 0 p.tree.imports ≡ Some e)
        by (inl m) = inl m
        by (inr f) = inr ((h p is).left ∙ fault_next set part i p item.0 item.1 ∙ ap (λ (o : Option LinkFault). or_later o (imports_fault_from (take part set) p.tree (i + 1) (drop (i + 1) p.tree.imports))) f)

pub met_all : (set : ModuleSet) (part i : ℕ) (numbers : StoreNumbers) (p : NamedModule) → slice_get set part ≡ Some p → length p.tree.imports ≤ i → Met set part i numbers → imports_fault_from (take part set) p.tree 0 p.tree.imports ≡ None
met_all set part i numbers p is le h = (h p is).left ∙ ap (imports_fault_from (take part set) p.tree i) (drop_all i p.tree.imports le)

pub met_numbers : (set : ModuleSet) (part i : ℕ) (numbers : StoreNumbers) → ((p : NamedModule) → slice_get set part ≡ Some p → length p.tree.imports ≤ i) → Met set part i numbers → HasImports set part numbers
met_numbers set part i numbers le h = λ p is tag. (h p is).numbered tag ∙ ap (filter_map (number_if tag (linked (take part set)))) (take_all i p.tree.imports (le p is))
