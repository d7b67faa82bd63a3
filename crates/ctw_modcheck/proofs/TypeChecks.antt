-- The checks of type entries and limits find no fault exactly where these are valid.
use Rattle.std.proofs.Common.{◌≡◌, ◌≤◌, ◌↔◌, ℕ, suc, true, false, not, ◌&&◌, List, [], ◌∷◌, ◌++◌, Option, Some, None, is_some, IfSome, All, refl, sym, ap, ◌∙◌, subst, nat_le, slice_get}
use Rattle.std.specs.List.{list_all}
use Rattle.std.proofs.lemmas.List.Elements.{All-nil, All-cons}
use Rattle.ctw_ops.specs.declared.types.Label.{Label}
use Rattle.ctw_ops.specs.declared.types.Limits.{Limits}
use Rattle.ctw_ops.specs.Types.{FunctionType, MemoryType, erase_function_type}
use Rattle.ctw_ops.specs.Tree.{TypeEntry}
use Rattle.ctw_ops.specs.Valid.{IsEntry, IsVariant, AreTypes, AreLimits, IsMemory}
use Rattle.ctw_ops.specs.Limits.{most_memory_pages}
use Rattle.ctw_modcheck.specs.declared.fault.Invalid.TheVariants.{Variant}
use Rattle.ctw_ops.specs.Equal.{erases_alike}
use Rattle.ctw_ops.proofs.EqualLaws.{alike_is, alike_when}
use Rattle.ctw_modcheck.specs.Faults.{unless, of_some, is_variant, is_based_on, variant_fault, types_fault, upto, in_order, within_pages, is_memory}
use Rattle.ctw_modcheck.proofs.Nones.{NoneWhere, none_unless, none_or, all_first, all_rest, both_tests, not_test, none_test, le_test, all_test}

-- ---- type entries

entry_test : (e : TypeEntry Label) → (not (is_variant e) ≡ true) ↔ IsEntry e
entry_test e = ((λ q. (none_test e.base).0 ((not_test (is_variant e)).0 q)), (λ q. (not_test (is_variant e)).1 ((none_test e.base).1 q)))

variant_test : (e : TypeEntry Label) → (is_variant e ≡ true) ↔ (IsEntry e → ⊥)
variant_test e = go e.base
  where
    go : (o : Option ℕ) → (is_some o ≡ true) ↔ (o ≡ None → ⊥)
    go None = ((λ e. absurd cc), (λ h. absurd (h refl)))
    go (Some i) = ((λ e q. absurd cc), (λ h. refl))

-- a base that is looked up
abbrev IsBase : FunctionType Label → Option (TypeEntry Label) → Type 0
IsBase type o = (base : TypeEntry Label) × (o ≡ Some base) × IsEntry base × (erase_function_type type ≡ erase_function_type base.type)

based_test : (type : FunctionType Label) (o : Option (TypeEntry Label)) → (is_based_on type o ≡ true) ↔ IsBase type o
based_test type None = ((λ e. absurd cc), (λ h. let q : None ≡ Some h.0 = h.1 in absurd cc))
based_test type (Some b) =
    let t = both_tests (not (is_variant b)) (erases_alike type b.type) (IsEntry b) (erase_function_type type ≡ erase_function_type b.type) (entry_test b) (alike_is type b.type, alike_when type b.type) in
    ((λ e. let q = t.0 e in (b, refl, q.0, q.1)), (λ h. t.1 (same h)))
  where
    same : IsBase type (Some b) → IsEntry b × (erase_function_type type ≡ erase_function_type b.type)
    same (base, e, entry, alike) =
        let q : base ≡ b = cc in
        (subst IsEntry q entry, subst (λ (x : TypeEntry Label). erase_function_type type ≡ erase_function_type x.type) q alike)

-- an entry that is no variant, or a variant with only variants behind it
abbrev IsPlaced : List (TypeEntry Label) → TypeEntry Label → List (TypeEntry Label) → Type 0
IsPlaced all e behind = (index : ℕ) → e.base ≡ Some index → All (λ x. is_variant x ≡ true) behind × IsBase e.type (slice_get all index)

placed_none : (all behind : List (TypeEntry Label)) (index : ℕ) (e : TypeEntry Label) → NoneWhere (variant_fault all behind index e) (IsPlaced all e behind)
placed_none all behind index e = go e.base
  where
    go : (o : Option ℕ) → NoneWhere (of_some (λ base. unless (list_all is_variant behind && is_based_on e.type (slice_get all base)) (Variant index)) o)
        ((i : ℕ) → o ≡ Some i → All (λ x. is_variant x ≡ true) behind × IsBase e.type (slice_get all i))
    go None = ((λ q i f. absurd cc), (λ h. refl))
    go (Some base) =
        let t = both_tests (list_all is_variant behind) (is_based_on e.type (slice_get all base)) (All (λ x. is_variant x ≡ true) behind) (IsBase e.type (slice_get all base))
        (all_test is_variant (λ x. is_variant x ≡ true) (λ x. ((λ q. q), (λ q. q))) behind) (based_test e.type (slice_get all base)) in
        let n = none_unless (list_all is_variant behind && is_based_on e.type (slice_get all base)) (Variant index) _ t in
        ((λ q i f. let k : base ≡ i = cc in subst (λ (j : ℕ). All (λ x. is_variant x ≡ true) behind × IsBase e.type (slice_get all j)) k (n.0 q)), (λ h. n.1 (h base refl)))

-- entries, and variants behind them
record Split (all l : List (TypeEntry Label)) : Type 0 where
  entries : List (TypeEntry Label)
  variants : List (TypeEntry Label)
  is : l ≡ entries ++ variants
  plain : All IsEntry entries
  based : All (IsVariant all) variants

is_variant_of : (all : List (TypeEntry Label)) (e : TypeEntry Label) (index : ℕ) → e.base ≡ Some index → IsBase e.type (slice_get all index) → IsVariant all e
is_variant_of all e index q h = (index, h.0, q, h.1, h.2, h.3)

variant_is : (all : List (TypeEntry Label)) (e : TypeEntry Label) → IsVariant all e → is_variant e ≡ true
variant_is all e h = ap is_some h.2

-- where all are variants, each that is placed is one of `all`'s
variants_only : (all l : List (TypeEntry Label)) (i : ℕ) → types_fault all i l ≡ None → All (λ x. is_variant x ≡ true) l → All (IsVariant all) l
variants_only all [] i e h = All-nil (IsVariant all)
variants_only all (x ∷ l) i e h =
    let q = (none_or (variant_fault all l i x) (types_fault all (suc i) l) (IsPlaced all x l) (types_fault all (suc i) l ≡ None) (placed_none all l i x) ((λ f. f), (λ f. f))).0 e in
    All-cons (IsVariant all) x l (one x.base refl q.0) (variants_only all l (suc i) q.1 (all_rest (λ x. is_variant x ≡ true) x l h))
  where
    one : (o : Option ℕ) → x.base ≡ o → IsPlaced all x l → IsVariant all x
    one (Some index) f p = is_variant_of all x index f (p index f).1
    one None f p = absurd (let w = all_first (λ (x : TypeEntry Label). is_variant x ≡ true) x l h in let v : false ≡ true = sym ((none_test x.base).1 f) ∙ w in cc)

split_of : (all l : List (TypeEntry Label)) (i : ℕ) → types_fault all i l ≡ None → Split all l
split_of all [] i e = record { entries = []; variants = []; is = refl; plain = All-nil IsEntry; based = All-nil (IsVariant all) }
split_of all (x ∷ l) i e =
    let q = (none_or (variant_fault all l i x) (types_fault all (suc i) l) (IsPlaced all x l) (types_fault all (suc i) l ≡ None) (placed_none all l i x) ((λ f. f), (λ f. f))).0 e in
    go x.base refl q.0 q.1 (split_of all l (suc i) q.1)
  where
    go : (o : Option ℕ) → x.base ≡ o → IsPlaced all x l → types_fault all (suc i) l ≡ None → Split all l → Split all (x ∷ l)
    go None f p r s = record { entries = x ∷ s.entries; variants = s.variants; is = ap (λ (m : List (TypeEntry Label)). x ∷ m) s.is; plain = All-cons IsEntry x s.entries f s.plain; based = s.based }
    go (Some index) f p r s = record {
      entries = [];
      variants = x ∷ l;
      is = refl;
      plain = All-nil IsEntry;
      based = All-cons (IsVariant all) x l (is_variant_of all x index f (p index f).1) (variants_only all l (suc i) r (p index f).0);
    }

each_variant : (all l : List (TypeEntry Label)) → All (IsVariant all) l → All (λ x. is_variant x ≡ true) l
each_variant all [] h = All-nil (λ x. is_variant x ≡ true)
each_variant all (x ∷ l) h = All-cons (λ x. is_variant x ≡ true) x l (variant_is all x (all_first (IsVariant all) x l h)) (each_variant all l (all_rest (IsVariant all) x l h))

variants_none : (all l : List (TypeEntry Label)) (i : ℕ) → All (IsVariant all) l → types_fault all i l ≡ None
variants_none all [] i h = refl
variants_none all (x ∷ l) i h =
    (none_or (variant_fault all l i x) (types_fault all (suc i) l) (IsPlaced all x l) (types_fault all (suc i) l ≡ None) (placed_none all l i x) ((λ f. f), (λ f. f))).1
    (placed (all_first (IsVariant all) x l h), variants_none all l (suc i) (all_rest (IsVariant all) x l h))
  where
    placed : IsVariant all x → IsPlaced all x l
    placed (index, base, b, look, entry, alike) = λ j f.
        let q : index ≡ j = let r : Some index ≡ Some j = sym b ∙ f in cc in
        (each_variant all l (all_rest (IsVariant all) x l h), (base, subst (λ (n : ℕ). slice_get all n ≡ Some base) q look, entry, alike))

split_none : (all entries variants : List (TypeEntry Label)) (i : ℕ) → All IsEntry entries → All (IsVariant all) variants → types_fault all i (entries ++ variants) ≡ None
split_none all [] variants i p b = variants_none all variants i b
split_none all (x ∷ entries) variants i p b =
    (none_or (variant_fault all (entries ++ variants) i x) (types_fault all (suc i) (entries ++ variants)) (IsPlaced all x (entries ++ variants)) (types_fault all (suc i) (entries ++ variants) ≡ None)
    (placed_none all (entries ++ variants) i x) ((λ f. f), (λ f. f))).1
    ((λ index f. absurd (let r : None ≡ Some index = sym (all_first IsEntry x entries p) ∙ f in cc)), split_none all entries variants (suc i) (all_rest IsEntry x entries p) b)

pub types_none : (all : List (TypeEntry Label)) → NoneWhere (types_fault all 0 all) (AreTypes all)
types_none all = (
  (λ e. let s = split_of all all 0 e in record { entries = s.entries; variants = s.variants; all = s.is; plain = s.plain; based = s.based }),
  (λ t. ap (types_fault all 0) t.all ∙ split_none all t.entries t.variants 0 t.plain t.based),
)

-- ---- limits

upto_test : (n : ℕ) (o : Option ℕ) → (upto n o ≡ true) ↔ IfSome o (λ max. n ≤ max)
upto_test n None = ((λ e. tt), (λ h. refl))
upto_test n (Some m) = le_test n m

pub limits_test : (l : Limits) → (in_order l ≡ true) ↔ AreLimits l
limits_test l = upto_test l.min l.max

pages_test : (o : Option ℕ) → (within_pages o ≡ true) ↔ IfSome o (λ max. max ≤ most_memory_pages)
pages_test None = ((λ e. tt), (λ h. refl))
pages_test (Some m) = le_test m most_memory_pages

pub memory_test : (t : MemoryType Label) → (is_memory t ≡ true) ↔ IsMemory t
memory_test t =
    let a = both_tests (in_order t.limits) (nat_le t.limits.min most_memory_pages) (AreLimits t.limits) (t.limits.min ≤ most_memory_pages) (limits_test t.limits) (le_test t.limits.min most_memory_pages) in
    let b = both_tests (in_order t.limits && nat_le t.limits.min most_memory_pages) (within_pages t.limits.max) (AreLimits t.limits × (t.limits.min ≤ most_memory_pages)) (IfSome t.limits.max (λ max. max ≤ most_memory_pages)) a (pages_test t.limits.max) in
    ((λ e. let q = b.0 e in (q.0.0, q.0.1, q.1)), (λ h. b.1 ((h.0, h.1), h.2)))
