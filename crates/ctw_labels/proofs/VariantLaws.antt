-- The variants give each labelled type that is used its index, and are variants.
use Rattle.std.proofs.Common.{◌≡◌, ℕ, suc, zero, ◌+◌, Bool, true, false, List, [], ◌∷◌, ◌++◌, length, Option, Some, None, refl, sym, ◌∙◌, ap, subst, inl, inr, arith}
use Rattle.std.specs.Prelude.{◌&&◌, ◌||◌, slice_get, map, option_map, if◌then◌else◌}
use Rattle.std.specs.List.{AllByRecursion}
use Rattle.std.proofs.lemmas.List.{map-append}
use Rattle.std.proofs.lemmas.List.Elements.{recursion_from_All, All-from_recursion, All-weaker}
use Rattle.ctw_ops.specs.declared.types.Label.{Label}
use Rattle.ctw_ops.specs.declared.types.Label.TheVariants.{Public, Secret}
use Rattle.ctw_ops.specs.declared.types.Trust.{Trust}
use Rattle.ctw_ops.specs.declared.types.Trust.TheVariants.{Untrusted, Trusted}
use Rattle.ctw_ops.specs.Types.{ValueType, FunctionType, erase_value_type, erase_function_type}
use Rattle.ctw_ops.specs.Tree.{TypeEntry, Module, function_types, function_entries}
use Rattle.ctw_ops.specs.Typing.{optional}
use Rattle.ctw_ops.specs.Valid.{IsEntry, IsVariant, AreTypes, IsValid}
use Rattle.ctw_stack.specs.Tags.{type_to}
use Rattle.ctw_ops.specs.TagMaps.{function_type_to}
use Rattle.ctw_labels.specs.Names.{Tag}
use Rattle.ctw_labels.specs.Sited.{Sited, Done, Does, Uses, Blocks, Loops, Ifs, IfElses}
use Rattle.ctw_labels.specs.Points.{Points, AreReleases}
use Rattle.ctw_ops.specs.Plain.{IsPlainEntry, IsPlainModule}
use Rattle.ctw_labels.specs.SitedModule.{SitedBody, bodies}
use Rattle.ctw_labels.specs.Placed.{TypeUse, code_uses, call_uses, function_uses, type_uses, is_public, are_public, is_untrusted, is_all_public, same_use, has_use, place_of_use, with_use, with_uses, variant_entry, use_to, variants, variant_name, placed_types}
use Rattle.ctw_labels.proofs.PlaceLaws.{all_public, IsNamed}
use Rattle.ctw_labels.proofs.NumberLaws.{all_append_to, all_append_from}
use Rattle.ctw_labels.proofs.ObeyLaws.{and_parts}
use Rattle.ctw_labels.proofs.UserLaws.{In, all_in, in_all}
use Rattle.ctw_labels.proofs.Contexts.{IsNamedUse}
use Rattle.ctw_labels.proofs.BodyLaws.{IsNaming, IsBase, base_uses}
use Rattle.ctw_labels.proofs.PlainLaws.{plain_types}
use Rattle.ctw_labels.proofs.GlobalLaws.{before}
use Rattle.ctw_labels.proofs.UseLaws.{use_same, use_refl}

-- ---- uses and namings

module _ (L : Tag → Label) (T : List (TypeEntry Label)) (name : ℕ → FunctionType Label → ℕ) where
  pub code_named : (sc : Sited Tag) → AllByRecursion (IsNamedUse L T name) (code_uses sc) → IsNamed L (map (λ e. e.type) T) name sc
  code_named Done h = tt
  code_named (Does i l rest) h = code_named rest h
  code_named (Uses y g l rest) h = (h.0, code_named rest h.1)
  code_named (Blocks t l body rest) h = let p = all_append_from (IsNamedUse L T name) (code_uses body) (code_uses rest) h in (code_named body p.0, code_named rest p.1)
  code_named (Loops t l body rest) h = let p = all_append_from (IsNamedUse L T name) (code_uses body) (code_uses rest) h in (code_named body p.0, code_named rest p.1)
  code_named (Ifs t l arm rest) h = let p = all_append_from (IsNamedUse L T name) (code_uses arm) (code_uses rest) h in (code_named arm p.0, code_named rest p.1)
  code_named (IfElses t l arm other rest) h =
      let p = all_append_from (IsNamedUse L T name) (code_uses arm) (code_uses other ++ code_uses rest) h in
      let q = all_append_from (IsNamedUse L T name) (code_uses other) (code_uses rest) p.1 in
      (code_named arm p.0, code_named other q.0, code_named rest q.1)

  pub named_code : (sc : Sited Tag) → IsNamed L (map (λ e. e.type) T) name sc → AllByRecursion (IsNamedUse L T name) (code_uses sc)
  named_code Done h = tt
  named_code (Does i l rest) h = named_code rest h
  named_code (Uses y g l rest) h = (h.0, named_code rest h.1)
  named_code (Blocks t l body rest) h = all_append_to (IsNamedUse L T name) (code_uses body) (code_uses rest) (named_code body h.0) (named_code rest h.1)
  named_code (Loops t l body rest) h = all_append_to (IsNamedUse L T name) (code_uses body) (code_uses rest) (named_code body h.0) (named_code rest h.1)
  named_code (Ifs t l arm rest) h = all_append_to (IsNamedUse L T name) (code_uses arm) (code_uses rest) (named_code arm h.0) (named_code rest h.1)
  named_code (IfElses t l arm other rest) h =
      all_append_to (IsNamedUse L T name) (code_uses arm) (code_uses other ++ code_uses rest) (named_code arm h.0) (all_append_to (IsNamedUse L T name) (code_uses other) (code_uses rest) (named_code other h.1) (named_code rest h.2))

  calls_named : (bs : List SitedBody) → AllByRecursion (IsNamedUse L T name) (call_uses bs) → AllByRecursion (λ b. IsNamed L (map (λ e. e.type) T) name b.code) bs
  calls_named [] h = tt
  calls_named (b ∷ bs) h = let p = all_append_from (IsNamedUse L T name) (code_uses b.code) (call_uses bs) h in (code_named b.code p.0, calls_named bs p.1)

  named_calls : (bs : List SitedBody) → AllByRecursion (λ b. IsNamed L (map (λ e. e.type) T) name b.code) bs → AllByRecursion (IsNamedUse L T name) (call_uses bs)
  named_calls [] h = tt
  named_calls (b ∷ bs) h = all_append_to (IsNamedUse L T name) (code_uses b.code) (call_uses bs) (named_code b.code h.0) (named_calls bs h.1)

  pub naming_by_uses : (m : Module Label) (p : Points) → AllByRecursion (IsNamedUse L T name) (type_uses m p) → IsNaming L T name m p
  naming_by_uses m p h = let q = all_append_from (IsNamedUse L T name) (function_uses m p 0 0 (function_entries m)) (call_uses (bodies m p)) h in record { functions = q.0; codes = calls_named (bodies m p) q.1 }

-- ---- a use is found at its place

abbrev pub Found : List (TypeUse Label) → TypeUse Label → Type 0
Found vs u = slice_get vs (place_of_use vs u) ≡ Some u

found_here : (v : TypeUse Label) (vs : List (TypeUse Label)) (u : TypeUse Label) (b : Bool) → same_use v u ≡ b → (b ≡ false → Found vs u) → Found (v ∷ vs) u
found_here v vs u true e f = ap (λ z. slice_get (v ∷ vs) (if z then 0 else suc (place_of_use vs u))) e ∙ ap Some (use_same v u e)
found_here v vs u false e f = ap (λ z. slice_get (v ∷ vs) (if z then 0 else suc (place_of_use vs u))) e ∙ f refl

found_if : (vs : List (TypeUse Label)) (u : TypeUse Label) → has_use vs u ≡ true → Found vs u
found_if [] u e = cc
found_if (v ∷ vs) u e = found_here v vs u (same_use v u) refl (λ k. found_if vs u (ap (λ z. z || has_use vs u) (sym k) ∙ e))

found_grow : (vs ws : List (TypeUse Label)) (u : TypeUse Label) → Found vs u → Found (vs ++ ws) u
found_grow [] ws u f = cc
found_grow (v ∷ vs) ws u f = found_here v (vs ++ ws) u (same_use v u) refl (λ k. found_grow vs ws u (ap (λ z. slice_get (v ∷ vs) (if z then 0 else suc (place_of_use vs u))) (sym k) ∙ f))

found_end : (vs : List (TypeUse Label)) (u : TypeUse Label) → Found (vs ++ u ∷ []) u
found_end [] u = found_here u [] u (same_use u u) refl (λ k. let e = use_refl u in cc)
found_end (v ∷ vs) u = found_here v (vs ++ u ∷ []) u (same_use v u) refl (λ k. found_end vs u)

-- one more variant keeps what is found, and finds the use, unless its type is a plain one
kept_by : (vs : List (TypeUse Label)) (u v : TypeUse Label) (b : Bool) → Found vs v → Found (if b then vs else vs ++ u ∷ []) v
kept_by vs u v true f = f
kept_by vs u v false f = found_grow vs (u ∷ []) v f

found_by : (vs : List (TypeUse Label)) (u : TypeUse Label) → is_all_public u.type ≡ false → Found (with_use vs u) u
found_by vs u e = by_has (has_use vs u) refl
  where
    by_has : (b : Bool) → has_use vs u ≡ b → Found (with_use vs u) u
    by_has true k = subst (λ z. Found (if z then vs else vs ++ u ∷ []) u) (sym (λ i. e i || k i)) (found_if vs u k)
    by_has false k = subst (λ z. Found (if z then vs else vs ++ u ∷ []) u) (sym (λ i. e i || k i)) (found_end vs u)

kept_all : (vs us : List (TypeUse Label)) (v : TypeUse Label) → Found vs v → Found (with_uses vs us) v
kept_all vs [] v f = f
kept_all vs (u ∷ us) v f = kept_all (with_use vs u) us v (kept_by vs u v (is_all_public u.type || has_use vs u) f)

pub found_all : (vs us : List (TypeUse Label)) (u : TypeUse Label) → In u us → is_all_public u.type ≡ false → Found (with_uses vs us) u
found_all vs [] u i e = absurd i
found_all vs (w ∷ us) u (inl k) e = kept_all (with_use vs w) us u (subst (λ z. Found (with_use vs z) u) k (found_by vs u e))
found_all vs (w ∷ us) u (inr i) e = found_all (with_use vs w) us u i e

-- what holds of each use holds of each variant
kept_uses : (P : TypeUse Label → Type 0) (vs us : List (TypeUse Label)) → AllByRecursion P vs → AllByRecursion P us → AllByRecursion P (with_uses vs us)
kept_uses P vs [] h k = h
kept_uses P vs (u ∷ us) h k = kept_uses P (with_use vs u) us (one (is_all_public u.type || has_use vs u)) k.1
  where
    one : (b : Bool) → AllByRecursion P (if b then vs else vs ++ u ∷ [])
    one true = h
    one false = all_append_to P vs (u ∷ []) h (k.0, tt)

pub past : {X : Type 0} (xs ys : List X) (k : ℕ) → slice_get (xs ++ ys) (length xs + k) ≡ slice_get ys k
past [] ys k = let e : 0 + k ≡ k = omega arith in ap (slice_get ys) e
past (x ∷ xs) ys k = let e : length (x ∷ xs) + k ≡ suc (length xs + k) = omega arith in ap (slice_get (x ∷ xs ++ ys)) e ∙ past xs ys k

public_label : (l : Label) → is_public l ≡ true → l ≡ Public
public_label Public e = refl
public_label Secret e = cc

-- ---- erasing labels

erased_values : (L : Tag → Label) (ts : List (ValueType Tag)) → map erase_value_type (map (type_to L) ts) ≡ map (type_to all_public) ts
erased_values L [] = refl
erased_values L (t ∷ ts) = ap (λ z. type_to all_public t ∷ z) (erased_values L ts)

erased_option : (L : Tag → Label) (t : Option (ValueType Tag)) → option_map erase_value_type (option_map (type_to L) t) ≡ option_map (type_to all_public) t
erased_option L None = refl
erased_option L (Some t) = refl

-- a labelled type erases like the all public one
pub erased_alike : (L : Tag → Label) (g : FunctionType Tag) → erase_function_type (function_type_to L g) ≡ erase_function_type (function_type_to all_public g)
erased_alike L g = λ i. record (erase_function_type (function_type_to L g)) {
  params = (erased_values L g.params ∙ sym (erased_values all_public g.params)) i;
  result = (erased_option L g.result ∙ sym (erased_option all_public g.result)) i;
}

pub back_map : {A B : Type 0} (f : A → B) (xs : List A) (k : ℕ) (y : B) → slice_get (map f xs) k ≡ Some y → (x : A) × (slice_get xs k ≡ Some x) × (f x ≡ y)
back_map f [] k y e = cc
back_map f (x ∷ xs) zero y e = (x, refl, cc)
back_map f (x ∷ xs) (suc k) y e = back_map f xs k y e

pub map_in : {A B : Type 0} (f : A → B) (xs : List A) (x : A) → In x xs → In (f x) (map f xs)
map_in f [] x i = absurd i
map_in f (y ∷ ys) x (inl e) = inl (ap f e)
map_in f (y ∷ ys) x (inr i) = inr (map_in f ys x i)

all_map : {A B : Type 0} (f : A → B) (P : B → Type 0) (xs : List A) → AllByRecursion (λ x. P (f x)) xs → AllByRecursion P (map f xs)
all_map f P [] h = tt
all_map f P (x ∷ xs) h = (h.0, all_map f P xs h.1)

all_weaker : {A : Type 0} (P Q : A → Type 0) → ((x : A) → P x → Q x) → (xs : List A) → AllByRecursion P xs → AllByRecursion Q xs
all_weaker P Q f [] h = tt
all_weaker P Q f (x ∷ xs) h = (f x h.0, all_weaker P Q f xs h.1)

module _ (L : Tag → Label) where
  public_types : (ts : List (ValueType Tag)) → are_public (map (type_to L) ts) ≡ true → map (type_to L) ts ≡ map (type_to all_public) ts
  public_types [] e = refl
  public_types (t ∷ ts) e =
      let p = and_parts (is_public (L t.tag)) (are_public (map (type_to L) ts)) e in
      λ i. record { width = t.width; tag = public_label (L t.tag) p.0 i } ∷ public_types ts p.1 i

  public_option : (t : Option (ValueType Tag)) → are_public (optional (option_map (type_to L) t)) ≡ true → option_map (type_to L) t ≡ option_map (type_to all_public) t
  public_option None e = refl
  public_option (Some t) e = ap (λ z. Some (record { width = t.width; tag = z })) (public_label (L t.tag) (and_parts (is_public (L t.tag)) true e).0)

  untrusted : (t : Trust) → is_untrusted t ≡ true → t ≡ Untrusted
  untrusted Untrusted e = refl
  untrusted Trusted e = cc

  -- a type that keeps its index is its erasure
  public_type : (g : FunctionType Tag) → is_all_public (function_type_to L g) ≡ true → function_type_to L g ≡ erase_function_type (function_type_to all_public g)
  public_type g e =
      let q = and_parts (is_untrusted g.trust) (are_public (map (type_to L) g.params) && are_public (optional (option_map (type_to L) g.result))) e in
      let p = and_parts (are_public (map (type_to L) g.params)) (are_public (optional (option_map (type_to L) g.result))) q.1 in
      λ i. record { trust = untrusted g.trust q.0 i; params = (public_types g.params p.0 ∙ sym (erased_values all_public g.params)) i; result = (public_option g.result p.1 ∙ sym (erased_option all_public g.result)) i }

  length_types : {A B : Type 0} (f : A → B) (xs : List A) → length (map f xs) ≡ length xs
  length_types f [] = refl
  length_types f (x ∷ xs) = let h = length_types f xs in omega (arith, h)

  types_of_variants : (us : List (TypeUse Label)) (k : ℕ) (u : TypeUse Label) → slice_get us k ≡ Some u → slice_get (map (λ e. e.type) (map variant_entry us)) k ≡ Some u.type
  types_of_variants [] k u e = cc
  types_of_variants (x ∷ us) zero u e = let q : x ≡ u = cc in ap (λ z. Some z.type) q
  types_of_variants (x ∷ us) (suc k) u e = types_of_variants us k u e

  module _ (m : Module Label) (plain : IsPlainModule m) (valid : IsValid m) (p : Points) (rel : AreReleases p) where
    bases : AllByRecursion (IsBase m) (type_uses m p)
    bases = base_uses m plain valid p rel

    split_types : map (λ e. e.type) (placed_types L m p) ≡ function_types m ++ map (λ e. e.type) (map variant_entry (variants L m p))
    split_types = map-append (λ e. e.type) m.types (map variant_entry (variants L m p))

    -- each use is found under its name
    use_named : (u : TypeUse Tag) → In u (type_uses m p) → IsBase m u → IsNamedUse L (placed_types L m p) (variant_name L m p) u
    use_named u i h = ap (λ z. slice_get z (variant_name L m p u.base (function_type_to L u.type))) split_types ∙ by_public (is_all_public (function_type_to L u.type)) refl
      where
        by_public : (b : Bool) → is_all_public (function_type_to L u.type) ≡ b → slice_get (function_types m ++ map (λ e. e.type) (map variant_entry (variants L m p))) (variant_name L m p u.base (function_type_to L u.type)) ≡ Some (function_type_to L u.type)
        by_public true e =
            ap (λ z. slice_get (function_types m ++ map (λ e. e.type) (map variant_entry (variants L m p))) (if z then u.base else length m.types + place_of_use (variants L m p) (use_to L u))) e
            ∙ before (function_types m) (map (λ e. e.type) (map variant_entry (variants L m p))) u.base (function_type_to L u.type) (h ∙ ap Some (sym (public_type u.type e)))
        by_public false e =
            ap (λ z. slice_get (function_types m ++ map (λ e. e.type) (map variant_entry (variants L m p))) (if z then u.base else length m.types + place_of_use (variants L m p) (use_to L u))) e
            ∙ ap (λ z. slice_get (function_types m ++ map (λ e. e.type) (map variant_entry (variants L m p))) (z + place_of_use (variants L m p) (use_to L u))) (sym (length_types (λ e. e.type) m.types))
            ∙ past (function_types m) (map (λ e. e.type) (map variant_entry (variants L m p))) (place_of_use (variants L m p) (use_to L u))
            ∙ types_of_variants (variants L m p) (place_of_use (variants L m p) (use_to L u)) (use_to L u) (found_all [] (map (use_to L) (type_uses m p)) (use_to L u) (map_in (use_to L) (type_uses m p) u i) e)

    -- the variants name each labelled type that is used
    pub variants_named : IsNaming L (placed_types L m p) (variant_name L m p) m p
    variants_named = naming_by_uses L (placed_types L m p) (variant_name L m p) m p
        (all_in (IsNamedUse L (placed_types L m p) (variant_name L m p)) (type_uses m p) (λ u i. use_named u i (in_all (IsBase m) (type_uses m p) (base_uses m plain valid p rel) u i)))

    pub plain_entry : (y : ℕ) (e : TypeEntry Label) → slice_get m.types y ≡ Some e → IsEntry e
    plain_entry y e q = entry_at m.types (recursion_from_All IsPlainEntry m.types plain.types) y q
      where
        entry_at : (es : List (TypeEntry Label)) → AllByRecursion IsPlainEntry es → (y : ℕ) → slice_get es y ≡ Some e → IsEntry e
        entry_at [] h y q = cc
        entry_at (x ∷ es) h zero q = let k : x ≡ e = cc in subst IsEntry k h.0.base
        entry_at (x ∷ es) h (suc y) q = entry_at es h.1 y q

    -- a use is a variant of the entry that it names
    use_varies : (u : TypeUse Tag) → IsBase m u → IsVariant (placed_types L m p) (variant_entry (use_to L u))
    use_varies u h =
        let b = back_map (λ e. e.type) m.types u.base (erase_function_type (function_type_to all_public u.type)) h in
        let own : erase_function_type b.0.type ≡ b.0.type = sym (plain_types m plain u.base b.0.type (h ∙ ap Some (sym b.2))) in
        (u.base, b.0, refl, before m.types (map variant_entry (variants L m p)) u.base b.0 b.1, plain_entry u.base b.0 b.1, erased_alike L u.type ∙ sym b.2 ∙ sym own)

    all_vary : AllByRecursion (λ u. IsVariant (placed_types L m p) (variant_entry u)) (variants L m p)
    all_vary = kept_uses (λ u. IsVariant (placed_types L m p) (variant_entry u)) [] (map (use_to L) (type_uses m p)) tt
        (all_map (use_to L) (λ u. IsVariant (placed_types L m p) (variant_entry u)) (type_uses m p)
        (all_weaker (IsBase m) (λ u. IsVariant (placed_types L m p) (variant_entry (use_to L u))) use_varies (type_uses m p) (base_uses m plain valid p rel)))

    -- the entries of the placed module are those of the plain one, and variants of them
    pub placed_entries : AreTypes (placed_types L m p)
    placed_entries = record {
      entries = m.types;
      variants = map variant_entry (variants L m p);
      all = refl;
      plain = All-weaker IsPlainEntry IsEntry (λ e h. h.base) m.types plain.types;
      based = All-from_recursion (IsVariant (placed_types L m p)) (map variant_entry (variants L m p)) (all_map variant_entry (IsVariant (placed_types L m p)) (variants L m p) all_vary);
    }
