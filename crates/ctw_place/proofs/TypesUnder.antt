-- The types of parameters under labels, one after another.
use Rattle.std.proofs.Common.{◌≡◌, ◌<◌, ◌≤◌, ℕ, zero, suc, ◌+◌, Bool, true, false, ◌&&◌, List, [], ◌∷◌, ◌++◌, length, take, map, slice_get, get_or, is_some, IsTrue, IfSome, Option, Some, None, refl, sym, ap, ◌∙◌, arith, ltb}
use Rattle.std.specs.Prelude.{option_map}
use Rattle.std.specs.List.{list_all}
use Rattle.std.proofs.lemmas.Bool.{false≢true, ltb-true, ltb-false}
use Rattle.std.proofs.lemmas.List.{take_all, length-map}
use Rattle.std.proofs.lemmas.Option.{slice_get-map}
use Rattle.ctw_ops.specs.declared.types.Label.{Label}
use Rattle.ctw_ops.specs.declared.types.Trust.{Trust}
use Rattle.ctw_ops.specs.Types.{FunctionType}
use Rattle.ctw_ops.specs.Typing.{optional}
use Rattle.ctw_ops.specs.Types.{ValueType, type_byte, byte_type, byte_types, is_type_byte, value_type}
use Rattle.ctw_ops.specs.TagMaps.{type_to, function_type_to}
use Rattle.ctw_form.proofs.Params.{types_at, type_byte_at, types_length}
use Rattle.ctw_labels.specs.declared.tag.Tag.{Tag}
use Rattle.ctw_labels.specs.declared.tag.Tag.TheVariants.{At}
use Rattle.ctw_labels.specs.Fits.{label_at}
use Rattle.ctw_labels.specs.Links.{at_tag}
use Rattle.ctw_labels.specs.Numbering.{params_from, result_from, type_from}
use Rattle.ctw_labels.specs.SitedModule.{site_count}
use Rattle.ctw_labels.specs.Placed.{is_public, are_public, is_untrusted, is_all_public, with_trust}
use Rattle.ctw_sites.proofs.ScopeLaws.{params_at, params_length}
use Rattle.ctw_write.specs.Canon.{all_texts, type_text}
use Rattle.ctw_write.proofs.Listed.{Listed, listed_begin, listed_next, listed_end, take_next}

and_end : (a b c : Bool) → (a && (b && c)) ≡ ((a && b) && c)
and_end true b c = refl
and_end false b c = refl

and_true : (a : Bool) → (a && true) ≡ a
and_true true = refl
and_true false = refl

public_end : (ts : List (ValueType Label)) (t : ValueType Label) → are_public (ts ++ t ∷ []) ≡ (are_public ts && is_public t.tag)
public_end [] t = and_true (is_public t.tag)
public_end (u ∷ ts) t = ap (λ z. is_public u.tag && z) (public_end ts t) ∙ and_end (is_public u.tag) (are_public ts) (is_public t.tag)

module _ (L : Tag → Label) (q : ℕ) (bytes : List ℕ) where
  abbrev under : List (ValueType Label)
  under = map (type_to L) (params_from q (byte_types bytes))

  -- the first ones are written
  pub record TypesPut (i s : ℕ) (b : Bool) (start out : List ℕ) : Type 0 where
    pub listed : Listed type_text under i start out
    pub site : s ≡ q + i
    pub public : b ≡ are_public (take i under)

  module _ (h : IsTrue (list_all is_type_byte bytes)) where
    at_under : (i : ℕ) (t : ValueType Label) → slice_get (byte_types bytes) i ≡ Some t → slice_get under i ≡ Some (value_type t.width (L (At (q + i))))
    at_under i t e = slice_get-map (type_to L) (params_from q (byte_types bytes)) i ∙ ap (option_map (type_to L)) (params_at q (byte_types bytes) i ∙ ap (option_map (λ t. value_type t.width (At (q + i)))) e)

    pub types_begin : (out : List ℕ) → TypesPut 0 q true out out
    types_begin out = record { listed = listed_begin type_text under out out refl; site = omega arith; public = refl }

    pub types_next : (i site byte : ℕ) (l : Label) (public next : Bool) (start out then : List ℕ) → i < length bytes → TypesPut i site public start out → l ≡ L (At site) → IfSome (byte_type (get_or bytes i 0)) (λ t. byte ≡ type_byte (value_type t.width l)) → then ≡ out ++ byte ∷ []
        → next ≡ (public && is_public l) → TypesPut (i + 1) (site + 1) next start then
    types_next i site byte l public next start out then lt k el is et en = go (byte_type (get_or bytes i 0)) (types_at bytes i 0 h lt) (type_byte_at bytes i 0 h lt) is
      where
        go : (o : Option (ValueType Label)) → slice_get (byte_types bytes) i ≡ o → IsTrue (is_some o) → IfSome o (λ t. byte ≡ type_byte (value_type t.width l)) → TypesPut (i + 1) (site + 1) next start then
        go None e s w = absurd (false≢true s)
        go (Some t) e s w =
            let u : ValueType Label = value_type t.width (L (At (q + i))) in
            let same : value_type t.width l ≡ u = ap (value_type t.width) (el ∙ ap (λ z. L (At z)) k.site) in
            let more : suc i ≡ i + 1 = omega arith in
            record {
              listed = listed_next type_text under i u start out then (at_under i t e) (et ∙ ap (λ n. out ++ n ∷ []) (w ∙ ap type_byte same)) k.listed;
              site = let s = k.site in omega (arith, s);
              public = en ∙ (λ j. k.public j && is_public ((el ∙ ap (λ z. L (At z)) k.site) j)) ∙ sym (public_end (take i under) u) ∙ ap are_public (sym (take_next under i u (at_under i t e))) ∙ ap (λ z. are_public (take z under)) more;
            }

    under_length : length under ≡ length bytes
    under_length = length-map (params_from q (byte_types bytes)) (type_to L) ∙ params_length q (byte_types bytes) ∙ types_length bytes h

    pub types_put : (i site : ℕ) (public : Bool) (start out : List ℕ) → length bytes ≤ i → TypesPut i site public start out → out ≡ start ++ all_texts type_text under
    types_put i site public start out le k = let e = under_length in listed_end type_text under i start out (omega (arith, e, le)) k.listed

    pub types_public : (i site : ℕ) (public : Bool) (start out : List ℕ) → length bytes ≤ i → TypesPut i site public start out → public ≡ are_public under
    types_public i site public start out le k = let e = under_length in k.public ∙ ap are_public (take_all i under (omega (arith, e, le)))

-- a result
pub result_under : (L : Tag → Label) (n : ℕ) (t : Option (ValueType Label)) → option_map (type_to L) (result_from n t) ≡ option_map (λ u. value_type u.width (L (At n))) t
result_under L n None = refl
result_under L n (Some t) = refl

-- ---- a type whose sites are public

module _ (labels : List Label) where
  open_params : {A : Type 0} (first : ℕ) (ts : List (ValueType A)) → ((i : ℕ) → i < length ts → is_public (label_at labels (first + i)) ≡ true) → are_public (map (type_to (at_tag (label_at labels))) (params_from first ts)) ≡ true
  open_params first [] h = refl
  open_params first (t ∷ ts) h =
      let z : first ≡ first + 0 = omega arith in
      ap (λ n. is_public (label_at labels n) && are_public (map (type_to (at_tag (label_at labels))) (params_from (first + 1) ts))) z
      ∙ ap (λ b. b && are_public (map (type_to (at_tag (label_at labels))) (params_from (first + 1) ts))) (h 0 (omega arith))
      ∙ open_params (first + 1) ts (λ i l. let e : first + 1 + i ≡ first + suc i = omega arith in ap (λ n. is_public (label_at labels n)) e ∙ h (suc i) (omega arith))

  open_result : {A : Type 0} (site : ℕ) (t : Option (ValueType A)) → (0 < length (optional t) → is_public (label_at labels site) ≡ true) → are_public (optional (option_map (type_to (at_tag (label_at labels))) (result_from site t))) ≡ true
  open_result site None h = refl
  open_result site (Some t) h = ap (λ b. b && true) (h (omega arith))

  pub open_type : {A : Type 0} (trust : Trust) (first : ℕ) (g : FunctionType A) → is_untrusted trust ≡ true → ((i : ℕ) → i < site_count g → is_public (label_at labels (first + i)) ≡ true)
      → is_all_public (function_type_to (at_tag (label_at labels)) (with_trust trust (type_from first g))) ≡ true
  open_type trust first g u h =
      ap (λ b. b && (are_public params && are_public (optional result))) u
      ∙ ap (λ b. b && are_public (optional result)) (open_params first g.params (λ i l. h i (omega (arith, l))))
      ∙ open_result (first + length g.params) g.result (λ l. h (length g.params) (omega (arith, l)))
    where
      params : List (ValueType Label)
      params = map (type_to (at_tag (label_at labels))) (params_from first g.params)

      result : Option (ValueType Label)
      result = option_map (type_to (at_tag (label_at labels))) (result_from (first + length g.params) g.result)

  -- ---- the sites of a type that is public

  is_first : (a b : Bool) → (a && b) ≡ true → a ≡ true
  is_first true b e = refl
  is_first false b e = absurd (false≢true e)

  is_second : (a b : Bool) → (a && b) ≡ true → b ≡ true
  is_second true b e = e
  is_second false b e = absurd (false≢true e)

  closed_params : {A : Type 0} (first : ℕ) (ts : List (ValueType A)) → are_public (map (type_to (at_tag (label_at labels))) (params_from first ts)) ≡ true → (i : ℕ) → i < length ts → is_public (label_at labels (first + i)) ≡ true
  closed_params first [] e i l = absurd (omega (arith, l))
  closed_params first (t ∷ ts) e zero l =
      let z : first + 0 ≡ first = omega arith in
      ap (λ n. is_public (label_at labels n)) z ∙ is_first (is_public (label_at labels first)) (are_public (map (type_to (at_tag (label_at labels))) (params_from (first + 1) ts))) e
  closed_params first (t ∷ ts) e (suc i) l =
      let z : first + suc i ≡ first + 1 + i = omega arith in
      ap (λ n. is_public (label_at labels n)) z
      ∙ closed_params (first + 1) ts (is_second (is_public (label_at labels first)) (are_public (map (type_to (at_tag (label_at labels))) (params_from (first + 1) ts))) e) i (omega (arith, l))

  closed_result : {A : Type 0} (site : ℕ) (t : Option (ValueType A)) → are_public (optional (option_map (type_to (at_tag (label_at labels))) (result_from site t))) ≡ true → 0 < length (optional t) → is_public (label_at labels site) ≡ true
  closed_result site None e l = absurd (omega (arith, l))
  closed_result site (Some t) e l = is_first (is_public (label_at labels site)) true e

  pub closed_type : {A : Type 0} (trust : Trust) (first : ℕ) (g : FunctionType A) → is_all_public (function_type_to (at_tag (label_at labels)) (with_trust trust (type_from first g))) ≡ true
      → (i : ℕ) → i < site_count g → is_public (label_at labels (first + i)) ≡ true
  closed_type {A} trust first g e i l = by (ltb i (length g.params)) refl
    where
      params : List (ValueType Label)
      params = map (type_to (at_tag (label_at labels))) (params_from first g.params)

      result : Option (ValueType Label)
      result = option_map (type_to (at_tag (label_at labels))) (result_from (first + length g.params) g.result)

      both : (are_public params && are_public (optional result)) ≡ true
      both = is_second (is_untrusted trust) (are_public params && are_public (optional result)) e

      at_result : (t : Option (ValueType A)) → length g.params ≤ i → i < length g.params + length (optional t) → (i ≡ length g.params) × (0 < length (optional t))
      at_result None a b = absurd (omega (arith, a, b))
      at_result (Some t) a b = (omega (arith, a, b), omega arith)

      by : (b : Bool) → ltb i (length g.params) ≡ b → is_public (label_at labels (first + i)) ≡ true
      by true k = closed_params first g.params (is_first (are_public params) (are_public (optional result)) both) i (ltb-true i (length g.params) k)
      by false k =
          let r = at_result g.result (ltb-false i (length g.params) k) l in
          ap (λ n. is_public (label_at labels (first + n))) r.0 ∙ closed_result (first + length g.params) g.result (is_second (are_public params) (are_public (optional result)) both) r.1

  pub plain_type : {A : Type 0} (trust : Trust) (first : ℕ) (g : FunctionType A) (b : Bool) → is_untrusted trust ≡ true → (b ≡ true → (i : ℕ) → i < site_count g → is_public (label_at labels (first + i)) ≡ true)
      → (b ≡ false → (i : ℕ) × (i < site_count g) × (is_public (label_at labels (first + i)) ≡ false))
      → b ≡ is_all_public (function_type_to (at_tag (label_at labels)) (with_trust trust (type_from first g)))
  plain_type trust first g true u p q = sym (open_type trust first g u (p refl))
  plain_type trust first g false u p q = by (is_all_public (function_type_to (at_tag (label_at labels)) (with_trust trust (type_from first g)))) refl
    where
      by : (c : Bool) → is_all_public (function_type_to (at_tag (label_at labels)) (with_trust trust (type_from first g))) ≡ c → false ≡ c
      by true k = let n = q refl in absurd (false≢true (sym n.2 ∙ closed_type trust first g k n.0 n.1))
      by false k = refl
