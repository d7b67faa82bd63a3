-- The first fault of type entries: that of the first variant, or of a variant's base.
use Rattle.std.proofs.Common.{◌≡◌, ◌≤◌, ◌<◌, ℕ, zero, suc, ◌+◌, Bool, true, false, not, cond, ◌&&◌, List, [], ◌∷◌, length, map, drop, get_or, slice_get, nat_lt, Option, Some, None, option_map, unwrap_or, is_some, refl, sym, ap, ap₂, ◌∙◌, inl, inr, arith}
use Rattle.std.specs.List.{list_all, position, position_or_len}
use Rattle.std.proofs.lemmas.Bool.{cases_Bool, cases_order, lt-ltb, le-ltb, ltb-false}
use Rattle.std.proofs.lemmas.List.Quantifiers.{position-Some}
use Rattle.std.proofs.lemmas.List.Sums.{position_or_len_is, fails_before_first}
use Rattle.std.proofs.lemmas.Option.{none-some, slice_get-map, slice_get_past, slice_get_within, get_or_from_slice_get, slice_get-get_or}
use Rattle.ctw_ops.specs.declared.types.Label.{Label}
use Rattle.ctw_ops.specs.Types.{FunctionType}
use Rattle.ctw_ops.specs.Tree.{Module, TypeEntry, type_named, no_function_type}
use Rattle.ctw_modcheck.specs.declared.fault.Invalid.TheVariants.{Variant}
use Rattle.ctw_modcheck.specs.Answers.{fault_at}
use Rattle.ctw_ops.specs.Equal.{erases_alike}
use Rattle.ctw_modcheck.specs.Faults.{or_else, unless, first_in, of_some, is_variant, is_based_on, variant_fault, types_fault}
use Rattle.ctw_modcheck.proofs.Items.{no_fault, has_fault}
use Rattle.ctw_modcheck.proofs.Loops.{skip, stop, at_item}

-- the entry at an index, and its base
pub record EntryAt (types : List (TypeEntry Label)) (i : ℕ) (base : Option ℕ) : Type 0 where
  pub entry : TypeEntry Label
  pub is : slice_get types i ≡ Some entry
  pub based : entry.base ≡ base

pub entry_at : (types : List (TypeEntry Label)) (i : ℕ) (o : Option ℕ) → slice_get (map (λ entry. entry.base) types) i ≡ Some o → EntryAt types i o
entry_at [] i o e = absurd cc
entry_at (x ∷ types) zero o e = record { entry = x; is = refl; based = let q : x.base ≡ o = cc in q }
entry_at (x ∷ types) (suc i) o e = let h = entry_at types i o e in record { entry = h.entry; is = h.is; based = h.based }

pub variant_at : (types : List (TypeEntry Label)) (i : ℕ) (o : Option ℕ) (b : Bool) (h : EntryAt types i o) → is_some o ≡ b → is_variant h.entry ≡ b
variant_at types i o b h e = ap is_some h.based ∙ e

-- ---- the first variant

-- the first i entries are no variants
abbrev pub ArePlain : List (TypeEntry Label) → ℕ → Type 0
ArePlain types i = (k : ℕ) (d : TypeEntry Label) → k < i → is_variant (get_or types k d) ≡ false

pub plain_more : (types : List (TypeEntry Label)) (i : ℕ) (o : Option ℕ) → EntryAt types i o → is_some o ≡ false → ArePlain types i → ArePlain types (i + 1)
plain_more types i o h e plain k d lt = elim (cases_order k i) [
  | inl same ↦ ap (λ (n : ℕ). is_variant (get_or types n d)) same ∙ ap is_variant (get_or_from_slice_get types i h.entry d h.is) ∙ variant_at types i o false h e
  | inr other ↦ elim other [ inl below ↦ plain k d below | inr above ↦ absurd (omega (arith, lt, above)) ]
]

first_at : (types : List (TypeEntry Label)) (i n : ℕ) → position_or_len is_variant types ≡ n → n ≡ i → i < length types → position is_variant types ≡ Some i
first_at types i n e f lt = position_some (position_or_len is_variant types) (e ∙ f)
  where
    position_some : (p : ℕ) → p ≡ i → cond (nat_lt p (length types)) (Some p) None ≡ Some i
    position_some p q = ap (λ (k : ℕ). cond (nat_lt k (length types)) (Some k) None) q ∙ ap (λ (b : Bool). cond b (Some i) None) (lt-ltb i (length types) lt)

pub first_is : (types : List (TypeEntry Label)) (i : ℕ) (o : Option ℕ) → EntryAt types i o → is_some o ≡ true → ArePlain types i → Some i ≡ position is_variant types
first_is types i o h e plain =
    let lt = slice_get_within types i h.entry h.is in
    let here = ap is_variant (get_or_from_slice_get types i h.entry h.entry h.is) ∙ variant_at types i o true h e in
    sym (first_at types i i (position_or_len_is is_variant types i h.entry (omega (arith, lt)) (λ k below. plain k h.entry below) (λ within. here)) refl lt)

pub none_first : (types : List (TypeEntry Label)) (i : ℕ) → length types ≤ i → ArePlain types i → None ≡ position is_variant types
none_first types i le plain = sym (past (position_or_len is_variant types) whole)
  where
    some_entry : TypeEntry Label
    some_entry = record { base = None; type = no_function_type }

    whole : position_or_len is_variant types ≡ length types
    whole = position_or_len_is is_variant types (length types) some_entry (omega arith) (λ k below. plain k some_entry (omega (arith, below, le))) (λ lt. absurd (omega (arith, lt)))

    past : (p : ℕ) → p ≡ length types → cond (nat_lt p (length types)) (Some p) None ≡ None
    past p q = ap (λ (b : Bool). cond b (Some p) None) (le-ltb p (length types) (omega (arith, q)))

-- ---- the first fault from the first variant on

plain_none : (all behind : List (TypeEntry Label)) (k : ℕ) (e : TypeEntry Label) → is_variant e ≡ false → variant_fault all behind k e ≡ None
plain_none all behind k e n = go e.base n
  where
    go : (o : Option ℕ) → is_some o ≡ false → of_some (λ base. unless (list_all is_variant behind && is_based_on e.type (slice_get all base)) (Variant k)) o ≡ None
    go None q = refl
    go (Some base) q = absurd cc

skip_plain : (all l : List (TypeEntry Label)) (k j : ℕ) → ArePlain l j → types_fault all k l ≡ types_fault all (k + j) (drop j l)
skip_plain all l k zero plain = ap (λ (n : ℕ). types_fault all n l) (omega arith)
skip_plain all [] k (suc j) plain = refl
skip_plain all (e ∷ l) k (suc j) plain =
    let one : is_variant e ≡ false = plain 0 e (omega arith) in
    let others : ArePlain l j = λ n d lt. plain (suc n) d (omega (arith, lt)) in
    let next : suc k + j ≡ k + suc j = omega arith in
    skip (variant_fault all l k e) (types_fault all (suc k) l) (plain_none all l k e one) ∙ skip_plain all l (suc k) j others ∙ ap (λ (n : ℕ). types_fault all n (drop j l)) next

stray : (all l : List (TypeEntry Label)) (k : ℕ) → list_all is_variant l ≡ false → (e : TypeEntry Label) (o : Option (TypeEntry Label)) → slice_get l 0 ≡ Some e → is_variant e ≡ true → types_fault all k l ≡ Some (Variant k)
stray all [] k n e o q v = absurd cc
stray all (x ∷ l) k n e o q v =
    let same : x ≡ e = cc in
    let first : is_variant x ≡ true = ap is_variant same ∙ v in
    let others : list_all is_variant l ≡ false = sym (ap (λ (b : Bool). b && list_all is_variant l) first) ∙ n in
    stop (variant_fault all l k x) (types_fault all (suc k) l) (Variant k) (go x.base first others)
  where
    go : (b : Option ℕ) → is_some b ≡ true → list_all is_variant l ≡ false → of_some (λ base. unless (list_all is_variant l && is_based_on x.type (slice_get all base)) (Variant k)) b ≡ Some (Variant k)
    go None q others = absurd cc
    go (Some base) q others = has_fault (list_all is_variant l && is_based_on x.type (slice_get all base)) (Variant k) (ap (λ (b : Bool). b && is_based_on x.type (slice_get all base)) others)

based_only : (all behind : List (TypeEntry Label)) (k : ℕ) (e : TypeEntry Label) → list_all is_variant behind ≡ true → variant_fault all behind k e ≡ variant_fault all [] k e
based_only all behind k e h = ap (λ (t : Bool). of_some (λ base. unless (t && is_based_on e.type (slice_get all base)) (Variant k)) e.base) h

variants_left : (all l : List (TypeEntry Label)) (k : ℕ) → list_all is_variant l ≡ true → types_fault all k l ≡ first_in (variant_fault all []) k l
variants_left all [] k h = refl
variants_left all (e ∷ l) k h =
    let others = rest (is_variant e) (list_all is_variant l) h in
    ap₂ or_else (based_only all l k e others) (variants_left all l (suc k) others)
  where
    rest : (a b : Bool) → (a && b) ≡ true → b ≡ true
    rest true b q = q
    rest false b q = absurd cc

-- where the first variant is known
pub record FirstAt (types : List (TypeEntry Label)) (i : ℕ) : Type 0 where
  pub plain : ArePlain types i
  pub entry : TypeEntry Label
  pub is : slice_get types i ≡ Some entry
  pub variant : is_variant entry ≡ true

pub first_found : (types : List (TypeEntry Label)) (i : ℕ) → Some i ≡ position is_variant types → FirstAt types i
first_found types i e =
    let d : TypeEntry Label = record { base = None; type = no_function_type } in
    let p = position-Some is_variant types i d (sym e) in
    record { plain = λ k x lt. (position-Some is_variant types i x (sym e)).2 k lt; entry = get_or types i d; is = slice_get-get_or types i d p.0; variant = p.1 }

first_of_drop : (l : List (TypeEntry Label)) (i : ℕ) (e : TypeEntry Label) → slice_get l i ≡ Some e → slice_get (drop i l) 0 ≡ Some e
first_of_drop [] i e q = absurd cc
first_of_drop (x ∷ l) zero e q = q
first_of_drop (x ∷ l) (suc i) e q = first_of_drop l i e q

from_first : (types : List (TypeEntry Label)) (i : ℕ) → FirstAt types i → types_fault types 0 types ≡ types_fault types i (drop i types)
from_first types i h =
    let next : 0 + i ≡ i = omega arith in
    skip_plain types types 0 i h.plain ∙ ap (λ (n : ℕ). types_fault types n (drop i types)) next

pub no_variants : (types : List (TypeEntry Label)) → None ≡ position is_variant types → types_fault types 0 types ≡ None
no_variants types e = go types 0 (λ k d lt. plain k d lt)
  where
    past : (p : ℕ) → None ≡ cond (nat_lt p (length types)) (Some p) None → length types ≤ p
    past p q = elim (cases_Bool (nat_lt p (length types))) [
      | inl t ↦ absurd (none-some p (q ∙ ap (λ (b : Bool). cond b (Some p) None) t))
      | inr f ↦ ltb-false p (length types) f
    ]

    plain : ArePlain types (length types)
    plain k d lt = fails_before_first is_variant types k d (omega (arith, lt, past (position_or_len is_variant types) e))

    go : (l : List (TypeEntry Label)) (k : ℕ) → ArePlain l (length l) → types_fault types k l ≡ None
    go [] k p = refl
    go (x ∷ l) k p = skip (variant_fault types l k x) (types_fault types (suc k) l) (plain_none types l k x (p 0 x (omega arith))) ∙ go l (suc k) (λ n d lt. p (suc n) d (omega (arith, lt)))

pub types_stray : (types : List (TypeEntry Label)) (i : ℕ) → FirstAt types i → false ≡ list_all is_variant (drop i types) → types_fault types 0 types ≡ Some (Variant i)
types_stray types i h e = from_first types i h ∙ stray types (drop i types) i (sym e) h.entry None (first_of_drop types i h.entry h.is) h.variant

pub types_left : (types : List (TypeEntry Label)) (i : ℕ) → FirstAt types i → true ≡ list_all is_variant (drop i types) → types_fault types 0 types ≡ first_in (variant_fault types []) i (drop i types)
types_left types i h e = from_first types i h ∙ variants_left types (drop i types) i (sym e)

-- ---- a variant's base

type_at : (m : Module Label) (i : ℕ) (e : TypeEntry Label) → slice_get m.types i ≡ Some e → type_named m i ≡ e.type
type_at m i e is = ap (λ o. unwrap_or o no_function_type) (slice_get-map (λ (x : TypeEntry Label). x.type) m.types i ∙ ap (option_map (λ (x : TypeEntry Label). x.type)) is)

base_fault : (types : List (TypeEntry Label)) (i base : ℕ) (h : EntryAt types i (Some base)) (o : Option (TypeEntry Label)) → slice_get types base ≡ o → fault_at (variant_fault types []) types i ≡ unless (is_based_on h.entry.type o) (Variant i)
base_fault types i base h o e =
    at_item (variant_fault types []) types i h.entry _ h.is (ap (of_some (λ (b : ℕ). unless (is_based_on h.entry.type (slice_get types b)) (Variant i))) h.based ∙ ap (λ x. unless (is_based_on h.entry.type x) (Variant i)) e)

pub no_base : (types : List (TypeEntry Label)) (i : ℕ) → EntryAt types i None → fault_at (variant_fault types []) types i ≡ None
no_base types i h = at_item (variant_fault types []) types i h.entry _ h.is (plain_none types [] i h.entry (ap is_some h.based))

pub base_missing : (types : List (TypeEntry Label)) (i base : ℕ) → EntryAt types i (Some base) → length types ≤ base → fault_at (variant_fault types []) types i ≡ Some (Variant i)
base_missing types i base h le = base_fault types i base h None (slice_get_past types base le)

pub base_variant : (types : List (TypeEntry Label)) (i base : ℕ) (o : Option ℕ) → EntryAt types i (Some base) → EntryAt types base o → is_some o ≡ true → fault_at (variant_fault types []) types i ≡ Some (Variant i)
base_variant types i base o h b e =
    base_fault types i base h (Some b.entry) b.is
    ∙ has_fault (not (is_variant b.entry) && erases_alike h.entry.type b.entry.type) (Variant i) (ap (λ (t : Bool). not t && erases_alike h.entry.type b.entry.type) (variant_at types base o true b e))

base_plain : (m : Module Label) (i base : ℕ) (o : Option ℕ) (h : EntryAt m.types i (Some base)) (b : EntryAt m.types base o) → is_some o ≡ false
    → fault_at (variant_fault m.types []) m.types i ≡ unless (erases_alike (type_named m i) (type_named m base)) (Variant i)
base_plain m i base o h b e =
    base_fault m.types i base h (Some b.entry) b.is
    ∙ ap (λ (t : Bool). unless (not t && erases_alike h.entry.type b.entry.type) (Variant i)) (variant_at m.types base o false b e)
    ∙ ap (λ (t : FunctionType Label). unless (erases_alike t b.entry.type) (Variant i)) (sym (type_at m i h.entry h.is))
    ∙ ap (λ (t : FunctionType Label). unless (erases_alike (type_named m i) t) (Variant i)) (sym (type_at m base b.entry b.is))

pub base_other : (m : Module Label) (i base : ℕ) (o : Option ℕ) → EntryAt m.types i (Some base) → EntryAt m.types base o → is_some o ≡ false → erases_alike (type_named m i) (type_named m base) ≡ false
    → fault_at (variant_fault m.types []) m.types i ≡ Some (Variant i)
base_other m i base o h b e n = base_plain m i base o h b e ∙ has_fault (erases_alike (type_named m i) (type_named m base)) (Variant i) n

pub base_alike : (m : Module Label) (i base : ℕ) (o : Option ℕ) → EntryAt m.types i (Some base) → EntryAt m.types base o → is_some o ≡ false → erases_alike (type_named m i) (type_named m base) ≡ true
    → fault_at (variant_fault m.types []) m.types i ≡ None
base_alike m i base o h b e y = base_plain m i base o h b e ∙ no_fault (erases_alike (type_named m i) (type_named m base)) (Variant i) y
