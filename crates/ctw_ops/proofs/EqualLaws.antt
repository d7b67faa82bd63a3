-- Labels and types pass the tests for equality exactly where they are equal.
use Rattle.std.proofs.Common.{◌≡◌, Bool, true, false, ◌&&◌, List, [], ◌∷◌, Option, Some, None, refl, ap, ap₂, ◌∙◌, subst}
use Rattle.ctw_ops.specs.declared.types.Label.{Label}
use Rattle.ctw_ops.specs.declared.types.Label.TheVariants.{Public, Secret}
use Rattle.ctw_ops.specs.declared.types.Width.{Width}
use Rattle.ctw_ops.specs.declared.types.Width.TheVariants.{W32, W64}
use Rattle.ctw_ops.specs.declared.types.Trust.{Trust}
use Rattle.ctw_ops.specs.declared.types.Trust.TheVariants.{Untrusted, Trusted}
use Rattle.ctw_ops.specs.Types.{ValueType, FunctionType, EraseAlike, value_type, erase_function_type}
use Rattle.ctw_ops.specs.Equal.{same_label, same_width, same_trust, same_type, same_types, same_result, same_function_type, erases_alike}

pub both : (a b : Bool) → a && b ≡ true → (a ≡ true) × (b ≡ true)
both true true e = (refl, refl)
both true false e = cc
both false b e = cc

-- ---- what passes is equal

pub same_label_is : (l m : Label) → same_label l m ≡ true → l ≡ m
same_label_is Public Public e = refl
same_label_is Secret Secret e = refl
same_label_is Public Secret e = cc
same_label_is Secret Public e = cc

pub same_width_is : (w u : Width) → same_width w u ≡ true → w ≡ u
same_width_is W32 W32 e = refl
same_width_is W64 W64 e = refl
same_width_is W32 W64 e = cc
same_width_is W64 W32 e = cc

same_trust_is : (t u : Trust) → same_trust t u ≡ true → t ≡ u
same_trust_is Untrusted Untrusted e = refl
same_trust_is Trusted Trusted e = refl
same_trust_is Untrusted Trusted e = cc
same_trust_is Trusted Untrusted e = cc

pub same_type_is : (t u : ValueType Label) → same_type t u ≡ true → t ≡ u
same_type_is t u e =
    let parts = both (same_width t.width u.width) (same_label t.tag u.tag) e in
    ap₂ (λ (w : Width) (l : Label). value_type w l) (same_width_is t.width u.width parts.0) (same_label_is t.tag u.tag parts.1)

same_types_is : (ts us : List (ValueType Label)) → same_types ts us ≡ true → ts ≡ us
same_types_is [] [] e = refl
same_types_is (t ∷ ts) (u ∷ us) e =
    let parts = both (same_type t u) (same_types ts us) e in
    ap₂ (λ (t : ValueType Label) (ts : List (ValueType Label)). t ∷ ts) (same_type_is t u parts.0) (same_types_is ts us parts.1)
same_types_is [] (u ∷ us) e = cc
same_types_is (t ∷ ts) [] e = cc

same_result_is : (t u : Option (ValueType Label)) → same_result t u ≡ true → t ≡ u
same_result_is None None e = refl
same_result_is (Some t) (Some u) e = ap Some (same_type_is t u e)
same_result_is None (Some u) e = cc
same_result_is (Some t) None e = cc

abbrev of_parts : Trust → List (ValueType Label) → Option (ValueType Label) → FunctionType Label
of_parts trust params result = record { trust = trust; params = params; result = result }

pub same_function_type_is : (f g : FunctionType Label) → same_function_type f g ≡ true → f ≡ g
same_function_type_is f g e =
    let first = both (same_trust f.trust g.trust) (same_types f.params g.params && same_result f.result g.result) e in
    let second = both (same_types f.params g.params) (same_result f.result g.result) first.1 in
    ap (λ t. of_parts t f.params f.result) (same_trust_is f.trust g.trust first.0)
    ∙ ap (λ ps. of_parts g.trust ps f.result) (same_types_is f.params g.params second.0)
    ∙ ap (λ r. of_parts g.trust g.params r) (same_result_is f.result g.result second.1)

-- ---- what is equal passes

same_label_refl : (l : Label) → same_label l l ≡ true
same_label_refl Public = refl
same_label_refl Secret = refl

same_width_refl : (w : Width) → same_width w w ≡ true
same_width_refl W32 = refl
same_width_refl W64 = refl

same_trust_refl : (t : Trust) → same_trust t t ≡ true
same_trust_refl Untrusted = refl
same_trust_refl Trusted = refl

pub same_type_refl : (t : ValueType Label) → same_type t t ≡ true
same_type_refl t = ap₂ ◌&&◌ (same_width_refl t.width) (same_label_refl t.tag)

same_types_refl : (ts : List (ValueType Label)) → same_types ts ts ≡ true
same_types_refl [] = refl
same_types_refl (t ∷ ts) = ap₂ ◌&&◌ (same_type_refl t) (same_types_refl ts)

same_result_refl : (t : Option (ValueType Label)) → same_result t t ≡ true
same_result_refl None = refl
same_result_refl (Some t) = same_type_refl t

pub same_width_when : (w u : Width) → w ≡ u → same_width w u ≡ true
same_width_when w u e = subst (λ u. same_width w u ≡ true) e (same_width_refl w)

pub same_label_when : (l m : Label) → l ≡ m → same_label l m ≡ true
same_label_when l m e = subst (λ m. same_label l m ≡ true) e (same_label_refl l)

pub same_type_when : (t u : ValueType Label) → t ≡ u → same_type t u ≡ true
same_type_when t u e = subst (λ (u : ValueType Label). same_type t u ≡ true) e (same_type_refl t)

pub same_type_differs : (t u : ValueType Label) → (t ≡ u → ⊥) → same_type t u ≡ false
same_type_differs t u n = go (same_type t u) refl
  where
    go : (b : Bool) → same_type t u ≡ b → b ≡ false
    go true e = absurd (n (same_type_is t u e))
    go false e = refl

pub same_function_type_refl : (f : FunctionType Label) → same_function_type f f ≡ true
same_function_type_refl f = ap₂ ◌&&◌ (same_trust_refl f.trust) (ap₂ ◌&&◌ (same_types_refl f.params) (same_result_refl f.result))

pub same_function_type_when : (f g : FunctionType Label) → f ≡ g → same_function_type f g ≡ true
same_function_type_when f g e = subst (λ g. same_function_type f g ≡ true) e (same_function_type_refl f)

-- ---- types that erase alike

pub alike_refl : (f : FunctionType Label) → erases_alike f f ≡ true
alike_refl f = same_function_type_refl (erase_function_type f)

pub alike_is : (f g : FunctionType Label) → erases_alike f g ≡ true → EraseAlike f g
alike_is f g = same_function_type_is (erase_function_type f) (erase_function_type g)

pub alike_when : (f g : FunctionType Label) → EraseAlike f g → erases_alike f g ≡ true
alike_when f g = same_function_type_when (erase_function_type f) (erase_function_type g)
