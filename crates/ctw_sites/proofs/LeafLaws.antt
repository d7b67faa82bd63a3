-- How many sites an opcode has.
use Rattle.std.proofs.Common.{◌≡◌, ◌≤◌, ℕ, ◌+◌, [], ◌∷◌, ◌++◌, length, Option, Some, None, refl, sym, ◌∙◌, ap, arith, length-append}
use Rattle.std.specs.Prelude.{option_map}
use Rattle.ctw_ops.specs.declared.types.Width.{Width}
use Rattle.ctw_ops.specs.Types.{ValueType}
use Rattle.ctw_ops.specs.Code.{Leaf, CallIndirect, Select, Const, Numeric, Op, Plain, Opens, Closes}
use Rattle.ctw_labels.specs.declared.name.SiteName.{SiteName}
use Rattle.ctw_labels.specs.declared.name.SiteName.TheVariants.{IParam, IResult}
use Rattle.ctw_labels.specs.Numbering.{BodyPlace, named_in, sites_for, site_if}
use Rattle.ctw_labels.proofs.Contexts.{type_length}
use Rattle.ctw_sites.specs.Leaves.{named_from, iparams, own_count, own_of, user_sites}
use Rattle.ctw_sites.proofs.PackedLaws.{sites_named, named_length, after_both}
use Rattle.ctw_sites.specs.Packed.{Kept, after}
use Rattle.std.proofs.lemmas.List.{append-nil}
use Rattle.ctw_labels.specs.Names.{site}

pub user_params : {A : Type 0} (P : BodyPlace A) (y : ℕ) → length (named_in P.types y).params ≤ own_count P (Plain (CallIndirect y))
user_params P y = let l = type_length (IParam P.func 0) (IResult P.func 0) (named_in P.types y) in omega (arith, l)

pub width_site : {A : Type 0} (name : SiteName) (t : Option (ValueType A)) → site_if name t ≡ site_if name (option_map (λ t. t.width) t)
width_site name None = refl
width_site name (Some t) = refl

pub user_is : {A : Type 0} (P : BodyPlace A) (at y p : ℕ) (w : Option Width) → p ≡ length (named_in P.types y).params → w ≡ option_map (λ t. t.width) (named_in P.types y).result
    → user_sites P.func at p w ≡ own_of P at (Plain (CallIndirect y))
user_is P at y p w e f =
    (λ i. user_sites P.func at (e i) (f i))
    ∙ ap (λ z. z ++ site_if (IResult P.func at) (option_map (λ t. t.width) (named_in P.types y).result)) (sym (sites_named (IParam P.func at) 0 (named_in P.types y).params))
    ∙ ap (λ z. sites_for (IParam P.func at) 0 (named_in P.types y).params ++ z) (sym (width_site (IResult P.func at) (named_in P.types y).result))

-- the opcode's number doesn't change how many there are
own_of_leaf : {A : Type 0} (P : BodyPlace A) (at : ℕ) (i : Leaf A) → length (own_of P at (Plain i)) ≡ own_count P (Plain i)
own_of_leaf P at (CallIndirect y) = type_length (IParam P.func at) (IResult P.func at) (named_in P.types y) ∙ sym (type_length (IParam P.func 0) (IResult P.func 0) (named_in P.types y))
own_of_leaf P at (Numeric op l) = refl
own_of_leaf P at (Select l) = refl
own_of_leaf P at (Const w l bits) = refl
own_of_leaf P at _ = refl

pub own_length : {A : Type 0} (P : BodyPlace A) (at : ℕ) (op : Op A) → length (own_of P at op) ≡ own_count P op
own_length P at (Plain i) = own_of_leaf P at i
own_length P at (Opens shape t) = refl
own_length P at (Closes closer) = refl

pub user_length : (f at p : ℕ) (w : Option Width) → length (user_sites f at p w) ≡ p + length (site_if (IResult f at) w)
user_length f at p w = let l = length-append (named_from (IParam f at) 0 p) (site_if (IResult f at) w) in let n = named_length (IParam f at) 0 p in omega (arith, l, n)

pub user_none : (k : Kept) (f at p : ℕ) (w : Option Width) → w ≡ None → after k (iparams f at p) ≡ after k (user_sites f at p w)
user_none k f at p w e = ap (after k) (sym (append-nil (iparams f at p)) ∙ ap (λ z. user_sites f at p z) (sym e))

pub user_some : (k : Kept) (f at p : ℕ) (w : Option Width) (v : Width) → w ≡ Some v → after (after k (iparams f at p)) (site (IResult f at) ∷ []) ≡ after k (user_sites f at p w)
user_some k f at p w v e = after_both k (iparams f at p) (site (IResult f at) ∷ []) ∙ ap (λ z. after k (user_sites f at p z)) (sym e)
