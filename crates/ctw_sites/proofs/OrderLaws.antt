-- What a name's order among others says of its number.
use Rattle.std.proofs.Common.{◌≡◌, ◌<◌, ℕ, List, Some, sym, ◌∙◌, ap, subst}
use Rattle.std.specs.declared.cmp.Ordering.TheVariants.{Less, Equal, Greater}
use Rattle.ctw_labels.specs.declared.name.SiteName.{SiteName}
use Rattle.ctw_labels.specs.Names.{Site}
use Rattle.ctw_labels.specs.Order.{key_of, order, name_at}
use Rattle.ctw_labels.proofs.NameLaws.{not_before_itself, not_behind_itself, not_both_ways, same_name, by_place}
use Rattle.ctw_sites.specs.Unpacked.{AreSites}

module _ (xs : List Site) (h : AreSites xs) (m : ℕ) (a x : SiteName) (e : name_at xs m ≡ Some a) where
  one_name : (k : ℕ) → name_at xs k ≡ Some x → k ≡ m → a ≡ x
  one_name k f q = let g : Some x ≡ Some a = sym f ∙ ap (name_at xs) q ∙ e in cc

  -- a name that stands behind that of number m has a greater number
  pub behind : order a x ≡ Less → (k : ℕ) → name_at xs k ≡ Some x → m < k
  behind o k f =
      by_place k m (λ l. absurd (not_both_ways (key_of a) (key_of x) o (h.rising k m x a l f e)))
      (λ q. absurd (not_before_itself (key_of x) (subst (λ z. order z x ≡ Less) (one_name k f q) o))) (λ l. l)

  -- one that stands before it has a smaller one
  pub ahead : order a x ≡ Greater → (k : ℕ) → name_at xs k ≡ Some x → k < m
  ahead o k f =
      by_place k m (λ l. l) (λ q. absurd (not_behind_itself (key_of x) (subst (λ z. order z x ≡ Greater) (one_name k f q) o)))
      (λ l. let r : order a x ≡ Less = h.rising m k a x l e f in let w : Less ≡ Greater = sym r ∙ o in absurd (less_greater w))
    where
      less_greater : Less ≡ Greater → ⊥
      less_greater w = cc

  -- the same name has this number alone
  pub alone : order a x ≡ Equal → (k : ℕ) → (Some m ≡ Some k → name_at xs k ≡ Some x) × (name_at xs k ≡ Some x → Some m ≡ Some k)
  alone o k =
      let s = same_name a x o in (
        λ q. let w : m ≡ k = cc in ap (name_at xs) (sym w) ∙ e ∙ ap Some s,
        λ f. by_place k m (λ l. absurd (not_before_itself (key_of x) (subst (λ z. order x z ≡ Less) s (h.rising k m x a l f e))))
            (λ q. ap Some (sym q)) (λ l. absurd (not_before_itself (key_of x) (subst (λ z. order z x ≡ Less) s (h.rising m k a x l e f)))),
      )
