-- The site of a name.
use Rattle.std.proofs.Common.{◌≡◌, ◌≤◌, ◌<◌, ℕ, Bool, true, false, List, length, get_or, Option, Some, None, option_map, slice_get, cond, nat_lt, refl, sym, ap, ◌∙◌, arith}
use Rattle.std.specs.Prelude.{◌↔◌}
use Rattle.std.specs.List.{position_or_len}
use Rattle.std.specs.declared.cmp.Ordering.{Ordering}
use Rattle.std.specs.declared.cmp.Ordering.TheVariants.{Less, Equal, Greater}
use Rattle.std.proofs.lemmas.Option.{none-some, slice_get_within, slice_get-get_or, get_or_from_slice_get}
use Rattle.std.proofs.lemmas.List.Sums.{fails_before_first, passes_at_first}
use Rattle.std.proofs.lemmas.Bool.{ltb-true, ltb-false}
use Rattle.ctw_labels.specs.declared.name.SiteName.{SiteName}
use Rattle.ctw_labels.specs.Names.{Site}
use Rattle.ctw_labels.specs.Order.{order, key_of, name_at}
use Rattle.ctw_labels.proofs.NameLaws.{not_before_itself, not_behind_itself, same_name}
use Rattle.ctw_least.specs.Marked.{is_equal, site_named}

-- ---- the site of a name

named_there : (o : Option Site) (name : SiteName) → option_map (λ s. s.name) o ≡ Some name → (s : Site) × (o ≡ Some s) × (s.name ≡ name)
named_there None name e = absurd (none-some name e)
named_there (Some s) name e = let q : s.name ≡ name = cc in (s, refl, q)

order_itself : (a : SiteName) → order a a ≡ Equal
order_itself a = go (order a a) refl
  where
    go : (o : Ordering) → order a a ≡ o → o ≡ Equal
    go Less e = absurd (not_before_itself (key_of a) e)
    go Equal e = refl
    go Greater e = absurd (not_behind_itself (key_of a) e)

equal_names : (a b : SiteName) → is_equal (order a b) ≡ true → a ≡ b
equal_names a b e = go (order a b) refl e
  where
    go : (o : Ordering) → order a b ≡ o → is_equal o ≡ true → a ≡ b
    go Less q e = absurd cc
    go Equal q e = same_name a b q
    go Greater q e = absurd cc

module _ (sites : List Site) (name : SiteName) where
  any_site : Site
  any_site = record { name = name; yields = None }

  passes : (s : Site) → s.name ≡ name → is_equal (order s.name name) ≡ true
  passes s e = ap (λ a. is_equal (order a name)) e ∙ ap is_equal (order_itself name)

  abbrev first : ℕ
  first = position_or_len (λ s. is_equal (order s.name name)) sites

  pub site_found : (r : Option ℕ) → ((k : ℕ) → (r ≡ Some k) ↔ (name_at sites k ≡ Some name)) → site_named sites name ≡ r
  unfolding site_named
  site_found r h = go (nat_lt first (length sites)) refl
    where
      there : first < length sites → r ≡ Some first
      there lt =
          let s = get_or sites first any_site in
          let e = equal_names s.name name (passes_at_first (λ s. is_equal (order s.name name)) sites any_site lt) in
          (h first).1 (ap (option_map (λ s. s.name)) (slice_get-get_or sites first any_site lt) ∙ ap Some e)

      nowhere : length sites ≤ first → (o : Option ℕ) → r ≡ o → None ≡ o
      nowhere le None e = refl
      nowhere le (Some k) e =
          let n = named_there (slice_get sites k) name ((h k).0 e) in
          let lt = slice_get_within sites k n.0 n.1 in
          let g = get_or_from_slice_get sites k n.0 any_site n.1 in
          let f = fails_before_first (λ s. is_equal (order s.name name)) sites k any_site (omega (arith, lt, le)) in
          let t = passes (get_or sites k any_site) (ap (λ (s : Site). s.name) g ∙ n.2) in
          let w : true ≡ false = sym t ∙ f in absurd cc

      go : (b : Bool) → nat_lt first (length sites) ≡ b → cond b (Some first) None ≡ r
      go true t = sym (there (ltb-true first (length sites) t))
      go false t = nowhere (ltb-false first (length sites) t) r refl
