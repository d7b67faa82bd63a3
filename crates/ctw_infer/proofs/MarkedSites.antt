-- Marks by the numbers of their sites, and the loop that takes those of a label.
use Rattle.std.proofs.Common.{◌≡◌, ◌≤◌, ◌<◌, ℕ, zero, suc, ◌+◌, Bool, true, false, List, [], ◌∷◌, ◌++◌, length, take, get_or, Option, Some, None, option_map, slice_get, ◌⊎◌, inl, inr, cond, nat_lt, refl, sym, ap, ◌∙◌, subst, arith}
use Rattle.std.specs.Prelude.{◌↔◌, Contains, All}
use Rattle.std.specs.List.{position_or_len, position, cons_option}
use Rattle.std.specs.declared.cmp.Ordering.{Ordering}
use Rattle.std.specs.declared.cmp.Ordering.TheVariants.{Less, Equal, Greater}
use Rattle.std.proofs.lemmas.Option.{none-some, slice_get_within, slice_get-get_or, get_or_from_slice_get}
use Rattle.std.proofs.lemmas.List.Sums.{fails_before_first, passes_at_first}
use Rattle.std.proofs.lemmas.Bool.{ltb-true, ltb-false}
use Rattle.std.proofs.lemmas.List.{take_all}
use Rattle.std.proofs.lemmas.List.Elements.{All-nil, All-push, Contains-append_left, Contains-append_cases, Contains-push, Contains-push_cases, filter_map-append}
use Rattle.ctw_ops.specs.declared.types.Label.{Label}
use Rattle.ctw_labels.specs.declared.name.SiteName.{SiteName}
use Rattle.ctw_labels.specs.Names.{Site}
use Rattle.ctw_labels.specs.Order.{order, key_of, name_at}
use Rattle.ctw_labels.specs.Fits.{Mark}
use Rattle.ctw_labels.proofs.NameLaws.{not_before_itself, not_behind_itself, same_name}
use Rattle.ctw_least.specs.Flows.{IsMarked}
use Rattle.ctw_least.specs.Marked.{is_equal, site_named, mark_on, marks_on}
use Rattle.ctw_infer.proofs.Firsts.{only}

-- ---- the site of a name

named_there : (o : Option Site) (name : SiteName) → option_map (λ s. s.name) o ≡ Some name → (s : Site) × (o ≡ Some s) × (s.name ≡ name)
named_there None name e = absurd (none-some name e)
named_there (Some s) name e = let q : s.name ≡ name = cc in (s, refl, q)

pub named_within : (sites : List Site) (k : ℕ) (name : SiteName) → name_at sites k ≡ Some name → k < length sites
named_within sites k name e = let n = named_there (slice_get sites k) name e in slice_get_within sites k n.0 n.1

order_itself : (a : SiteName) → order a a ≡ Equal
order_itself a = go (order a a) refl
  where
    go : (o : Ordering) → order a a ≡ o → o ≡ Equal
    go Less e = absurd (not_before_itself (key_of a) e)
    go Equal e = refl
    go Greater e = absurd (not_behind_itself (key_of a) e)

false_true : false ≡ true → ⊥
false_true e = cc

equal_names : (a b : SiteName) → is_equal (order a b) ≡ true → a ≡ b
equal_names a b e = go (order a b) refl e
  where
    go : (o : Ordering) → order a b ≡ o → is_equal o ≡ true → a ≡ b
    go Less q e = absurd (false_true e)
    go Equal q e = same_name a b q
    go Greater q e = absurd (false_true e)

module _ (sites : List Site) (name : SiteName) (test : Site → Bool) (passes : (s : Site) → s.name ≡ name → test s ≡ true) (named : (s : Site) → test s ≡ true → s.name ≡ name) where
  any_site : Site
  any_site = record { name = name; yields = None }

  -- a site that is alone in passing a test is the one at the first place that passes
  found_by : (r : Option ℕ) → ((k : ℕ) → (r ≡ Some k) ↔ (name_at sites k ≡ Some name)) → position test sites ≡ r
  found_by r h = go (nat_lt (position_or_len test sites) (length sites)) refl
    where
      there : position_or_len test sites < length sites → r ≡ Some (position_or_len test sites)
      there lt =
          let e = named (get_or sites (position_or_len test sites) any_site) (passes_at_first test sites any_site lt) in
          (h (position_or_len test sites)).1 (ap (option_map (λ s. s.name)) (slice_get-get_or sites (position_or_len test sites) any_site lt) ∙ ap Some e)

      nowhere : length sites ≤ position_or_len test sites → (o : Option ℕ) → r ≡ o → None ≡ o
      nowhere le None e = refl
      nowhere le (Some k) e =
          let n = named_there (slice_get sites k) name ((h k).0 e) in
          let lt = slice_get_within sites k n.0 n.1 in
          let g = get_or_from_slice_get sites k n.0 any_site n.1 in
          let f = fails_before_first test sites k any_site (omega (arith, lt, le)) in
          let t = passes (get_or sites k any_site) (ap (λ (s : Site). s.name) g ∙ n.2) in
          absurd (false_true (sym f ∙ t))

      go : (b : Bool) → nat_lt (position_or_len test sites) (length sites) ≡ b → cond b (Some (position_or_len test sites)) None ≡ r
      go true t = sym (there (ltb-true (position_or_len test sites) (length sites) t))
      go false t = nowhere (ltb-false (position_or_len test sites) (length sites) t) r refl

equal_order : (a b : SiteName) → a ≡ b → is_equal (order a b) ≡ true
equal_order a b e = subst (λ z. is_equal (order z b) ≡ true) (sym e) (ap is_equal (order_itself b))

pub site_found : (sites : List Site) (name : SiteName) (r : Option ℕ) → ((k : ℕ) → (r ≡ Some k) ↔ (name_at sites k ≡ Some name)) → site_named sites name ≡ r
unfolding site_named
site_found sites name r h = found_by sites name (λ s. is_equal (order s.name name)) (λ s e. equal_order s.name name e) (λ s e. equal_names s.name name e) r h

-- ---- the loop

take_there : {A : Type 0} (l : List A) (i : ℕ) (a : A) → slice_get l i ≡ Some a → take (i + 1) l ≡ take i l ++ a ∷ []
take_there l i a e = let n : suc i ≡ i + 1 = omega arith in ap (λ (k : ℕ). take k l) (sym n) ∙ go l i a e
  where
    go : {A : Type 0} (l : List A) (i : ℕ) (a : A) → slice_get l i ≡ Some a → take (suc i) l ≡ take i l ++ a ∷ []
    go [] i a e = absurd cc
    go (b ∷ l) zero a e = let q : b ≡ a = cc in ap (λ x. x ∷ take 0 l) q ∙ ap (λ t. a ∷ t) (take_none l)
      where
        take_none : {A : Type 0} (l : List A) → take 0 l ≡ []
        take_none [] = refl
        take_none (x ∷ l) = refl
    go (b ∷ l) (suc i) a e = ap (λ t. b ∷ t) (go l i a e)

-- the marks before a number are taken
pub record MarksTaken (sites : List Site) (marks : List (SiteName × Label)) (label : Label) (found : List ℕ) (i : ℕ) : Type 0 where
  pub taken : (n : ℕ) → Contains found n ↔ IsMarked (marks_on sites (take i marks)) n label
  pub below : All (λ n. n < length sites) found

module _ (sites : List Site) (marks : List (SiteName × Label)) (label : Label) where
  pub marks_begin : (found : List ℕ) → found ≡ [] → MarksTaken sites marks label found 0
  marks_begin found e = subst (λ z. MarksTaken sites marks label z 0) (sym e) (record {
    taken = λ n. ((λ c. absurd (omega (arith, c.1))), (λ c. absurd (none_of n marks c)));
    below = All-nil (λ n. n < length sites);
  })
    where
      none_of : (n : ℕ) (l : List (SiteName × Label)) → IsMarked (marks_on sites (take 0 l)) n label → ⊥
      none_of n [] c = absurd (omega (arith, c.1))
      none_of n (k ∷ l) c = absurd (omega (arith, c.1))

  module _ (found : List ℕ) (i : ℕ) (k : SiteName × Label) (e : slice_get marks i ≡ Some k) (h : MarksTaken sites marks label found i) where
    more : marks_on sites (take (i + 1) marks) ≡ marks_on sites (take i marks) ++ cons_option (mark_on sites k) []
    more = ap (marks_on sites) (take_there marks i k e) ∙ filter_map-append (mark_on sites) (take i marks) (k ∷ [])

    same : ((n : ℕ) → IsMarked (cons_option (mark_on sites k) []) n label → ⊥) → MarksTaken sites marks label found (i + 1)
    same none = record {
      taken = λ n. (
        (λ c. subst (λ z. IsMarked z n label) (sym more) (Contains-append_left (marks_on sites (take i marks)) (cons_option (mark_on sites k) []) _ ((h.taken n).0 c))),
        (λ c. back n (Contains-append_cases (marks_on sites (take i marks)) (cons_option (mark_on sites k) []) _ (subst (λ z. IsMarked z n label) more c))),
      );
      below = h.below;
    }
      where
        back : (n : ℕ) → IsMarked (marks_on sites (take i marks)) n label ⊎ IsMarked (cons_option (mark_on sites k) []) n label → Contains found n
        back n (inl c) = (h.taken n).1 c
        back n (inr c) = absurd (none n c)

    -- a mark of another label
    pub marks_other : (k.1 ≡ label → ⊥) → MarksTaken sites marks label found (i + 1)
    marks_other d = same (λ n c. go n (site_named sites k.0) c)
      where
        go : (n : ℕ) (o : Option ℕ) → IsMarked (cons_option (option_map (λ n. record { site = n; label = k.1 }) o) []) n label → ⊥
        go n None c = absurd (omega (arith, c.1))
        go n (Some s) c = d (ap (λ (z : Mark). z.label) (only _ _ c))

    -- a mark whose name is no site's
    pub marks_nowhere : site_named sites k.0 ≡ None → MarksTaken sites marks label found (i + 1)
    marks_nowhere w = same (λ n c. go n (subst (λ o. IsMarked (cons_option (option_map (λ n. record { site = n; label = k.1 }) o) []) n label) w c))
      where
        go : (n : ℕ) → IsMarked [] n label → ⊥
        go n c = absurd (omega (arith, c.1))

    pub marks_more : (site : ℕ) → k.1 ≡ label → site_named sites k.0 ≡ Some site → site < length sites → MarksTaken sites marks label (found ++ site ∷ []) (i + 1)
    marks_more site d w lt = record {
      taken = λ n. ((λ c. there n (Contains-push_cases found site n c)), (λ c. back n (Contains-append_cases (marks_on sites (take i marks)) (record { site = site; label = label } ∷ []) _ (subst (λ z. IsMarked z n label) now c))));
      below = All-push (λ n. n < length sites) found site h.below lt;
    }
      where
        made : cons_option (mark_on sites k) [] ≡ record { site = site; label = label } ∷ []
        made = ap (λ o. cons_option (option_map (λ n. record { site = n; label = k.1 }) o) []) w ∙ ap (λ l. record { site = site; label = l } ∷ []) d

        now : marks_on sites (take (i + 1) marks) ≡ marks_on sites (take i marks) ++ record { site = site; label = label } ∷ []
        now = more ∙ ap (λ l. marks_on sites (take i marks) ++ l) made

        there : (n : ℕ) → Contains found n ⊎ (site ≡ n) → IsMarked (marks_on sites (take (i + 1) marks)) n label
        there n (inl c) = subst (λ z. IsMarked z n label) (sym now) (Contains-append_left (marks_on sites (take i marks)) (record { site = site; label = label } ∷ []) _ ((h.taken n).0 c))
        there n (inr q) = subst (λ z. IsMarked z n label) (sym now) (subst (λ z. Contains (marks_on sites (take i marks) ++ record { site = site; label = label } ∷ []) (record { site = z; label = label })) q (Contains-push (marks_on sites (take i marks)) (record { site = site; label = label })))

        back : (n : ℕ) → IsMarked (marks_on sites (take i marks)) n label ⊎ IsMarked (record { site = site; label = label } ∷ []) n label → Contains (found ++ site ∷ []) n
        back n (inl c) = Contains-append_left found (site ∷ []) n ((h.taken n).1 c)
        back n (inr c) = subst (λ z. Contains (found ++ site ∷ []) z) (ap (λ (z : Mark). z.site) (only _ _ c)) (Contains-push found site)

  pub marks_end : (found : List ℕ) (i : ℕ) → length marks ≤ i → MarksTaken sites marks label found i → (n : ℕ) → Contains found n ↔ IsMarked (marks_on sites marks) n label
  marks_end found i le h n = subst (λ z. Contains found n ↔ IsMarked (marks_on sites z) n label) (take_all i marks le) (h.taken n)
