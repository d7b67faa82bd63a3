-- The loop that takes the sites that have to be public by a rule.
use Rattle.std.proofs.Common.{◌≡◌, ◌≤◌, ◌<◌, ℕ, ◌+◌, true, false, is_some, List, [], ◌∷◌, ◌++◌, length, Option, Some, None, unwrap_or, ◌⊎◌, inl, inr, refl, sym, ap, ◌∙◌, subst, arith}
use Rattle.std.specs.Prelude.{◌↔◌, Contains, All}
use Rattle.std.proofs.lemmas.Bool.{cases_order}
use Rattle.std.proofs.lemmas.Option.{slice_get_past, unwrap_or-slice_get}
use Rattle.std.proofs.lemmas.List.Elements.{All-push, Contains-append_left, Contains-push, Contains-push_cases}
use Rattle.ctw_links.specs.Collected.{rule_of, must_at}
use Rattle.ctw_labels.proofs.NameLaws.{by_place}

-- a site has a rule that makes it public
abbrev pub IsRuled : List ℕ → ℕ → Type 0
IsRuled musts n = (r : ℕ) × (must_at musts n ≡ Some r)

-- which is then among those that are collected
ruled_within : (musts : List ℕ) (n : ℕ) → IsRuled musts n → n < length musts
ruled_within musts n r = go (cases_order n (length musts))
  where
    past : length musts ≤ n → ⊥
    past le = let w : None ≡ Some r.0 = ap rule_of (sym (sym (unwrap_or-slice_get musts n 0) ∙ ap (λ o. unwrap_or o 0) (slice_get_past musts n le))) ∙ r.1 in cc

    go : (n ≡ length musts) ⊎ ((n < length musts) ⊎ (length musts < n)) → n < length musts
    go (inl e) = absurd (past (omega (arith, e)))
    go (inr (inl lt)) = lt
    go (inr (inr lt)) = absurd (past (omega (arith, lt)))

-- of the sites before a number those that have a rule are taken, besides others
pub record EndsTaken (musts : List ℕ) (count : ℕ) (Others : ℕ → Type 0) (found : List ℕ) (site : ℕ) : Type 0 where
  pub taken : (n : ℕ) → Contains found n ↔ (((n < site) × IsRuled musts n) ⊎ Others n)
  pub below : All (λ n. n < count) found

module _ (musts : List ℕ) (count : ℕ) (Others : ℕ → Type 0) where
  pub ends_begin : (found : List ℕ) → ((n : ℕ) → Contains found n ↔ Others n) → All (λ n. n < count) found → EndsTaken musts count Others found 0
  ends_begin found h b = record { taken = λ n. ((λ c. inr ((h n).0 c)), back n); below = b }
    where
      back : (n : ℕ) → ((n < 0) × IsRuled musts n) ⊎ Others n → Contains found n
      back n (inl c) = absurd (omega (arith, c.0))
      back n (inr c) = (h n).1 c

  module _ (found : List ℕ) (site : ℕ) (h : EndsTaken musts count Others found site) where
    further : (n : ℕ) → ((n < site) × IsRuled musts n) ⊎ Others n → ((n < site + 1) × IsRuled musts n) ⊎ Others n
    further n (inl c) = inl (omega (arith, c.0), c.1)
    further n (inr c) = inr c

    pub ends_on : must_at musts site ≡ None → EndsTaken musts count Others found (site + 1)
    ends_on e = record { taken = λ n. ((λ c. further n ((h.taken n).0 c)), back n); below = h.below }
      where
        not_here : (n : ℕ) → n ≡ site → IsRuled musts n → ⊥
        not_here n q r = let w : None ≡ Some r.0 = sym e ∙ ap (must_at musts) (sym q) ∙ r.1 in absurd cc

        earlier : (n : ℕ) → n < site + 1 → IsRuled musts n → n < site
        earlier n lt r = by_place n site (λ l. l) (λ q. absurd (not_here n q r)) (λ l. absurd (omega (arith, l, lt)))

        back : (n : ℕ) → ((n < site + 1) × IsRuled musts n) ⊎ Others n → Contains found n
        back n (inl c) = (h.taken n).1 (inl (earlier n c.0 c.1, c.1))
        back n (inr c) = (h.taken n).1 (inr c)

    pub ends_more : (r : ℕ) → must_at musts site ≡ Some r → site < count → EndsTaken musts count Others (found ++ site ∷ []) (site + 1)
    ends_more r e lt = record { taken = λ n. ((λ c. there n (Contains-push_cases found site n c)), back n); below = All-push (λ n. n < count) found site h.below lt }
      where
        there : (n : ℕ) → Contains found n ⊎ (site ≡ n) → ((n < site + 1) × IsRuled musts n) ⊎ Others n
        there n (inl c) = further n ((h.taken n).0 c)
        there n (inr q) = inl (omega (arith, q), (r, ap (must_at musts) (sym q) ∙ e))

        here : (n : ℕ) → n ≡ site → Contains (found ++ site ∷ []) n
        here n q = subst (λ z. Contains (found ++ site ∷ []) z) (sym q) (Contains-push found site)

        kept : (n : ℕ) → Contains found n → Contains (found ++ site ∷ []) n
        kept n c = Contains-append_left found (site ∷ []) n c

        back : (n : ℕ) → ((n < site + 1) × IsRuled musts n) ⊎ Others n → Contains (found ++ site ∷ []) n
        back n (inl c) = by_place n site (λ l. kept n ((h.taken n).1 (inl (l, c.1)))) (here n) (λ l. absurd (omega (arith, l, c.0)))
        back n (inr c) = kept n ((h.taken n).1 (inr c))

  pub ends_end : (found : List ℕ) (site : ℕ) → length musts ≤ site → EndsTaken musts count Others found site → (n : ℕ) → Contains found n ↔ (IsRuled musts n ⊎ Others n)
  ends_end found site le h n = ((λ c. there ((h.taken n).0 c)), back)
    where
      there : ((n < site) × IsRuled musts n) ⊎ Others n → IsRuled musts n ⊎ Others n
      there (inl c) = inl c.1
      there (inr c) = inr c

      back : IsRuled musts n ⊎ Others n → Contains found n
      back (inl c) = (h.taken n).1 (inl (omega (arith, ruled_within musts n c, le), c))
      back (inr c) = (h.taken n).1 (inr c)

pub none_is : (o : Option ℕ) → is_some o ≡ false → o ≡ None
none_is None e = refl
none_is (Some r) e = absurd cc

pub some_is : (o : Option ℕ) → is_some o ≡ true → (r : ℕ) × (o ≡ Some r)
some_is None e = absurd cc
some_is (Some r) e = (r, refl)
