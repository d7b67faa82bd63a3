-- Variants are found by how their entries are spelled.
use Rattle.std.proofs.Common.{◌≡◌, ℕ, suc, ◌+◌, Bool, true, false, cond, List, [], ◌∷◌, ◌++◌, length, Option, Some, None, if◌then◌else◌, refl, sym, ap, subst, ◌∙◌, arith, append-nil}
use Rattle.std.specs.Prelude.{◌||◌, option_map}
use Rattle.std.specs.List.{AllByRecursion}
use Rattle.std.specs.Str.{bytes_eq}
use Rattle.std.specs.Ordering.{is_eq, nat_cmp}
use Rattle.std.specs.Cmp.Lexicographic.{slice_cmp}
use Rattle.std.specs.Global.{Vec}
use Rattle.std.specs.BTreeMap.{BTreeMap, get_by, UpdatesBy}
use Rattle.std.specs.Map.{lookup, IsKeyTest, AreApart, KeepsOthers}
use Rattle.std.proofs.lemmas.Cmp.{eq_by_cmp_equiv, nat_list_cmp_total, nat_list_eq_equiv}
use Rattle.std.proofs.lemmas.Map.Text.{is_eq-slice_cmp}
use Rattle.std.proofs.lemmas.Slice.Eq.{bytes_eq-Decides}
use Rattle.ctw_ops.specs.declared.types.Label.{Label}
use Rattle.ctw_ops.specs.Tree.{TypeEntry}
use Rattle.ctw_labels.specs.Placed.{TypeUse, is_all_public, same_use, has_use, place_of_use, with_use, variant_entry}
use Rattle.ctw_labels.proofs.UseLaws.{use_same, use_refl}
use Rattle.ctw_leb.proofs.Exact.{one_spelling}
use Rattle.ctw_form.specs.Spelled.{IsTypeEntry}
use Rattle.ctw_form.specs.Read.{type_entry_at}
use Rattle.ctw_form.proofs.TypeForms.{exact_type_entry}
use Rattle.ctw_write.specs.Canon.{all_texts}
use Rattle.ctw_write.proofs.FormedItems.{entry_spelled}
use Rattle.ctw_write.proofs.Pieces.{all_texts-append}
use Rattle.ctw_place.specs.declared.variants.Variants.{Variants}
use Rattle.ctw_place.specs.Variants.{use_text, IsSmallUse, place_of_text, Holds}
use Rattle.ctw_place.proofs.UseLaws.{place_end, all_one}

abbrev Uses : Type 0
Uses = List (TypeUse Label)

-- ---- one spelling each

text_is : (u v : TypeUse Label) → IsSmallUse u → IsSmallUse v → use_text u ≡ use_text v → u ≡ v
text_is u v h k e =
    let both = one_spelling (IsTypeEntry true) (type_entry_at true) (exact_type_entry true) (use_text u) (use_text v) [] [] (variant_entry u) (variant_entry v)
    (entry_spelled true (variant_entry u) h (λ e. absurd cc)) (entry_spelled true (variant_entry v) k (λ e. absurd cc)) (ap (λ (l : List ℕ). l ++ []) e) in
    let base : Some u.base ≡ Some v.base = ap (λ (e : TypeEntry Label). e.base) both.1 in
    let b : u.base ≡ v.base = cc in
    λ i. record { base = b i; type = (both.1 i).type }

equal_tests : (a b : Bool) → (a ≡ true → b ≡ true) → (b ≡ true → a ≡ true) → a ≡ b
equal_tests true true f g = refl
equal_tests false false f g = refl
equal_tests true false f g = sym (f refl)
equal_tests false true f g = g refl

same_text : (u v : TypeUse Label) → IsSmallUse u → IsSmallUse v → bytes_eq (use_text u) (use_text v) ≡ same_use v u
same_text u v h k = equal_tests (bytes_eq (use_text u) (use_text v)) (same_use v u)
    (λ e. let q = text_is u v h k ((bytes_eq-Decides (use_text u) (use_text v)).0 e) in ap (λ z. same_use z u) (sym q) ∙ use_refl u)
    (λ e. (bytes_eq-Decides (use_text u) (use_text v)).1 (ap use_text (sym (use_same v u e))))

-- ---- the place of a spelling

four : (b h : Bool) (p : ℕ) → cond b (Some 0) (option_map suc (cond h (Some p) None)) ≡ cond (b || h) (Some (cond b 0 (suc p))) None
four true h p = refl
four false true p = refl
four false false p = refl

place_same : (vs : Uses) (u : TypeUse Label) → AllByRecursion IsSmallUse vs → IsSmallUse u → place_of_text (use_text u) vs ≡ (if has_use vs u then Some (place_of_use vs u) else None)
place_same [] u h k = refl
place_same (v ∷ vs) u h k =
    ap (λ z. cond z (Some 0) (option_map suc (place_of_text (use_text u) vs))) (same_text u v k h.0)
    ∙ ap (λ z. cond (same_use v u) (Some 0) (option_map suc z)) (place_same vs u h.1 k)
    ∙ four (same_use v u) (has_use vs u) (place_of_use vs u)

suc_none : (o : Option ℕ) → option_map suc o ≡ None → o ≡ None
suc_none None e = refl
suc_none (Some x) e = cc

none_both : (b : Bool) (o : Option ℕ) → cond b (Some 0) (option_map suc o) ≡ None → (b ≡ false) × (o ≡ None)
none_both true o e = cc
none_both false o e = (refl, suc_none o e)

text_end : (key : List ℕ) (vs : Uses) (u : TypeUse Label) → place_of_text key vs ≡ None → bytes_eq key (use_text u) ≡ true → place_of_text key (vs ++ u ∷ []) ≡ Some (length vs)
text_end key [] u n e = ap (λ z. cond z (Some 0) None) e
text_end key (v ∷ vs) u n e =
    let b = none_both (bytes_eq key (use_text v)) (place_of_text key vs) n in
    ap (λ z. cond z (Some 0) (option_map suc (place_of_text key (vs ++ u ∷ [])))) b.0 ∙ ap (option_map suc) (text_end key vs u b.1 e)

text_other : (key : List ℕ) (vs : Uses) (u : TypeUse Label) → bytes_eq key (use_text u) ≡ false → place_of_text key (vs ++ u ∷ []) ≡ place_of_text key vs
text_other key [] u e = ap (λ z. cond z (Some 0) None) e
text_other key (v ∷ vs) u e = ap (λ z. cond (bytes_eq key (use_text v)) (Some 0) (option_map suc z)) (text_other key vs u e)

-- ---- the map, behind one insertion

abbrev Numbers : Type 0
Numbers = BTreeMap (Vec ℕ) ℕ

abbrev pub number_of : List ℕ → Numbers → Option ℕ
number_of key m = get_by (λ k. slice_cmp nat_cmp key k.items) m

abbrev Inserts : Numbers → Numbers → List ℕ → ℕ → Type 0
Inserts m n bs place = UpdatesBy (λ x y. slice_cmp nat_cmp x.items y.items) (λ k. slice_cmp nat_cmp bs k.items) m n (Some place)

apart : (bs cs ks : List ℕ) → bytes_eq bs cs ≡ false → is_eq (slice_cmp nat_cmp bs ks) ≡ true → is_eq (slice_cmp nat_cmp cs ks) ≡ false
apart bs cs ks n y =
    is_eq-slice_cmp cs ks ∙ nat_list_eq_equiv.symm cs ks ∙ sym (nat_list_eq_equiv.congr bs ks cs (sym (is_eq-slice_cmp bs ks) ∙ y)) ∙ n

other_entries : {K X : Type 0} (eq : K → K → Bool) (test : K → Bool) (old new : List (K × X)) → KeepsOthers eq test old new → (other : K → Bool) → IsKeyTest eq other → AreApart test other → lookup other new ≡ lookup other old
unfolding KeepsOthers
other_entries eq test old new h = h

other_number : (m n : Numbers) (bs cs : List ℕ) (place : ℕ) → Inserts m n bs place → bytes_eq bs cs ≡ false → number_of cs n ≡ number_of cs m
other_number m n bs cs place h e = other_entries _ _ _ _ h.3 _ (λ x y. (eq_by_cmp_equiv nat_list_cmp_total).congr cs x.items y.items) (λ k. apart bs cs k.items e)

told_more : (vs : Uses) (u : TypeUse Label) (m n : Numbers) → ((key : List ℕ) → number_of key m ≡ place_of_text key vs) → number_of (use_text u) m ≡ None → Inserts m n (use_text u) (length vs) → (key : List ℕ) → number_of key n ≡ place_of_text key (vs ++ u ∷ [])
told_more vs u m n told none h cs = go (bytes_eq (use_text u) cs) refl
  where
    go : (c : Bool) → bytes_eq (use_text u) cs ≡ c → number_of cs n ≡ place_of_text cs (vs ++ u ∷ [])
    go true e =
        let same : use_text u ≡ cs = (bytes_eq-Decides (use_text u) cs).0 e in
        let here : number_of cs n ≡ Some (length vs) = ap (λ k. number_of k n) (sym same) ∙ h.1 in
        let missing : place_of_text cs vs ≡ None = sym (told cs) ∙ ap (λ k. number_of k m) (sym same) ∙ none in
        here ∙ sym (text_end cs vs u missing ((bytes_eq-Decides cs (use_text u)).1 (sym same)))
    go false e = other_number m n (use_text u) cs (length vs) h e ∙ told cs ∙ sym (text_other cs vs u (nat_list_eq_equiv.symm cs (use_text u) ∙ e))

-- ---- a use is numbered

has_none : (b : Bool) (p : ℕ) → (if b then Some p else None) ≡ None → b ≡ false
has_none true p e = cc
has_none false p e = refl

has_some : (b : Bool) (p q : ℕ) → (if b then Some p else None) ≡ Some q → (b ≡ true) × (p ≡ q)
has_some true p q e = (refl, cc)
has_some false p q e = absurd cc

with_there : (vs : Uses) (u : TypeUse Label) → has_use vs u ≡ true → with_use vs u ≡ vs
with_there vs u e = by (is_all_public u.type)
  where
    by : (b : Bool) → (if b || has_use vs u then vs else vs ++ u ∷ []) ≡ vs
    by true = refl
    by false = ap (λ z. if z then vs else vs ++ u ∷ []) e

with_new : (vs : Uses) (u : TypeUse Label) → is_all_public u.type ≡ false → has_use vs u ≡ false → with_use vs u ≡ vs ++ u ∷ []
with_new vs u e f = λ i. if e i || f i then vs else vs ++ u ∷ []

module _ (v : Variants) (vs : Uses) (u : TypeUse Label) (key : List ℕ) (h : Holds v vs) (is : key ≡ use_text u) (small : IsSmallUse u) (secret : is_all_public u.type ≡ false) where
  found : number_of key v.numbers ≡ (if has_use vs u then Some (place_of_use vs u) else None)
  found = h.told key ∙ ap (λ k. place_of_text k vs) is ∙ place_same vs u h.small small

  -- it is there
  pub old_held : (n : ℕ) → number_of key v.numbers ≡ Some n → Holds v (with_use vs u)
  old_held n e = subst (Holds v) (sym (with_there vs u (has_some (has_use vs u) (place_of_use vs u) n (sym found ∙ e)).0)) h

  pub old_number : (n : ℕ) → number_of key v.numbers ≡ Some n → n ≡ place_of_use (with_use vs u) u
  old_number n e =
      let s = has_some (has_use vs u) (place_of_use vs u) n (sym found ∙ e) in
      sym s.1 ∙ ap (λ z. place_of_use z u) (sym (with_there vs u s.0))

  -- it is appended
  pub new_held : (w : Variants) → number_of key v.numbers ≡ None → w.texts.items ≡ v.texts.items ++ key → w.count ≡ v.count + 1 → Inserts v.numbers w.numbers key v.count → Holds w (with_use vs u)
  new_held w e t c i = subst (Holds w) (sym (with_new vs u secret n)) held
    where
      n : has_use vs u ≡ false
      n = has_none (has_use vs u) (place_of_use vs u) (sym found ∙ e)

      held : Holds w (vs ++ u ∷ [])
      held = record {
        texts = t ∙ (λ j. h.texts j ++ is j) ∙ ap (λ (l : List ℕ). all_texts use_text vs ++ l) (sym (append-nil (use_text u))) ∙ sym (all_texts-append use_text vs (u ∷ []));
        count = let l = length_end vs in omega (arith, c, h.count, l);
        small = subst (AllByRecursion IsSmallUse) (with_new vs u secret n) (all_one IsSmallUse vs u h.small small);
        told = told_more vs u v.numbers w.numbers h.told (ap (λ k. number_of k v.numbers) (sym is) ∙ e) (subst (λ z. Inserts v.numbers w.numbers (use_text u) z) h.count (subst (λ k. Inserts v.numbers w.numbers k v.count) is i));
      }
        where
          length_end : (xs : Uses) → length (xs ++ u ∷ []) ≡ length xs + 1
          length_end [] = refl
          length_end (x ∷ xs) = let k = length_end xs in omega (arith, k)

  pub new_number : number_of key v.numbers ≡ None → v.count ≡ place_of_use (with_use vs u) u
  new_number e =
      let n = has_none (has_use vs u) (place_of_use vs u) (sym found ∙ e) in
      h.count ∙ sym (place_end vs u n) ∙ ap (λ z. place_of_use z u) (sym (with_new vs u secret n))
