-- The map of first users, behind one user more.
use Rattle.std.proofs.Common.{◌≡◌, ℕ, Bool, true, false, cond, List, [], ◌∷◌, ◌++◌, find, Option, Some, None, Ok, Err, if◌then◌else◌, inr, refl, sym, ap, ap₂, subst, ◌∙◌}
use Rattle.std.specs.Str.{bytes_eq}
use Rattle.std.specs.Option.{option_or}
use Rattle.std.specs.Ordering.{is_eq, nat_cmp}
use Rattle.std.specs.Cmp.Lexicographic.{slice_cmp}
use Rattle.std.specs.Global.{Vec}
use Rattle.std.specs.BTreeMap.{BTreeMap, get_by, UpdatesBy}
use Rattle.std.specs.Map.{lookup, IsKeyTest, AreApart, KeepsOthers}
use Rattle.std.proofs.lemmas.Cmp.{eq_by_cmp_equiv, nat_list_cmp_total, nat_list_eq_equiv}
use Rattle.std.proofs.lemmas.Map.Text.{is_eq-slice_cmp}
use Rattle.std.proofs.lemmas.Slice.Eq.{bytes_eq-Decides}
use Rattle.std.proofs.lemmas.List.Folds.{find-append}
use Rattle.std.proofs.lemmas.Option.{same_Some, none-some}
use Rattle.ctw_ops.specs.declared.types.Label.{Label}
use Rattle.ctw_ops.specs.Types.{FunctionType}
use Rattle.ctw_ops.specs.Equal.{same_function_type, erases_alike}
use Rattle.ctw_link.specs.declared.fault.LinkFault.TheVariants.{TableMix}
use Rattle.ctw_link.specs.declared.set.Part.{Part}
use Rattle.ctw_link.specs.Users.{differing, or_later, mix_behind}
use Rattle.ctw_link.specs.Firsts.{key_of, type_in, HasEntry, IsTypeOf, TellsFirsts, Passes}
use Rattle.ctw_ops.proofs.EqualLaws.{same_function_type_is}
use Rattle.ctw_link.proofs.TypeBytes.{same_key}
use Rattle.ctw_link.proofs.Repeats.{used_again}

-- ---- a map after an insertion, at any key's bytes

apart : (bs cs ks : List ℕ) → bytes_eq bs cs ≡ false → is_eq (slice_cmp nat_cmp bs ks) ≡ true → is_eq (slice_cmp nat_cmp cs ks) ≡ false
apart bs cs ks n y =
    is_eq-slice_cmp cs ks ∙ nat_list_eq_equiv.symm cs ks ∙ sym (nat_list_eq_equiv.congr bs ks cs (sym (is_eq-slice_cmp bs ks) ∙ y)) ∙ n

other_entries : {K X : Type 0} (eq : K → K → Bool) (test : K → Bool) (old new : List (K × X)) → KeepsOthers eq test old new → (other : K → Bool) → IsKeyTest eq other → AreApart test other → lookup other new ≡ lookup other old
unfolding KeepsOthers
other_entries eq test old new h = h

abbrev pub Firsts : Type 0
Firsts = BTreeMap (Vec ℕ) (ℕ × ℕ)

abbrev pub first_of : List ℕ → Firsts → Option (ℕ × ℕ)
first_of key firsts = get_by (λ k. slice_cmp nat_cmp key k.items) firsts

abbrev Inserts : Firsts → Firsts → List ℕ → ℕ × ℕ → Type 0
Inserts m n bs place = UpdatesBy (λ x y. slice_cmp nat_cmp x.items y.items) (λ k. slice_cmp nat_cmp bs k.items) m n (Some place)

other_first : (m n : Firsts) (bs cs : List ℕ) (place : ℕ × ℕ) → Inserts m n bs place → bytes_eq bs cs ≡ false → first_of cs n ≡ first_of cs m
other_first m n bs cs place h e = other_entries _ _ _ _ h.3 _ (λ x y. (eq_by_cmp_equiv nat_list_cmp_total).congr cs x.items y.items) (λ k. apart bs cs k.items e)

-- ---- what is told of a user

same_find : {A : Type 0} (p q : A → Bool) (l : List A) → ((a : A) → p a ≡ q a) → find p l ≡ find q l
same_find p q [] h = refl
same_find p q (a ∷ l) h = ap₂ (λ b o. cond b (Some a) o) (h a) (same_find p q l h)

found : (parts : List Part) (before : List (FunctionType Label)) (firsts : Firsts) (b : FunctionType Label) (key : List ℕ) → TellsFirsts parts before firsts → key ≡ key_of b → IsTypeOf parts (first_of key firsts) (find (erases_alike b) before)
found parts before firsts b key told e =
    subst (λ o. IsTypeOf parts (first_of key firsts) o)
    (ap (λ k. find (λ t. bytes_eq k (key_of t)) before) e ∙ same_find (λ t. bytes_eq (key_of b) (key_of t)) (erases_alike b) before (same_key b)) (told key)

none_found : (parts : List Part) (place : Option (ℕ × ℕ)) (o : Option (FunctionType Label)) → place ≡ None → IsTypeOf parts place o → o ≡ None
none_found parts None None e h = refl
none_found parts None (Some t) e h = absurd h
none_found parts (Some p) o e h = absurd (none-some p (sym e))

some_found : (parts : List Part) (place : Option (ℕ × ℕ)) (o : Option (FunctionType Label)) (p : ℕ × ℕ) → place ≡ Some p → IsTypeOf parts place o → HasEntry parts p.0 p.1 × (o ≡ Some (type_in parts p.0 p.1))
some_found parts None o p e h = absurd (none-some p e)
some_found parts (Some q) None p e h = absurd h
some_found parts (Some q) (Some t) p e h = subst (λ (r : ℕ × ℕ). HasEntry parts r.0 r.1 × (Some t ≡ Some (type_in parts r.0 r.1))) (same_Some q p e) (h.0, ap Some h.1)

pub there : (parts : List Part) (before : List (FunctionType Label)) (firsts : Firsts) (key : List ℕ) (p : ℕ × ℕ) → TellsFirsts parts before firsts → first_of key firsts ≡ Some p → HasEntry parts p.0 p.1
there parts before firsts key p told e = (some_found parts _ _ p e (told key)).0

-- ---- a user is passed

pub passed : (parts : List Part) (before : List (FunctionType Label)) (firsts : Firsts) (table : ℕ) (b : FunctionType Label) (key : List ℕ) (p : ℕ × ℕ) (a c : FunctionType Label) → TellsFirsts parts before firsts → key ≡ key_of b → first_of key firsts ≡ Some p
    → a ≡ type_in parts p.0 p.1 → c ≡ b → same_function_type a c ≡ true → Passes parts table before (b ∷ []) firsts (Ok tt)
passed parts before firsts table b key p a c told is e ea ec same =
    let f = (some_found parts _ _ p e (found parts before firsts b key told is)).1 in
    let one : type_in parts p.0 p.1 ≡ b = sym ea ∙ same_function_type_is a c same ∙ ec in
    (before, told, λ others. used_again before others b (f ∙ ap Some one))

pub mixed : (parts : List Part) (before : List (FunctionType Label)) (firsts : Firsts) (table : ℕ) (b : FunctionType Label) (key : List ℕ) (p : ℕ × ℕ) (a c : FunctionType Label) → TellsFirsts parts before firsts → key ≡ key_of b → first_of key firsts ≡ Some p
    → a ≡ type_in parts p.0 p.1 → c ≡ b → same_function_type a c ≡ false → Passes parts table before (b ∷ []) firsts (Err (TableMix table a c))
mixed parts before firsts table b key p a c told is e ea ec same =
    let f : find (erases_alike b) before ≡ Some a = (some_found parts _ _ p e (found parts before firsts b key told is)).1 ∙ ap Some (sym ea) in
    let differs : same_function_type a b ≡ false = ap (same_function_type a) (sym ec) ∙ same in
    inr (a, b, ap (TableMix table a) ec, λ others. ap (λ o. or_later (differing b o) (mix_behind (before ++ b ∷ []) others)) f ∙ ap (λ c. or_later (if c then None else Some (a, b)) (mix_behind (before ++ b ∷ []) others)) differs)

or_none : {A : Type 0} (o : Option A) → option_or o None ≡ o
or_none None = refl
or_none (Some a) = refl

pub told_more : (parts : List Part) (before : List (FunctionType Label)) (firsts after : Firsts) (b : FunctionType Label) (key : List ℕ) (place : ℕ × ℕ) → TellsFirsts parts before firsts → key ≡ key_of b → first_of key firsts ≡ None
    → HasEntry parts place.0 place.1 → b ≡ type_in parts place.0 place.1 → Inserts firsts after key place → TellsFirsts parts (before ++ b ∷ []) after
told_more parts before firsts after b key place told is none entry typed h cs = go (bytes_eq key cs) refl
  where
    test : FunctionType Label → Bool
    test t = bytes_eq cs (key_of t)

    go : (c : Bool) → bytes_eq key cs ≡ c → IsTypeOf parts (first_of cs after) (find (λ t. bytes_eq cs (key_of t)) (before ++ b ∷ []))
    go true e =
        let same : key ≡ cs = (bytes_eq-Decides key cs).0 e in
        let here : first_of cs after ≡ Some place = ap (λ k. first_of k after) (sym same) ∙ h.1 in
        let missing = none_found parts _ _ (ap (λ k. first_of k firsts) (sym same) ∙ none) (told cs) in
        let last : find (λ t. bytes_eq cs (key_of t)) (before ++ b ∷ []) ≡ Some b =
        find-append (λ t. bytes_eq cs (key_of t)) before (b ∷ []) ∙ ap (λ o. option_or o (find (λ t. bytes_eq cs (key_of t)) (b ∷ []))) missing
        ∙ ap (λ c. cond c (Some b) None) ((bytes_eq-Decides cs (key_of b)).1 (sym same ∙ is)) in
        subst (λ o. IsTypeOf parts o (find (λ t. bytes_eq cs (key_of t)) (before ++ b ∷ []))) (sym here) (subst (λ o. IsTypeOf parts (Some place) o) (sym last) (entry, typed))
    go false e =
        let here : first_of cs after ≡ first_of cs firsts = other_first firsts after key cs place h e in
        let other : bytes_eq cs (key_of b) ≡ false = ap (bytes_eq cs) (sym is) ∙ nat_list_eq_equiv.symm cs key ∙ e in
        let same : find (λ t. bytes_eq cs (key_of t)) (before ++ b ∷ []) ≡ find (λ t. bytes_eq cs (key_of t)) before =
        find-append (λ t. bytes_eq cs (key_of t)) before (b ∷ []) ∙ ap (λ c. option_or (find (λ t. bytes_eq cs (key_of t)) before) (cond c (Some b) None)) other ∙ or_none _ in
        subst (λ o. IsTypeOf parts o (find (λ t. bytes_eq cs (key_of t)) (before ++ b ∷ []))) (sym here) (subst (λ o. IsTypeOf parts (first_of cs firsts) o) (sym same) (told cs))

pub added : (parts : List Part) (before : List (FunctionType Label)) (firsts after : Firsts) (table : ℕ) (b : FunctionType Label) (key : List ℕ) (place : ℕ × ℕ) → TellsFirsts parts before firsts → key ≡ key_of b → first_of key firsts ≡ None
    → HasEntry parts place.0 place.1 → b ≡ type_in parts place.0 place.1 → Inserts firsts after key place → Passes parts table before (b ∷ []) after (Ok tt)
added parts before firsts after table b key place told is none entry typed h =
    let f = none_found parts _ _ none (found parts before firsts b key told is) in
    (before ++ b ∷ [], told_more parts before firsts after b key place told is none entry typed h, λ others. ap (λ o. or_later (differing b o) (mix_behind (before ++ b ∷ []) others)) f)
