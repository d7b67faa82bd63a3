-- The first users of each erased type, and the facts of one user more.
use Rattle.std.proofs.Common.{◌≡◌, ◌≤◌, ◌<◌, ◌^◌, ℕ, zero, suc, ◌+◌, ◌-◌, Bool, true, false, cond, ◌&&◌, List, [], ◌∷◌, ◌++◌, length, map, find, take, drop, Option, Some, None, if◌then◌else◌, refl, sym, ap, ap₂, subst, ◌∙◌, arith, append_assoc, length-append}
use Rattle.std.specs.Prelude.{option_map, slice_get}
use Rattle.std.specs.List.{AllByRecursion}
use Rattle.std.specs.Str.{bytes_eq}
use Rattle.std.specs.Option.{option_or}
use Rattle.std.specs.Ordering.{is_eq, nat_cmp}
use Rattle.std.specs.Cmp.Lexicographic.{slice_cmp}
use Rattle.std.specs.Global.{Vec}
use Rattle.std.specs.BTreeMap.{BTreeMap, get_by, UpdatesBy}
use Rattle.std.specs.Map.{lookup, IsKeyTest, AreApart, KeepsOthers}
use Rattle.std.proofs.lemmas.Cmp.{eq_by_cmp_equiv, nat_list_cmp_total, nat_list_eq_equiv}
use Rattle.std.proofs.lemmas.Map.Text.{is_eq-slice_cmp}
use Rattle.std.proofs.lemmas.Slice.Eq.{bytes_eq-Decides}
use Rattle.std.proofs.lemmas.List.Folds.{find-append}
use Rattle.std.proofs.lemmas.List.{append-nil, map-append, drop_all}
use Rattle.std.proofs.lemmas.Option.{same_Some, none-some}
use Rattle.ctw_ops.specs.declared.types.Label.{Label}
use Rattle.ctw_ops.specs.Types.{ValueType, FunctionType}
use Rattle.ctw_ops.specs.Tree.{Module, function_types, type_named}
use Rattle.ctw_ops.specs.Typing.{optional}
use Rattle.ctw_labels.specs.declared.tag.Tag.{Tag}
use Rattle.ctw_labels.specs.declared.tag.Tag.TheVariants.{At}
use Rattle.ctw_labels.specs.Links.{Fact, fact, after}
use Rattle.ctw_labels.specs.ModuleLinks.{same_widths, erase_alike, first_alike, tag_facts, type_facts, user_facts}
use Rattle.ctw_labels.specs.Numbering.{params_from, result_from, type_from, named_in}
use Rattle.ctw_labels.specs.SitedModule.{site_count}
use Rattle.ctw_ops.specs.Equal.{same_width}
use Rattle.ctw_labels.proofs.UserLaws.{alike_refl, alike_sym}
use Rattle.ctw_links.specs.declared.user.User.{User}
use Rattle.ctw_links.specs.Firsts.{key_of, user_key, TellsFirsts, TellsSome, IsPlaced, site_facts, user_told, users_told}
use Rattle.ctw_links.specs.Uses.{type_of_user, types_of_users}
use Rattle.ctw_labels.proofs.NumberLaws.{all_append_to}
use Rattle.ctw_links.proofs.Lists.{drop_found, take_found}
use Rattle.ctw_links.proofs.TypeBytes.{same_key}
use Rattle.ctw_links.proofs.Within.{found}

-- ---- a map after an insertion, at any key's bytes

apart : (bs cs ks : List ℕ) → bytes_eq bs cs ≡ false → is_eq (slice_cmp nat_cmp bs ks) ≡ true → is_eq (slice_cmp nat_cmp cs ks) ≡ false
apart bs cs ks n y =
    is_eq-slice_cmp cs ks ∙ nat_list_eq_equiv.symm cs ks ∙ sym (nat_list_eq_equiv.congr bs ks cs (sym (is_eq-slice_cmp bs ks) ∙ y)) ∙ n

other_entries : {K X : Type 0} (eq : K → K → Bool) (test : K → Bool) (old new : List (K × X)) → KeepsOthers eq test old new → (other : K → Bool) → IsKeyTest eq other → AreApart test other → lookup other new ≡ lookup other old
unfolding KeepsOthers
other_entries eq test old new h = h

abbrev pub Firsts : Type 0
Firsts = BTreeMap (Vec ℕ) ℕ

abbrev pub first_of : List ℕ → Firsts → Option ℕ
first_of key firsts = get_by (λ k. slice_cmp nat_cmp key k.items) firsts

abbrev Inserts : Firsts → Firsts → List ℕ → ℕ → Type 0
Inserts m n bs place = UpdatesBy (λ x y. slice_cmp nat_cmp x.items y.items) (λ k. slice_cmp nat_cmp bs k.items) m n (Some place)

other_first : (m n : Firsts) (bs cs : List ℕ) (place : ℕ) → Inserts m n bs place → bytes_eq bs cs ≡ false → first_of cs n ≡ first_of cs m
other_first m n bs cs place h e = other_entries _ _ _ _ h.3 _ (λ x y. (eq_by_cmp_equiv nat_list_cmp_total).congr cs x.items y.items) (λ k. apart bs cs k.items e)

or_none : {A : Type 0} (o : Option A) → option_or o None ≡ o
or_none None = refl
or_none (Some a) = refl

or_some : {A : Type 0} (o p : Option A) (a : A) → o ≡ Some a → option_or o p ≡ Some a
or_some None p a e = cc
or_some (Some b) p a e = e

none_mapped : {A B : Type 0} (f : A → B) (o : Option A) → option_map f o ≡ None → o ≡ None
none_mapped f None e = refl
none_mapped f (Some a) e = cc

some_mapped : {A B : Type 0} (f : A → B) (o : Option A) (b : B) → option_map f o ≡ Some b → (a : A) × (o ≡ Some a) × (f a ≡ b)
some_mapped f None b e = absurd (none-some b e)
some_mapped f (Some a) b e = (a, refl, same_Some (f a) b e)

module _ (m : Module Label) where
  abbrev seeks : List ℕ → User → Bool
  seeks key u = bytes_eq key (user_key m u)

  pub none_before : (before : List User) (firsts : Firsts) (key : List ℕ) → TellsFirsts m before firsts → first_of key firsts ≡ None → find (seeks key) before ≡ None
  none_before before firsts key told e = none_mapped (λ (u : User). u.first) (find (seeks key) before) (sym (told key) ∙ e)

  pub some_before : (before : List User) (firsts : Firsts) (key : List ℕ) (p : ℕ) → TellsFirsts m before firsts → first_of key firsts ≡ Some p → (v : User) × (find (seeks key) before ≡ Some v) × (v.first ≡ p)
  some_before before firsts key p told e = some_mapped (λ (u : User). u.first) (find (seeks key) before) p (sym (told key) ∙ e)

  -- a user of a type that is new is told
  pub told_new : (before : List User) (firsts after_it : Firsts) (u : User) (key : List ℕ) → TellsFirsts m before firsts → key ≡ user_key m u → first_of key firsts ≡ None → Inserts firsts after_it key u.first → TellsFirsts m (before ++ u ∷ []) after_it
  told_new before firsts after_it u key told is none h cs = go (bytes_eq key cs) refl
    where
      go : (c : Bool) → bytes_eq key cs ≡ c → first_of cs after_it ≡ option_map (λ u. u.first) (find (seeks cs) (before ++ u ∷ []))
      go true e =
          let same : key ≡ cs = (bytes_eq-Decides key cs).0 e in
          let here : first_of cs after_it ≡ Some u.first = ap (λ k. first_of k after_it) (sym same) ∙ h.1 in
          let missing : find (seeks cs) before ≡ None = ap (λ k. find (seeks k) before) (sym same) ∙ none_before before firsts key told none in
          let last : find (seeks cs) (before ++ u ∷ []) ≡ Some u =
          find-append (seeks cs) before (u ∷ []) ∙ ap (λ o. option_or o (find (seeks cs) (u ∷ []))) missing
          ∙ ap (λ c. cond c (Some u) None) ((bytes_eq-Decides cs (user_key m u)).1 (sym same ∙ is)) in
          here ∙ sym (ap (option_map (λ (u : User). u.first)) last)
      go false e =
          let here : first_of cs after_it ≡ first_of cs firsts = other_first firsts after_it key cs u.first h e in
          let other : bytes_eq cs (user_key m u) ≡ false = ap (bytes_eq cs) (sym is) ∙ nat_list_eq_equiv.symm cs key ∙ e in
          let same : find (seeks cs) (before ++ u ∷ []) ≡ find (seeks cs) before =
          find-append (seeks cs) before (u ∷ []) ∙ ap (λ c. option_or (find (seeks cs) before) (cond c (Some u) None)) other ∙ or_none _ in
          here ∙ told cs ∙ sym (ap (option_map (λ (u : User). u.first)) same)

  -- a user of a type that is known changes nothing
  pub told_known : (before : List User) (firsts : Firsts) (u v : User) (key : List ℕ) → TellsFirsts m before firsts → key ≡ user_key m u → find (seeks key) before ≡ Some v → TellsFirsts m (before ++ u ∷ []) firsts
  told_known before firsts u v key told is some cs = go (bytes_eq key cs) refl
    where
      go : (c : Bool) → bytes_eq key cs ≡ c → first_of cs firsts ≡ option_map (λ u. u.first) (find (seeks cs) (before ++ u ∷ []))
      go true e =
          let same : key ≡ cs = (bytes_eq-Decides key cs).0 e in
          let found : find (seeks cs) before ≡ Some v = ap (λ k. find (seeks k) before) (sym same) ∙ some in
          told cs ∙ ap (option_map (λ (u : User). u.first)) (found ∙ sym (find-append (seeks cs) before (u ∷ []) ∙ or_some (find (seeks cs) before) (find (seeks cs) (u ∷ [])) v found))
      go false e =
          let other : bytes_eq cs (user_key m u) ≡ false = ap (bytes_eq cs) (sym is) ∙ nat_list_eq_equiv.symm cs key ∙ e in
          told cs ∙ sym (ap (option_map (λ (u : User). u.first)) (find-append (seeks cs) before (u ∷ []) ∙ ap (λ c. option_or (find (seeks cs) before) (cond c (Some u) None)) other ∙ or_none _))

-- ---- types of users erase alike where their keys are equal

sited_widths : (n k : ℕ) (ts us : List (ValueType Label)) → same_widths (params_from n ts) (params_from k us) ≡ same_widths ts us
sited_widths n k [] [] = refl
sited_widths n k [] (u ∷ us) = refl
sited_widths n k (t ∷ ts) [] = refl
sited_widths n k (t ∷ ts) (u ∷ us) = ap (λ z. same_width t.width u.width && z) (sited_widths (n + 1) (k + 1) ts us)

sited_results : (n k : ℕ) (t u : Option (ValueType Label)) → same_widths (optional (result_from n t)) (optional (result_from k u)) ≡ same_widths (optional t) (optional u)
sited_results n k None None = refl
sited_results n k None (Some u) = refl
sited_results n k (Some t) None = refl
sited_results n k (Some t) (Some u) = refl

sited_alike : (n k : ℕ) (g h : FunctionType Label) → erase_alike (type_from n g) (type_from k h) ≡ erase_alike g h
sited_alike n k g h = ap₂ ◌&&◌ (sited_widths n k g.params h.params) (sited_results (n + length g.params) (k + length h.params) g.result h.result)

module _ (m : Module Label) where
  abbrev ty : User → FunctionType Tag
  ty u = type_of_user (function_types m) u

  users_alike : (u v : User) → erase_alike (ty v) (ty u) ≡ bytes_eq (user_key m v) (user_key m u)
  users_alike u v = sited_alike v.first u.first (type_named m v.entry) (type_named m u.entry) ∙ sym (same_key (type_named m v.entry) (type_named m u.entry))

  -- the first user that erases alike is the one that the key finds
  first_is : (u : User) (us : List User) → first_alike (ty u) (types_of_users (function_types m) us) ≡ option_map ty (find (λ v. bytes_eq (user_key m u) (user_key m v)) us)
  first_is u [] = refl
  first_is u (v ∷ us) = ap (λ c. if c then Some (ty v) else first_alike (ty u) (types_of_users (function_types m) us)) (users_alike u v ∙ nat_list_eq_equiv.symm (user_key m v) (user_key m u)) ∙ go (first_is u us) (bytes_eq (user_key m u) (user_key m v))
    where
      go : first_alike (ty u) (types_of_users (function_types m) us) ≡ option_map ty (find (λ w. bytes_eq (user_key m u) (user_key m w)) us) → (c : Bool) → (if c then Some (ty v) else first_alike (ty u) (types_of_users (function_types m) us)) ≡ option_map ty (cond c (Some v) (find (λ w. bytes_eq (user_key m u) (user_key m w)) us))
      go h true = refl
      go h false = h

  -- ---- what is told of a user

  same_params : (a b : ℕ) (ts us : List (ValueType Label)) → same_widths ts us ≡ true → tag_facts 11 (params_from a ts) (params_from b us) ≡ site_facts a b (length ts)
  same_params a b [] [] e = refl
  same_params a b [] (u ∷ us) e = cc
  same_params a b (t ∷ ts) [] e = cc
  same_params a b (t ∷ ts) (u ∷ us) e = ap (λ z. fact 11 (At a) (At b) ++ z) (same_params (a + 1) (b + 1) ts us (second (same_width t.width u.width) (same_widths ts us) e))
    where
      second : (x y : Bool) → (x && y) ≡ true → y ≡ true
      second true y e = e
      second false y e = cc

  same_results : (a b : ℕ) (t u : Option (ValueType Label)) → same_widths (optional t) (optional u) ≡ true → tag_facts 11 (optional (result_from a t)) (optional (result_from b u)) ≡ site_facts a b (length (optional t))
  same_results a b None None e = refl
  same_results a b None (Some u) e = cc
  same_results a b (Some t) None e = cc
  same_results a b (Some t) (Some u) e = refl

  sites_both : (a b j k : ℕ) → site_facts a b j ++ site_facts (a + j) (b + j) k ≡ site_facts a b (j + k)
  sites_both a b zero k = let e : a + 0 ≡ a = omega arith in let f : b + 0 ≡ b = omega arith in let g : k ≡ 0 + k = omega arith in λ i. site_facts (e i) (f i) (g i)
  sites_both a b (suc j) k =
      let e : a + suc j ≡ a + 1 + j = omega arith in
      let f : b + suc j ≡ b + 1 + j = omega arith in
      let g : suc (j + k) ≡ suc j + k = omega arith in
      (λ i. fact 11 (At a) (At b) ++ (site_facts (a + 1) (b + 1) j ++ site_facts (e i) (f i) k))
      ∙ ap (λ z. fact 11 (At a) (At b) ++ z) (sites_both (a + 1) (b + 1) j k)
      ∙ ap (site_facts a b) g

  same_length : (ts us : List (ValueType Label)) → same_widths ts us ≡ true → length ts ≡ length us
  same_length [] [] e = refl
  same_length [] (u ∷ us) e = cc
  same_length (t ∷ ts) [] e = cc
  same_length (t ∷ ts) (u ∷ us) e = ap suc (same_length ts us (second (same_width t.width u.width) (same_widths ts us) e))
    where
      second : (x y : Bool) → (x && y) ≡ true → y ≡ true
      second true y e = e
      second false y e = cc

  both_true : (x y : Bool) → (x && y) ≡ true → (x ≡ true) × (y ≡ true)
  both_true true y e = (refl, e)
  both_true false y e = (cc, cc)

  pub same_count : (g h : FunctionType Label) → erase_alike g h ≡ true → site_count g ≡ site_count h
  same_count g h e =
      let w = both_true (same_widths g.params h.params) (same_widths (optional g.result) (optional h.result)) e in
      let p = same_length g.params h.params w.0 in
      let r = same_length (optional g.result) (optional h.result) w.1 in
      omega (arith, p, r)

  types_told : (a b : ℕ) (g h : FunctionType Label) → erase_alike g h ≡ true → type_facts 11 (type_from a g) (type_from b h) ≡ site_facts a b (site_count g)
  types_told a b g h e =
      let w = both_true (same_widths g.params h.params) (same_widths (optional g.result) (optional h.result)) e in
      let p : b + length h.params ≡ b + length g.params = ap (λ z. b + z) (sym (same_length g.params h.params w.0)) in
      (λ i. same_params a b g.params h.params w.0 i ++ same_results (a + length g.params) (b + length h.params) g.result h.result w.1 i)
      ∙ ap (λ z. site_facts a b (length g.params) ++ site_facts (a + length g.params) z (length (optional g.result))) p
      ∙ sites_both a b (length g.params) (length (optional g.result))

  -- a new type is told against itself
  pub own_told : (before : List User) (u : User) (key : List ℕ) → key ≡ user_key m u → find (λ v. bytes_eq key (user_key m v)) before ≡ None → user_told m (before ++ u ∷ []) u ≡ site_facts u.first u.first (site_count (type_named m u.entry))
  own_told before u key is none =
      let missing : find (λ v. bytes_eq (user_key m u) (user_key m v)) before ≡ None = ap (λ k. find (λ v. bytes_eq k (user_key m v)) before) (sym is) ∙ none in
      let self : bytes_eq (user_key m u) (user_key m u) ≡ true = (bytes_eq-Decides (user_key m u) (user_key m u)).1 refl in
      let found : find (λ v. bytes_eq (user_key m u) (user_key m v)) (before ++ u ∷ []) ≡ Some u =
      find-append (λ v. bytes_eq (user_key m u) (user_key m v)) before (u ∷ []) ∙ ap (λ o. option_or o (find (λ v. bytes_eq (user_key m u) (user_key m v)) (u ∷ []))) missing ∙ ap (λ c. cond c (Some u) None) self in
      ap (λ o. after o (type_facts 11 (ty u))) (first_is u (before ++ u ∷ []) ∙ ap (option_map ty) found)
      ∙ types_told u.first u.first (type_named m u.entry) (type_named m u.entry) (alike_refl (type_named m u.entry))

  found_alike : (u v : User) (us : List User) → find (λ w. bytes_eq (user_key m u) (user_key m w)) us ≡ Some v → bytes_eq (user_key m u) (user_key m v) ≡ true
  found_alike u v [] e = absurd (none-some v e)
  found_alike u v (w ∷ us) e = go (λ k. found_alike u v us k) (bytes_eq (user_key m u) (user_key m w)) refl e
    where
      go : (find (λ w. bytes_eq (user_key m u) (user_key m w)) us ≡ Some v → bytes_eq (user_key m u) (user_key m v) ≡ true) → (c : Bool) → bytes_eq (user_key m u) (user_key m w) ≡ c → cond c (Some w) (find (λ w. bytes_eq (user_key m u) (user_key m w)) us) ≡ Some v → bytes_eq (user_key m u) (user_key m v) ≡ true
      go h true q e = ap (λ z. bytes_eq (user_key m u) (user_key m z)) (sym (same_Some w v e)) ∙ q
      go h false q e = h e

  -- a known one against the first user
  pub known_told : (before : List User) (u v : User) (key : List ℕ) → key ≡ user_key m u → find (λ w. bytes_eq key (user_key m w)) before ≡ Some v
      → (user_told m (before ++ u ∷ []) u ≡ site_facts u.first v.first (site_count (type_named m u.entry))) × (site_count (type_named m u.entry) ≡ site_count (type_named m v.entry))
  known_told before u v key is some =
      let here : find (λ w. bytes_eq (user_key m u) (user_key m w)) before ≡ Some v = ap (λ k. find (λ w. bytes_eq k (user_key m w)) before) (sym is) ∙ some in
      let found : find (λ w. bytes_eq (user_key m u) (user_key m w)) (before ++ u ∷ []) ≡ Some v =
      find-append (λ w. bytes_eq (user_key m u) (user_key m w)) before (u ∷ []) ∙ or_some (find (λ w. bytes_eq (user_key m u) (user_key m w)) before) _ v here in
      let alike : erase_alike (type_named m u.entry) (type_named m v.entry) ≡ true = sym (same_key (type_named m u.entry) (type_named m v.entry)) ∙ found_alike u v before here in (
        ap (λ o. after o (type_facts 11 (ty u))) (first_is u (before ++ u ∷ []) ∙ ap (option_map ty) found) ∙ types_told u.first v.first (type_named m u.entry) (type_named m v.entry) alike,
        same_count (type_named m u.entry) (type_named m v.entry) alike,
      )

  pub found_in : (P : User → Type 0) (p : User → Bool) (us : List User) (v : User) → AllByRecursion P us → find p us ≡ Some v → P v
  found_in P p [] v h e = absurd (none-some v e)
  found_in P p (w ∷ us) v h e = go (λ k. found_in P p us v h.1 k) (p w) e
    where
      go : (find p us ≡ Some v → P v) → (c : Bool) → cond c (Some w) (find p us) ≡ Some v → P v
      go k true e = subst P (same_Some w v e) h.0
      go k false e = k e

  -- ---- all users

  first_stops : (g : FunctionType Tag) (xs ys : List (FunctionType Tag)) → first_alike g (xs ++ g ∷ ys) ≡ first_alike g (xs ++ g ∷ [])
  first_stops g [] ys = ap (λ c. if c then Some g else first_alike g ys) (alike_refl g) ∙ sym (ap (λ c. if c then Some g else None) (alike_refl g))
  first_stops g (x ∷ xs) ys = go (first_stops g xs ys) (erase_alike x g)
    where
      go : first_alike g (xs ++ g ∷ ys) ≡ first_alike g (xs ++ g ∷ []) → (c : Bool) → (if c then Some x else first_alike g (xs ++ g ∷ ys)) ≡ (if c then Some x else first_alike g (xs ++ g ∷ []))
      go h true = refl
      go h false = h

  behind_told : (before us : List User) → users_told m before us ≡ user_facts (types_of_users (function_types m) (before ++ us)) (types_of_users (function_types m) us)
  behind_told before [] = refl
  behind_told before (u ∷ us) =
      let T = function_types m in
      let here : user_told m (before ++ u ∷ []) u ≡ after (first_alike (ty u) (types_of_users T (before ++ u ∷ us))) (type_facts 11 (ty u)) =
      ap (λ z. after (first_alike (ty u) z) (type_facts 11 (ty u)))
      (map-append (type_of_user T) before (u ∷ [])) ∙ ap (λ z. after z (type_facts 11 (ty u))) (sym (first_stops (ty u) (types_of_users T before) (types_of_users T us)))
      ∙ ap (λ z. after (first_alike (ty u) z) (type_facts 11 (ty u))) (sym (map-append (type_of_user T) before (u ∷ us))) in
      (λ i. here i ++ behind_told (before ++ u ∷ []) us i)
      ∙ ap (λ z. after (first_alike (ty u) (types_of_users T (before ++ u ∷ us))) (type_facts 11 (ty u)) ++ user_facts (types_of_users T z) (types_of_users T us)) (append_assoc before (u ∷ []) us)

  pub all_told : (us : List User) → users_told m [] us ≡ user_facts (types_of_users (function_types m) us) (types_of_users (function_types m) us)
  all_told us = behind_told [] us

  -- ---- one user after another

  pub users_on : (us : List User) (i : ℕ) (u : User) (told told' all : List (Fact Tag)) → slice_get us i ≡ Some u → told' ≡ told ++ user_told m (take i us ++ u ∷ []) u → told ++ users_told m (take i us) (drop i us) ≡ all
      → told' ++ users_told m (take (i + 1) us) (drop (i + 1) us) ≡ all
  users_on us i u told told' all e f h =
      let before = take i us in
      (λ j. f j ++ users_told m (take_found us i u e j) (drop (i + 1) us))
      ∙ append_assoc told (user_told m (before ++ u ∷ []) u) (users_told m (before ++ u ∷ []) (drop (i + 1) us))
      ∙ ap (λ z. told ++ users_told m before z) (sym (drop_found us i u e)) ∙ h

  pub firsts_on : (us : List User) (i : ℕ) (u : User) (firsts : Firsts) → slice_get us i ≡ Some u → TellsFirsts m (take i us ++ u ∷ []) firsts → TellsFirsts m (take (i + 1) us) firsts
  firsts_on us i u firsts e h = subst (λ z. TellsFirsts m z firsts) (sym (take_found us i u e)) h

  pub placed_at : (us : List User) (i : ℕ) (u : User) → AllByRecursion (IsPlaced m) us → slice_get us i ≡ Some u → IsPlaced m u
  placed_at us i u h e = found (IsPlaced m) us h i u e

  pub placed_on : (us : List User) (i : ℕ) (u : User) → AllByRecursion (IsPlaced m) us → slice_get us i ≡ Some u → AllByRecursion (IsPlaced m) (take i us) → AllByRecursion (IsPlaced m) (take (i + 1) us)
  placed_on us i u h e k = subst (AllByRecursion (IsPlaced m)) (sym (take_found us i u e)) (all_append_to (IsPlaced m) (take i us) (u ∷ []) k (placed_at us i u h e, tt))

  pub users_done : (us : List User) (i : ℕ) (told all : List (Fact Tag)) → length us ≤ i → told ++ users_told m (take i us) (drop i us) ≡ all → told ≡ all
  users_done us i told all le h = sym (append-nil told) ∙ ap (λ z. told ++ users_told m (take i us) z) (sym (drop_all i us le)) ∙ h
