-- What a walk over a list has made of it so far, with one more item.
use Rattle.std.proofs.Common.{◌≡◌, ℕ, ◌+◌, ◌≤◌, length, arith, Bool, true, false, List, [], ◌∷◌, ◌++◌, drop, take, map, refl, ap, sym, ◌∙◌}
use Rattle.std.specs.Prelude.{Option, Some, fold, filter, slice_get}
use Rattle.std.specs.List.{filter_map, flat_map}
use Rattle.std.proofs.lemmas.Grind.{flat_map-append}
use Rattle.std.proofs.lemmas.List.{append-nil, append_assoc, drop_all, map-append, map_push, take_all}
use Rattle.std.proofs.lemmas.List.Elements.{filter-append, filter_map-append}
use Rattle.std.proofs.lemmas.List.Sums.{fold-append}
use Rattle.ctw_text.specs.Written.{Name}
use Rattle.ctw_text.specs.declared.fields.Field.{Field}
use Rattle.ctw_text.specs.Names.{Counts, NameFault, counted, double_faults, in_order, is_empty, none_yet, tag_of}
use Rattle.ctw_names.specs.Noted.{noted}
use Rattle.ctw_names.specs.Doubles.{double_fault, doubles_onto}
use Rattle.ctw_names.proofs.DoubleLaws.{doubles_append, doubles_are}
use Rattle.ctw_names.proofs.Noting.{drop_get, noted_append, take_get}

-- all items are walked
pub walked : {X : Type 0} (xs : List X) (i : ℕ) {n : ℕ} → n ≡ length xs → n ≤ i → take i xs ≡ xs
walked xs i size all = take_all i xs (omega (arith, size, all))

module _ {X : Type 0} (xs : List X) (i : ℕ) (x : X) (e : slice_get xs i ≡ Some x) where
  pub map_then : {Y : Type 0} (f : X → Y) → map f (take i xs) ++ f x ∷ [] ≡ map f (take (i + 1) xs)
  map_then f = sym (ap (map f) (take_get xs i x e) ∙ map_push f (take i xs) x)

  pub flat_then : {Y : Type 0} (f : X → List Y) → flat_map f (take i xs) ++ f x ≡ flat_map f (take (i + 1) xs)
  flat_then f =
      sym (ap (flat_map f) (take_get xs i x e) ∙ flat_map-append f (take i xs) (x ∷ []) ∙ ap (λ l. flat_map f (take i xs) ++ l) (append-nil (f x)))

  pub mapped_then : {Y : Type 0} (p : X → Bool) (f : X → Y) → map f (filter p (take i xs)) ++ map f (filter p (x ∷ [])) ≡ map f (filter p (take (i + 1) xs))
  mapped_then p f =
      sym (ap (map f) (ap (filter p) (take_get xs i x e) ∙ filter-append p (take i xs) (x ∷ [])) ∙ map-append f (filter p (take i xs)) (filter p (x ∷ [])))

  pub picked_then : {Y : Type 0} (q : X → Bool) (g : X → Y) (p : Y → Bool) → filter p (map g (filter q (take i xs))) ++ filter p (map g (filter q (x ∷ []))) ≡ filter p (map g (filter q (take (i + 1) xs)))
  picked_then q g p = sym (filter-append p (map g (filter q (take i xs))) (map g (filter q (x ∷ [])))) ∙ ap (filter p) (mapped_then q g)

  pub folded_then : {A B : Type 0} (h : B → A → B) (b : B) (f : X → List A) → fold h (fold h b (flat_map f (take i xs))) (f x) ≡ fold h b (flat_map f (take (i + 1) xs))
  folded_then h b f = sym (fold-append h b (flat_map f (take i xs)) (f x)) ∙ ap (fold h b) (flat_then f)

  pub chosen_then : {A B : Type 0} (h : B → A → B) (b : B) (f : X → Option A) → fold h (fold h b (filter_map f (take i xs))) (filter_map f (x ∷ [])) ≡ fold h b (filter_map f (take (i + 1) xs))
  chosen_then h b f =
      sym (fold-append h b (filter_map f (take i xs)) (filter_map f (x ∷ [])))
      ∙ ap (fold h b) (sym (ap (filter_map f) (take_get xs i x e) ∙ filter_map-append f (take i xs) (x ∷ [])))

  pub noted_then : (b : Option NameFault) (f : X → List NameFault) → noted (noted b (flat_map f (take i xs))) (f x) ≡ noted b (flat_map f (take (i + 1) xs))
  noted_then b f = sym (noted_append (flat_map f (take i xs)) (f x) b) ∙ ap (noted b) (flat_then f)

-- what is kept of a first item
pub kept_front : {X Y : Type 0} (p : X → Bool) (g : X → Y) (x : X) (rest : List X) → map g (filter p (x ∷ [])) ++ map g (filter p rest) ≡ map g (filter p (x ∷ rest))
kept_front p g x rest = sym (ap (map g) (filter-append p (x ∷ []) rest) ∙ map-append g (filter p (x ∷ [])) (filter p rest))

-- whether anything is kept

pub some_kept : {X : Type 0} (p : X → Bool) (xs : List X) (i : ℕ) (x : X) → slice_get xs i ≡ Some x → p x ≡ true → is_empty (filter p (drop i xs)) ≡ false
some_kept p xs i x e kept = ap (λ l. is_empty (filter p l)) (drop_get xs i x e) ∙ rw kept refl

pub none_kept : {X : Type 0} (p : X → Bool) (xs : List X) (i : ℕ) (x : X) → slice_get xs i ≡ Some x → p x ≡ false → is_empty (filter p (drop (i + 1) xs)) ≡ is_empty (filter p (drop i xs))
none_kept p xs i x e left = sym (ap (λ l. is_empty (filter p l)) (drop_get xs i x e) ∙ rw left refl)

-- some more names
pub doubles_then : (names more before : List (Option Name)) (b : Option NameFault) → noted (noted b (doubles_onto before names)) (doubles_onto (before ++ names) more) ≡ noted b (doubles_onto before (names ++ more))
doubles_then names more before b = sym (ap (noted b) (doubles_append names more before) ∙ noted_append (doubles_onto before names) (doubles_onto (before ++ names) more) b)

-- the faults of names that stand twice, as they are noted
pub doubles_whole : (names : List (Option Name)) (b : Option NameFault) → noted b (doubles_onto [] names) ≡ noted b (double_faults [] names)
doubles_whole names b = ap (noted b) (sym (doubles_are names [] [] (λ w. refl)))

-- one more name
pub double_then : (names : List (Option Name)) (n : Option Name) (before : List (Option Name)) (b : Option NameFault) → noted (noted b (doubles_onto before names)) (double_fault n (before ++ names)) ≡ noted b (doubles_onto before (names ++ n ∷ []))
double_then names n before b =
    ap (λ (l : List NameFault). noted (noted b (doubles_onto before names)) l) (sym (append-nil (double_fault n (before ++ names)))) ∙ doubles_then names (n ∷ []) before b

-- a walk with counts

module _ {X : Type 0} (give : Counts → Field → List X) (fs : List Field) where
  pub order_starts : (xs : List X) (c : Counts) → xs ≡ [] → c ≡ none_yet → xs ++ in_order give c (drop 0 fs) ≡ in_order give none_yet fs
  order_starts xs c none first = ap (λ (l : List X). l ++ in_order give c fs) none ∙ ap (λ (k : Counts). in_order give k fs) first

  pub order_then : (i : ℕ) (x : Field) (xs ys : List X) (c k : Counts) (all : List X) → slice_get fs i ≡ Some x → ys ≡ xs ++ give c x → k ≡ counted (tag_of x) c → xs ++ in_order give c (drop i fs) ≡ all → ys ++ in_order give k (drop (i + 1) fs) ≡ all
  order_then i x xs ys c k all is grown counts so_far =
      let rest = drop (i + 1) fs in
      ap (λ (l : List X). l ++ in_order give k rest) grown ∙ append_assoc xs (give c x) (in_order give k rest)
      ∙ ap (λ (m : Counts). xs ++ (give c x ++ in_order give m rest)) counts
      ∙ ap (λ (l : List Field). xs ++ in_order give c l) (sym (drop_get fs i x is)) ∙ so_far

  pub order_ends : (i : ℕ) {n : ℕ} (xs : List X) (c : Counts) (all : List X) → n ≡ length fs → n ≤ i → xs ++ in_order give c (drop i fs) ≡ all → xs ≡ all
  order_ends i xs c all size past so_far =
      sym (append-nil xs) ∙ ap (λ (l : List Field). xs ++ in_order give c l) (sym (drop_all i fs (omega (arith, size, past)))) ∙ so_far
