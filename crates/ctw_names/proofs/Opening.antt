-- Labels as blocks open and close.
use Rattle.std.proofs.Common.{◌≡◌, ℕ, ◌+◌, ◌-◌, ◌<◌, Bool, true, false, cond, List, [], ◌∷◌, ◌++◌, length, map, refl, ap, sym, ◌∙◌, arith}
use Rattle.std.specs.Prelude.{Option, Some, None, position, reverse}
use Rattle.std.specs.List.{position_from}
use Rattle.std.specs.Str.{bytes_eq}
use Rattle.std.specs.Cmp.Lexicographic.{nat_list_eq_equiv}
use Rattle.std.proofs.lemmas.List.{reverse-append}
use Rattle.std.proofs.lemmas.Slice.Eq.{bytes_eq-Decides}
use Rattle.std.proofs.lemmas.Iterator.Adapters.{position_from-zero}
use Rattle.ctw_text.specs.Written.{Name}
use Rattle.ctw_text.specs.Names.{is_named}
use Rattle.ctw_names.specs.declared.labels.OpenBlock.{OpenBlock}
use Rattle.ctw_names.specs.Open.{top, flat}

abbrev label_of : OpenBlock → Option Name
label_of b = b.name

pub reverse_push : {X : Type 0} (xs : List X) (x : X) → reverse (xs ++ x ∷ []) ≡ x ∷ reverse xs
reverse_push xs x = reverse-append xs (x ∷ [])

-- where a block's label is a name
is_it : (b : OpenBlock) (n : Name) (w word : List ℕ) → b.name ≡ Some n → word ≡ n.word → is_named (record { word = w; place = 0 }) b.name ≡ bytes_eq word w
is_it b n w word named same =
    ap (is_named (record { word = w; place = 0 })) named ∙ ap (bytes_eq w) (sym same) ∙ nat_list_eq_equiv.symm w word

-- a block opens
pub tops_opened : (g h : List ℕ → Option (Option ℕ)) (bs : List OpenBlock) (b : OpenBlock) (n : Name) (word : List ℕ) (number : ℕ) → b.name ≡ Some n → word ≡ n.word → number ≡ length bs
    → ((w : List ℕ) → flat (g w) ≡ top w bs) → ((w : List ℕ) → h w ≡ cond (bytes_eq word w) (Some (Some number)) (g w)) → (w : List ℕ) → flat (h w) ≡ top w (b ∷ bs)
tops_opened g h bs b n word number named same size are after w =
    ap flat (after w) ∙ go (bytes_eq word w) ∙ ap (λ (t : Bool). cond t (Some (length bs)) (top w bs)) (sym (is_it b n w word named same))
  where
    go : (t : Bool) → flat (cond t (Some (Some number)) (g w)) ≡ cond t (Some (length bs)) (top w bs)
    go true = ap (λ (k : ℕ). Some k) size
    go false = are w

-- a block closes
pub tops_closed : (g h : List ℕ → Option (Option ℕ)) (bs : List OpenBlock) (b : OpenBlock) (n : Name) (word : List ℕ) → b.name ≡ Some n → word ≡ n.word → b.shadowed ≡ top n.word bs
    → ((w : List ℕ) → flat (g w) ≡ top w (b ∷ bs)) → ((w : List ℕ) → h w ≡ cond (bytes_eq word w) (Some b.shadowed) (g w)) → (w : List ℕ) → flat (h w) ≡ top w bs
tops_closed g h bs b n word named same shadows are after w = go (bytes_eq word w) refl
  where
    go : (t : Bool) → bytes_eq word w ≡ t → flat (h w) ≡ top w bs
    go true t =
        let here : n.word ≡ w = sym same ∙ (bytes_eq-Decides word w).0 t in
        ap flat (after w ∙ ap (λ (k : Bool). cond k (Some b.shadowed) (g w)) t) ∙ shadows ∙ ap (λ (v : List ℕ). top v bs) here
    go false f =
        ap flat (after w ∙ ap (λ (k : Bool). cond k (Some b.shadowed) (g w)) f) ∙ are w
        ∙ ap (λ (k : Bool). cond k (Some (length bs)) (top w bs)) (is_it b n w word named same ∙ f)

-- the word of the innermost block is there
pub top_there : (bs : List OpenBlock) (b : OpenBlock) (n : Name) (word : List ℕ) → b.name ≡ Some n → word ≡ n.word → top word (b ∷ bs) ≡ Some (length bs)
top_there bs b n word named same =
    ap (λ (k : Bool). cond k (Some (length bs)) (top word bs)) (is_it b n word word named same ∙ nat_list_eq_equiv.refl word)

-- Positions among labels

record Found (w : Name) (bs : List OpenBlock) (i t : ℕ) : Type 0 where
  below : t < length bs
  there : position_from (is_named w) i (map label_of bs) ≡ Some (i + (length bs - 1 - t))

found_from : (w : Name) (bs : List OpenBlock) (i t : ℕ) → top w.word bs ≡ Some t → Found w bs i t
found_from w [] i t e = absurd (let no : ⊥ = cc in no)
found_from w (b ∷ bs) i t e = go (λ rest. found_from w bs (i + 1) t rest) (is_named w b.name) refl
  where
    go : (top w.word bs ≡ Some t → Found w bs (i + 1) t) → (k : Bool) → is_named w b.name ≡ k → Found w (b ∷ bs) i t
    go behind true h =
        let first : Some (length bs) ≡ Some t = sym (ap (λ (k : Bool). cond k (Some (length bs)) (top w.word bs)) h) ∙ e in
        let size : length bs ≡ t = cc in
        let place : i ≡ i + (length (b ∷ bs) - 1 - t) = omega arith in
        record {
          below = omega arith;
          there = ap (λ (k : Bool). cond k (Some i) (position_from (is_named w) (i + 1) (map label_of bs))) h ∙ ap (λ (k : ℕ). Some k) place;
        }
    go behind false h =
        let rest : top w.word bs ≡ Some t = sym (ap (λ (k : Bool). cond k (Some (length bs)) (top w.word bs)) h) ∙ e in
        let f = behind rest in
        let below : t < length bs = f.below in
        let place : i + 1 + (length bs - 1 - t) ≡ i + (length (b ∷ bs) - 1 - t) = omega arith in
        record {
          below = omega arith;
          there = ap (λ (k : Bool). cond k (Some i) (position_from (is_named w) (i + 1) (map label_of bs))) h ∙ f.there ∙ ap (λ (k : ℕ). Some k) place;
        }

lost_from : (w : Name) (bs : List OpenBlock) (i : ℕ) → top w.word bs ≡ None → position_from (is_named w) i (map label_of bs) ≡ None
lost_from w [] i e = refl
lost_from w (b ∷ bs) i e = go (λ rest. lost_from w bs (i + 1) rest) (is_named w b.name) refl
  where
    go : (top w.word bs ≡ None → position_from (is_named w) (i + 1) (map label_of bs) ≡ None) → (k : Bool) → is_named w b.name ≡ k → position_from (is_named w) i (map label_of (b ∷ bs)) ≡ None
    go behind true h = let no : Some (length bs) ≡ None = sym (ap (λ (k : Bool). cond k (Some (length bs)) (top w.word bs)) h) ∙ e in absurd (let never : ⊥ = cc in never)
    go behind false h =
        ap (λ (k : Bool). cond k (Some i) (position_from (is_named w) (i + 1) (map label_of bs))) h
        ∙ behind (sym (ap (λ (k : Bool). cond k (Some (length bs)) (top w.word bs)) h) ∙ e)

pub below_top : (w : Name) (bs : List OpenBlock) (t : ℕ) → top w.word bs ≡ Some t → t < length bs
below_top w bs t e = (found_from w bs 0 t e).below

pub position_found : (w : Name) (bs : List OpenBlock) (t : ℕ) → top w.word bs ≡ Some t → position (is_named w) (map (λ (b : OpenBlock). b.name) bs) ≡ Some (length bs - 1 - t)
position_found w bs t e =
    let place : 0 + (length bs - 1 - t) ≡ length bs - 1 - t = omega arith in
    position_from-zero (is_named w) (map label_of bs) ∙ (found_from w bs 0 t e).there ∙ ap (λ (k : ℕ). Some k) place

pub position_lost : (w : Name) (bs : List OpenBlock) → top w.word bs ≡ None → position (is_named w) (map (λ (b : OpenBlock). b.name) bs) ≡ None
position_lost w bs e = position_from-zero (is_named w) (map label_of bs) ∙ lost_from w bs 0 e
