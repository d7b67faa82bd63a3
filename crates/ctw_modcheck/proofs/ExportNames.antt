-- The names of exports in a set.
use Rattle.std.proofs.Common.{◌≡◌, ◌≤◌, ℕ, zero, suc, ◌+◌, Bool, true, false, not, ◌||◌, List, [], ◌∷◌, length, drop, slice_get, Some, None, Bor, refl, sym, ap, ap₂, ◌∙◌, arith}
use Rattle.std.specs.List.{list_any}
use Rattle.std.specs.Str.{bytes_eq}
use Rattle.std.specs.Ordering.{nat_cmp, is_eq, match_ordering}
use Rattle.std.specs.Cmp.Lexicographic.{slice_cmp}
use Rattle.std.specs.declared.cmp.Ordering.{Ordering}
use Rattle.std.specs.declared.cmp.Ordering.TheVariants.{Less, Equal, Greater}
use Rattle.std.specs.BTreeSet.{insert_key}
use Rattle.std.proofs.lemmas.Map.Text.{is_eq-slice_cmp}
use Rattle.std.proofs.lemmas.Slice.Eq.{bytes_eq-Decides}
use Rattle.ctw_ops.specs.declared.types.Label.{Label}
use Rattle.ctw_ops.specs.declared.fault.Space.TheVariants as space
use Rattle.ctw_ops.specs.Tree.{Module, Export}
use Rattle.ctw_modcheck.specs.declared.fault.Invalid.TheVariants.{ModuleIndex, DoubleExport}
use Rattle.ctw_modcheck.specs.Faults.{or_else, unless, names_extern, has_name, export_fault, exports_fault}
use Rattle.ctw_modcheck.proofs.Items.{no_fault, has_fault}
use Rattle.ctw_modcheck.proofs.Loops.{skip, stop}

abbrev Key : Type 0
Key = Bor (List ℕ)

abbrev cmp : Key → Key → Ordering
cmp x y = slice_cmp nat_cmp x.now y.now

-- whether a name is among keys
abbrev pub has : List ℕ → List Key → Bool
has name keys = list_any (λ k. is_eq (slice_cmp nat_cmp name k.now)) keys

-- ---- names are the same both ways

same_bool : (b c : Bool) → (b ≡ true → c ≡ true) → (c ≡ true → b ≡ true) → b ≡ c
same_bool true true f g = refl
same_bool true false f g = sym (f refl)
same_bool false true f g = g refl
same_bool false false f g = refl

turned : (xs ys : List ℕ) → bytes_eq xs ys ≡ bytes_eq ys xs
turned xs ys = same_bool (bytes_eq xs ys) (bytes_eq ys xs) (λ e. (bytes_eq-Decides ys xs).1 (sym ((bytes_eq-Decides xs ys).0 e))) (λ e. (bytes_eq-Decides xs ys).1 (sym ((bytes_eq-Decides ys xs).0 e)))

-- ---- one more key

equal_same : (name : List ℕ) (k x : Key) → cmp k x ≡ Equal → is_eq (slice_cmp nat_cmp name k.now) ≡ is_eq (slice_cmp nat_cmp name x.now)
equal_same name k x e =
    let t : bytes_eq k.now x.now ≡ true = sym (is_eq-slice_cmp k.now x.now) ∙ ap is_eq e in
    ap (λ (l : List ℕ). is_eq (slice_cmp nat_cmp name l)) ((bytes_eq-Decides k.now x.now).0 t)

or_twice : (a b : Bool) → (a || b) ≡ (a || (a || b))
or_twice true b = refl
or_twice false b = refl

or_turn : (a b c : Bool) → (a || (b || c)) ≡ (b || (a || c))
or_turn true true c = refl
or_turn true false c = refl
or_turn false b c = refl

pub has_inserted : (name : List ℕ) (k : Key) (keys : List Key) → has name (insert_key cmp keys k) ≡ (is_eq (slice_cmp nat_cmp name k.now) || has name keys)
has_inserted name k [] = refl
has_inserted name k (x ∷ keys) = go (cmp k x) refl (has_inserted name k keys)
  where
    go : (o : Ordering) → cmp k x ≡ o → has name (insert_key cmp keys k) ≡ (is_eq (slice_cmp nat_cmp name k.now) || has name keys)
        → has name (match_ordering o (k ∷ x ∷ keys) (x ∷ keys) (x ∷ insert_key cmp keys k)) ≡ (is_eq (slice_cmp nat_cmp name k.now) || has name (x ∷ keys))
    go Less e again = refl
    go Equal e again =
        or_twice (is_eq (slice_cmp nat_cmp name x.now)) (has name keys) ∙ ap (λ (b : Bool). b || (is_eq (slice_cmp nat_cmp name x.now) || has name keys)) (sym (equal_same name k x e))
    go Greater e again =
        ap (λ (b : Bool). is_eq (slice_cmp nat_cmp name x.now) || b) again ∙ or_turn (is_eq (slice_cmp nat_cmp name x.now)) (is_eq (slice_cmp nat_cmp name k.now)) (has name keys)

-- ---- a loop over exports

-- the keys are the names of the exports met so far, and the others are left
pub record Named (m : Module Label) (keys : List Key) (i : ℕ) : Type 0 where
  pub before : List Export
  pub known : (name : List ℕ) → has name keys ≡ has_name name before
  pub left : exports_fault m [] 0 m.exports ≡ exports_fault m before i (drop i m.exports)

pub named_none : (m : Module Label) (keys : List Key) → keys ≡ [] → Named m keys 0
named_none m keys e = record { before = []; known = λ name. ap (has name) e; left = refl }

one_left : (m : Module Label) (before l : List Export) (k j : ℕ) (e : Export) → slice_get l j ≡ Some e → exports_fault m before k (drop j l) ≡ or_else (export_fault m before k e) (exports_fault m (e ∷ before) (suc k) (drop (suc j) l))
one_left m before [] k j e q = absurd cc
one_left m before (x ∷ l) k zero e q = let same : x ≡ e = cc in ap (λ (y : Export). or_else (export_fault m before k y) (exports_fault m (y ∷ before) (suc k) l)) same
one_left m before (x ∷ l) k (suc j) e q = one_left m before l k j e q

-- an export is new exactly where its name isn't among the keys
pub is_new : (m : Module Label) (keys : List Key) (i : ℕ) (h : Named m keys i) (name : List ℕ) (b : Bool) → b ≡ not (has name keys) → not (has_name name h.before) ≡ b
is_new m keys i h name b e = ap not (sym (h.known name)) ∙ sym e

pub named_more : (m : Module Label) (keys after : List Key) (i : ℕ) (e : Export) (k : Key) → Named m keys i → slice_get m.exports i ≡ Some e → names_extern m e.kind e.index ≡ true → k.now ≡ e.name → true ≡ not (has e.name keys) → after ≡ insert_key cmp keys k
    → Named m after (i + 1)
named_more m keys after i e k h is found same new ins =
    let next : suc i ≡ i + 1 = omega arith in
    record {
      before = e ∷ h.before;
      known = λ name. ap (has name) ins ∙ has_inserted name k keys ∙ ap₂ (λ (a b : Bool). a || b) (is_eq-slice_cmp name k.now ∙ ap (bytes_eq name) same ∙ turned name e.name) (h.known name);
      left = h.left ∙ one_left m h.before m.exports i i e is
          ∙ skip (export_fault m h.before i e) _ (skip (unless (names_extern m e.kind e.index) (ModuleIndex space.Exports i)) _ (no_fault (names_extern m e.kind e.index) (ModuleIndex space.Exports i) found)
          ∙ no_fault (not (has_name e.name h.before)) (DoubleExport i) (is_new m keys i h e.name true new))
          ∙ ap (λ (n : ℕ). exports_fault m (e ∷ h.before) n (drop n m.exports)) next;
    }

pub named_missing : (m : Module Label) (keys : List Key) (i : ℕ) (e : Export) → Named m keys i → slice_get m.exports i ≡ Some e → names_extern m e.kind e.index ≡ false → exports_fault m [] 0 m.exports ≡ Some (ModuleIndex space.Exports i)
named_missing m keys i e h is found =
    h.left ∙ one_left m h.before m.exports i i e is
    ∙ stop (export_fault m h.before i e) _ (ModuleIndex space.Exports i) (stop (unless (names_extern m e.kind e.index) (ModuleIndex space.Exports i)) _ (ModuleIndex space.Exports i) (has_fault (names_extern m e.kind e.index) (ModuleIndex space.Exports i) found))

pub named_double : (m : Module Label) (keys : List Key) (i : ℕ) (e : Export) → Named m keys i → slice_get m.exports i ≡ Some e → names_extern m e.kind e.index ≡ true → false ≡ not (has e.name keys)
    → exports_fault m [] 0 m.exports ≡ Some (DoubleExport i)
named_double m keys i e h is found old =
    h.left ∙ one_left m h.before m.exports i i e is
    ∙ stop (export_fault m h.before i e) _ (DoubleExport i)
    (skip (unless (names_extern m e.kind e.index) (ModuleIndex space.Exports i)) _ (no_fault (names_extern m e.kind e.index) (ModuleIndex space.Exports i) found)
    ∙ has_fault (not (has_name e.name h.before)) (DoubleExport i) (is_new m keys i h e.name false old))

pub named_all : (m : Module Label) (keys : List Key) (i : ℕ) → length m.exports ≤ i → Named m keys i → exports_fault m [] 0 m.exports ≡ None
named_all m keys i le h = h.left ∙ none m.exports i le
  where
    none : (l : List Export) (j : ℕ) → length l ≤ j → exports_fault m h.before i (drop j l) ≡ None
    none [] zero k = refl
    none [] (suc j) k = refl
    none (x ∷ l) zero k = absurd (omega (arith, k))
    none (x ∷ l) (suc j) k = none l j (omega (arith, k))
