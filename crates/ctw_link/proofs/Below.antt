-- The numbers of a matching set lead to what it defines.
use Rattle.std.proofs.Common.{◌≡◌, ◌<◌, ◌≤◌, ℕ, zero, suc, ◌+◌, Bool, true, false, cond, List, [], ◌∷◌, ◌++◌, length, map, get_or, slice_get, filter_map, find, Option, Some, None, is_some, option_map, option_and_then, unwrap_or, All, inl, inr, refl, sym, ap, subst, ◌∙◌, arith}
use Rattle.std.specs.List.{cons_option, range_with_len}
use Rattle.std.specs.Prelude.{if◌then◌else◌}
use Rattle.std.specs.Str.{bytes_eq}
use Rattle.std.proofs.lemmas.Bool.{cases_lt}
use Rattle.std.proofs.lemmas.Grind.{fold-append}
use Rattle.std.proofs.lemmas.List.{append-nil, append_assoc, get_or_past}
use Rattle.std.proofs.lemmas.List.Elements.{All-nil, All-cons, All-head, All-tail, All-push, All-append, All-weaker, All-get_or}
use Rattle.std.proofs.lemmas.List.Sums.{sum_by-cons, sum_by_push}
use Rattle.std.proofs.lemmas.Option.{slice_get_within, unwrap_or-slice_get, same_Some}
use Rattle.ctw_ops.specs.declared.types.Label.{Label}
use Rattle.ctw_ops.specs.declared.types.ExternTag.{ExternTag}
use Rattle.ctw_ops.specs.declared.types.ExternTag.TheVariants as tag
use Rattle.ctw_ops.specs.Tree.{Module, Extern, ImportedFunction, ImportedTable, ImportedMemory, ImportedGlobal, Import, function_entries, global_types}
use Rattle.ctw_ops.specs.ExternType.{ExternType}
use Rattle.ctw_ops.specs.ExternType as external
use Rattle.ctw_module.specs.Lookup.{export_in}
use Rattle.ctw_link.specs.Sets.{NamedModule, ModuleSet, defined_in, defined}
use Rattle.ctw_link.specs.Externals.{wanted, declared_type, offered, has_name, Meets, IsMet}
use Rattle.ctw_ops.specs.Equal.{same_tag}
use Rattle.ctw_link.specs.Numbers.{numbers_of, LinkedModule, is_named, exported_number, import_number, tag_of, number_if, defined_before, numbers_behind, linked_module, with_linked, linked}
use Rattle.ctw_link.specs.Matching.{AreMatching}
use Rattle.ctw_link.proofs.LinkedFronts.{bare, bare_linked}
use Rattle.ctw_link.proofs.LinkedParts.{all_at, Counted, all_counted}

-- ---- kinds

same_tag_is : (a b : ExternTag) → same_tag a b ≡ true → a ≡ b
same_tag_is tag.Func tag.Func e = refl
same_tag_is tag.Table tag.Table e = refl
same_tag_is tag.Memory tag.Memory e = refl
same_tag_is tag.Global tag.Global e = refl
same_tag_is _ _ e = absurd cc

abbrev tag_in : ExternType Label → ExternTag
tag_in (external.Func index type) = tag.Func
tag_in (external.Table limits) = tag.Table
tag_in (external.Memory type) = tag.Memory
tag_in (external.Global type) = tag.Global

wanted_tag : (m : Module Label) (e : Extern Label) → tag_in (wanted m e) ≡ tag_of e
wanted_tag m (ImportedFunction type) = refl
wanted_tag m (ImportedTable limits) = refl
wanted_tag m (ImportedMemory type) = refl
wanted_tag m (ImportedGlobal type) = refl

meets_tag : (got want : ExternType Label) → Meets got want → tag_in got ≡ tag_in want
meets_tag (external.Func entry got) (external.Func index want) h = refl
meets_tag (external.Table got) (external.Table want) h = refl
meets_tag (external.Memory got) (external.Memory want) h = refl
meets_tag (external.Global got) (external.Global want) h = refl
meets_tag _ _ h = absurd h

pub mapped_some : {A B : Type 0} (f : A → B) (o : Option A) (b : B) → option_map f o ≡ Some b → (a : A) × (o ≡ Some a) × (f a ≡ b)
mapped_some f None b e = absurd cc
mapped_some f (Some a) b e = (a, refl, cc)

declared_tag : (m : Module Label) (t : ExternTag) (index : ℕ) (got : ExternType Label) → declared_type m t index ≡ Some got → tag_in got ≡ t
declared_tag m tag.Func index got e = let s = mapped_some _ _ got e in sym (ap tag_in s.2)
declared_tag m tag.Table index got e = let s = mapped_some _ _ got e in sym (ap tag_in s.2)
declared_tag m tag.Memory index got e = let s = mapped_some _ _ got e in sym (ap tag_in s.2)
declared_tag m tag.Global index got e = let s = mapped_some _ _ got e in sym (ap tag_in s.2)

-- ---- what is exported has a number

first_some : (l : List ℕ) → is_some (slice_get l 0) ≡ true → 0 < length l
first_some [] e = absurd cc
first_some (n ∷ l) e = omega arith

is_there : {A : Type 0} (o : Option A) (a : A) → o ≡ Some a → is_some o ≡ true
is_there o a e = ap is_some e

some_number : (q : LinkedModule) → Counted q → (t : ExternTag) (index : ℕ) (got : ExternType Label) → declared_type q.tree t index ≡ Some got → 0 < length (numbers_of t q.numbers)
some_number q c tag.Func index got e = let s = mapped_some _ _ got e in omega (arith, c.functions, slice_get_within (function_entries q.tree) index s.0 s.1)
some_number q c tag.Table index got e = let s = mapped_some _ _ got e in first_some q.numbers.tables (c.tables ∙ is_there _ s.0 s.1)
some_number q c tag.Memory index got e = let s = mapped_some _ _ got e in first_some q.numbers.memories (c.memories ∙ is_there _ s.0 s.1)
some_number q c tag.Global index got e = let s = mapped_some _ _ got e in omega (arith, c.globals, slice_get_within (global_types q.tree) index s.0 s.1)

-- ---- numbers below

abbrev pub Below : ExternTag → ℕ → LinkedModule → Type 0
Below t high q = All (λ n. n < high) (numbers_of t q.numbers)

-- the numbers of the parts lead to what they define
abbrev pub AreBelow : ExternTag → List LinkedModule → Type 0
AreBelow t l = All (Below t (defined_before t l)) l

pub found_all : {A : Type 0} (P : A → Type 0) (test : A → Bool) (l : List A) (a : A) → All P l → find test l ≡ Some a → P a
found_all P test [] a h e = absurd cc
found_all {A = A} P test (b ∷ l) a h e = go (test b) (λ q. found_all P test l a (All-tail P b l h) q) e
  where
    go : (r : Bool) → (find test l ≡ Some a → P a) → cond r (Some b) (find test l) ≡ Some a → P a
    go true again q = subst P (same_Some b a q) (All-head P b l h)
    go false again q = again q

pub find_bare : (name : List ℕ) (l : List LinkedModule) → find (has_name name) (map bare l) ≡ option_map bare (find (is_named name) l)
find_bare name [] = refl
find_bare name (q ∷ l) = go (bytes_eq q.name name) (find_bare name l)
  where
    go : (b : Bool) → find (has_name name) (map bare l) ≡ option_map bare (find (is_named name) l)
        → cond b (Some (bare q)) (find (has_name name) (map bare l)) ≡ option_map bare (cond b (Some q) (find (is_named name) l))
    go true h = refl
    go false h = h

or_zero : (l : List ℕ) (k high : ℕ) → All (λ n. n < high) l → 0 < length l → unwrap_or (slice_get l k) 0 < high
or_zero l k high h some =
    let first : get_or l 0 0 < high = All-get_or (λ n. n < high) l 0 0 some h in
    let read = unwrap_or-slice_get l k 0 in
    elim (cases_lt k (length l)) [
      | inl lt ↦ let here : get_or l k 0 < high = All-get_or (λ n. n < high) l k 0 lt h in omega (arith, read, here)
      | inr le ↦ omega (arith, read, get_or_past l k 0 le, first)
    ]

-- the number of an import that is met
import_below : (before : List LinkedModule) (done : ModuleSet) (m : Module Label) (i : Import Label) (t : ExternTag) → map bare before ≡ done → All Counted before → AreBelow t before → t ≡ tag_of i.kind → IsMet done m i
    → import_number before i < defined_before t before
import_below before done m i t same counted below is met =
    let found : option_and_then (λ p. offered p.tree i.name) (option_map bare (find (is_named i.module_name) before)) ≡ Some met.0 =
    ap (option_and_then (λ (p : NamedModule). offered p.tree i.name)) (sym (find_bare i.module_name before) ∙ ap (find (has_name i.module_name)) same) ∙ met.1 in
    by_part (find (is_named i.module_name) before) refl found
  where
    by_export : (high : ℕ) (q : LinkedModule) → Counted q → All (λ n. n < high) (numbers_of t q.numbers) → (o : Option (ExternTag × ℕ)) → option_and_then (λ thing. declared_type q.tree thing.0 thing.1) o ≡ Some met.0
        → unwrap_or (option_and_then (λ thing. slice_get (numbers_of thing.0 q.numbers) thing.1) o) 0 < high
    by_export high q c h None e = absurd cc
    by_export high q c h (Some thing) e =
        let kind : thing.0 ≡ t = sym (declared_tag q.tree thing.0 thing.1 met.0 e) ∙ meets_tag met.0 (wanted m i.kind) met.2 ∙ wanted_tag m i.kind ∙ sym is in
        let numbers = subst (λ (u : ExternTag). All (λ n. n < high) (numbers_of u q.numbers)) (sym kind) h in
        or_zero (numbers_of thing.0 q.numbers) thing.1 high numbers (some_number q c thing.0 thing.1 met.0 e)

    by_part : (o : Option LinkedModule) → find (is_named i.module_name) before ≡ o → option_and_then (λ p. offered p.tree i.name) (option_map bare o) ≡ Some met.0 → unwrap_or (option_and_then (exported_number i.name) o) 0 < defined_before t before
    by_part None at e = absurd cc
    by_part (Some q) at e =
        by_export (defined_before t before) q (found_all Counted (is_named i.module_name) before q counted at) (found_all (Below t (defined_before t before)) (is_named i.module_name) before q below at) (export_in i.name q.tree.exports) e

-- ---- part by part

imports_below : (before : List LinkedModule) (t : ExternTag) (high : ℕ) (l : List (Import Label)) → All (λ i. t ≡ tag_of i.kind → import_number before i < high) l → All (λ n. n < high) (filter_map (number_if t before) l)
imports_below before t high [] h = All-nil (λ n. n < high)
imports_below before t high (i ∷ l) h =
    go (same_tag t (tag_of i.kind)) refl (imports_below before t high l (All-tail P i l h))
  where
    P : Import Label → Type 0
    P i = t ≡ tag_of i.kind → import_number before i < high

    go : (b : Bool) → same_tag t (tag_of i.kind) ≡ b → All (λ n. n < high) (filter_map (number_if t before) l)
        → All (λ n. n < high) (cons_option (if b then Some (import_number before i) else None) (filter_map (number_if t before) l))
    go true e others = All-cons (λ n. n < high) (import_number before i) (filter_map (number_if t before) l) (All-head P i l h (same_tag_is t (tag_of i.kind) e)) others
    go false e others = others

range_below : (high start count : ℕ) → start + count ≤ high → All (λ n. n < high) (range_with_len start count)
range_below high start zero le = All-nil (λ n. n < high)
range_below high start (suc count) le = All-cons (λ n. n < high) start (range_with_len (start + 1) count) (omega (arith, le)) (range_below high (start + 1) count (omega (arith, le)))

behind_is : (t : ExternTag) (before : List LinkedModule) (p : NamedModule) → numbers_of t (linked_module before p).numbers ≡ numbers_behind t before p.tree
behind_is tag.Func before p = refl
behind_is tag.Table before p = refl
behind_is tag.Memory before p = refl
behind_is tag.Global before p = refl

below_more : (t : ExternTag) (low high : ℕ) (q : LinkedModule) → low ≤ high → Below t low q → Below t high q
below_more t low high q le h = All-weaker (λ n. n < low) (λ n. n < high) (λ n lt. omega (arith, le, lt)) (numbers_of t q.numbers) h

module_below : (before : List LinkedModule) (done : ModuleSet) (p : NamedModule) (t : ExternTag) → map bare before ≡ done → All Counted before → AreBelow t before → All (IsMet done p.tree) p.tree.imports
    → Below t (defined_before t before + defined_in t p.tree) (linked_module before p)
module_below before done p t same counted below met =
    let start = defined_before t before in
    let count = defined_in t p.tree in
    let met_below = All-weaker (IsMet done p.tree) (λ (i : Import Label). t ≡ tag_of i.kind → import_number before i < start) (λ i h e. import_below before done p.tree i t same counted below e h) p.tree.imports met in
    let imports = All-weaker (λ n. n < start) (λ n. n < start + count) (λ n lt. omega (arith, lt)) (filter_map (number_if t before) p.tree.imports) (imports_below before t start p.tree.imports met_below) in
    let defines = range_below (start + count) start count (omega arith) in
    subst (λ (l : List ℕ). All (λ n. n < start + count) l) (sym (behind_is t before p)) (All-append (λ n. n < start + count) (filter_map (number_if t before) p.tree.imports) (range_with_len start count) imports defines)

below_step : (t : ExternTag) (done : ModuleSet) (p : NamedModule) → AreBelow t (linked done) → All (IsMet done p.tree) p.tree.imports → AreBelow t (linked (done ++ p ∷ []))
below_step t done p below met =
    let before = linked done in
    let here = linked_module before p in
    let high = defined_before t before + defined_in t p.tree in
    let size : defined_before t (before ++ here ∷ []) ≡ high = sum_by_push (λ (q : LinkedModule). defined_in t q.tree) before here in
    let old = All-weaker (Below t (defined_before t before)) (Below t high) (λ q h. below_more t (defined_before t before) high q (omega arith) h) before below in
    let all = All-push (Below t high) before here old (module_below before done p t (bare_linked done) (all_counted done) below met) in
    let there : AreBelow t (before ++ here ∷ []) = subst (λ (n : ℕ). All (Below t n) (before ++ here ∷ [])) (sym size) all in
    subst (AreBelow t) (sym (fold-append with_linked [] done (p ∷ []))) there

below_behind : (t : ExternTag) (set : ModuleSet) → AreMatching set → (done rest : ModuleSet) → set ≡ done ++ rest → AreBelow t (linked done) → AreBelow t (linked set)
below_behind t set m done [] e h = subst (λ (s : ModuleSet). AreBelow t (linked s)) (sym (e ∙ append-nil done)) h
below_behind t set m done (p ∷ rest) e h = below_behind t set m (done ++ p ∷ []) rest (e ∙ sym (append_assoc done (p ∷ []) rest)) (below_step t done p h (m.imports done rest p e))

sum_bare : (t : ExternTag) (l : List LinkedModule) → defined t (map bare l) ≡ defined_before t l
sum_bare t [] = refl
sum_bare t (q ∷ l) = omega (arith, sum_by-cons (λ (p : NamedModule). defined_in t p.tree) (bare q) (map bare l), sum_by-cons (λ (r : LinkedModule). defined_in t r.tree) q l, sum_bare t l)

all_below : (t : ExternTag) (set : ModuleSet) → AreMatching set → All (Below t (defined t set)) (linked set)
all_below t set m =
    let size : defined_before t (linked set) ≡ defined t set = sym (sum_bare t (linked set)) ∙ ap (defined t) (bare_linked set) in
    subst (λ (n : ℕ). All (Below t n) (linked set)) size (below_behind t set m [] set refl (All-nil (Below t (defined_before t []))))

pub part_below : (t : ExternTag) (set : ModuleSet) (k : ℕ) (q : LinkedModule) → AreMatching set → slice_get (linked set) k ≡ Some q → All (λ n. n < defined t set) (numbers_of t q.numbers)
part_below t set k q m e = all_at (Below t (defined t set)) (linked set) k q (all_below t set m) e
