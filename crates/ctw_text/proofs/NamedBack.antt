-- The names of a printed module stand for what they were printed for, and its limits are kept: its pieces give it back.
use Rattle.std.proofs.Common.{◌≡◌, ◌≢◌, ◌<◌, ◌≤◌, ℕ, zero, suc, ◌+◌, Bool, true, false, cond, List, [], ◌∷◌, ◌++◌, length, get_or, drop, refl, ap, sym, ◌∙◌, arith, append-nil, inl, inr}
use Rattle.std.specs.Prelude.{◌==◌, nat_lt, nat_le, not, map, filter, Ok}
use Rattle.std.specs.List.{All}
use Rattle.std.specs.List.Sorted.{IsNonDecreasingBy}
use Rattle.std.proofs.lemmas.List.Elements.{All-head, All-tail}
use Rattle.std.proofs.lemmas.List.{length-map, drop_all}
use Rattle.std.proofs.lemmas.Bool.{false≢true, eqb-true, eqb-false, lt-ltb, leb-true, leb-false, le-leb}
use Rattle.ctw_ops.specs.declared.types.Label.{Label}
use Rattle.ctw_ops.specs.Typing.{optional}
use Rattle.ctw_ops.specs.Tree.{Module, Element, Segment, Custom}
use Rattle.ctw_ops.specs.Valid.{IsValid}
use Rattle.ctw_text.specs.Pieces.{CustomField}
use Rattle.ctw_text.specs.Fields.{Field}
use Rattle.ctw_text.specs.Names.{Wide, Space, space_of, none_yet, spelled_type, plain_entry, type_fields, is_kind, faults_of, leftmost, settled as settled_faults, without_customs, is_empty, sections_with, last_with, custom_of, by_place, wide_of, named}
use Rattle.ctw_text.specs.Says.{AllOf}
use Rattle.ctw_text.specs.Limited.{IsPlace, IsLimitedCustom, IsLimited}
use Rattle.ctw_text.proofs.GatheredFields.{Sums, sums_of, Adds, wide_entry, wide_function, first_element, first_segment, settled, module_sums}
use Rattle.ctw_text.proofs.PrintableModules.{all_of, place_low}

-- the module without limits
abbrev pub wide : Module Label → Wide
wide m = record {
  ct = m.ct;
  types = map wide_entry m.types;
  imports = m.imports;
  functions = map wide_function m.functions;
  tables = optional m.table;
  memories = optional m.memory;
  globals = m.globals;
  exports = m.exports;
  start = optional m.start;
  elements = m.elements;
  segments = m.segments;
  customs = m.customs;
}

-- Segments name the only table and memory

first_elements : (es : List (Element Label)) → All (λ e. e.table ≡ 0) es → map first_element es ≡ es
first_elements [] h i = []
first_elements (e ∷ es) h i = record { table = sym (All-head (λ (e : Element Label). e.table ≡ 0) e es h) i; offset = e.offset; functions = e.functions } ∷ first_elements es (All-tail (λ (e : Element Label). e.table ≡ 0) e es h) i

first_segments : (ss : List (Segment Label)) → All (λ s. s.memory ≡ 0) ss → map first_segment ss ≡ ss
first_segments [] h i = []
first_segments (s ∷ ss) h i = record { memory = sym (All-head (λ (s : Segment Label). s.memory ≡ 0) s ss h) i; offset = s.offset; bytes = s.bytes } ∷ first_segments ss (All-tail (λ (s : Segment Label). s.memory ≡ 0) s ss h) i

-- Customs stand where they stood

-- so many sections that have items, up to this one
bit : (has : List Bool) → ℕ → Bool
bit [] n = false
bit (h ∷ has) zero = h
bit (h ∷ has) (suc n) = bit has n

last_back : (n at before : ℕ) (has : List Bool) → bit has n ≡ true → last_with (suc n) at before has ≡ at + n
unfolding bit
last_back n at before [] e = absurd (false≢true e)
last_back zero at before (h ∷ has) e = rw e (omega arith)
last_back (suc n) at before (h ∷ has) e = last_back n (suc at) (cond h at before) has e ∙ omega arith

abbrev positive : ℕ → Bool
positive n = nat_lt 0 n

bit_back : (ns : List ℕ) (n : ℕ) → 0 < get_or ns n 0 → bit (map positive ns) n ≡ true
unfolding bit
bit_back [] n h = absurd (omega arith)
bit_back (k ∷ ns) zero h = lt-ltb 0 k h
bit_back (k ∷ ns) (suc n) h = bit_back ns n h

filled : {X : Type 0} (xs : List X) → not (is_empty xs) ≡ positive (length xs)
filled [] = refl
filled (x ∷ xs) = sym (lt-ltb 0 (suc (length xs)) (omega arith))

filled_map : {X Y : Type 0} (f : X → Y) (xs : List X) → not (is_empty (map f xs)) ≡ positive (length xs)
filled_map f [] = refl
filled_map f (x ∷ xs) = sym (lt-ltb 0 (suc (length xs)) (omega arith))

-- whether the sections from 1 to 11 have items
abbrev counts : Module Label → List ℕ
counts m =
    length m.types ∷ length m.imports ∷ length m.functions ∷ length (optional m.table) ∷ length (optional m.memory) ∷ length m.globals ∷ length m.exports ∷ length (optional m.start) ∷ length m.elements
    ∷ length m.functions ∷ length m.segments ∷ []

sections_filled : (m : Module Label) → sections_with (wide m) ≡ map positive (counts m)
sections_filled m i =
    filled_map wide_entry m.types i ∷ filled m.imports i ∷ filled_map wide_function m.functions i ∷ filled (optional m.table) i ∷ filled (optional m.memory) i ∷ filled m.globals i ∷ filled m.exports i
    ∷ filled (optional m.start) i ∷ filled m.elements i ∷ filled_map wide_function m.functions i ∷ filled m.segments i ∷ []

place_back : (m : Module Label) (place : ℕ) → IsPlace m place → last_with place 1 0 (sections_with (wide m)) ≡ place
place_back m zero h = refl
place_back m (suc n) (inl e) = absurd (omega arith)
place_back m (suc n) (inr h) = last_back n 1 0 (sections_with (wide m)) (ap (λ has. bit has n) (sections_filled m) ∙ bit_back (counts m) n h) ∙ omega arith

settled_back : (m : Module Label) (cs : List Custom) → All (IsLimitedCustom m) cs → map (settled (sections_with (wide m))) cs ≡ cs
settled_back m [] h i = []
settled_back m (c ∷ cs) h i =
    record { place = place_back m c.place (All-head (IsLimitedCustom m) c cs h).place i; name = c.name; bytes = c.bytes } ∷ settled_back m cs (All-tail (IsLimitedCustom m) c cs h) i

-- Those of each place, place by place, are all of them in their order

abbrev Rising : List Custom → Type 0
Rising [] = Unit {0}
Rising (c ∷ cs) = AllOf (λ (d : Custom). c.place ≤ d.place) cs × Rising cs

rising : (cs : List Custom) → IsNonDecreasingBy (λ c. c.place) cs → Rising cs
rising [] h = tt
rising (c ∷ cs) h = (
  all_of (λ (d : Custom). c.place ≤ d.place) (λ (d : Custom). c.place ≤ d.place) (λ d l. l) cs (λ k d l. h 0 (suc k) d (omega arith) (omega arith)),
  rising cs (λ i j d a b. h (suc i) (suc j) d (omega arith) (omega arith)),
)

abbrev upto : ℕ → List Custom → List Custom
upto n cs = filter (λ (c : Custom). nat_le c.place n) cs

abbrev at_place : ℕ → List Custom → List Custom
at_place n cs = filter (λ (c : Custom). c.place == n) cs

le_false : (a b : ℕ) → b < a → nat_le a b ≡ false
le_false a b h = go (nat_le a b) refl
  where
    go : (t : Bool) → nat_le a b ≡ t → t ≡ false
    go true e = absurd (let l : a ≤ b = leb-true a b e in omega arith)
    go false e = refl

eq_false : (a b : ℕ) → a ≢ b → (a == b) ≡ false
eq_false a b h = go (a == b) refl
  where
    go : (t : Bool) → (a == b) ≡ t → t ≡ false
    go true e = absurd (h (eqb-true a b e))
    go false e = refl

eq_true : (a b : ℕ) → a ≡ b → (a == b) ≡ true
eq_true a b h = go (a == b) refl
  where
    go : (t : Bool) → (a == b) ≡ t → t ≡ true
    go true e = refl
    go false e = absurd (eqb-false a b e h)

-- where all stand behind
none_upto : (n : ℕ) (cs : List Custom) → AllOf (λ (d : Custom). n < d.place) cs → upto n cs ≡ []
none_upto n [] h = refl
none_upto n (c ∷ cs) h = rw (le_false c.place n h.0) (none_upto n cs h.1)

weaker : (n : ℕ) (c : Custom) (cs : List Custom) → c.place ≡ suc n → AllOf (λ (d : Custom). c.place ≤ d.place) cs → AllOf (λ (d : Custom). n < d.place) cs
weaker n c [] e h = tt
weaker n c (d ∷ cs) e h = (let l : c.place ≤ d.place = h.0 in omega arith, weaker n c cs e h.1)

-- a place is below, at or above another
data Compared (a b : ℕ) : Type 0 where
  below : a ≤ b → Compared a b
  next : a ≡ suc b → Compared a b
  above : suc b < a → Compared a b

compared : (a b : ℕ) → Compared a b
compared a b = go (nat_le a b) refl
  where
    beyond : b < a → (t : Bool) → (a == suc b) ≡ t → Compared a b
    beyond l true e = next (eqb-true a (suc b) e)
    beyond l false e = above (let n : a ≢ suc b = eqb-false a (suc b) e in omega arith)

    go : (t : Bool) → nat_le a b ≡ t → Compared a b
    go true e = below (leb-true a b e)
    go false e = beyond (leb-false a b e) (a == suc b) refl

one_more_place : (n : ℕ) (cs : List Custom) → Rising cs → upto n cs ++ at_place (suc n) cs ≡ upto (suc n) cs
one_more_place n [] h = refl
one_more_place n (c ∷ cs) h = go (one_more_place n cs h.1) (compared c.place n)
  where
    go : upto n cs ++ at_place (suc n) cs ≡ upto (suc n) cs → Compared c.place n → upto n (c ∷ cs) ++ at_place (suc n) (c ∷ cs) ≡ upto (suc n) (c ∷ cs)
    go ih (below l) = rw (le-leb c.place n l, eq_false c.place (suc n) (omega arith), le-leb c.place (suc n) (omega arith)) (ap (λ (cs : List Custom). c ∷ cs) ih)
    go ih (next e) =
        let none : upto n cs ≡ [] = none_upto n cs (weaker n c cs e h.0) in
        rw (le_false c.place n (omega arith), eq_true c.place (suc n) e, le-leb c.place (suc n) (omega arith), none) (ap (λ (cs : List Custom). c ∷ cs) (sym (ap (λ xs. xs ++ at_place (suc n) cs) none) ∙ ih))
    go ih (above l) = rw (le_false c.place n (omega arith), eq_false c.place (suc n) (omega arith), le_false c.place (suc n) (omega arith)) ih

at_zero : (cs : List Custom) → at_place 0 cs ≡ upto 0 cs
at_zero [] = refl
at_zero (c ∷ cs) = go (at_zero cs) (compared c.place 0)
  where
    go : at_place 0 cs ≡ upto 0 cs → Compared c.place 0 → at_place 0 (c ∷ cs) ≡ upto 0 (c ∷ cs)
    go ih (below l) = rw (eq_true c.place 0 (omega arith), le-leb c.place 0 l) (ap (λ (cs : List Custom). c ∷ cs) ih)
    go ih (next e) = rw (eq_false c.place 0 (omega arith), le_false c.place 0 (omega arith)) ih
    go ih (above l) = rw (eq_false c.place 0 (omega arith), le_false c.place 0 (omega arith)) ih

by_place_upto : (n : ℕ) (cs : List Custom) → Rising cs → by_place n cs ≡ upto n cs
by_place_upto zero cs h = at_zero cs
by_place_upto (suc n) cs h = ap (λ xs. xs ++ at_place (suc n) cs) (by_place_upto n cs h) ∙ one_more_place n cs h

all_upto : (m : Module Label) (cs : List Custom) → All (IsLimitedCustom m) cs → upto 11 cs ≡ cs
all_upto m [] h = refl
all_upto m (c ∷ cs) h =
    rw (le-leb c.place 11 (place_low m c.place (All-head (IsLimitedCustom m) c cs h).place)) (ap (λ (cs : List Custom). c ∷ cs) (all_upto m cs (All-tail (IsLimitedCustom m) c cs h)))

customs_back : (m : Module Label) → IsLimited m → by_place 11 (map (settled (sections_with (wide m))) m.customs ++ []) ≡ m.customs
customs_back m x =
    ap (λ cs. by_place 11 cs) (append-nil (map (settled (sections_with (wide m))) m.customs) ∙ settled_back m m.customs x.customs) ∙ by_place_upto 11 m.customs (rising m.customs x.rising)
    ∙ all_upto m m.customs x.customs

-- The third pass

none_left : {X Y : Type 0} (f : X → Y) (xs : List X) (es : List Y) → es ≡ map f xs → drop (length xs) es ≡ []
none_left f xs es e = ap (λ es. drop (length xs) es) e ∙ drop_all (length xs) (map f xs) (let l : length (map f xs) ≡ length xs = length-map xs f in omega arith)

module _ (m : Module Label) (v : IsValid m) (x : IsLimited m) (fs : List Field) (a : Adds (module_sums m) fs) where
  abbrev S : Space
  S = space_of fs

  -- what the fields give, where these sections have items
  given : (has : List Bool) → sums_of S has none_yet fs ≡ module_sums m has
  given has = a.sums S has none_yet

  faultless : faults_of fs ≡ []
  faultless i = (given [] i).typed ++ (given [] i).called ++ (given [] i).tabled ++ (given [] i).stored ++ (given [] i).valued ++ (given [] i).faults

  no_entries : map plain_entry (drop (length (type_fields fs)) S.entries) ≡ []
  no_entries = ap (λ es. map plain_entry es) (none_left (λ (f : Field). spelled_type f.draft.sig) (type_fields fs) S.entries (a.uses (map (λ (f : Field). spelled_type f.draft.sig) (type_fields fs))))

  types_back : (without_customs m.ct S fs).types ≡ map wide_entry m.types
  types_back = (λ i. (given [] i).types ++ no_entries i) ∙ append-nil (map wide_entry m.types ++ []) ∙ append-nil (map wide_entry m.types)

  elements_back : (without_customs m.ct S fs).elements ≡ m.elements
  elements_back = ap (λ (s : Sums). s.elements) (given []) ∙ append-nil (map first_element m.elements) ∙ first_elements m.elements (λ k d l. (v.around.elements k d l).0)

  segments_back : (without_customs m.ct S fs).segments ≡ m.segments
  segments_back = ap (λ (s : Sums). s.segments) (given []) ∙ append-nil (map first_segment m.segments) ∙ first_segments m.segments (λ k d l. (v.around.segments k d l).0)

  without_back : without_customs m.ct S fs ≡ record (wide m) { customs = [] }
  without_back i = record {
    ct = m.ct;
    types = types_back i;
    imports = (ap (λ (s : Sums). s.imports) (given []) ∙ append-nil m.imports) i;
    functions = (ap (λ (s : Sums). s.functions) (given []) ∙ append-nil (map wide_function m.functions)) i;
    tables = (ap (λ (s : Sums). s.tables) (given []) ∙ append-nil (optional m.table)) i;
    memories = (ap (λ (s : Sums). s.memories) (given []) ∙ append-nil (optional m.memory)) i;
    globals = (ap (λ (s : Sums). s.globals) (given []) ∙ append-nil m.globals) i;
    exports = (ap (λ (s : Sums). s.exports) (given []) ∙ append-nil m.exports) i;
    start = (ap (λ (s : Sums). s.start) (given []) ∙ append-nil (optional m.start)) i;
    elements = elements_back i;
    segments = segments_back i;
    customs = [];
  }

  wide_back : wide_of m.ct fs ≡ wide m
  wide_back =
      ap (λ (w : Wide). record w { customs = by_place 11 (map (custom_of (sections_with w)) (filter (is_kind CustomField) fs)) }) without_back
      ∙ ap (λ (cs : List Custom). record (wide m) { customs = by_place 11 cs }) (ap (λ (s : Sums). s.customs) (given (sections_with (wide m)))) ∙ ap (λ (cs : List Custom). record (wide m) { customs = cs }) (customs_back m x)

  pub named_back : named m.ct fs ≡ Ok (wide m)
  named_back = ap (λ l. settled_faults (leftmost l) (wide_of m.ct fs)) faultless ∙ ap (λ (w : Wide). Ok w) wide_back
