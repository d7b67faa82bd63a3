-- Which opcodes push, by the words of sites and by where those of bodies begin.
use Rattle.std.proofs.Common.{◌≡◌, ◌≤◌, ◌<◌, ◌↔◌, ◌⊎◌, inl, inr, ℕ, zero, suc, ◌+◌, ◌-◌, ◌*◌, ◌/◌, ◌%◌, ◌^◌, ◌==◌, ◌&&◌, ◌||◌, Bool, true, false, List, [], ◌∷◌, ◌++◌, length, map, take, drop, get_or, Option, Some, None, refl, sym, ◌∙◌, ap, subst, arith, append_assoc, length-append}
use Rattle.std.specs.Prelude.{slice_get, if◌then◌else◌}
use Rattle.std.specs.List.{AllByRecursion}
use Rattle.std.proofs.lemmas.Bool.{false≢true, eqb-true}
use Rattle.std.proofs.lemmas.Bool.Decides.{nat_tests, eqb_tells}
use Rattle.std.proofs.lemmas.List.{append-nil, length-map, take_all}
use Rattle.ctw_lex.proofs.Facts.{some_same, none_some, either_true, both_true}
use Rattle.ctw_ops.specs.declared.types.Label.{Label}
use Rattle.ctw_ops.specs.declared.types.Trust.TheVariants.{Untrusted}
use Rattle.ctw_ops.specs.Limits.{most_plain_bytes}
use Rattle.ctw_ops.specs.Tree.{Module, Function, function_entries, global_types, imported_functions, memory_among, type_named}
use Rattle.ctw_ops.specs.Typing.{Context}
use Rattle.ctw_form.proofs.Weights.{weight}
use Rattle.ctw_module.specs.Trees.{Lent, tree, view_module}
use Rattle.ctw_module.specs.Lookup.{imported_count}
use Rattle.ctw_module.proofs.Sizes.{IsSized, opcodes_in, sizes}
use Rattle.ctw_stack.specs.Operands.{fresh}
use Rattle.ctw_labels.specs.declared.tag.Tag.{Tag}
use Rattle.ctw_labels.specs.declared.name.SiteName.{SiteName}
use Rattle.ctw_labels.specs.declared.name.SiteName.TheVariants.{Param, Result, GlobalOf, Memory, Local, Block, Op, Push, IParam, IResult}
use Rattle.ctw_labels.specs.Names.{Site}
use Rattle.ctw_labels.specs.Order.{key_of}
use Rattle.ctw_labels.specs.Points.{Points, no_points, is_released}
use Rattle.ctw_labels.specs.Numbering.{params_from, type_from, sites_for, site_if, opcode_count, number}
use Rattle.ctw_labels.specs.SitedModule.{SitedBody, site_count, function_sites, head_sites, site_context, place_of, first_defined, body_from, bodies_from, bodies, body_sites, sites}
use Rattle.ctw_labels.proofs.NameLaws.{number_good}
use Rattle.ctw_labels.proofs.NumberLaws.{all_append_to}
use Rattle.ctw_sites.specs.Packed.{packed, packed_word, yield_index, Kept, after}
use Rattle.ctw_sites.specs.Starts.{starts_from}
use Rattle.ctw_sites.proofs.BodiesLaws.{bodies_length}
use Rattle.ctw_sites.proofs.NumberedLaws.{IsPlainFile, plain_fit, functions_fit}
use Rattle.ctw_sites.proofs.SizeLaws.{opcodes_length}
use Rattle.ctw_marks.specs.Meaning.{HasSite}
use Rattle.ctw_marks.specs.Pushed.{pushed_at, is_some_number, pushes_among, end_of, pushes_in, AreStarts, ArePushes}
use Rattle.ctw_marks.proofs.SiteNames.{InNames, in_left, in_right, in_either, in_from, in_to, for_in, if_in, functions_in, OfFunction, OfType}

-- ---- one word

abbrev pub word_of : Site → ℕ
word_of s = packed s.name s.yields

eqb_self : (n : ℕ) → (n == n) ≡ true
eqb_self n = grind (arith, nat_tests)

other_kind : (kind at index : ℕ) → kind < 16 → (kind == 7) ≡ false → pushed_at (packed_word kind at index) ≡ None
other_kind kind at index lt n =
    let e : packed_word kind at index % 2 ^ 4 ≡ kind = omega (arith, lt) in
    let f : (packed_word kind at index % 2 ^ 4 == 7) ≡ false = ap (λ z. z == 7) e ∙ n in
    ap (λ b. if b then Some (packed_word kind at index / 2 ^ 4 % 2 ^ 21) else None) f

push_kind : (at index : ℕ) → at < 2 ^ 21 → pushed_at (packed_word 7 at index) ≡ Some at
push_kind at index lt =
    let e : packed_word 7 at index % 2 ^ 4 ≡ 7 = omega arith in
    let f : (packed_word 7 at index % 2 ^ 4 == 7) ≡ true = ap (λ z. z == 7) e in
    let g : packed_word 7 at index / 2 ^ 4 % 2 ^ 21 ≡ at = omega (arith, lt) in
    ap (λ b. if b then Some (packed_word 7 at index / 2 ^ 4 % 2 ^ 21) else None) f ∙ ap (λ z. Some z) g

-- the pushes among a function's sites are its own, and their opcodes' numbers are small
abbrev IsOwn : ℕ → Site → Type 0
IsOwn f s = (g k : ℕ) → s.name ≡ Push g k → (g ≡ f) × (k < 2 ^ 21)

none_pushed : (k w : ℕ) → pushed_at w ≡ None → is_some_number k (pushed_at w) ≡ true → ⊥
none_pushed k w e h = false≢true (sym (ap (is_some_number k) e) ∙ h)

module _ (f k : ℕ) where
  name_found : (n : SiteName) (y : Option ℕ) → ((g j : ℕ) → n ≡ Push g j → (g ≡ f) × (j < 2 ^ 21)) → is_some_number k (pushed_at (packed n y)) ≡ true → n ≡ Push f k
  name_found (Param g i) y own h = absurd (none_pushed k (packed_word 0 0 i) (other_kind 0 0 i (omega arith) refl) h)
  name_found (Result g) y own h = absurd (none_pushed k (packed_word 1 0 0) (other_kind 1 0 0 (omega arith) refl) h)
  name_found (GlobalOf g) y own h = absurd (none_pushed k (packed_word 2 g 0) (other_kind 2 g 0 (omega arith) refl) h)
  name_found Memory y own h = absurd (none_pushed k (packed_word 3 0 0) (other_kind 3 0 0 (omega arith) refl) h)
  name_found (Local g i) y own h = absurd (none_pushed k (packed_word 4 0 i) (other_kind 4 0 i (omega arith) refl) h)
  name_found (Block g at) y own h = absurd (none_pushed k (packed_word 5 at 0) (other_kind 5 at 0 (omega arith) refl) h)
  name_found (Op g at) y own h = absurd (none_pushed k (packed_word 6 at 0) (other_kind 6 at 0 (omega arith) refl) h)
  name_found (IParam g at i) y own h = absurd (none_pushed k (packed_word 8 at i) (other_kind 8 at i (omega arith) refl) h)
  name_found (IResult g at) y own h = absurd (none_pushed k (packed_word 9 at 0) (other_kind 9 at 0 (omega arith) refl) h)
  name_found (Push g at) y own h =
      let o = own g at refl in
      let e : (at == k) ≡ true = sym (ap (is_some_number k) (push_kind at (yield_index y) o.1)) ∙ h in
      let q = eqb-true at k e in
      λ i. Push (o.0 i) (q i)

  among_found : (xs : List Site) → AllByRecursion (IsOwn f) xs → pushes_among k (map word_of xs) ≡ true → InNames (Push f k) xs
  among_found [] own h = absurd (false≢true h)
  among_found (x ∷ xs) own h = go (λ e. among_found xs own.1 e) (either_true (is_some_number k (pushed_at (word_of x))) (pushes_among k (map word_of xs)) h)
    where
      go : (pushes_among k (map word_of xs) ≡ true → InNames (Push f k) xs) → (is_some_number k (pushed_at (word_of x)) ≡ true) ⊎ (pushes_among k (map word_of xs) ≡ true) → InNames (Push f k) (x ∷ xs)
      go more (inl e) = inl (name_found x.name x.yields own.0 e)
      go more (inr e) = inr (more e)

  or_right : (a b : Bool) → b ≡ true → (a || b) ≡ true
  or_right true b e = refl
  or_right false b e = e

  or_left : (a b : Bool) → a ≡ true → (a || b) ≡ true
  or_left a b e = rw e refl

  among_there : (xs : List Site) → AllByRecursion (IsOwn f) xs → InNames (Push f k) xs → pushes_among k (map word_of xs) ≡ true
  among_there [] own h = absurd h
  among_there (x ∷ xs) own (inl e) =
      let o = own.0 f k e in
      let w : word_of x ≡ packed_word 7 k (yield_index x.yields) = ap (λ n. packed n x.yields) e in
      or_left (is_some_number k (pushed_at (word_of x))) (pushes_among k (map word_of xs))
      (ap (λ z. is_some_number k (pushed_at z)) w ∙ ap (is_some_number k) (push_kind k (yield_index x.yields) o.1) ∙ eqb_self k)
  among_there (x ∷ xs) own (inr h) = or_right (is_some_number k (pushed_at (word_of x))) (pushes_among k (map word_of xs)) (among_there xs own.1 h)

  own_in : (g : ℕ) (xs : List Site) → AllByRecursion (IsOwn f) xs → InNames (Push g k) xs → g ≡ f
  own_in g [] own h = absurd h
  own_in g (x ∷ xs) own (inl e) = (own.0 g k e).0
  own_in g (x ∷ xs) own (inr h) = own_in g xs own.1 h

-- ---- a body

no_local : (f i g k : ℕ) → Local f i ≡ Push g k → ⊥
no_local f i g k e = cc

locals_own : {A : Type 0} (f n i : ℕ) (xs : List A) → AllByRecursion (IsOwn f) (sites_for (Local n) i xs)
locals_own f n i [] = tt
locals_own f n i (x ∷ xs) = ((λ g k e. absurd (no_local n i g k e)), locals_own f n (i + 1) xs)

module _ (m : Module Label) where
  body_own : (q k n : ℕ) (F : Function Label) → opcode_count F.body < 2 ^ 21 → AllByRecursion (IsOwn k) (body_from m no_points q k n F).sites
  body_own q k n F lt = all_append_to (IsOwn k) (sites_for (Local k) (length (type_named m F.type).params) F.locals) B (locals_own k k (length (type_named m F.type).params) F.locals) (owned B (number_good (place_of m no_points k) C F.body (n + length F.locals) 0 fresh).0)
    where
      C : Context Tag
      C = site_context m Untrusted (type_from q (type_named m F.type)) (params_from n F.locals)

      B : List Site
      B = (number (place_of m no_points k) C F.body (n + length F.locals) 0 fresh).sites

      owned : (xs : List Site) → AllByRecursion (λ z. ((key_of z.name).0 ≡ 3) × ((key_of z.name).1 ≡ k) × (0 ≤ (key_of z.name).2) × ((key_of z.name).2 < 0 + opcode_count F.body) × (0 < (key_of z.name).3)) xs → AllByRecursion (IsOwn k) xs
      owned [] h = tt
      owned (x ∷ xs) h = (
        (λ g j e.
            let a : (key_of x.name).1 ≡ g = ap (λ z. (key_of z).1) e in
            let b : (key_of x.name).2 ≡ j = ap (λ z. (key_of z).2) e in
            (sym a ∙ h.0.1, omega (arith, b, h.0.3, lt))),
        owned xs h.1,
      )

  -- ---- words of a body among all

  front : (B R : List Site) → take (length B) (map word_of (B ++ R)) ≡ map word_of B
  front [] R = refl
  front (b ∷ B) R = ap (λ z. word_of b ∷ z) (front B R)

  behind : (pre X : List Site) → drop (length pre) (map word_of (pre ++ X)) ≡ map word_of X
  behind [] X = refl
  behind (x ∷ pre) X = behind pre X

  middle : (pre B R : List Site) (n e : ℕ) → n ≡ length pre → e ≡ length pre + length B → take (e - n) (drop n (map word_of (pre ++ (B ++ R)))) ≡ map word_of B
  middle pre B R n e p q =
      let f : e - n ≡ length B = omega (arith, p, q) in
      (λ i. take (f i) (drop (p i) (map word_of (pre ++ (B ++ R))))) ∙ ap (take (length B)) (behind pre (B ++ R)) ∙ front B R

  ends : (N n : ℕ) (bs : List SitedBody) → (bs ≡ [] → N ≡ n) → end_of N (starts_from n bs) ≡ n
  ends N n [] f = f refl
  ends N n (b ∷ bs) f = refl

  pub starts_within : (n N : ℕ) (bs : List SitedBody) → n + length (body_sites bs) ≤ N → AreStarts (starts_from n bs) N
  starts_within n N [] le = tt
  starts_within n N (b ∷ bs) le =
      let l = length-append b.sites (body_sites bs) in
      (next bs, next_within bs, starts_within (n + length b.sites) N bs (omega (arith, l, le)))
    where
      next : (rest : List SitedBody) → n ≤ end_of N (starts_from (n + length b.sites) rest)
      next [] = let l = length-append b.sites (body_sites bs) in omega (arith, l, le)
      next (c ∷ rest) = omega arith

      next_within : (rest : List SitedBody) → end_of N (starts_from (n + length b.sites) rest) ≤ N
      next_within [] = omega arith
      next_within (c ∷ rest) = let l = length-append b.sites (body_sites bs) in omega (arith, l, le)

  pushes_are : (q k n : ℕ) (fs : List (Function Label)) (pre : List Site) (W : List ℕ) → n ≡ length pre → W ≡ map word_of (pre ++ body_sites (bodies_from m no_points q k n fs)) → weight opcodes_in fs ≤ 2 ^ 21 → (g j : ℕ)
      → (pushes_in k (starts_from n (bodies_from m no_points q k n fs)) W g j ≡ true) ↔ InNames (Push g j) (body_sites (bodies_from m no_points q k n fs))
  pushes_are q k n [] pre W p e w g j = ((λ h. absurd (false≢true h)), (λ h. absurd h))
  pushes_are q k n (F ∷ fs) pre W p e w g j =
      let l = length-append pre B in
      let rest = pushes_are (q + site_count (type_named m F.type)) (k + 1) (n + length B) fs (pre ++ B) W (omega (arith, l, p)) (whole ∙ ap (map word_of) (sym (append_assoc pre B R))) (omega (arith, w)) g j in
      (forth rest, back rest)
    where
      B : List Site
      B = (body_from m no_points q k n F).sites

      next : List SitedBody
      next = bodies_from m no_points (q + site_count (type_named m F.type)) (k + 1) (n + length B) fs

      R : List Site
      R = body_sites (bodies_from m no_points (q + site_count (type_named m F.type)) (k + 1) (n + length (body_from m no_points q k n F).sites) fs)

      own : AllByRecursion (IsOwn k) (body_from m no_points q k n F).sites
      own = let l = opcodes_length F.body in body_own q k n F (omega (arith, l, w))

      whole : W ≡ map word_of (pre ++ ((body_from m no_points q k n F).sites ++ R))
      whole = e

      none_left : bodies_from m no_points (q + site_count (type_named m F.type)) (k + 1) (n + length (body_from m no_points q k n F).sites) fs ≡ [] → length W ≡ n + length (body_from m no_points q k n F).sites
      none_left z =
          let a : R ≡ [] = ap body_sites z in
          let b = ap length whole in
          let c = length-map (pre ++ (B ++ R)) word_of in
          let d = length-append pre (B ++ R) in
          let f = length-append B R in
          let h = ap length a in
          omega (arith, b, c, d, f, h, p)

      part : take (end_of (length W) (starts_from (n + length (body_from m no_points q k n F).sites) (bodies_from m no_points (q + site_count (type_named m F.type)) (k + 1) (n + length (body_from m no_points q k n F).sites) fs)) - n) (drop n W) ≡ map word_of (body_from m no_points q k n F).sites
      part =
          let x = ends (length W) (n + length B) (bodies_from m no_points (q + site_count (type_named m F.type)) (k + 1) (n + length B) fs) none_left in
          (λ i. take (x i - n) (drop n (whole i))) ∙ middle pre B R n (n + length B) p (omega (arith, p))

      seg : List ℕ
      seg = take (end_of (length W) (starts_from (n + length (body_from m no_points q k n F).sites) (bodies_from m no_points (q + site_count (type_named m F.type)) (k + 1) (n + length (body_from m no_points q k n F).sites) fs)) - n) (drop n W)

      others : Bool
      others = pushes_in (k + 1) (starts_from (n + length (body_from m no_points q k n F).sites) (bodies_from m no_points (q + site_count (type_named m F.type)) (k + 1) (n + length (body_from m no_points q k n F).sites) fs)) W g j

      forth : ((pushes_in (k + 1) (starts_from (n + length (body_from m no_points q k n F).sites) (bodies_from m no_points (q + site_count (type_named m F.type)) (k + 1) (n + length (body_from m no_points q k n F).sites) fs)) W g j ≡ true) ↔ InNames (Push g j) R) → ((k == g && pushes_among j seg) || others) ≡ true → InNames (Push g j) ((body_from m no_points q k n F).sites ++ R)
      forth rest h = go rest (either_true (k == g && pushes_among j seg) others h)
        where
          go : ((pushes_in (k + 1) (starts_from (n + length (body_from m no_points q k n F).sites) (bodies_from m no_points (q + site_count (type_named m F.type)) (k + 1) (n + length (body_from m no_points q k n F).sites) fs)) W g j ≡ true) ↔ InNames (Push g j) R) → ((k == g && pushes_among j seg) ≡ true) ⊎ (others ≡ true) → InNames (Push g j) ((body_from m no_points q k n F).sites ++ R)
          go rest (inl t) =
              let b = both_true (k == g) (pushes_among j seg) t in
              let i = among_found k j B own (sym (ap (pushes_among j) part) ∙ b.1) in
              in_left (Push g j) B R (subst (λ z. InNames (Push z j) B) (eqb-true k g b.0) i)
          go rest (inr t) = in_right (Push g j) B R (rest.0 t)

      back : ((pushes_in (k + 1) (starts_from (n + length (body_from m no_points q k n F).sites) (bodies_from m no_points (q + site_count (type_named m F.type)) (k + 1) (n + length (body_from m no_points q k n F).sites) fs)) W g j ≡ true) ↔ InNames (Push g j) R) → InNames (Push g j) ((body_from m no_points q k n F).sites ++ R) → ((k == g && pushes_among j seg) || others) ≡ true
      back rest h = go rest (in_either (Push g j) B R h)
        where
          go : ((pushes_in (k + 1) (starts_from (n + length (body_from m no_points q k n F).sites) (bodies_from m no_points (q + site_count (type_named m F.type)) (k + 1) (n + length (body_from m no_points q k n F).sites) fs)) W g j ≡ true) ↔ InNames (Push g j) R) → InNames (Push g j) (body_from m no_points q k n F).sites ⊎ InNames (Push g j) R → ((k == g && pushes_among j seg) || others) ≡ true
          go rest (inl i) =
              let same : g ≡ k = own_in k j g B own i in
              let t : pushes_among j seg ≡ true = ap (pushes_among j) part ∙ among_there k j B own (subst (λ z. InNames (Push z j) B) same i) in
              let u : (k == g) ≡ true = ap (λ z. k == z) same ∙ eqb_self k in
              rw (u, t) refl
          go rest (inr i) = or_right k j (k == g && pushes_among j seg) others (rest.1 i)

  -- ---- the sites before bodies have no push

  no_push_head : (g j : ℕ) → InNames (Push g j) (head_sites m) → ⊥
  no_push_head g j h = go (in_either (Push g j) (function_sites m 0 (function_entries m)) _ h)
    where
      of : (r : OfFunction m 0 (function_entries m) (Push g j)) → OfType (type_named m r.y) (0 + r.j) (Push g j) → ⊥
      of r (inl p) = apart p.is
        where
          apart : Param (0 + r.j) p.i ≡ Push g j → ⊥
          apart e = cc
      of r (inr p) = apart p.0
        where
          apart : Result (0 + r.j) ≡ Push g j → ⊥
          apart e = cc

      tail : InNames (Push g j) (sites_for GlobalOf 0 (global_types m)) ⊎ InNames (Push g j) (site_if Memory (memory_among m.imports m.memory)) → ⊥
      tail (inl p) = let r = for_in GlobalOf (Push g j) 0 (global_types m) p in apart r.i r.is
        where
          apart : (i : ℕ) → GlobalOf i ≡ Push g j → ⊥
          apart i e = cc
      tail (inr p) = let r = if_in Memory (Push g j) (memory_among m.imports m.memory) p in apart r.0
        where
          apart : Memory ≡ Push g j → ⊥
          apart e = cc

      go : InNames (Push g j) (function_sites m 0 (function_entries m)) ⊎ InNames (Push g j) (sites_for GlobalOf 0 (global_types m) ++ site_if Memory (memory_among m.imports m.memory)) → ⊥
      go (inl p) = let r = functions_in m 0 (function_entries m) (Push g j) p in of r r.named
      go (inr p) = tail (in_either (Push g j) (sites_for GlobalOf 0 (global_types m)) _ p)

  pub pushes_there : weight opcodes_in m.functions ≤ 2 ^ 21 → (W : List ℕ) → W ≡ map word_of (sites m) → (g j : ℕ)
      → (pushes_in (imported_count m) (starts_from (length (head_sites m)) (bodies m no_points)) W g j ≡ true) ↔ HasSite m (Push g j)
  pushes_there w W e g j =
      let r = pushes_are (first_defined m) (imported_count m) (length (head_sites m)) m.functions (head_sites m) W refl e w g j in
      ((λ h. in_to (Push g j) (sites m) (in_right (Push g j) (head_sites m) (body_sites (bodies m no_points)) (r.0 h))), (λ h. r.1 (body_part (in_either (Push g j) (head_sites m) (body_sites (bodies m no_points)) (in_from (Push g j) (sites m) h)))))
    where
      body_part : InNames (Push g j) (head_sites m) ⊎ InNames (Push g j) (body_sites (bodies m no_points)) → InNames (Push g j) (body_sites (bodies m no_points))
      body_part (inl p) = absurd (no_push_head g j p)
      body_part (inr p) = p

-- ---- a plain file's module

pub few_opcodes : (w : Lent) → IsPlainFile w → weight opcodes_in (view_module w).functions ≤ 2 ^ 21
unfolding most_plain_bytes
few_opcodes w h =
    let s : length w.bytes ≤ 2097152 = h.spelled.small (ap (λ (m : Module Label). m.ct) h.spelled.made ∙ h.plain) in
    let z = sizes w h.spelled in
    omega (arith, s, z.opcodes)

-- ---- loops

pub push_turn : (a b c d : Bool) → ((a && c) || ((a && b) || d)) ≡ ((a && (b || c)) || d)
push_turn true true true d = refl
push_turn true true false d = refl
push_turn true false true d = refl
push_turn true false false d = refl
push_turn false b c d = refl

pub body_turn : (a b c d : Bool) → (c || ((a && b) || d)) ≡ (((a && b) || c) || d)
body_turn a true true d = go a
  where
    go : (a : Bool) → (true || ((a && true) || d)) ≡ (((a && true) || true) || d)
    go true = refl
    go false = refl
body_turn true true false d = refl
body_turn true false true d = refl
body_turn true false false d = refl
body_turn false true false d = refl
body_turn false false true d = refl
body_turn false false false d = refl

pub drop_there : {A : Type 0} (xs : List A) (i : ℕ) (x : A) → slice_get xs i ≡ Some x → drop i xs ≡ x ∷ drop (i + 1) xs
drop_there {A} xs i x e = let n : suc i ≡ i + 1 = omega arith in go xs i e ∙ ap (λ k. x ∷ drop k xs) n
  where
    go : (xs : List A) (i : ℕ) → slice_get xs i ≡ Some x → drop i xs ≡ x ∷ drop (suc i) xs
    go [] i e = absurd (none_some e)
    go (y ∷ xs) zero e = ap (λ z. z ∷ xs) (some_same e)
    go (y ∷ xs) (suc i) e = go xs i e

pub next_end : (N i : ℕ) (ss : List ℕ) (s : ℕ) → slice_get ss i ≡ Some s → end_of N (drop i ss) ≡ s
next_end N i ss s e = ap (end_of N) (drop_there ss i s e)

pub last_end : (N i : ℕ) (ss : List ℕ) → length ss ≤ i → end_of N (drop i ss) ≡ N
last_end N i ss le = ap (end_of N) (go ss i le)
  where
    go : (ss : List ℕ) (i : ℕ) → length ss ≤ i → drop i ss ≡ []
    go [] zero le = refl
    go [] (suc i) le = refl
    go (s ∷ ss) zero le = absurd (omega (arith, le))
    go (s ∷ ss) (suc i) le = go ss i (omega (arith, le))

pub starts_on : (N i s : ℕ) (ss : List ℕ) → slice_get ss i ≡ Some s → AreStarts (drop i ss) N → AreStarts (drop (i + 1) ss) N
starts_on N i s ss e h = (subst (λ z. AreStarts z N) (drop_there ss i s e) h).2

pub body_on : (W ss : List ℕ) (I i f k s to : ℕ) (old new whole : Bool) → slice_get ss i ≡ Some s → to ≡ end_of (length W) (drop (i + 1) ss)
    → new ≡ ((I + i == f && pushes_among k (take (to - s) (drop s W))) || old) → (pushes_in (I + i) (drop i ss) W f k || old) ≡ whole
    → (pushes_in (I + (i + 1)) (drop (i + 1) ss) W f k || new) ≡ whole
body_on W ss I i f k s to old new whole e t a h =
    let n : I + (i + 1) ≡ I + i + 1 = omega arith in
    let rest : Bool = pushes_in (I + i + 1) (drop (i + 1) ss) W f k in
    let own : Bool = pushes_among k (take (end_of (length W) (drop (i + 1) ss) - s) (drop s W)) in
    (λ j. pushes_in (n j) (drop (i + 1) ss) W f k || (a ∙ ap (λ z. (I + i == f && pushes_among k (take (z - s) (drop s W))) || old) t) j)
    ∙ body_turn (I + i == f) own rest old
    ∙ ap (λ z. pushes_in (I + i) z W f k || old) (sym (drop_there ss i s e))
    ∙ h

-- ---- what is gathered of a plain file's module

starts_length : (n : ℕ) (bs : List SitedBody) → length (starts_from n bs) ≡ length bs
starts_length n [] = refl
starts_length n (b ∷ bs) = ap suc (starts_length (n + length b.sites) bs)

module _ (w : Lent) (h : IsPlainFile w) where
  pub count_fits : (i : ℕ) (ss : List ℕ) → i ≡ imported_count (tree w) → ss ≡ starts_from (length (head_sites (view_module w))) (bodies (view_module w) no_points) → i + length ss < 2 ^ 32
  count_fits i ss p q =
      let m : Module Label = view_module w in
      let a = ap length q in
      let b = starts_length (length (head_sites m)) (bodies m no_points) in
      let c = bodies_length m (first_defined m) (imported_count m) (length (head_sites m)) m.functions in
      let d = length-append (imported_functions m.imports) (map (λ f. f.type) m.functions) in
      let e = length-map m.functions (λ (f : Function Label). f.type) in
      let lt = functions_fit w h in
      omega (arith, a, b, c, d, e, lt, p)

  pub words_whole : (k first : Kept) → first ≡ record { words = []; count = 0; most = 4294967295 } → k ≡ after first (sites (view_module w)) → k.words ≡ map word_of (sites (view_module w))
  words_whole k first e q =
      let lt = plain_fit w h in
      let xs : List Site = sites (view_module w) in
      ap (λ (z : Kept). z.words) q ∙ ap (λ (z : Kept). (after z xs).words) e ∙ ap (map word_of) (take_all (4294967295 - 0) xs (omega (arith, lt)))

  pub starts_fit : (ss W : List ℕ) → ss ≡ starts_from (length (head_sites (view_module w))) (bodies (view_module w) no_points) → W ≡ map word_of (sites (view_module w)) → AreStarts ss (length W)
  starts_fit ss W p q =
      let m : Module Label = view_module w in
      let a = ap length q in
      let b = length-map (sites m) word_of in
      let c = length-append (head_sites m) (body_sites (bodies m no_points)) in
      subst (λ z. AreStarts z (length W)) (sym p) (starts_within m (length (head_sites m)) (length W) (bodies m no_points) (omega (arith, a, b, c)))

  pub are_pushes : (i : ℕ) (ss W : List ℕ) (p : Points) → i ≡ imported_count (tree w) → ss ≡ starts_from (length (head_sites (view_module w))) (bodies (view_module w) no_points) → W ≡ map word_of (sites (view_module w))
      → ((f k : ℕ) → is_released p f k ≡ pushes_in i ss W f k) → ArePushes (view_module w) p
  are_pushes i ss W p ei es ew s = λ f k.
      let r = pushes_there (view_module w) (few_opcodes w h) W ew f k in
      let b = s f k ∙ (λ j. pushes_in (ei j) (es j) W f k) in
      ((λ t. r.0 (sym b ∙ t)), (λ x. b ∙ r.1 x))
