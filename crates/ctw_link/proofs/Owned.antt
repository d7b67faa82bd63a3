-- The functions of the store, with their owners and with where the blocks of their bodies end.
use Rattle.std.proofs.Common.{◌≡◌, ◌<◌, ℕ, zero, suc, ◌+◌, ◌-◌, List, [], ◌∷◌, ◌++◌, length, map, get_or, slice_get, Option, Some, None, option_map, refl, sym, ap, subst, ◌∙◌, arith}
use Rattle.std.specs.List.{range_with_len}
use Rattle.std.proofs.lemmas.List.{append_assoc, length-append, length-map, map-append, length_push}
use Rattle.std.proofs.lemmas.List.FromFn.{length-range_with_len}
use Rattle.std.proofs.lemmas.List.Sums.{sum_by-cons}
use Rattle.std.proofs.lemmas.Option.{slice_get-map, slice_get-get_or, slice_get_read, same_Some}
use Rattle.ctw_ops.specs.declared.types.ExternTag.TheVariants.{Func}
use Rattle.ctw_flat.specs.declared.blocks.Block.{Block}
use Rattle.ctw_flat.specs.Blocks.{ends_in}
use Rattle.ctw_flat.specs.Positions.{TellsEnds}
use Rattle.ctw_module.specs.Lookup.{imported_count}
use Rattle.ctw_module.specs.Trees.{tree, code_of}
use Rattle.ctw_link.specs.declared.set.Part.{Part}
use Rattle.ctw_link.specs.Sets.{NamedModule, ModuleSet, defined_in, defined, set_of}
use Rattle.ctw_link.specs.Numbers.{owned, owners_from, owners}
use Rattle.ctw_link.specs.Linked.{IsPart, TellBlocks, code_at, code_in, codes_in, codes}
use Rattle.ctw_link.proofs.Owners.{owner_defines, code_is}

-- ---- how many there are

owners_count : (k : ℕ) (set : ModuleSet) → length (owners_from k set) ≡ defined Func set
owners_count k [] = refl
owners_count k (p ∷ set) =
    let numbers = range_with_len (imported_count p.tree) (length p.tree.functions) in
    let pair : ℕ → ℕ × ℕ = λ index. (k, index) in
    omega (
      arith,
      length-append (owned k p.tree) (owners_from (k + 1) set),
      length-map numbers pair,
      length-range_with_len (imported_count p.tree) (length p.tree.functions),
      sum_by-cons (λ (q : NamedModule). defined_in Func q.tree) p set,
      owners_count (k + 1) set,
    )

pub all_owned : (set : ModuleSet) → length (owners set) ≡ defined Func set
all_owned set = owners_count 0 set

-- ---- bodies by owners

-- the body of a function of the store
body_of : List Part → ℕ × ℕ → Option (List ℕ)
body_of parts owner = option_map (λ p. code_at p.«module» owner.1) (slice_get parts owner.0)

some_code : List ℕ → Option (List ℕ)
some_code code = Some code

bodies_in : (parts : List Part) (k : ℕ) (p : Part) → IsPart parts k p → (start first count : ℕ) → first ≡ imported_count (tree p.«module») + start
    → map (body_of parts) (map (λ index. (k, index)) (range_with_len first count)) ≡ map some_code (map (code_of p.«module») (range_with_len start count))
unfolding body_of some_code
bodies_in parts k p is start first zero e = refl
bodies_in parts k p is start first (suc count) e =
    let at : first - imported_count (tree p.«module») ≡ start = omega (arith, e) in
    let here : body_of parts (k, first) ≡ some_code (code_of p.«module» start) =
    ap (option_map (λ (q : Part). code_at q.«module» first)) is ∙ ap (λ (n : ℕ). some_code (code_of p.«module» n)) at in
    let others = bodies_in parts k p is (start + 1) (first + 1) count (omega (arith, e)) in
    ap (λ (o : Option (List ℕ)). o ∷ map (body_of parts) (map (λ index. (k, index)) (range_with_len (first + 1) count))) here
    ∙ ap (λ (l : List (Option (List ℕ))). some_code (code_of p.«module» start) ∷ l) others

at_end : (done rest : List Part) (p : Part) → slice_get (done ++ p ∷ rest) (length done) ≡ Some p
at_end [] rest p = refl
at_end (q ∷ done) rest p = at_end done rest p

bodies_behind : (parts done rest : List Part) (k : ℕ) → parts ≡ done ++ rest → k ≡ length done → map (body_of parts) (owners_from k (set_of rest)) ≡ map some_code (codes rest)
bodies_behind parts done [] k e n = refl
bodies_behind parts done (p ∷ rest) k e n =
    let m = tree p.«module» in
    let is : IsPart parts k p = ap (λ (l : List Part). slice_get l k) e ∙ ap (λ (j : ℕ). slice_get (done ++ p ∷ rest) j) n ∙ at_end done rest p in
    let here = bodies_in parts k p is 0 (imported_count m) (length m.functions) (omega arith) in
    let others = bodies_behind parts (done ++ p ∷ []) rest (k + 1) (e ∙ sym (append_assoc done (p ∷ []) rest)) (omega (arith, n, length_push done p)) in
    map-append (body_of parts) (owned k m) (owners_from (k + 1) (set_of rest))
    ∙ ap (λ (l : List (Option (List ℕ))). l ++ map (body_of parts) (owners_from (k + 1) (set_of rest))) here
    ∙ ap (λ (l : List (Option (List ℕ))). map some_code (codes_in p.«module») ++ l) others
    ∙ sym (map-append some_code (codes_in p.«module») (codes rest))

body_at : (parts : List Part) (f k index : ℕ) (p : Part) → slice_get (owners (set_of parts)) f ≡ Some (k, index) → IsPart parts k p → slice_get (codes parts) f ≡ Some (code_at p.«module» index)
unfolding body_of some_code
body_at parts f k index p e is =
    let both = bodies_behind parts [] parts 0 refl refl in
    let here : Some (body_of parts (k, index)) ≡ option_map some_code (slice_get (codes parts) f) =
    sym (slice_get-map (body_of parts) (owners (set_of parts)) f ∙ ap (option_map (body_of parts)) e) ∙ ap (λ (l : List (Option (List ℕ))). slice_get l f) both ∙ slice_get-map some_code (codes parts) f in
    let body : body_of parts (k, index) ≡ Some (code_at p.«module» index) = ap (option_map (λ (q : Part). code_at q.«module» index)) is in
    inside (slice_get (codes parts) f) (code_at p.«module» index) (ap (λ (o : Option (List ℕ)). Some o) (sym body) ∙ here)
  where
    inside : (o : Option (List ℕ)) (code : List ℕ) → ◌≡◌ {A = Option (Option (List ℕ))} (Some (Some code)) (option_map (λ c. Some c) o) → o ≡ Some code
    inside None code q = absurd cc
    inside (Some c) code q = cc

-- ---- where blocks end

told_length : (cs : List (List ℕ)) (maps : List (List Block)) → TellBlocks cs maps → length cs ≡ length maps
told_length [] [] t = refl
told_length [] (b ∷ maps) t = absurd t
told_length (c ∷ cs) [] t = absurd t
told_length (c ∷ cs) (b ∷ maps) t = ap suc (told_length cs maps t.1)

told_at : (cs : List (List ℕ)) (maps : List (List Block)) (f : ℕ) (code : List ℕ) (blocks : List Block) → TellBlocks cs maps → slice_get cs f ≡ Some code → slice_get maps f ≡ Some blocks → TellsEnds code (ends_in blocks)
told_at [] [] f code blocks t e g = absurd cc
told_at [] (b ∷ maps) f code blocks t e g = absurd t
told_at (c ∷ cs) [] f code blocks t e g = absurd t
told_at (c ∷ cs) (b ∷ maps) zero code blocks t e g =
    subst (λ (l : List ℕ). TellsEnds l (ends_in blocks)) (same_Some c code e) (subst (λ (l : List Block). TellsEnds c (ends_in l)) (same_Some b blocks g) t.0)
told_at (c ∷ cs) (b ∷ maps) (suc f) code blocks t e g = told_at cs maps f code blocks t.1 e g

pub maps_count : (parts : List Part) (maps : List (List Block)) → TellBlocks (codes parts) maps → length maps ≡ defined Func (set_of parts)
maps_count parts maps t =
    let both = bodies_behind parts [] parts 0 refl refl in
    omega (
      arith,
      ap length both,
      length-map (owners (set_of parts)) (body_of parts),
      length-map (codes parts) some_code,
      told_length (codes parts) maps t,
      all_owned (set_of parts),
    )

pub blocks_at : (parts : List Part) (maps : List (List Block)) (f : ℕ) (blocks : List Block) → TellBlocks (codes parts) maps → f < length maps → blocks ≡ get_or maps f blocks
    → (k index : ℕ) (p : Part) → slice_get (owners (set_of parts)) f ≡ Some (k, index) → IsPart parts k p → TellsEnds (code_at p.«module» index) (ends_in blocks)
blocks_at parts maps f blocks t lt read k index p e is =
    told_at (codes parts) maps f (code_at p.«module» index) blocks t (body_at parts f k index p e is) (slice_get_read maps (length maps) f blocks refl lt read)

-- the same by the function's number alone
pub blocks_of_function : (parts : List Part) (maps : List (List Block)) (f : ℕ) (blocks : List Block) → TellBlocks (codes parts) maps → f < length maps → blocks ≡ get_or maps f blocks → TellsEnds (code_in parts f) (ends_in blocks)
blocks_of_function parts maps f blocks t lt read =
    let owner = get_or (owners (set_of parts)) f (0, 0) in
    let below : f < length (owners (set_of parts)) = omega (arith, lt, maps_count parts maps t, all_owned (set_of parts)) in
    let e : slice_get (owners (set_of parts)) f ≡ Some (owner.0, owner.1) = slice_get-get_or (owners (set_of parts)) f (0, 0) below in
    let d = owner_defines parts f owner.0 owner.1 e in
    subst (λ code. TellsEnds code (ends_in blocks)) (sym (code_is parts f owner.0 owner.1 d.part e d.is)) (blocks_at parts maps f blocks t lt read owner.0 owner.1 d.part e d.is)
