-- A workload's module is valid.
use Rattle.std.proofs.Common.{◌≡◌, ℕ, zero, suc, ◌+◌, ◌*◌, ◌<◌, ◌≤◌, ◌^◌, ◌%◌, Bool, true, false, get_or, List, [], ◌∷◌, ◌++◌, length, map, refl, sym, ap, subst, ◌∙◌, append-nil, arith, All, Some, codes}
use Rattle.std.specs.Prelude.{◌==◌, ◌≢◌, if◌then◌else◌, slice_get, IsSome, is_some, AllPairs}
use Rattle.std.specs.List.{range_with_len}
use Rattle.std.proofs.lemmas.List.Elements.{All-nil, All-cons, All-append, All-from_recursion}
use Rattle.std.proofs.lemmas.List.Kept.{AllPairs-cons}
use Rattle.std.proofs.lemmas.List.FromFn.{length-range_with_len}
use Rattle.ctw_ops.specs.declared.types.Label.{Label}
use Rattle.ctw_ops.specs.declared.types.Width.TheVariants.{W32}
use Rattle.ctw_ops.specs.declared.types.Trust.TheVariants.{Untrusted}
use Rattle.ctw_ops.specs.declared.types.ExternTag.TheVariants.{Func, Memory}
use Rattle.ctw_ops.specs.declared.numeric.NumSig.{NumSig}
use Rattle.ctw_ops.specs.Types.{ValueType, FunctionType}
use Rattle.ctw_ops.specs.Numeric.{num_sig_of}
use Rattle.ctw_ops.specs.Code.{Leaf, Call, straight}
use Rattle.ctw_ops.specs.Tree.{Module, Function, Import, Export, function_entries, type_named}
use Rattle.ctw_ops.specs.Typing.{Context, Typed}
use Rattle.ctw_ops.specs.Bodies.{context_of, HasItsType}
use Rattle.ctw_ops.specs.Limits.{most_memory_pages}
use Rattle.ctw_ops.specs.Valid.{Names, IsImported, IsGlobal, IsExported, IsElement, IsSegment, IsVariant, AreTypes, IsEntry, IsValid}
use Rattle.ctw_gen.specs.Draws.{draw}
use Rattle.ctw_gen.specs.Workload.{integer, number, operations, computes, stores, leaves, calls, made, numbered, main, functions, workload_module}
use Rattle.ctw_gen.proofs.Counting.{calls_more}
use Rattle.ctw_gen.proofs.Steps.{draw_small}
use Rattle.ctw_gen.proofs.Formed.{module_formed}

-- ---- sequences

abbrev Stack : Type 0
Stack = List (ValueType Label)

abbrev one : Stack
one = integer ∷ []

abbrev two : Stack
two = integer ∷ integer ∷ []

typed_append : (C : Context Label) (l r : List (Leaf Label)) (from mid to : Stack) → Typed C (straight l) from mid → Typed C (straight r) mid to → Typed C (straight (l ++ r)) from to
typed_append C [] r from mid to h k = subst (λ (s : Stack). Typed C (straight r) s to) (sym h) k
typed_append C (leaf ∷ l) r from mid to h k = (h.0, h.1, typed_append C l r h.0 mid to h.2 k)

-- two integers and an integer
abbrev binary : NumSig
binary = record { arity = 2; operand = W32; result = W32 }

operation_typed : (i : ℕ) → i < 8 → num_sig_of (get_or operations i 0) ≡ Some binary
unfolding num_sig_of
operation_typed zero lt = refl
operation_typed (suc zero) lt = refl
operation_typed (suc (suc zero)) lt = refl
operation_typed (suc (suc (suc zero))) lt = refl
operation_typed (suc (suc (suc (suc zero)))) lt = refl
operation_typed (suc (suc (suc (suc (suc zero))))) lt = refl
operation_typed (suc (suc (suc (suc (suc (suc zero)))))) lt = refl
operation_typed (suc (suc (suc (suc (suc (suc (suc zero))))))) lt = refl
operation_typed (suc (suc (suc (suc (suc (suc (suc (suc i)))))))) lt = absurd (omega arith)

-- ---- the functions that draws make

module _ (seed size : ℕ) where
  abbrev m : Module Label
  m = workload_module seed size

  -- what they may name
  abbrev C : ℕ → ℕ → ℕ → Context Label
  C a c b = context_of m (made a c b)

  computes_typed : (a c b : ℕ) → c < 2 ^ 32 → Typed (C a c b) (straight (computes a c)) [] one
  unfolding num_sig_of
  computes_typed a c b lt =
      let few : a % 8 < 8 = omega arith in (
        one,
        (integer, refl, ([], refl, refl)),
        (
          two,
          (integer, refl, (one, refl, refl)),
          (
            one,
            (binary, operation_typed (a % 8) few, (λ e. refl), ([], refl, refl)),
            (
              two,
              (lt, (one, refl, refl)),
              (one, (binary, refl, (λ e. refl), ([], refl, refl)), refl),
            ),
          ),
        ),
      )

  stores_typed : (a c b : ℕ) → Typed (C a c b) (straight stores) one one
  unfolding num_sig_of
  stores_typed a c b = (
    [],
    (integer, refl, ([], refl, refl)),
    (
      one,
      (integer, refl, ([], refl, refl)),
      (
        two,
        (omega arith, (one, refl, refl)),
        (
          one,
          (binary, refl, (λ e. refl), ([], refl, refl)),
          (
            two,
            (integer, refl, (one, refl, refl)),
            (
              [],
              (refl, refl, omega arith, ([], refl, refl)),
              (one, (integer, refl, ([], refl, refl)), refl),
            ),
          ),
        ),
      ),
    ),
  )

  leaves_typed : (a c b : ℕ) → c < 2 ^ 32 → Typed (C a c b) (straight (leaves a c b)) [] one
  leaves_typed a c b lt = of (b % 2 == 1)
    where
      of : (stored : Bool) → Typed (C a c b) (straight (computes a c ++ (if stored then stores else []))) [] one
      of false = typed_append (C a c b) (computes a c) [] [] one one (computes_typed a c b lt) refl
      of true = typed_append (C a c b) (computes a c) stores [] one one (computes_typed a c b lt) (stores_typed a c b)

  -- ---- `main`

  abbrev taking_two : FunctionType Label
  taking_two = record { trust = Untrusted; params = two; result = Some integer }

  abbrev C_main : Context Label
  C_main = context_of m (main size)

  numbered_type : (l : List ℕ) (others : List (Function Label)) (k : ℕ) → k < length l → slice_get (map (type_named m) (map (λ f. f.type) (map (numbered seed) l ++ others))) k ≡ Some taking_two
  numbered_type [] others k lt = absurd (omega arith)
  numbered_type (n ∷ l) others zero lt = refl
  numbered_type (n ∷ l) others (suc k) lt = numbered_type l others k (omega arith)

  function_type : (k : ℕ) → k < size → slice_get (map (type_named m) (function_entries m)) k ≡ Some taking_two
  unfolding functions
  function_type k lt = numbered_type (range_with_len 0 size) (main size ∷ []) k (omega (arith, length-range_with_len 0 size))

  calls_typed : (n : ℕ) → n ≤ size → size < 2 ^ 32 → Typed C_main (straight (calls n)) one one
  calls_typed zero le lt = refl
  calls_typed (suc n) le lt =
      let on : suc n ≡ n + 1 = omega arith in
      let call : Typed C_main (straight (number n ∷ Call n ∷ [])) one one =
      (two, (omega arith, (one, refl, refl)), (one, (taking_two, function_type n (omega arith), tt, ([], refl, refl)), refl)) in
      subst (λ (l : List (Leaf Label)). Typed C_main (straight l) one one) (sym (ap calls on ∙ calls_more n)) (typed_append C_main (calls n) (number n ∷ Call n ∷ []) one one one (calls_typed n (omega arith) lt) call)

  main_typed : size < 2 ^ 32 → HasItsType m (main size)
  main_typed lt = (one, (integer, refl, ([], refl, refl)), calls_typed size (omega arith) lt)

  -- ---- all functions

  numbered_typed : (k : ℕ) → HasItsType m (numbered seed k)
  numbered_typed k =
      let c = draw seed (3 * k + 1) in
      leaves_typed (draw seed (3 * k)) c (draw seed (3 * k + 2)) (omega (arith, draw_small seed (3 * k + 1)))

  all_numbered : (P : Function Label → Type 0) → ((k : ℕ) → P (numbered seed k)) → (l : List ℕ) → All P (map (numbered seed) l)
  all_numbered P h [] = All-nil P
  all_numbered P h (k ∷ l) = All-cons P (numbered seed k) (map (numbered seed) l) (h k) (all_numbered P h l)

  all_functions : (P : Function Label → Type 0) → ((k : ℕ) → P (numbered seed k)) → P (main size) → All P (functions seed size)
  unfolding functions
  all_functions P h last = All-append P (map (numbered seed) (range_with_len 0 size)) (main size ∷ []) (all_numbered P h (range_with_len 0 size)) (All-cons P (main size) [] last (All-nil P))

  -- ---- the module

  types_are : AreTypes m.types
  types_are = record {
    entries = m.types;
    variants = [];
    all = sym (append-nil m.types);
    plain = All-from_recursion IsEntry m.types (refl, (refl, tt));
    based = All-nil (IsVariant m.types);
  }

  main_there : (l : List ℕ) → is_some (slice_get (map (λ f. f.type) (map (numbered seed) l ++ main size ∷ [])) (length l)) ≡ true
  main_there [] = refl
  main_there (k ∷ l) = main_there l

  main_named : IsSome (slice_get (function_entries m) size)
  unfolding functions
  main_named = subst (λ (n : ℕ). is_some (slice_get (function_entries m) n) ≡ true) (length-range_with_len 0 size) (main_there (range_with_len 0 size))

  abbrev Differ : Export → Export → Type 0
  Differ a b = a.name ≢ b.name

  other_names : codes "main" ≢ codes "mem"
  other_names e = cc

  names_differ : AllPairs Differ m.exports
  names_differ =
      let shown : Export = record { name = codes "main"; kind = Func; index = size } in
      let held : Export = record { name = codes "mem"; kind = Memory; index = 0 } in
      AllPairs-cons Differ shown (held ∷ []) (All-cons (Differ shown) held [] other_names (All-nil (Differ shown))) (AllPairs-cons Differ held [] (All-nil (Differ held)) (λ i j d lt within. absurd (omega arith)))

  pub module_valid : size ≤ 20000 → IsValid m
  unfolding most_memory_pages
  module_valid le = record {
    formed = module_formed seed size le;
    around = record {
      types = types_are;
      imports = All-nil (λ (i : Import Label). IsImported m i.kind);
      functions = all_functions (λ (f : Function Label). Names m.types f.type) (λ k. refl) refl;
      table = tt;
      memory = (tt, omega arith, tt);
      globals = All-nil (IsGlobal m);
      exports = All-from_recursion (λ (e : Export). IsExported m e.kind e.index) m.exports (main_named, ((refl, refl), tt));
      names = names_differ;
      start = tt;
      elements = All-nil (IsElement m);
      segments = All-nil (IsSegment m);
    };
    bodies = all_functions (HasItsType m) numbered_typed (main_typed (omega arith));
  }
