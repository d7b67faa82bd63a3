-- A workload's module is formed, and its functions keep the limits of files.
use Rattle.std.proofs.Common.{◌≡◌, ℕ, zero, suc, ◌+◌, ◌*◌, ◌<◌, ◌≤◌, ◌^◌, ◌%◌, Bool, true, false, List, [], ◌∷◌, ◌++◌, length, map, refl, sym, ap, subst, ◌∙◌, arith, All}
use Rattle.std.specs.Prelude.{◌&&◌, ◌==◌, if◌then◌else◌}
use Rattle.std.specs.List.{list_all, range_with_len}
use Rattle.std.proofs.lemmas.List.Elements.{All-nil, All-cons, All-head, All-tail, All-append, All-from_recursion}
use Rattle.ctw_ops.specs.declared.types.Label.{Label}
use Rattle.ctw_ops.specs.Types.{ValueType}
use Rattle.ctw_ops.specs.Numeric.{is_numeric}
use Rattle.ctw_ops.specs.Code.{Leaf, Call, LocalGet, straight, Plain, Closes, ByEnd, opcodes}
use Rattle.ctw_ops.specs.Tree.{Import, Function, Global, Element, Segment}
use Rattle.ctw_ops.specs.Plain.{is_plain_leaf, is_plain_op, IsPublicType, IsPlainEntry, IsPlainExtern, IsPlainFunction, IsPlainGlobal, IsPlainConstant}
use Rattle.ctw_ops.specs.Valid.{IsFitting, IsFormed}
use Rattle.ctw_ops.specs.Limits.{most_locals}
use Rattle.ctw_flat.specs.Spelled.{height}
use Rattle.ctw_write.specs.KeepsLimits.{IsLimitedLeaf, IsLimitedOp, IsLimitedFunction}
use Rattle.ctw_gen.specs.Draws.{draw}
use Rattle.ctw_gen.specs.Workload.{integer, number, computes, stores, leaves, calls, function, numbered, main, functions, type_entry, workload_module}
use Rattle.ctw_gen.proofs.Counting.{calls_more}
use Rattle.ctw_gen.proofs.Texts.{operation_numeric}
use Rattle.ctw_gen.proofs.Steps.{draw_small}

-- ---- instructions

-- an instruction without labels, whose numbers have 32 bits
record IsSimple (leaf : Leaf Label) : Type 0 where
  plain : is_plain_leaf leaf ≡ true
  limited : IsLimitedLeaf leaf

abbrev Simple : List (Leaf Label) → Type 0
Simple = All IsSimple

computes_simple : (a c : ℕ) → c < 2 ^ 32 → Simple (computes a c)
unfolding is_numeric
computes_simple a c lt =
    let few : a % 8 < 8 = omega arith in
    All-from_recursion IsSimple (computes a c) (
      record { plain = refl; limited = omega arith },
      (
        record { plain = refl; limited = omega arith },
        (record { plain = refl; limited = operation_numeric (a % 8) few }, (record { plain = refl; limited = lt }, (record { plain = refl; limited = refl }, tt))),
      ),
    )

stores_simple : Simple stores
unfolding is_numeric
stores_simple =
    All-from_recursion IsSimple stores (
      record { plain = refl; limited = omega arith },
      (
        record { plain = refl; limited = omega arith },
        (
          record { plain = refl; limited = omega arith },
          (
            record { plain = refl; limited = refl },
            (record { plain = refl; limited = omega arith }, (record { plain = refl; limited = (refl, omega arith, omega arith) }, (record { plain = refl; limited = omega arith }, tt))),
          ),
        ),
      ),
    )

leaves_simple : (a c b : ℕ) → c < 2 ^ 32 → Simple (leaves a c b)
leaves_simple a c b lt = of (b % 2 == 1)
  where
    of : (stored : Bool) → Simple (computes a c ++ (if stored then stores else []))
    of false = All-append IsSimple (computes a c) [] (computes_simple a c lt) (All-nil IsSimple)
    of true = All-append IsSimple (computes a c) stores (computes_simple a c lt) stores_simple

calls_simple : (n : ℕ) → n < 2 ^ 32 → Simple (calls n)
calls_simple zero lt = All-nil IsSimple
calls_simple (suc n) lt =
    let on : suc n ≡ n + 1 = omega arith in
    let one : Simple (number n ∷ Call n ∷ []) = All-from_recursion IsSimple (number n ∷ Call n ∷ []) (record { plain = refl; limited = omega arith }, (record { plain = refl; limited = omega arith }, tt)) in
    subst Simple (sym (ap calls on ∙ calls_more n)) (All-append IsSimple (calls n) (number n ∷ Call n ∷ []) (calls_simple n (omega arith)) one)

main_simple : (size : ℕ) → size < 2 ^ 32 → Simple (LocalGet 0 ∷ calls size)
main_simple size lt = All-cons IsSimple (LocalGet 0) (calls size) (record { plain = refl; limited = omega arith }) (calls_simple size lt)

-- ---- functions

straight_plain : (l : List (Leaf Label)) → Simple l → list_all is_plain_op (opcodes (straight l)) ≡ true
straight_plain [] h = refl
straight_plain (leaf ∷ l) h = ap (λ (t : Bool). t && list_all is_plain_op (opcodes (straight l))) (All-head IsSimple leaf l h).plain ∙ straight_plain l (All-tail IsSimple leaf l h)

straight_limited : (l : List (Leaf Label)) → Simple l → All IsLimitedOp (opcodes (straight l))
straight_limited [] h = All-cons IsLimitedOp (Closes ByEnd) [] tt (All-nil IsLimitedOp)
straight_limited (leaf ∷ l) h = All-cons IsLimitedOp (Plain leaf) (opcodes (straight l)) (All-head IsSimple leaf l h).limited (straight_limited l (All-tail IsSimple leaf l h))

straight_flat : (l : List (Leaf Label)) → height (straight l) ≡ 0
straight_flat [] = refl
straight_flat (leaf ∷ l) = straight_flat l

-- what holds of the functions of a module
pub record IsGood (f : Function Label) : Type 0 where
  pub plain : IsPlainFunction f
  pub limited : IsLimitedFunction f
  pub no_locals : length f.locals ≡ 0

function_good : (type : ℕ) (l : List (Leaf Label)) → type < 2 ^ 32 → Simple l → IsGood (function type l)
unfolding most_locals
function_good type l lt h = record {
  plain = (All-nil IsPublicType, straight_plain l h);
  limited = record { type = lt; locals = omega arith; ops = straight_limited l h; nesting = omega (arith, straight_flat l) };
  no_locals = refl;
}

numbered_good : (seed k : ℕ) → IsGood (numbered seed k)
numbered_good seed k =
    let c = draw seed (3 * k + 1) in
    function_good 0 (leaves (draw seed (3 * k)) c (draw seed (3 * k + 2))) (omega arith) (leaves_simple (draw seed (3 * k)) c (draw seed (3 * k + 2)) (omega (arith, draw_small seed (3 * k + 1))))

all_numbered_good : (seed : ℕ) (l : List ℕ) → All IsGood (map (numbered seed) l)
all_numbered_good seed [] = All-nil IsGood
all_numbered_good seed (k ∷ l) = All-cons IsGood (numbered seed k) (map (numbered seed) l) (numbered_good seed k) (all_numbered_good seed l)

pub functions_good : (seed size : ℕ) → size ≤ 20000 → All IsGood (functions seed size)
unfolding functions
functions_good seed size le =
    let last = function_good 1 (LocalGet 0 ∷ calls size) (omega arith) (main_simple size (omega arith)) in
    All-append IsGood (map (numbered seed) (range_with_len 0 size)) (main size ∷ []) (all_numbered_good seed (range_with_len 0 size)) (All-cons IsGood (main size) [] last (All-nil IsGood))

pub good_plain : (l : List (Function Label)) → All IsGood l → All IsPlainFunction l
good_plain [] h = All-nil IsPlainFunction
good_plain (f ∷ l) h = All-cons IsPlainFunction f l (All-head IsGood f l h).plain (good_plain l (All-tail IsGood f l h))

pub good_limited : (l : List (Function Label)) → All IsGood l → All IsLimitedFunction l
good_limited [] h = All-nil IsLimitedFunction
good_limited (f ∷ l) h = All-cons IsLimitedFunction f l (All-head IsGood f l h).limited (good_limited l (All-tail IsGood f l h))

-- ---- the module

entry_plain : (params : List (ValueType Label)) → All IsPublicType params → IsPlainEntry (type_entry params)
entry_plain params h = record { base = refl; trust = refl; params = h; result = refl }

pub module_formed : (seed size : ℕ) → size ≤ 20000 → IsFormed (workload_module seed size)
module_formed seed size le =
    let one = All-cons IsPublicType integer [] refl (All-nil IsPublicType) in
    let two = All-cons IsPublicType integer (integer ∷ []) refl one in
    record {
      tables = omega arith;
      memories = omega arith;
      globals = All-nil (λ (g : Global Label). IsFitting g.init);
      elements = All-nil (λ (e : Element Label). IsFitting e.offset);
      segments = All-nil (λ (s : Segment Label). IsFitting s.offset);
      plain = λ e. record {
        types = All-from_recursion IsPlainEntry (workload_module seed size).types (entry_plain (integer ∷ integer ∷ []) two, (entry_plain (integer ∷ []) one, tt));
        imports = All-nil (λ (i : Import Label). IsPlainExtern i.kind);
        functions = good_plain (functions seed size) (functions_good seed size le);
        memory = refl;
        globals = All-nil IsPlainGlobal;
        elements = All-nil (λ (e : Element Label). IsPlainConstant e.offset);
        segments = All-nil (λ (s : Segment Label). IsPlainConstant s.offset);
      };
    }
