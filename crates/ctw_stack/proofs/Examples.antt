-- Small bodies, by computation.
use Rattle.std.proofs.Common.{◌≡◌, ◌+◌, ℕ, Bool, true, false, List, [], ◌∷◌, Option, Some, None, take, refl}
use Rattle.std.specs.Prelude.{is_some}
use Rattle.ctw_ops.specs.declared.types.Width.TheVariants.{W32, W64}
use Rattle.ctw_ops.specs.declared.numeric.Profile.TheVariants.{Divide}
use Rattle.ctw_ops.specs.declared.types.Label.{Label}
use Rattle.ctw_ops.specs.declared.types.Label.TheVariants.{Public, Secret}
use Rattle.ctw_ops.specs.declared.types.Trust.TheVariants.{Untrusted}
use Rattle.ctw_ops.specs.Types.{ValueType, value_type}
use Rattle.ctw_ops.specs.Typing.{Context}
use Rattle.ctw_ops.specs.Code.{Unreachable, Br, BrIf, Drop, Select, Const, Classify, LocalGet, Code, Stop, Then, Block, Loop, If, IfElse, straight, opcodes}
use Rattle.ctw_ops.specs.Cut.{cut}
use Rattle.ctw_stack.specs.Pass.{outermost, run}

same_label : Label → Label → Bool
same_label Public Public = true
same_label Secret Secret = true
same_label _ _ = false

-- a function with these locals and this result
own_context : List (ValueType Label) → Option (ValueType Label) → Context Label
own_context locals result = record {
  types = [];
  functions = [];
  globals = [];
  locals = locals;
  memory = None;
  table = false;
  trust = Untrusted;
  result = result;
  labels = result ∷ [];
  public = Public;
  secret = Secret;
  profile = Divide;
}

-- whether the pass ends with no block open
accepts : Context Label → Code Label → Bool
accepts C code = ends (run same_label C (opcodes code) (outermost C))
  where
    ends : {A : Type 0} → Option (List A) → Bool
    ends (Some []) = true
    ends r = false

-- whether the pass gets through k opcodes and refuses the next one
refuses_at : Context Label → Code Label → ℕ → Bool
refuses_at C code k = goes (is_some (run same_label C (take k (opcodes code)) (outermost C))) (is_some (run same_label C (take (k + 1) (opcodes code)) (outermost C)))
  where
    goes : Bool → Bool → Bool
    goes true false = true
    goes _ _ = false

s32 : ValueType Label
s32 = value_type W32 Secret

i32 : ValueType Label
i32 = value_type W32 Public

s64 : ValueType Label
s64 = value_type W64 Secret

-- block local.get 0 br_if 0 end end
branch : Code Label
branch = Block None (straight (LocalGet 0 ∷ BrIf 0 ∷ [])) Stop

a_secret_condition_is_refused : refuses_at (own_context (s32 ∷ []) None) branch 2 ≡ true
unfolding refuses_at own_context same_label branch s32
a_secret_condition_is_refused = refl

a_public_condition_passes : accepts (own_context (i32 ∷ []) None) branch ≡ true
unfolding accepts own_context same_label branch i32
a_public_condition_passes = refl

-- unreachable i32.const 0 i32.classify br_if 0 end
a_secret_is_refused_in_dead_code : refuses_at (own_context [] None) (straight (Unreachable ∷ Const W32 Public 0 ∷ Classify W32 ∷ BrIf 0 ∷ [])) 3 ≡ true
unfolding refuses_at own_context same_label
a_secret_is_refused_in_dead_code = refl

-- unreachable select drop end
dead_code_has_operands_of_any_width : accepts (own_context [] None) (straight (Unreachable ∷ Select Secret ∷ Drop ∷ [])) ≡ true
unfolding accepts own_context same_label
dead_code_has_operands_of_any_width = refl

-- unreachable s64.const 0 s32.const 0 select end
a_select_takes_the_width_that_is_known : accepts (own_context [] (Some s64)) (straight (Unreachable ∷ Const W64 Secret 0 ∷ Const W32 Secret 0 ∷ Select Secret ∷ [])) ≡ true
unfolding accepts own_context same_label s64
a_select_takes_the_width_that_is_known = refl

-- loop (result i32) br 0 end drop end
a_branch_to_a_loop_carries_nothing : accepts (own_context [] None) (Loop (Some i32) (straight (Br 0 ∷ [])) (straight (Drop ∷ []))) ≡ true
unfolding accepts own_context same_label i32
a_branch_to_a_loop_carries_nothing = refl

-- i32.const 0 if (result i32) i32.const 1 end drop end
an_if_with_a_result_and_no_else_is_refused_at_its_end : refuses_at (own_context [] None) (Then (Const W32 Public 0) (If (Some i32) (straight (Const W32 Public 1 ∷ [])) (straight (Drop ∷ [])))) 3 ≡ true
unfolding refuses_at own_context same_label i32
an_if_with_a_result_and_no_else_is_refused_at_its_end = refl

-- i32.const 0 if (result i32) i32.const 1 else i32.const 2 end drop end
an_if_with_both_arms_passes : accepts (own_context [] None) (Then (Const W32 Public 0) (IfElse (Some i32) (straight (Const W32 Public 1 ∷ [])) (straight (Const W32 Public 2 ∷ [])) (straight (Drop ∷ [])))) ≡ true
unfolding accepts own_context same_label i32
an_if_with_both_arms_passes = refl

-- block local.get 0 unreachable end unreachable end
a_cut_body : cut branch 2 ≡ Block None (straight (LocalGet 0 ∷ Unreachable ∷ [])) (straight (Unreachable ∷ []))
unfolding branch
a_cut_body = refl

-- in a then arm with a result: i32.const 0 if (result i32) unreachable else unreachable end unreachable end
a_cut_then_arm : opcodes (cut (Then (Const W32 Public 0) (If (Some i32) (straight (Const W32 Public 1 ∷ [])) Stop)) 2) ≡ opcodes (Then (Const W32 Public 0) (IfElse (Some i32) (straight (Unreachable ∷ [])) (straight (Unreachable ∷ [])) (straight (Unreachable ∷ []))))
unfolding i32
a_cut_then_arm = refl
