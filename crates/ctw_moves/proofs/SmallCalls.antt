-- A call that begins is small.
use Rattle.std.proofs.Common.{◌≡◌, ℕ, zero, suc, ◌≤◌, Bool, true, false, List, [], ◌∷◌, map, length, Option, Some, None, is_none, option_map, unwrap_or, slice_get, slice_set, All, refl, sym, subst, nat_le, arith, length-append, drop}
use Rattle.std.proofs.lemmas.List.{length-map}
use Rattle.std.proofs.lemmas.List.Elements.{All-map, All-weaker}
use Rattle.std.proofs.lemmas.Option.{slice_get-map}
use Rattle.ctw_ops.specs.declared.types.Label.{Label}
use Rattle.ctw_ops.specs.declared.types.ExternTag.TheVariants as tag
use Rattle.ctw_ops.specs.Types.{ValueType}
use Rattle.ctw_ops.specs.Tree.{Module, Function, TypeEntry, no_function_type, type_named}
use Rattle.ctw_script.specs.declared.moves.Arg.{Arg}
use Rattle.ctw_script.specs.declared.moves.Move.TheVariants.{Begin}
use Rattle.ctw_script.specs.declared.reply.Refusal.{Refusal}
use Rattle.ctw_script.specs.declared.reply.Refusal.TheVariants.{NoExport, BadArgs, SlotBusy, VaultShort}
use Rattle.ctw_script.specs.declared.reply.Reply.TheVariants.{Began}
use Rattle.ctw_semantics.specs.Values.{Value, zero_of}
use Rattle.ctw_semantics.specs.Instances.{FunctionInstance}
use Rattle.ctw_semantics.specs.Activations.{Activation, weight}
use Rattle.ctw_semantics.specs.Machine.{begun}
use Rattle.ctw_semantics.specs.Modules.{instance_of}
use Rattle.ctw_ops.proofs.Lists.{all_get}
use Rattle.ctw_ops.specs.Limits.{most_params, most_locals}
use Rattle.ctw_link.specs.Sets.{NamedModule, ModuleSet}
use Rattle.ctw_link.specs.Numbers.{LinkedModule, linked}
use Rattle.ctw_link.proofs.LinkedFronts.{bare, bare_linked}
use Rattle.ctw_link.specs.SetInstances.{module_instance, instances_in, set_instances}
use Rattle.ctw_ops.specs.WithinLimits.{IsWithinLimits}
use Rattle.ctw_link.specs.Sets.{AllWithinLimits}
use Rattle.ctw_launch.proofs.Within.{all_flat, all_unmap}
use Rattle.ctw_link.specs.Exports.{exported}
use Rattle.ctw_moves.specs.States.{State, held, in_slot, Played, found, checked}
use Rattle.ctw_moves.specs.Arguments.{args_fit, args_take, arg_takes, arg_values}
use Rattle.ctw_moves.specs.Moves.{play}

-- ---- functions within the limits

abbrev IsWithinLimitsFunction : FunctionInstance → Type 0
IsWithinLimitsFunction fn = (length fn.type.params ≤ most_params) × (length fn.locals ≤ most_locals)

few_params : (m : Module Label) (y : ℕ) → IsWithinLimits m → length (type_named m y).params ≤ most_params
few_params m y s = go (slice_get m.types y) refl
  where
    by : (o : Option (TypeEntry Label)) → slice_get m.types y ≡ o → length (unwrap_or (option_map (λ (entry : TypeEntry Label). entry.type) o) no_function_type).params ≤ most_params
    by None e = omega arith
    by (Some entry) e = all_get (λ (entry : TypeEntry Label). length entry.type.params ≤ most_params) m.types y entry s.params e

    go : (o : Option (TypeEntry Label)) → slice_get m.types y ≡ o → length (unwrap_or (slice_get (map (λ (entry : TypeEntry Label). entry.type) m.types) y) no_function_type).params ≤ most_params
    go o e = rw (slice_get-map (λ (entry : TypeEntry Label). entry.type) m.types y, e) (by o e)

part_small : (q : LinkedModule) → IsWithinLimits q.tree → All IsWithinLimitsFunction (instances_in q)
part_small q s =
    All-map IsWithinLimitsFunction (instance_of (module_instance q) q.tree) q.tree.functions
    (All-weaker (λ (f : Function Label). length f.locals ≤ most_locals) (λ f. IsWithinLimitsFunction (instance_of (module_instance q) q.tree f)) (λ f l. (few_params q.tree f.type s, l)) q.tree.functions s.locals)

all_small : (set : ModuleSet) → AllWithinLimits set → All IsWithinLimitsFunction (set_instances set)
all_small set h =
    let small = all_unmap (λ (p : NamedModule). IsWithinLimits p.tree) bare (linked set) (subst AllWithinLimits (sym (bare_linked set)) h) in
    all_flat IsWithinLimitsFunction instances_in (linked set) (All-weaker (λ (q : LinkedModule). IsWithinLimits q.tree) (λ q. All IsWithinLimitsFunction (instances_in q)) part_small (linked set) small)

-- ---- a call that begins

values_length : (ts : List (ValueType Label)) (args : List Arg) (vault : List ℕ) → length (arg_values ts args vault) ≤ length ts
values_length [] args vault = omega arith
values_length (t ∷ ts) [] vault = omega arith
values_length (t ∷ ts) (a ∷ args) vault = let h = values_length ts args (drop (arg_takes t a) vault) in omega (arith, h)

begun_weight : (n : ℕ) (fn : FunctionInstance) (args : List Value) → IsWithinLimitsFunction fn → length args ≤ length fn.type.params → weight (begun n fn args) ≤ 51001
unfolding most_params most_locals
begun_weight n fn args small few =
    let a = length-append args (map zero_of fn.locals) in
    let b = length-map fn.locals zero_of in
    omega (arith, small.0, small.1, few, a, b)

-- what is in a slot that was set
put_back : (xs : List (Option Activation)) (slot : ℕ) (a b : Activation) → held (slice_get (slice_set xs slot (Some a)) slot) ≡ Some b → a ≡ b
put_back [] slot a b e = cc
put_back (x ∷ xs) zero a b e = cc
put_back (x ∷ xs) (suc slot) a b e = put_back xs slot a b e

-- if the call has begun, it is small
record Small (slot : ℕ) (p : Played) : Type 0 where
  by : p.reply ≡ Began → (a : Activation) → in_slot p.state slot ≡ Some a → weight a ≤ 51001

found_small : {A : Type 0} (slot : ℕ) (r : Refusal) (s : State) (o : Option A) (go : A → Played) → ((x : A) → o ≡ Some x → Small slot (go x)) → Small slot (found r s o go)
found_small slot r s None go h = record { by = λ e a q. absurd cc }
found_small slot r s (Some x) go h = h x refl

checked_small : (slot : ℕ) (r : Refusal) (s : State) (b : Bool) (p : Played) → Small slot p → Small slot (checked r s b p)
checked_small slot r s true p h = h
checked_small slot r s false p h = record { by = λ e a q. absurd cc }

begin_small : (set : ModuleSet) (s : State) → AllWithinLimits set → (slot : ℕ) (part export : List ℕ) (args : List Arg) → Small slot (play set s (Begin slot part export args))
begin_small set s h slot part export args =
    found_small slot NoExport s (exported tag.Func set part export) _ (λ n _.
    found_small slot NoExport s (slice_get (set_instances set) n) _ (λ fn e.
    checked_small slot BadArgs s (args_fit fn.type.params args) _ (
    checked_small slot SlotBusy s (is_none (in_slot s slot)) _ (
    checked_small slot VaultShort s (nat_le (args_take fn.type.params args) (length s.vault)) _ (
    let values = arg_values fn.type.params args s.vault in
    record {
      by = λ _ a q. subst (λ a. weight a ≤ 51001) (put_back s.slots slot (begun n fn values) a q)
          (begun_weight n fn values (all_get IsWithinLimitsFunction (set_instances set) n fn (all_small set h) e) (values_length fn.type.params args s.vault));
    })))))

pub begun_small : (set : ModuleSet) (s : State) → AllWithinLimits set → (slot : ℕ) (part export : List ℕ) (args : List Arg) → (play set s (Begin slot part export args)).reply ≡ Began → (a : Activation) → in_slot (play set s (Begin slot part export args)).state slot ≡ Some a → weight a ≤ 51001
begun_small set s h slot part export args = (begin_small set s h slot part export args).by
