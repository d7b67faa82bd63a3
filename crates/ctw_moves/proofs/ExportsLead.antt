-- What parts export is there in a sound state.
use Rattle.std.proofs.Common.{◌≡◌, ℕ, List, length, find, Option, Some, None, is_none, option_and_then, slice_get, refl, sym, ap, ◌∙◌, subst, nat_le}
use Rattle.std.specs.Prelude.{if◌then◌else◌, IsSome}
use Rattle.std.proofs.lemmas.Option.{same_Some}
use Rattle.ctw_ops.specs.declared.types.Label.{Label}
use Rattle.ctw_ops.specs.declared.types.ExternTag.{ExternTag}
use Rattle.ctw_ops.specs.declared.types.ExternTag.TheVariants as tag
use Rattle.ctw_ops.specs.Types.{MemoryType}
use Rattle.ctw_ops.specs.Tree.{function_entries, memory_among}
use Rattle.ctw_ops.specs.Valid.{IsValid, IsExported}
use Rattle.ctw_script.specs.declared.moves.Arg.{Arg}
use Rattle.ctw_script.specs.declared.moves.Move.TheVariants.{Begin}
use Rattle.ctw_script.specs.declared.reply.Refusal.TheVariants.{NoExport, BadArgs, SlotBusy, VaultShort}
use Rattle.ctw_script.specs.declared.reply.Reply.TheVariants.{Refused}
use Rattle.ctw_semantics.specs.Stores.{Memory}
use Rattle.ctw_semantics.specs.Instances.{FunctionInstance}
use Rattle.ctw_semantics.proofs.SoundStores.{memory_at}
use Rattle.ctw_module.specs.Lookup.{export_in}
use Rattle.ctw_link.specs.Sets.{ModuleSet}
use Rattle.ctw_ops.specs.Equal.{same_tag}
use Rattle.ctw_link.specs.Numbers.{LinkedModule, numbers_of, is_named, linked}
use Rattle.ctw_link.proofs.Below.{found_all}
use Rattle.ctw_link.proofs.ValidParts as ValidParts
use Rattle.ctw_link.specs.SetInstances.{set_instances}
use Rattle.ctw_launch.proofs.Pairs.{paired_back}
use Rattle.ctw_launch.proofs.Leading.{HasNamed, Leads}
use Rattle.ctw_launch.proofs.Parts.{valid_linked, all_lead}
use Rattle.ctw_link.specs.Exports.{exported_as, exported}
use Rattle.ctw_moves.specs.States.{State, in_slot, Played, found}
use Rattle.ctw_moves.specs.Arguments.{args_fit, args_take}
use Rattle.ctw_moves.specs.Moves.{begin_call, play}
use Rattle.ctw_moves.specs.SoundStates.{SoundState}
use Rattle.ctw_moves.proofs.KeptLimits.{Holds, checked_holds}

module _ (set : ModuleSet) (s : State) (h : SoundState set s) where
  part_leads : (part : List ℕ) (q : LinkedModule) → find (is_named part) (linked set) ≡ Some q → Leads (set_instances set) h.shape q
  part_leads part q at = found_all (Leads (set_instances set) h.shape) (is_named part) (linked set) q (all_lead set h.shape h.matching.imports h.valid h.declared) at

  part_valid : (part : List ℕ) (q : LinkedModule) → find (is_named part) (linked set) ≡ Some q → IsValid q.tree
  part_valid part q at = found_all (λ (q : LinkedModule). IsValid q.tree) (is_named part) (linked set) q (valid_linked set h.valid) at

  pub function_here : (part name : List ℕ) (n : ℕ) → exported tag.Func set part name ≡ Some n → (fn : FunctionInstance) × (slice_get (set_instances set) n ≡ Some fn)
  unfolding exported
  function_here part name n e = in_part (find (is_named part) (linked set)) refl e
    where
      as_kind : (q : LinkedModule) → Leads (set_instances set) h.shape q → (t : ExternTag) (index : ℕ) → (if same_tag tag.Func t then slice_get (numbers_of tag.Func q.numbers) index else None) ≡ Some n → (fn : FunctionInstance) × (slice_get (set_instances set) n ≡ Some fn)
      as_kind q l tag.Func index e = let at = paired_back (HasNamed (set_instances set) q.tree) (function_entries q.tree) q.numbers.functions index n l.functions e in (at.2.0, at.2.1)
      as_kind q l tag.Table index e = cc
      as_kind q l tag.Memory index e = cc
      as_kind q l tag.Global index e = cc

      of_export : (q : LinkedModule) → Leads (set_instances set) h.shape q → (o : Option (ExternTag × ℕ)) → option_and_then (λ thing. if same_tag tag.Func thing.0 then slice_get (numbers_of tag.Func q.numbers) thing.1 else None) o ≡ Some n → (fn : FunctionInstance) × (slice_get (set_instances set) n ≡ Some fn)
      of_export q l None e = cc
      of_export q l (Some thing) e = as_kind q l thing.0 thing.1 e

      in_part : (o : Option LinkedModule) → find (is_named part) (linked set) ≡ o → option_and_then (exported_as tag.Func name) o ≡ Some n → (fn : FunctionInstance) × (slice_get (set_instances set) n ≡ Some fn)
      in_part None at e = cc
      in_part (Some q) at e = of_export q (part_leads part q at) (export_in name q.tree.exports) e

  pub memory_here : (part name : List ℕ) (i : ℕ) → exported tag.Memory set part name ≡ Some i → (m : Memory) × (slice_get s.storage.memories i ≡ Some m)
  unfolding exported
  memory_here part name i e = in_part (find (is_named part) (linked set)) refl e
    where
      among : (q : LinkedModule) → Leads (set_instances set) h.shape q → (o : Option (MemoryType Label)) → memory_among q.tree.imports q.tree.memory ≡ o → IsSome o → slice_get q.numbers.memories 0 ≡ Some i → (m : Memory) × (slice_get s.storage.memories i ≡ Some m)
      among q l None at x e = cc
      among q l (Some t) at x e =
          let led = l.memory t at in
          let same : led.0 ≡ i = same_Some led.0 i (sym led.1 ∙ e) in
          let there = memory_at h.shape s.storage h.storage led.0 led.2.0 led.2.1 in
          (there.0, ap (slice_get s.storage.memories) (sym same) ∙ there.1)

      as_kind : (q : LinkedModule) → Leads (set_instances set) h.shape q → (t : ExternTag) (index : ℕ) → IsExported q.tree t index → (if same_tag tag.Memory t then slice_get (numbers_of tag.Memory q.numbers) index else None) ≡ Some i → (m : Memory) × (slice_get s.storage.memories i ≡ Some m)
      as_kind q l tag.Memory index x e = among q l (memory_among q.tree.imports q.tree.memory) refl x.1 (ap (slice_get q.numbers.memories) (sym x.0) ∙ e)
      as_kind q l tag.Func index x e = cc
      as_kind q l tag.Table index x e = cc
      as_kind q l tag.Global index x e = cc

      of_export : (q : LinkedModule) → Leads (set_instances set) h.shape q → IsValid q.tree → (o : Option (ExternTag × ℕ)) → export_in name q.tree.exports ≡ o
          → option_and_then (λ thing. if same_tag tag.Memory thing.0 then slice_get (numbers_of tag.Memory q.numbers) thing.1 else None) o ≡ Some i → (m : Memory) × (slice_get s.storage.memories i ≡ Some m)
      of_export q l v None at e = cc
      of_export q l v (Some thing) at e = as_kind q l thing.0 thing.1 (ValidParts.exported q.tree name thing.0 thing.1 v at) e

      in_part : (o : Option LinkedModule) → find (is_named part) (linked set) ≡ o → option_and_then (exported_as tag.Memory name) o ≡ Some i → (m : Memory) × (slice_get s.storage.memories i ≡ Some m)
      in_part None at e = cc
      in_part (Some q) at e = of_export q (part_leads part q at) (part_valid part q at) (export_in name q.tree.exports) refl e

  -- ---- a call that finds its function isn't refused for want of it

  abbrev Found : Played → Type 0
  Found p = p.reply ≡ Refused NoExport → ⊥

  begin_found : (slot n : ℕ) (args : List Arg) (fn : FunctionInstance) → Holds Found (begin_call set s slot args n fn)
  begin_found slot n args fn =
      checked_holds Found BadArgs s (args_fit fn.type.params args) _ (λ _ e. cc) (λ _.
      checked_holds Found SlotBusy s (is_none (in_slot s slot)) _ (λ _ e. cc) (λ _.
      checked_holds Found VaultShort s (nat_le (args_take fn.type.params args) (length s.vault)) _ (λ _ e. cc) (λ _. record { by = λ e. cc })))

  pub no_export : (slot : ℕ) (part export : List ℕ) (args : List Arg) → (play set s (Begin slot part export args)).reply ≡ Refused NoExport → exported tag.Func set part export ≡ None
  no_export slot part export args e = go (exported tag.Func set part export) refl e
    where
      go : (o : Option ℕ) → exported tag.Func set part export ≡ o → (found NoExport s o (λ n. found NoExport s (slice_get (set_instances set) n) (begin_call set s slot args n))).reply ≡ Refused NoExport → o ≡ None
      go None at e = refl
      go (Some n) at e =
          let there = function_here part export n at in
          absurd ((begin_found slot n args there.0).by (subst (λ o. (found NoExport s o (begin_call set s slot args n)).reply ≡ Refused NoExport) there.1 e))
