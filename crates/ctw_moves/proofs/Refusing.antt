-- A move is refused for the first of its refusals that applies, and for nothing else.
use Rattle.std.proofs.Common.{◌≡◌, ◌<◌, ℕ, zero, suc, ◌+◌, ◌-◌, ◌^◌, Bool, true, false, ◌&&◌, List, [], ◌∷◌, length, Option, Some, None, is_none, slice_get, refl, sym, ap, subst, ◌∙◌, nat_le, leb-true, arith}
use Rattle.std.specs.Prelude.{◌↔◌}
use Rattle.std.specs.List.{AllZip}
use Rattle.std.proofs.lemmas.Bool.{leb-false, ltb-true, ltb-false}
use Rattle.std.proofs.lemmas.Option.{same_Some}
use Rattle.ctw_ops.specs.declared.types.ExternTag.TheVariants as tag
use Rattle.ctw_ops.specs.declared.types.Label.{Label}
use Rattle.ctw_ops.specs.declared.types.Label.TheVariants.{Public, Secret}
use Rattle.ctw_ops.specs.Types.{ValueType, bit_width}
use Rattle.ctw_ops.specs.Equal.{same_label}
use Rattle.ctw_ops.specs.Limits.{most_steps}
use Rattle.ctw_ops.proofs.EqualLaws.{both, same_label_is, same_label_when}
use Rattle.ctw_script.specs.declared.moves.Arg.{Arg}
use Rattle.ctw_script.specs.declared.moves.Arg.TheVariants.{Number, Vault}
use Rattle.ctw_script.specs.declared.moves.Move.{Move}
use Rattle.ctw_script.specs.declared.moves.Move.TheVariants.{Begin, Turn, Leave, Poke, Peek, Seal, Reveal}
use Rattle.ctw_script.specs.declared.reply.Refusal.{Refusal}
use Rattle.ctw_script.specs.declared.reply.Refusal.TheVariants.{NoExport, BadArgs, SlotBusy, SlotFree, NoMemoryExport, Bounds, WrongLabel, VaultShort, TurnTooLong, SealedFull}
use Rattle.ctw_script.specs.declared.reply.Reply.TheVariants.{Refused}
use Rattle.ctw_semantics.specs.Stores.{Memory}
use Rattle.ctw_semantics.specs.Instances.{FunctionInstance}
use Rattle.ctw_semantics.specs.Activations.{Activation}
use Rattle.ctw_semantics.specs.Steps.{Left, Running, Finished, Trapped, Stuck, turn}
use Rattle.ctw_link.specs.Sets.{ModuleSet}
use Rattle.ctw_link.specs.SetInstances.{set_instances}
use Rattle.ctw_link.specs.Exports.{exported}
use Rattle.ctw_moves.specs.States.{State, in_slot, Played, refused, found, checked}
use Rattle.ctw_moves.specs.Arguments.{in_range, arg_fits, args_fit, args_take}
use Rattle.ctw_moves.specs.Moves.{most_sealed, turn_reply, at_memory, play}
use Rattle.ctw_moves.specs.Refusals.{refusals, Takes, IsFunctionOf, IsMemoryOf, Applies, IsFirstOf, IsRefusalOf}

-- ---- chains of refusals

module _ (Holds : Refusal → Type 0) (s : State) where
  -- what comes of a move is refused for the first of a list that holds
  pub record Refuses (order : List Refusal) (p : Played) : Type 0 where
    pub to : (r : Refusal) → p.reply ≡ Refused r → IsFirstOf order Holds r
    pub from : (r : Refusal) → IsFirstOf order Holds r → p.reply ≡ Refused r

  never : (p : Played) → ((r : Refusal) → p.reply ≡ Refused r → ⊥) → Refuses [] p
  never p n = record { to = λ r e. absurd (n r e); from = λ r h. absurd (let e = h.listed in cc) }

  refused_now : (q : Refusal) (order : List Refusal) → Holds q → Refuses (q ∷ order) (refused q s)
  refused_now q order h = record { to = λ r e. here r e; from = back }
    where
      here : (r : Refusal) → Refused q ≡ Refused r → IsFirstOf (q ∷ order) Holds r
      here r e = let same : q ≡ r = cc in record { place = 0; listed = ap Some same; applies = subst Holds same h; earlier = λ j q less e. absurd (omega (arith, less)) }

      back : (r : Refusal) → IsFirstOf (q ∷ order) Holds r → Refused q ≡ Refused r
      back r f = at f.place f.listed f.earlier
        where
          at : (i : ℕ) → slice_get (q ∷ order) i ≡ Some r → ((j : ℕ) (p : Refusal) → j < i → slice_get (q ∷ order) j ≡ Some p → Holds p → ⊥) → Refused q ≡ Refused r
          at zero e k = let same : q ≡ r = cc in ap Refused same
          at (suc i) e k = absurd (k 0 q (omega arith) refl h)

  passed_by : (q : Refusal) (order : List Refusal) (p : Played) → (Holds q → ⊥) → Refuses order p → Refuses (q ∷ order) p
  passed_by q order p n h = record { to = λ r e. later r (h.to r e); from = back }
    where
      later : (r : Refusal) → IsFirstOf order Holds r → IsFirstOf (q ∷ order) Holds r
      later r f = record { place = suc f.place; listed = f.listed; applies = f.applies; earlier = before }
        where
          before : (j : ℕ) (x : Refusal) → j < suc f.place → slice_get (q ∷ order) j ≡ Some x → Holds x → ⊥
          before zero x less e y = let same : q ≡ x = cc in n (subst Holds (sym same) y)
          before (suc j) x less e y = f.earlier j x (omega (arith, less)) e y

      back : (r : Refusal) → IsFirstOf (q ∷ order) Holds r → p.reply ≡ Refused r
      back r f = at f.place f.listed f.earlier
        where
          at : (i : ℕ) → slice_get (q ∷ order) i ≡ Some r → ((j : ℕ) (x : Refusal) → j < i → slice_get (q ∷ order) j ≡ Some x → Holds x → ⊥) → p.reply ≡ Refused r
          at zero e k = let same : q ≡ r = cc in absurd (n (subst Holds (sym same) f.applies))
          at (suc i) e k = h.from r (record { place = i; listed = e; applies = f.applies; earlier = λ j x less. k (suc j) x (omega (arith, less)) })

  checks : (q : Refusal) (order : List Refusal) (b : Bool) (p : Played) → (b ≡ false → Holds q) → (b ≡ true → Holds q → ⊥) → (b ≡ true → Refuses order p) → Refuses (q ∷ order) (checked q s b p)
  checks q order true p fails passes h = passed_by q order p (passes refl) (h refl)
  checks q order false p fails passes h = refused_now q order (fails refl)

  finds : {A : Type 0} (q : Refusal) (order : List Refusal) (o : Option A) (go : A → Played) → (o ≡ None → Holds q) → ((x : A) → o ≡ Some x → Refuses (q ∷ order) (go x)) → Refuses (q ∷ order) (found q s o go)
  finds q order None go fails h = refused_now q order (fails refl)
  finds q order (Some x) go fails h = h x refl

-- ---- conditions

above : (a b : ℕ) → nat_le a b ≡ false → b < a
above a b e = leb-false a b e

not_above : (a b : ℕ) → nat_le a b ≡ true → b < a → ⊥
not_above a b e less = omega (arith, leb-true a b e, less)

label_differs : (l : Label) → same_label l Public ≡ false → l ≡ Secret
label_differs Public e = absurd cc
label_differs Secret e = refl

label_public : (l : Label) → same_label l Secret ≡ false → l ≡ Public
label_public Public e = refl
label_public Secret e = absurd cc

two_labels : (l m : Label) (b : Label) → same_label l m ≡ true → l ≡ b → m ≡ b
two_labels l m b e q = sym (same_label_is l m e) ∙ q

secret_public : {B : Type 0} → Secret ≡ Public → B
secret_public e = absurd cc

public_secret : {B : Type 0} → Public ≡ Secret → B
public_secret e = absurd cc

none_busy : (o : Option Activation) → is_none o ≡ false → (a : Activation) × (o ≡ Some a)
none_busy None e = absurd cc
none_busy (Some a) e = (a, refl)

none_free : (o : Option Activation) → is_none o ≡ true → (a : Activation) → o ≡ Some a → ⊥
none_free None e a q = cc
none_free (Some b) e a q = cc

takes_arg : (t : ValueType Label) (a : Arg) → arg_fits t a ≡ true → Takes t a
unfolding in_range
takes_arg t (Number true size) e = leb-true size (2 ^ (bit_width t.width - 1)) e
takes_arg t (Number false size) e = ltb-true size (2 ^ bit_width t.width) e
takes_arg t Vault e = same_label_is t.tag Secret e

refuses_arg : (t : ValueType Label) (a : Arg) → arg_fits t a ≡ false → Takes t a → ⊥
unfolding in_range
refuses_arg t (Number true size) e h = omega (arith, leb-false size (2 ^ (bit_width t.width - 1)) e, h)
refuses_arg t (Number false size) e h = omega (arith, ltb-false size (2 ^ bit_width t.width) e, h)
refuses_arg t Vault e h = let q = same_label_when t.tag Secret h in cc

takes_all : (ts : List (ValueType Label)) (args : List Arg) → args_fit ts args ≡ true → AllZip Takes ts args
takes_all [] [] e = tt
takes_all [] (a ∷ args) e = absurd cc
takes_all (t ∷ ts) [] e = absurd cc
takes_all (t ∷ ts) (a ∷ args) e = let q = both (arg_fits t a) (args_fit ts args) e in (takes_arg t a q.0, takes_all ts args q.1)

refuses_some : (ts : List (ValueType Label)) (args : List Arg) → args_fit ts args ≡ false → AllZip Takes ts args → ⊥
refuses_some [] [] e h = cc
refuses_some [] (a ∷ args) e h = h
refuses_some (t ∷ ts) [] e h = h
refuses_some (t ∷ ts) (a ∷ args) e h = go (arg_fits t a) refl e (λ q. refuses_some ts args q h.1)
  where
    go : (b : Bool) → arg_fits t a ≡ b → b && args_fit ts args ≡ false → (args_fit ts args ≡ false → ⊥) → ⊥
    go true q e later = later e
    go false q e later = refuses_arg t a q h.0

not_refused : (n : ℕ) (l : Left) (r : Refusal) → turn_reply n l ≡ Refused r → ⊥
not_refused n (Running a) r e = cc
not_refused n (Finished v) r e = cc
not_refused n (Trapped code) r e = cc
not_refused n Stuck r e = cc

-- ---- moves

module _ (set : ModuleSet) (s : State) where
  same_function : (part export : List ℕ) (fn other : FunctionInstance) → IsFunctionOf set s part export fn → IsFunctionOf set s part export other → fn ≡ other
  same_function part export fn other f g =
      let number : f.0 ≡ g.0 = same_Some f.0 g.0 (sym f.1 ∙ g.1) in
      same_Some fn other (sym f.2 ∙ ap (slice_get (set_instances set)) number ∙ g.2)

  same_memory : (part memory : List ℕ) (m other : Memory) → IsMemoryOf set s part memory m → IsMemoryOf set s part memory other → m ≡ other
  same_memory part memory m other f g =
      let number : f.0 ≡ g.0 = same_Some f.0 g.0 (sym f.1 ∙ g.1) in
      same_Some m other (sym f.2 ∙ ap (slice_get s.storage.memories) number ∙ g.2)

  memory_refuses : (mv : Move) (order : List Refusal) (part memory : List ℕ) (at count : ℕ) (go : ℕ → Memory → Played)
      → (((m : Memory) → IsMemoryOf set s part memory m → ⊥) → Applies set s mv NoMemoryExport)
      → (Applies set s mv NoMemoryExport → (m : Memory) → IsMemoryOf set s part memory m → ⊥)
      → ((m : Memory) → IsMemoryOf set s part memory m → length m.bytes < at + count → Applies set s mv Bounds)
      → (Applies set s mv Bounds → (m : Memory) × IsMemoryOf set s part memory m × (length m.bytes < at + count))
      → ((i : ℕ) (m : Memory) → IsMemoryOf set s part memory m → Refuses (Applies set s mv) s order (go i m))
      → Refuses (Applies set s mv) s (NoMemoryExport ∷ Bounds ∷ order) (at_memory set s part memory at count go)
  memory_refuses mv order part memory at count go none some long short h =
      finds (Applies set s mv) s NoMemoryExport (Bounds ∷ order) (exported tag.Memory set part memory) _ (λ e. none (λ m i. let q = i.1 in cc)) (λ i ei.
      finds (Applies set s mv) s NoMemoryExport (Bounds ∷ order) (slice_get s.storage.memories i) _ (λ e. none (λ m k. let number : k.0 ≡ i = same_Some k.0 i (sym k.1 ∙ ei) in let q : slice_get s.storage.memories i ≡ Some m = ap (slice_get s.storage.memories) (sym number) ∙ k.2 in cc)) (λ m em.
      let is : IsMemoryOf set s part memory m = (i, ei, em) in
      passed_by (Applies set s mv) s NoMemoryExport (Bounds ∷ order) _ (λ a. some a m is) (
      checks (Applies set s mv) s Bounds order (nat_le (at + count) (length m.bytes)) (go i m)
      (λ e. long m is (above (at + count) (length m.bytes) e))
      (λ e a. let x = short a in not_above (at + count) (length m.bytes) e (subst (λ (y : Memory). length y.bytes < at + count) (same_memory part memory x.0 m x.1 is) x.2))
      (λ e. h i m is))))

  begin_refuses : (slot : ℕ) (part export : List ℕ) (args : List Arg) → Refuses (Applies set s (Begin slot part export args)) s (refusals (Begin slot part export args)) (play set s (Begin slot part export args))
  begin_refuses slot part export args =
      let mv : Move = Begin slot part export args in
      let A : Refusal → Type 0 = Applies set s mv in
      finds A s NoExport (BadArgs ∷ SlotBusy ∷ VaultShort ∷ []) (exported tag.Func set part export) _ (λ e fn i. let q = i.1 in cc) (λ n en.
      finds A s NoExport (BadArgs ∷ SlotBusy ∷ VaultShort ∷ []) (slice_get (set_instances set) n) _ (λ e fn k. let number : k.0 ≡ n = same_Some k.0 n (sym k.1 ∙ en) in let q : slice_get (set_instances set) n ≡ Some fn = ap (slice_get (set_instances set)) (sym number) ∙ k.2 in cc) (λ fn ef.
      let is : IsFunctionOf set s part export fn = (n, en, ef) in
      passed_by A s NoExport (BadArgs ∷ SlotBusy ∷ VaultShort ∷ []) _ (λ a. a fn is) (
      checks A s BadArgs (SlotBusy ∷ VaultShort ∷ []) (args_fit fn.type.params args) _
      (λ e. (fn, is, refuses_some fn.type.params args e))
      (λ e a. a.2 (subst (λ (g : FunctionInstance). AllZip Takes g.type.params args) (same_function part export fn a.0 is a.1) (takes_all fn.type.params args e)))
      (λ _.
      checks A s SlotBusy (VaultShort ∷ []) (is_none (in_slot s slot)) _ (λ e. none_busy (in_slot s slot) e) (λ e a. none_free (in_slot s slot) e a.0 a.1) (λ _.
      checks A s VaultShort [] (nat_le (args_take fn.type.params args) (length s.vault)) _
      (λ e. (fn, is, above (args_take fn.type.params args) (length s.vault) e))
      (λ e a. not_above (args_take fn.type.params args) (length s.vault) e (subst (λ (g : FunctionInstance). length s.vault < args_take g.type.params args) (same_function part export a.0 fn a.1 is) a.2))
      (λ _. never A s _ (λ r e. cc)))))))

  turn_refuses : (slot steps : ℕ) → Refuses (Applies set s (Turn slot steps)) s (refusals (Turn slot steps)) (play set s (Turn slot steps))
  unfolding most_steps
  turn_refuses slot steps =
      let A : Refusal → Type 0 = Applies set s (Turn slot steps) in
      finds A s SlotFree (TurnTooLong ∷ []) (in_slot s slot) _ (λ e. e) (λ a ea.
      passed_by A s SlotFree (TurnTooLong ∷ []) _ (λ e. let q : None ≡ Some a = sym e ∙ ea in cc) (
      checks A s TurnTooLong [] (nat_le steps most_steps) _ (λ e. above steps most_steps e) (λ e less. not_above steps most_steps e less) (λ _.
      never A s _ (λ r e. not_refused (turn steps (set_instances set) s.storage a).steps (turn steps (set_instances set) s.storage a).left r e))))

  leave_refuses : (slot : ℕ) → Refuses (Applies set s (Leave slot)) s (refusals (Leave slot)) (play set s (Leave slot))
  leave_refuses slot =
      let A : Refusal → Type 0 = Applies set s (Leave slot) in
      finds A s SlotFree [] (in_slot s slot) _ (λ e. e) (λ a ea.
      passed_by A s SlotFree [] _ (λ e. let q : None ≡ Some a = sym e ∙ ea in cc) (never A s _ (λ r e. cc)))

  poke_refuses : (part memory : List ℕ) (at : ℕ) (bytes : List ℕ) → Refuses (Applies set s (Poke part memory at bytes)) s (refusals (Poke part memory at bytes)) (play set s (Poke part memory at bytes))
  poke_refuses part memory at bytes =
      memory_refuses (Poke part memory at bytes) [] part memory at (length bytes) _ (λ h. h) (λ h. h) (λ m i l. (m, i, l)) (λ h. h) (λ i m is. never (Applies set s (Poke part memory at bytes)) s _ (λ r e. cc))

  peek_refuses : (part memory : List ℕ) (at count : ℕ) → Refuses (Applies set s (Peek part memory at count)) s (refusals (Peek part memory at count)) (play set s (Peek part memory at count))
  peek_refuses part memory at count =
      let A : Refusal → Type 0 = Applies set s (Peek part memory at count) in
      memory_refuses (Peek part memory at count) (WrongLabel ∷ []) part memory at count _ (λ h. h) (λ h. h) (λ m i l. (m, i, l)) (λ h. h) (λ i m is.
      checks A s WrongLabel [] (same_label m.type.tag Public) _ (λ e. (m, is, label_differs m.type.tag e))
      (λ e a. public_secret (two_labels m.type.tag Public Secret e (ap (λ (y : Memory). y.type.tag) (same_memory part memory m a.0 is a.1) ∙ a.2)))
      (λ _. never A s _ (λ r e. cc)))

  seal_refuses : (part memory : List ℕ) (at count : ℕ) → Refuses (Applies set s (Seal part memory at count)) s (refusals (Seal part memory at count)) (play set s (Seal part memory at count))
  seal_refuses part memory at count =
      let A : Refusal → Type 0 = Applies set s (Seal part memory at count) in
      memory_refuses (Seal part memory at count) (WrongLabel ∷ VaultShort ∷ []) part memory at count _ (λ h. h) (λ h. h) (λ m i l. (m, i, l)) (λ h. h) (λ i m is.
      checks A s WrongLabel (VaultShort ∷ []) (same_label m.type.tag Secret) _ (λ e. (m, is, label_public m.type.tag e))
      (λ e a. secret_public (two_labels m.type.tag Secret Public e (ap (λ (y : Memory). y.type.tag) (same_memory part memory m a.0 is a.1) ∙ a.2)))
      (λ _. checks A s VaultShort [] (nat_le count (length s.vault)) _ (λ e. above count (length s.vault) e) (λ e less. not_above count (length s.vault) e less) (λ _. never A s _ (λ r e. cc))))

  reveal_refuses : (part memory : List ℕ) (at count : ℕ) → Refuses (Applies set s (Reveal part memory at count)) s (refusals (Reveal part memory at count)) (play set s (Reveal part memory at count))
  unfolding most_sealed
  reveal_refuses part memory at count =
      let A : Refusal → Type 0 = Applies set s (Reveal part memory at count) in
      memory_refuses (Reveal part memory at count) (WrongLabel ∷ SealedFull ∷ []) part memory at count _ (λ h. h) (λ h. h) (λ m i l. (m, i, l)) (λ h. h) (λ i m is.
      checks A s WrongLabel (SealedFull ∷ []) (same_label m.type.tag Secret) _ (λ e. (m, is, label_public m.type.tag e))
      (λ e a. secret_public (two_labels m.type.tag Secret Public e (ap (λ (y : Memory). y.type.tag) (same_memory part memory m a.0 is a.1) ∙ a.2)))
      (λ _. checks A s SealedFull [] (nat_le (length s.sealed + count) most_sealed) _ (λ e. above (length s.sealed + count) most_sealed e) (λ e less. not_above (length s.sealed + count) most_sealed e less) (λ _. never A s _ (λ r e. cc))))

  play_refuses : (m : Move) → Refuses (Applies set s m) s (refusals m) (play set s m)
  play_refuses (Begin slot part export args) = begin_refuses slot part export args
  play_refuses (Turn slot steps) = turn_refuses slot steps
  play_refuses (Leave slot) = leave_refuses slot
  play_refuses (Poke part memory at bytes) = poke_refuses part memory at bytes
  play_refuses (Peek part memory at count) = peek_refuses part memory at count
  play_refuses (Seal part memory at count) = seal_refuses part memory at count
  play_refuses (Reveal part memory at count) = reveal_refuses part memory at count

  pub refused_for : (m : Move) (r : Refusal) → ((play set s m).reply ≡ Refused r) ↔ IsRefusalOf set s m r
  refused_for m r = let h = play_refuses m in (h.to r, h.from r)
