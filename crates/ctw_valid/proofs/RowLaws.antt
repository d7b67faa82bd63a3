-- Rows whose instructions take operands below a number.
use Rattle.std.proofs.Common.{◌≡◌, ℕ, Bool, true, false, not, ◌<◌, ◌≤◌, ◌^◌, List, [], ◌∷◌, ◌++◌, Option, Some, None, slice_get, ◌⊎◌, inl, inr, refl, sym, ◌∙◌, ap, subst, arith}
use Rattle.std.specs.Prelude.{◌&&◌, ◌||◌, ◌==◌, nat_le, nat_lt, if◌then◌else◌, is_some}
use Rattle.std.specs.List.{list_all}
use Rattle.std.proofs.Math.Pow.{pow_mono}
use Rattle.std.proofs.lemmas.Bool.{lt-leb, le-ltb, lt-ltb}
use Rattle.ctw_ops.specs.declared.types.Label.{Label}
use Rattle.ctw_ops.specs.declared.types.Label.TheVariants.{Public, Secret}
use Rattle.ctw_ops.specs.declared.types.Width.{Width}
use Rattle.ctw_ops.specs.declared.types.Width.TheVariants.{W32}
use Rattle.ctw_ops.specs.declared.fault.SecretRule.TheVariants.{CallIndex, TableIndex, Divide}
use Rattle.ctw_ops.specs.Types.{ValueType, FunctionType, FitsWidth, value_type, bit_width}
use Rattle.ctw_ops.specs.Code.{BrTable, CallIndirect, Const, Numeric, Plain}
use Rattle.ctw_ops.specs.Numeric.{within, num_sig_of, leaks}
use Rattle.ctw_ops.specs.declared.numeric.NumSig.{NumSig}
use Rattle.ctw_ops.specs.Typing.{Context, optional, operands}
use Rattle.ctw_ops.specs.Segments.{and_then}
use Rattle.ctw_stack.specs.declared.slot.Slot.{Slot}
use Rattle.ctw_stack.specs.Operands.{Operands, killed}
use Rattle.ctw_stack.specs.Steps.{when, pushes, expects, moved, left_by, may_call, same_result, is_label, are_labels, step}
use Rattle.ctw_stack.proofs.FlatLaws.{and_then_assoc}
use Rattle.ctw_valid.specs.Faults.{same_label, names, guards, guarded_secret, by_type, kind_of}
use Rattle.ctw_valid.specs.declared.around.Around.{Around}
use Rattle.ctw_valid.specs.declared.row.Types.{Types}
use Rattle.ctw_valid.specs.declared.row.Types.TheVariants.{One}
use Rattle.ctw_valid.specs.declared.row.Row.TheVariants.{Moves}
use Rattle.ctw_valid.specs.Rows.{types_in, IsRow, IsBarred}
use Rattle.ctw_valid.specs.Scope.{types_of, table_of, scope}
use Rattle.ctw_valid.specs.Tables.{fit}
use Rattle.ctw_valid.specs.declared.fault.BodyFault.TheVariants.{Index, SecretPlace}
use Rattle.ctw_valid.proofs.OnStack.{expects_append}

-- what is taken last comes off first
pub moved_split : (xs ys gives : List (ValueType Label)) (o : Operands Label) → moved same_label (xs ++ ys) gives o ≡ and_then (expects same_label ys o) (λ r. and_then (expects same_label xs r) (λ rest. Some (pushes gives rest)))
moved_split xs ys gives o = ap (λ r. and_then r (λ rest. Some (pushes gives rest))) (expects_append xs ys o) ∙ and_then_assoc (expects same_label ys o) (expects same_label xs) (λ rest. Some (pushes gives rest))

pub left_split : (xs ys : List (ValueType Label)) (o : Operands Label) → left_by same_label (xs ++ ys) o ≡ and_then (expects same_label ys o) (λ r. and_then (expects same_label xs r) (λ rest. Some killed))
left_split xs ys o = ap (λ r. and_then r (λ rest. Some killed)) (expects_append xs ys o) ∙ and_then_assoc (expects same_label ys o) (expects same_label xs) (λ rest. Some killed)

-- a condition that doesn't depend on the operands may be looked at after some of them are taken
pub when_later : {A B : Type 0} (c : Bool) (o : Option A) (f : A → Option B) → when c (and_then o f) ≡ and_then o (λ x. when c (f x))
when_later true o f = refl
when_later false None f = refl
when_later false (Some x) f = refl

pub indirect_row : (a : Around) (labels : List (Option (ValueType Label))) (y : ℕ) (g : FunctionType Label) (types : Types) (gives : Option (ValueType Label)) → table_of a ≡ true → Some g ≡ slice_get (types_of a) y → may_call a.trust g.trust ≡ true → types_in types ≡ g.params → gives ≡ g.result
    → IsRow (scope a labels) (CallIndirect y) (Moves (record { first = types; index = Some CallIndex; last = None; fits = true; gives = gives; ends = false }))
indirect_row a labels y g types gives t e m p r = record {
  same = λ o. rw (t, ← e, m, ← p, ← r) (moved_split (types_in types) (value_type W32 Public ∷ []) (optional gives) o);
  kind = λ at slots. rw (t, ← e, m) refl;
}

-- no access has 256 bytes
pub wide_alignment : (align bytes : ℕ) → 8 ≤ align → bytes < 256 → nat_lt align 8 ≡ nat_le (2 ^ align) bytes
wide_alignment align bytes le lt =
    let more : 2 ^ 8 ≤ 2 ^ align = pow_mono {i = 8} {j = align} le in
    le-ltb align 8 le ∙ sym (lt-leb (2 ^ align) bytes (omega (arith, more, lt)))

-- an operation has one operand or two
abbrev IsSmall : Option NumSig → Type 0
IsSmall None = Unit {0}
IsSmall (Some sig) = (sig.arity ≡ 1) ⊎ (sig.arity ≡ 2)

either : (b : Bool) (x y : Option NumSig) → IsSmall x → IsSmall y → IsSmall (if b then x else y)
either true x y h k = h
either false x y h k = k

small : (op : ℕ) → IsSmall (num_sig_of op)
unfolding num_sig_of
small op =
    either (op == 0x45) _ _ (inl refl) (either (within 0x46 0x4F op) _ _ (inr refl) (either (op == 0x50) _ _ (inl refl) (either (within 0x51 0x5A op) _ _ (inr refl)
    (either (within 0x67 0x69 op) _ _ (inl refl) (either (within 0x6A 0x78 op) _ _ (inr refl) (either (within 0x79 0x7B op) _ _ (inl refl) (either (within 0x7C 0x8A op) _ _ (inr refl)
    (either (op == 0xA7) _ _ (inl refl) (either (within 0xAC 0xAD op) _ _ (inl refl) (either (within 0xC0 0xC1 op) _ _ (inl refl) (either (within 0xC2 0xC4 op) _ _ (inl refl) tt)))))))))))

arity : (op : ℕ) (sig : NumSig) → num_sig_of op ≡ Some sig → (sig.arity ≡ 2 → ⊥) → sig.arity ≡ 1
arity op sig e n = by (subst IsSmall e (small op))
  where
    by : IsSmall (Some sig) → sig.arity ≡ 1
    by (inl h) = h
    by (inr h) = absurd (n h)

free : (timed : Bool) (l : Label) → (timed && same_label l Secret) ≡ false → (not timed || same_label l Public) ≡ true
free false l e = refl
free true Public e = refl
free true Secret e = absurd cc

pub unary_row : (a : Around) (labels : List (Option (ValueType Label))) (op : ℕ) (sig : NumSig) (l : Label) → num_sig_of op ≡ Some sig → (leaks op a.profile && same_label l Secret) ≡ false → (sig.arity ≡ 2 → ⊥)
    → IsRow (scope a labels) (Numeric op l) (Moves (record { first = One None; index = None; last = Some (value_type sig.operand l); fits = true; gives = Some (value_type sig.result l); ends = false }))
unary_row a labels op sig l e f n = record {
  same = λ o. rw (e, free (leaks op a.profile) l f, arity op sig e n) refl;
  kind = λ at slots. rw f refl;
}

pub binary_row : (a : Around) (labels : List (Option (ValueType Label))) (op : ℕ) (sig : NumSig) (l : Label) → num_sig_of op ≡ Some sig → (leaks op a.profile && same_label l Secret) ≡ false → sig.arity ≡ 2
    → IsRow (scope a labels) (Numeric op l) (Moves (record { first = One (Some (value_type sig.operand l)); index = None; last = Some (value_type sig.operand l); fits = true; gives = Some (value_type sig.result l); ends = false }))
binary_row a labels op sig l e f two = record {
  same = λ o. rw (e, free (leaks op a.profile) l f, two) (moved_split (value_type sig.operand l ∷ []) (value_type sig.operand l ∷ []) (value_type sig.result l ∷ []) o);
  kind = λ at slots. rw f refl;
}

-- an operation of secrets that leaks
pub leaking_row : (a : Around) (labels : List (Option (ValueType Label))) (op at : ℕ) (l : Label) → (leaks op a.profile && same_label l Secret) ≡ true → IsBarred (scope a labels) (Numeric op l) at (SecretPlace at Divide)
leaking_row a labels op at l e = record {
  refused = λ o. refused (num_sig_of op) o;
  kind = λ slots. rw e refl;
}
  where
    barred : (leaking : Bool) (m : Label) → (leaking && same_label m Secret) ≡ true → (not leaking || same_label m Public) ≡ false
    barred true Secret q = refl
    barred true Public q = absurd cc
    barred false m q = absurd cc

    refused : (row : Option NumSig) (o : Operands Label) → and_then row (λ sig. when (not (leaks op a.profile) || same_label l Public) (moved same_label (operands sig l) (value_type sig.result l ∷ []) o)) ≡ None
    refused None o = refl
    refused (Some sig) o = rw (barred (leaks op a.profile) l e) refl

-- a constant of its width
pub constant_row : (C : Context Label) (w : Width) (l : Label) (bits : ℕ) → FitsWidth w bits
    → IsRow C (Const w l bits) (Moves (record { first = One None; index = None; last = None; fits = true; gives = Some (value_type w l); ends = false }))
constant_row C w l bits h = record {
  same = λ o. rw (lt-ltb bits (2 ^ bit_width w) h) refl;
  kind = λ at slots. refl;
}

-- what is known where all targets are there
pub record Fitting (C : Context Label) (t : Option (ValueType Label)) (ks : List ℕ) (fits : Bool) : Type 0 where
  pub there : list_all (names C.labels) ks ≡ true
  pub same : are_labels same_label C t ks ≡ fits

fitting : (C : Context Label) (t : Option (ValueType Label)) (ks : List ℕ) (fits : Bool) → Some fits ≡ fit C t true ks → Fitting C t ks fits
fitting C t ks fits e = by (list_all (names C.labels) ks) refl e
  where
    by : (b : Bool) → list_all (names C.labels) ks ≡ b → Some fits ≡ (if b then Some (true && are_labels same_label C t ks) else None) → Fitting C t ks fits
    by true q h = record { there = q; same = cc }
    by false q h = absurd cc

missing : (C : Context Label) (t : Option (ValueType Label)) (ks : List ℕ) → None ≡ fit C t true ks → list_all (names C.labels) ks ≡ false
missing C t ks e = by (list_all (names C.labels) ks) e
  where
    by : (b : Bool) → None ≡ (if b then Some (true && are_labels same_label C t ks) else None) → b ≡ false
    by true h = absurd cc
    by false h = refl

-- a label that isn't there carries nothing
unlike : (C : Context Label) (t : Option (ValueType Label)) (ks : List ℕ) → list_all (names C.labels) ks ≡ false → are_labels same_label C t ks ≡ false
unlike C t [] e = absurd cc
unlike C t (k ∷ ks) e = by (slice_get C.labels k) e (unlike C t ks)
  where
    by : (r : Option (Option (ValueType Label))) → (is_some r && list_all (names C.labels) ks) ≡ false → (list_all (names C.labels) ks ≡ false → are_labels same_label C t ks ≡ false)
        → (is_label same_label t r && are_labels same_label C t ks) ≡ false
    by None q h = refl
    by (Some u) q h = rw (h q) (and_false (same_result same_label u t))
      where
        and_false : (b : Bool) → (b && false) ≡ false
        and_false true = refl
        and_false false = refl

pub table_row : (a : Around) (labels : List (Option (ValueType Label))) (ks : List ℕ) (k : ℕ) (t : Option (ValueType Label)) (fits : Bool) → slice_get labels k ≡ Some t → Some fits ≡ fit (scope a labels) t true ks
    → IsRow (scope a labels) (BrTable ks k) (Moves (record { first = One t; index = Some TableIndex; last = None; fits = fits; gives = None; ends = true }))
table_row a labels ks k t fits e h =
    let C : Context Label = scope a labels in
    let f = fitting C t ks fits h in
    record {
      same = λ o. same f o;
      kind = λ at slots. kind f at slots;
    }
  where
    below : List (ValueType Label)
    below = value_type W32 Public ∷ []

    same : Fitting (scope a labels) t ks fits → (o : Operands Label) → step same_label (scope a labels) (BrTable ks k) o ≡ and_then (expects same_label below o) (λ r. when fits (and_then (expects same_label (optional t) r) (λ rest. Some killed)))
    same f o =
        ap (λ r. and_then r (λ u. when (are_labels same_label (scope a labels) u ks) (left_by same_label (optional u ++ below) o))) e
        ∙ ap (λ b. when b (left_by same_label (optional t ++ below) o)) f.same
        ∙ ap (when fits) (left_split (optional t) below o)
        ∙ when_later fits (expects same_label below o) (λ r. and_then (expects same_label (optional t) r) (λ rest. Some killed))

    kind : Fitting (scope a labels) t ks fits → (at : ℕ) (slots : List (Slot Label)) → kind_of (scope a labels) (Plain (BrTable ks k)) at slots ≡ by_type at (guarded_secret slots (guards TableIndex 0))
    kind f at slots = rw (e, f.there) refl

pub no_table : (a : Around) (labels : List (Option (ValueType Label))) (ks : List ℕ) (k at : ℕ) (t : Option (ValueType Label)) → slice_get labels k ≡ Some t → None ≡ fit (scope a labels) t true ks → IsBarred (scope a labels) (BrTable ks k) at (Index at)
no_table a labels ks k at t e h =
    let C : Context Label = scope a labels in
    let m : list_all (names labels) ks ≡ false = missing C t ks h in
    let u : are_labels same_label C t ks ≡ false = unlike C t ks m in
    record {
      refused = λ o. rw (e, u) refl;
      kind = λ slots. rw (e, m) refl;
    }
