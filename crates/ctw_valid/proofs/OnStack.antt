-- Steps on the innermost block's operands, one after another.
use Rattle.std.proofs.Common.{◌≡◌, ℕ, suc, ◌+◌, ◌<◌, ◌≤◌, List, [], ◌∷◌, ◌++◌, Option, Some, None, length, take, get_or, refl, sym, ◌∙◌, ap, subst, arith}
use Rattle.std.proofs.Math.Seq.{take-suc}
use Rattle.std.proofs.lemmas.List.{take_all}
use Rattle.ctw_ops.specs.declared.types.Label.{Label}
use Rattle.ctw_ops.specs.Types.{ValueType, byte_type, byte_types}
use Rattle.ctw_ops.specs.Typing.{optional}
use Rattle.ctw_ops.specs.Segments.{and_then}
use Rattle.ctw_stack.specs.Operands.{Operands}
use Rattle.ctw_stack.specs.Opens.{Open, with_operands}
use Rattle.ctw_stack.specs.Steps.{expect, expects}
use Rattle.ctw_stack.proofs.FlatLaws.{and_then_assoc}
use Rattle.ctw_valid.specs.Faults.{same_label}
use Rattle.ctw_valid.specs.OnStack.{on_innermost, IsKept}

pub and_then_some : {A : Type 0} (o : Option A) → and_then o (λ x. Some x) ≡ o
and_then_some None = refl
and_then_some (Some x) = refl

pub on_same : (f g : Operands Label → Option (Operands Label)) (s : List (Open Label)) → ((o : Operands Label) → f o ≡ g o) → on_innermost f s ≡ on_innermost g s
on_same f g [] h = refl
on_same f g (b ∷ outer) h = ap (λ r. and_then r (λ o. Some (with_operands b o ∷ outer))) (h b.operands)

pub on_then : (f g : Operands Label → Option (Operands Label)) (s : List (Open Label)) → on_innermost (λ o. and_then (f o) g) s ≡ and_then (on_innermost f s) (on_innermost g)
on_then f g [] = refl
on_then f g (b ∷ outer) = by (f b.operands)
  where
    by : (r : Option (Operands Label)) → and_then (and_then r g) (λ o. Some (with_operands b o ∷ outer)) ≡ and_then (and_then r (λ o. Some (with_operands b o ∷ outer))) (on_innermost g)
    by None = refl
    by (Some o) = refl

pub then_same : (f g : Operands Label → Option (Operands Label)) (s m : List (Open Label)) → on_innermost f s ≡ Some m → on_innermost (λ o. and_then (f o) g) s ≡ on_innermost g m
then_same f g s m e = on_then f g s ∙ ap (λ r. and_then r (on_innermost g)) e

-- the last types come off first
pub expects_append : (xs ys : List (ValueType Label)) (o : Operands Label) → expects same_label (xs ++ ys) o ≡ and_then (expects same_label ys o) (expects same_label xs)
expects_append [] ys o = sym (and_then_some (expects same_label ys o))
expects_append (x ∷ xs) ys o =
    ap (λ r. and_then r (expect same_label x)) (expects_append xs ys o)
    ∙ and_then_assoc (expects same_label ys o) (expects same_label xs) (expect same_label x)

pub on_append : (xs ys : List (ValueType Label)) (s : List (Open Label)) → on_innermost (expects same_label (xs ++ ys)) s ≡ and_then (on_innermost (expects same_label ys) s) (on_innermost (expects same_label xs))
on_append xs ys s =
    on_same (expects same_label (xs ++ ys)) (λ o. and_then (expects same_label ys o) (expects same_label xs)) s (expects_append xs ys)
    ∙ on_then (expects same_label ys) (expects same_label xs) s

pub byte_types_push : (bytes : List ℕ) (byte : ℕ) → byte_types (bytes ++ byte ∷ []) ≡ byte_types bytes ++ optional (byte_type byte)
byte_types_push [] byte = by (byte_type byte) refl
  where
    by : (t : Option (ValueType Label)) → byte_type byte ≡ t → byte_types (byte ∷ []) ≡ optional t
    by None e = rw e refl
    by (Some t) e = rw e refl
byte_types_push (b ∷ bytes) byte = by (byte_type b) refl (byte_types_push bytes byte)
  where
    by : (t : Option (ValueType Label)) → byte_type b ≡ t → byte_types (bytes ++ byte ∷ []) ≡ byte_types bytes ++ optional (byte_type byte) → byte_types (b ∷ bytes ++ byte ∷ []) ≡ byte_types (b ∷ bytes) ++ optional (byte_type byte)
    by None e h = rw e h
    by (Some t) e h = rw e (ap (λ l. t ∷ l) h)

-- of the parameters the first `left` are still to be taken
pub record IsLeft (params : List ℕ) (left : ℕ) (old now : List (Open Label)) : Type 0 where
  pub inside : left ≤ length params
  pub same : on_innermost (expects same_label (byte_types (take left params))) now ≡ on_innermost (expects same_label (byte_types params)) old
  pub kept : IsKept old now 0

pub all_left : (params : List ℕ) (left : ℕ) (old : List (Open Label)) → left ≡ length params → IsLeft params left old old
all_left params left old e = record {
  inside = omega (arith, e);
  same = ap (λ l. on_innermost (expects same_label (byte_types l)) old) (take_all left params (omega (arith, e)));
  kept = record { blocks = refl; slots = omega arith };
}

next_left : (params : List ℕ) (left : ℕ) (now : List (Open Label)) → left < length params
    → on_innermost (expects same_label (byte_types (take (left + 1) params))) now ≡ and_then (on_innermost (expects same_label (optional (byte_type (get_or params left 0)))) now) (on_innermost (expects same_label (byte_types (take left params))))
next_left params left now lt =
    let next : left + 1 ≡ suc left = omega arith in
    let one : take (left + 1) params ≡ take left params ++ get_or params left 0 ∷ [] = ap (λ n. take n params) next ∙ take-suc params left 0 lt in
    ap (λ l. on_innermost (expects same_label (byte_types l)) now) one
    ∙ ap (λ l. on_innermost (expects same_label l) now) (byte_types_push (take left params) (get_or params left 0))
    ∙ on_append (byte_types (take left params)) (optional (byte_type (get_or params left 0))) now

pub one_left : (params : List ℕ) (left : ℕ) (old now after : List (Open Label)) → left < length params → IsLeft params (left + 1) old now
    → on_innermost (expects same_label (optional (byte_type (get_or params left 0)))) now ≡ Some after → IsKept now after 0 → IsLeft params left old after
one_left params left old now after lt h e k = record {
  inside = omega (arith, lt);
  same = sym (next_left params left now lt ∙ ap (λ r. and_then r (on_innermost (expects same_label (byte_types (take left params))))) e) ∙ h.same;
  kept = record { blocks = k.blocks ∙ h.kept.blocks; slots = omega (arith, k.slots, h.kept.slots) };
}

pub none_left : (params : List ℕ) (left : ℕ) (old now : List (Open Label)) → left < length params → IsLeft params (left + 1) old now
    → on_innermost (expects same_label (optional (byte_type (get_or params left 0)))) now ≡ None → on_innermost (expects same_label (byte_types params)) old ≡ None
none_left params left old now lt h e =
    sym h.same ∙ next_left params left now lt ∙ ap (λ r. and_then r (on_innermost (expects same_label (byte_types (take left params))))) e

pub one_taken : (params : List ℕ) (left before : ℕ) (old now after : List (Open Label)) → left + 1 ≡ before → before ≤ length params → IsLeft params before old now
    → on_innermost (expects same_label (optional (byte_type (get_or params left 0)))) now ≡ Some after → IsKept now after 0 → IsLeft params left old after
one_taken params left before old now after n lt h e k = one_left params left old now after (omega (arith, n, lt)) (subst (λ (z : ℕ). IsLeft params z old now) (sym n) h) e k

pub none_taken : (params : List ℕ) (left before : ℕ) (old now : List (Open Label)) → left + 1 ≡ before → before ≤ length params → IsLeft params before old now
    → on_innermost (expects same_label (optional (byte_type (get_or params left 0)))) now ≡ None → on_innermost (expects same_label (byte_types params)) old ≡ None
none_taken params left before old now n lt h e = none_left params left old now (omega (arith, n, lt)) (subst (λ (z : ℕ). IsLeft params z old now) (sym n) h) e
