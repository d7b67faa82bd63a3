-- Trust is kept exactly where nothing misuses it.
use Rattle.std.proofs.Common.{◌≡◌, ℕ, ◌+◌, Bool, true, false, List, [], ◌∷◌, ◌++◌, length, flat_map, Some, None, if◌then◌else◌, refl, sym, ap, subst, ◌∙◌}
use Rattle.std.specs.List.{AllByRecursion}
use Rattle.ctw_ops.specs.declared.types.Label.{Label}
use Rattle.ctw_ops.specs.declared.types.Trust.{Trust}
use Rattle.ctw_ops.specs.declared.types.Trust.TheVariants.{Untrusted, Trusted}
use Rattle.ctw_ops.specs.Code.{Leaf, Call, Code, Stop, Then, Block, Loop, If, IfElse, Op, Closes, ByEnd, ByElse, onto, opcodes}
use Rattle.ctw_ops.specs.Tree.{Module, Function, Element, imported_functions}
use Rattle.ctw_labels.specs.Points.{Points, has_number, trust_at, MayName, KeepsLeaf, KeepsCode}
use Rattle.ctw_labels.specs.Kept.{KeepFunctions, IsKept}
use Rattle.ctw_infer.specs.Misuse.{callee_of, if_trusted, misused_at, misused_from, misused_in, misused_within, misused_calls, trusted_among, misused_entries}
use Rattle.ctw_infer.proofs.Firsts.{both_empty}

module _ (p : Points) (caller : ℕ) where
  -- ---- a leaf

  at_none : (b : Bool) (at f : ℕ) → b ≡ false → misused_at caller at (if b then Some f else None) ≡ []
  at_none true at f e = absurd cc
  at_none false at f e = refl

  at_kept : (b : Bool) (at f : ℕ) → misused_at caller at (if b then Some f else None) ≡ [] → b ≡ false
  at_kept true at f e = absurd cc
  at_kept false at f e = refl

  leaf_clear : (leaf : Leaf Label) (at : ℕ) → KeepsLeaf p Untrusted leaf → misused_at caller at (if_trusted p (callee_of leaf)) ≡ []
  leaf_clear (Call f) at k = at_none (has_number f p.trusted) at f k
  leaf_clear leaf at k = refl

  leaf_kept : (leaf : Leaf Label) (at : ℕ) → misused_at caller at (if_trusted p (callee_of leaf)) ≡ [] → KeepsLeaf p Untrusted leaf
  leaf_kept (Call f) at e = at_kept (has_number f p.trusted) at f e
  leaf_kept leaf at e = tt

  -- ---- code

  abbrev IsClear : List (Op Label) → Type 0
  IsClear ops = (at : ℕ) → misused_from p caller at ops ≡ []

  abbrev IsClearSomewhere : List (Op Label) → Type 0
  IsClearSomewhere ops = (at : ℕ) × (misused_from p caller at ops ≡ [])

  code_clear : (code : Code Label) (ops : List (Op Label)) → KeepsCode p Untrusted code → IsClear ops → IsClear (onto code ops)
  code_clear Stop ops k c at = c at
  code_clear (Then leaf rest) ops k c at = ap (λ l. l ++ misused_from p caller (at + 1) (onto rest ops)) (leaf_clear leaf at k.0) ∙ code_clear rest ops k.1 c (at + 1)
  code_clear (Block t body rest) ops k c at = code_clear body (Closes ByEnd ∷ onto rest ops) k.0 (λ n. code_clear rest ops k.1 c (n + 1)) (at + 1)
  code_clear (Loop t body rest) ops k c at = code_clear body (Closes ByEnd ∷ onto rest ops) k.0 (λ n. code_clear rest ops k.1 c (n + 1)) (at + 1)
  code_clear (If t arm rest) ops k c at = code_clear arm (Closes ByEnd ∷ onto rest ops) k.0 (λ n. code_clear rest ops k.1 c (n + 1)) (at + 1)
  code_clear (IfElse t arm other rest) ops k c at =
      code_clear arm (Closes ByElse ∷ onto other (Closes ByEnd ∷ onto rest ops)) k.0
      (λ n. code_clear other (Closes ByEnd ∷ onto rest ops) k.1 (λ j. code_clear rest ops k.2 c (j + 1)) (n + 1)) (at + 1)

  code_kept : (code : Code Label) (ops : List (Op Label)) (at : ℕ) → misused_from p caller at (onto code ops) ≡ [] → KeepsCode p Untrusted code × IsClearSomewhere ops
  code_kept Stop ops at e = (tt, (at, e))
  code_kept (Then leaf rest) ops at e =
      let b = both_empty (misused_at caller at (if_trusted p (callee_of leaf))) (misused_from p caller (at + 1) (onto rest ops)) e in
      let r = code_kept rest ops (at + 1) b.1 in
      ((leaf_kept leaf at b.0, r.0), r.1)
  code_kept (Block t body rest) ops at e =
      let b = code_kept body (Closes ByEnd ∷ onto rest ops) (at + 1) e in
      let r = code_kept rest ops (b.1.0 + 1) b.1.1 in
      ((b.0, r.0), r.1)
  code_kept (Loop t body rest) ops at e =
      let b = code_kept body (Closes ByEnd ∷ onto rest ops) (at + 1) e in
      let r = code_kept rest ops (b.1.0 + 1) b.1.1 in
      ((b.0, r.0), r.1)
  code_kept (If t arm rest) ops at e =
      let b = code_kept arm (Closes ByEnd ∷ onto rest ops) (at + 1) e in
      let r = code_kept rest ops (b.1.0 + 1) b.1.1 in
      ((b.0, r.0), r.1)
  code_kept (IfElse t arm other rest) ops at e =
      let a = code_kept arm (Closes ByElse ∷ onto other (Closes ByEnd ∷ onto rest ops)) (at + 1) e in
      let b = code_kept other (Closes ByEnd ∷ onto rest ops) (a.1.0 + 1) a.1.1 in
      let r = code_kept rest ops (b.1.0 + 1) b.1.1 in
      ((a.0, b.0, r.0), r.1)

-- ---- trusted code names what it will

module _ (p : Points) where
  leaf_free : (leaf : Leaf Label) → KeepsLeaf p Trusted leaf
  leaf_free (Call f) = tt
  leaf_free leaf = tt

  code_free : (code : Code Label) → KeepsCode p Trusted code
  code_free Stop = tt
  code_free (Then leaf rest) = (leaf_free leaf, code_free rest)
  code_free (Block t body rest) = (code_free body, code_free rest)
  code_free (Loop t body rest) = (code_free body, code_free rest)
  code_free (If t arm rest) = (code_free arm, code_free rest)
  code_free (IfElse t arm other rest) = (code_free arm, code_free other, code_free rest)

  -- ---- functions

  function_clear : (b : Bool) (k : ℕ) (f : Function Label) → KeepsCode p (if b then Trusted else Untrusted) f.body → (if b then [] else misused_from p k 0 (opcodes f.body)) ≡ []
  function_clear true k f h = refl
  function_clear false k f h = code_clear p k f.body (Closes ByEnd ∷ []) h (λ at. refl) 0

  function_kept : (b : Bool) (k : ℕ) (f : Function Label) → (if b then [] else misused_from p k 0 (opcodes f.body)) ≡ [] → KeepsCode p (if b then Trusted else Untrusted) f.body
  function_kept true k f e = code_free f.body
  function_kept false k f e = (code_kept p k f.body (Closes ByEnd ∷ []) 0 e).0

  functions_clear : (k : ℕ) (fs : List (Function Label)) → KeepFunctions p k fs → misused_within p k fs ≡ []
  functions_clear k [] h = refl
  functions_clear k (f ∷ fs) h = ap (λ l. l ++ misused_within p (k + 1) fs) (function_clear (has_number k p.trusted) k f h.0) ∙ functions_clear (k + 1) fs h.1

  functions_kept : (k : ℕ) (fs : List (Function Label)) → misused_within p k fs ≡ [] → KeepFunctions p k fs
  functions_kept k [] e = tt
  functions_kept k (f ∷ fs) e =
      let b = both_empty (misused_in p k f) (misused_within p (k + 1) fs) e in
      (function_kept (has_number k p.trusted) k f b.0, functions_kept (k + 1) fs b.1)

  -- ---- elements

  among_clear : (fs : List ℕ) → AllByRecursion (λ f. has_number f p.trusted ≡ false) fs → trusted_among p fs ≡ []
  among_clear [] h = refl
  among_clear (f ∷ fs) h = one (has_number f p.trusted) h.0 ∙ among_clear fs h.1
    where
      one : (b : Bool) → b ≡ false → (if b then f ∷ trusted_among p fs else trusted_among p fs) ≡ trusted_among p fs
      one true e = absurd cc
      one false e = refl

  among_kept : (fs : List ℕ) → trusted_among p fs ≡ [] → AllByRecursion (λ f. has_number f p.trusted ≡ false) fs
  among_kept [] e = tt
  among_kept (f ∷ fs) e = let o = one (has_number f p.trusted) e in (o.0, among_kept fs o.1)
    where
      one : (b : Bool) → (if b then f ∷ trusted_among p fs else trusted_among p fs) ≡ [] → (b ≡ false) × (trusted_among p fs ≡ [])
      one true e = absurd cc
      one false e = (refl, e)

  entries_clear : (es : List (Element Label)) → AllByRecursion (λ e. AllByRecursion (λ f. has_number f p.trusted ≡ false) e.functions) es → flat_map (λ e. trusted_among p e.functions) es ≡ []
  entries_clear [] h = refl
  entries_clear (e ∷ es) h = ap (λ l. l ++ flat_map (λ e. trusted_among p e.functions) es) (among_clear e.functions h.0) ∙ entries_clear es h.1

  entries_kept : (es : List (Element Label)) → flat_map (λ e. trusted_among p e.functions) es ≡ [] → AllByRecursion (λ e. AllByRecursion (λ f. has_number f p.trusted ≡ false) e.functions) es
  entries_kept [] h = tt
  entries_kept (e ∷ es) h =
      let b = both_empty (trusted_among p e.functions) (flat_map (λ e. trusted_among p e.functions) es) h in
      (among_kept e.functions b.0, entries_kept es b.1)

pub kept_clear : (m : Module Label) (p : Points) → IsKept m p → (misused_calls m p ≡ []) × (misused_entries m p ≡ [])
kept_clear m p k = (functions_clear p (length (imported_functions m.imports)) m.functions k.calls, entries_clear p m.elements k.tables)

pub clear_kept : (m : Module Label) (p : Points) → misused_calls m p ≡ [] → misused_entries m p ≡ [] → IsKept m p
clear_kept m p c e = record {
  calls = functions_kept p (length (imported_functions m.imports)) m.functions c;
  tables = entries_kept p m.elements e;
}

-- ---- points that trust the same functions

module _ (p q : Points) (same : (f : ℕ) → has_number f p.trusted ≡ has_number f q.trusted) where
  name_same : (t : Trust) (f : ℕ) → MayName p t f → MayName q t f
  name_same Trusted f h = tt
  name_same Untrusted f h = sym (same f) ∙ h

  leaf_same : (t : Trust) (leaf : Leaf Label) → KeepsLeaf p t leaf → KeepsLeaf q t leaf
  leaf_same t (Call f) h = name_same t f h
  leaf_same t leaf h = tt

  code_same : (t : Trust) (code : Code Label) → KeepsCode p t code → KeepsCode q t code
  code_same t Stop h = tt
  code_same t (Then i rest) h = (leaf_same t i h.0, code_same t rest h.1)
  code_same t (Block r body rest) h = (code_same t body h.0, code_same t rest h.1)
  code_same t (Loop r body rest) h = (code_same t body h.0, code_same t rest h.1)
  code_same t (If r arm rest) h = (code_same t arm h.0, code_same t rest h.1)
  code_same t (IfElse r arm other rest) h = (code_same t arm h.0, code_same t other h.1, code_same t rest h.2)

  functions_same : (k : ℕ) (fs : List (Function Label)) → KeepFunctions p k fs → KeepFunctions q k fs
  functions_same k [] h = tt
  functions_same k (f ∷ fs) h = (
    subst (λ b. KeepsCode q (if b then Trusted else Untrusted) f.body) (same k) (code_same (trust_at p k) f.body h.0),
    functions_same (k + 1) fs h.1,
  )

  among_same : (fs : List ℕ) → AllByRecursion (λ f. has_number f p.trusted ≡ false) fs → AllByRecursion (λ f. has_number f q.trusted ≡ false) fs
  among_same [] h = tt
  among_same (f ∷ fs) h = (sym (same f) ∙ h.0, among_same fs h.1)

  entries_same : (es : List (Element Label)) → AllByRecursion (λ e. AllByRecursion (λ f. has_number f p.trusted ≡ false) e.functions) es → AllByRecursion (λ e. AllByRecursion (λ f. has_number f q.trusted ≡ false) e.functions) es
  entries_same [] h = tt
  entries_same (e ∷ es) h = (among_same e.functions h.0, entries_same es h.1)

  pub same_kept : (m : Module Label) → IsKept m p → IsKept m q
  same_kept m k = record {
    calls = functions_same (length (imported_functions m.imports)) m.functions k.calls;
    tables = entries_same m.elements k.tables;
  }
