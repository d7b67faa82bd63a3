-- What is known of the bodies of a valid module: its loads, stores and numeric operations are listed, and aligns are small.
use Rattle.std.proofs.Common.{◌≡◌, ◌<◌, ◌≤◌, ◌^◌, ℕ, Bool, true, false, nat_lt, List, [], ◌∷◌, length, Option, Some, None, refl, sym, ap, ◌∙◌, arith}
use Rattle.std.specs.Prelude.{slice_get, is_some, IsSome}
use Rattle.std.specs.List.{All}
use Rattle.std.proofs.lemmas.Nat.{pow_below}
use Rattle.std.proofs.lemmas.Bool.{false≢true, ltb-true, ltb-false}
use Rattle.std.proofs.lemmas.List.Elements.{All-nil, All-cons}
use Rattle.std.proofs.lemmas.Option.{slice_get_within}
use Rattle.ctw_ops.specs.ValueType.{ValueType}
use Rattle.ctw_ops.specs.declared.types.Label.{Label}
use Rattle.ctw_ops.specs.declared.numeric.NumSig.{NumSig}
use Rattle.ctw_ops.specs.Forms.{is_load, is_store}
use Rattle.ctw_ops.specs.Numeric.{is_numeric, num_sig_of}
use Rattle.ctw_ops.specs.Code as ops
use Rattle.ctw_ops.specs.Code.{Leaf, Code, Op, Plain, Opens, Closes, OfBlock, OfLoop, OfIf, ByEnd, ByElse, onto, opcodes}
use Rattle.ctw_ops.specs.Tree.{Module, Function, type_named}
use Rattle.ctw_ops.specs.Typing.{Context, Row, Typed, inside, upon, optional}
use Rattle.ctw_ops.specs.Bodies.{context_of, HasItsType}
use Rattle.ctw_ops.specs.Valid.{IsValid, Names}
use Rattle.ctw_ops.proofs.Tables.{covered}
use Rattle.ctw_print.specs.Texts.{HasAlign}
use Rattle.ctw_print.proofs.Instructions.{load_below, store_below}
use Rattle.ctw_print.proofs.Listed.{one_of_all}

abbrev pub LeafFits : Leaf Label → Type 0
LeafFits (ops.Load w l bytes signed align offset) = (is_load w bytes signed ≡ true) × (align < 32)
LeafFits (ops.Store w l bytes align offset) = (is_store w bytes ≡ true) × (align < 32)
LeafFits (ops.Numeric op l) = is_numeric op ≡ true
LeafFits _ = Unit {0}

abbrev pub CodeFits : Code Label → Type 0
CodeFits ops.Stop = Unit {0}
CodeFits (ops.Then leaf more) = LeafFits leaf × CodeFits more
CodeFits (ops.Block t body more) = CodeFits body × CodeFits more
CodeFits (ops.Loop t body more) = CodeFits body × CodeFits more
CodeFits (ops.If t arm more) = CodeFits arm × CodeFits more
CodeFits (ops.IfElse t arm other more) = CodeFits arm × CodeFits other × CodeFits more

align_small : (align bytes : ℕ) → 2 ^ align ≤ bytes → bytes < 9 → align < 32
align_small align bytes le lt = go (nat_lt align 32) refl
  where
    go : (test : Bool) → nat_lt align 32 ≡ test → align < 32
    go true e = ltb-true align 32 e
    go false e = absurd (omega (arith, le, lt, pow_below 31 align (omega (arith, ltb-false align 32 e))))

numeric_listed : (op : ℕ) (sig : NumSig) → num_sig_of op ≡ Some sig → is_numeric op ≡ true
numeric_listed op sig e = sym (covered op) ∙ ap is_some e

row_fits : (C : Context Label) (leaf : Leaf Label) (a b : List (ValueType Label)) → Row C leaf a b → LeafFits leaf
row_fits C (ops.Load w l bytes signed align offset) a b r = (r.0, align_small align bytes r.2 (load_below w bytes signed r.0))
row_fits C (ops.Store w l bytes align offset) a b r = (r.0, align_small align bytes r.2 (store_below w bytes r.0))
row_fits C (ops.Numeric op l) a b r = numeric_listed op r.0 r.1
row_fits C leaf a b r = tt

pub typed_fits : (C : Context Label) (code : Code Label) (a b : List (ValueType Label)) → Typed C code a b → CodeFits code
typed_fits C ops.Stop a b h = tt
typed_fits C (ops.Then leaf more) a b h = (row_fits C leaf a h.0 h.1, typed_fits C more h.0 b h.2)
typed_fits C (ops.Block t body more) a b h = (typed_fits (inside t C) body [] (optional t) h.0, typed_fits C more (upon (optional t) a) b h.1)
typed_fits C (ops.Loop t body more) a b h = (typed_fits (inside None C) body [] (optional t) h.0, typed_fits C more (upon (optional t) a) b h.1)
typed_fits C (ops.If t arm more) a b h = (typed_fits (inside t C) arm [] (optional t) h.1, typed_fits C more (upon (optional t) h.2) b h.4)
typed_fits C (ops.IfElse t arm other more) a b h =
    (typed_fits (inside t C) arm [] (optional t) h.0, typed_fits (inside t C) other [] (optional t) h.1, typed_fits C more (upon (optional t) h.2) b h.4)

-- ---- opcodes

leaf_aligned : (leaf : Leaf Label) → LeafFits leaf → HasAlign (Plain leaf)
leaf_aligned (ops.Load w l bytes signed align offset) h = h.1
leaf_aligned (ops.Store w l bytes align offset) h = h.1
leaf_aligned leaf h = tt

onto_aligned : (code : Code Label) (others : List (Op Label)) → CodeFits code → All HasAlign others → All HasAlign (onto code others)
onto_aligned ops.Stop others h a = a
onto_aligned (ops.Then leaf more) others h a = All-cons HasAlign (Plain leaf) (onto more others) (leaf_aligned leaf h.0) (onto_aligned more others h.1 a)
onto_aligned (ops.Block t body more) others h a =
    All-cons HasAlign (Opens OfBlock t) _ tt (onto_aligned body _ h.0 (All-cons HasAlign (Closes ByEnd) _ tt (onto_aligned more others h.1 a)))
onto_aligned (ops.Loop t body more) others h a =
    All-cons HasAlign (Opens OfLoop t) _ tt (onto_aligned body _ h.0 (All-cons HasAlign (Closes ByEnd) _ tt (onto_aligned more others h.1 a)))
onto_aligned (ops.If t arm more) others h a =
    All-cons HasAlign (Opens OfIf t) _ tt (onto_aligned arm _ h.0 (All-cons HasAlign (Closes ByEnd) _ tt (onto_aligned more others h.1 a)))
onto_aligned (ops.IfElse t arm other more) others h a =
    All-cons HasAlign (Opens OfIf t) _ tt
    (onto_aligned arm _ h.0 (All-cons HasAlign (Closes ByElse) _ tt (onto_aligned other _ h.1 (All-cons HasAlign (Closes ByEnd) _ tt (onto_aligned more others h.2 a)))))

pub aligned : (code : Code Label) → CodeFits code → All HasAlign (opcodes code)
aligned code h = onto_aligned code (Closes ByEnd ∷ []) h (All-cons HasAlign (Closes ByEnd) [] tt (All-nil HasAlign))

-- ---- functions of a valid module

pub record FunctionFits (m : Module Label) (f : Function Label) : Type 0 where
  pub typed : f.type < length m.types
  pub code : CodeFits f.body

named_within : {A : Type 0} (l : List A) (i : ℕ) (o : Option A) → slice_get l i ≡ o → IsSome o → i < length l
named_within l i None e h = absurd (false≢true h)
named_within l i (Some a) e h = slice_get_within l i a e

pub function_fits : (m : Module Label) (i : ℕ) (f : Function Label) → IsValid m → slice_get m.functions i ≡ Some f → FunctionFits m f
function_fits m i f v e =
    let own = one_of_all (HasItsType m) m.functions i f v.bodies e in
    record {
      typed = named_within m.types f.type (slice_get m.types f.type) refl (one_of_all (λ (g : Function Label). Names m.types g.type) m.functions i f v.around.functions e);
      code = typed_fits (context_of m f) f.body [] (optional (type_named m f.type).result) own;
    }
