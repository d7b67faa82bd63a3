-- A valid module within limits may be printed: its numbers are in their ranges, and own words stand in CT modules alone.
use Rattle.std.proofs.Common.{◌≡◌, ◌<◌, ◌≤◌, ◌^◌, ℕ, zero, suc, Bool, true, false, List, [], ◌∷◌, Option, Some, None, refl, ap, sym, ◌∙◌, arith, inl, inr}
use Rattle.std.specs.Prelude.{◌||◌, nat_lt, is_some, get_or, IfSome}
use Rattle.std.specs.Str.{is_utf8}
use Rattle.std.specs.List.{All, list_all}
use Rattle.std.proofs.lemmas.List.Elements.{All-head, All-tail}
use Rattle.std.proofs.lemmas.Bool.{false≢true, lt-ltb, le-leb, ltb-true, ltb-false}
use Rattle.std.proofs.lemmas.List.{get_or_past}
use Rattle.std.proofs.Math.Pow.{pow_mono}
use Rattle.ctw_ops.specs.declared.types.Label.{Label}
use Rattle.ctw_ops.specs.declared.types.Label.TheVariants.{Public, Secret}
use Rattle.ctw_ops.specs.declared.types.Width.{Width}
use Rattle.ctw_ops.specs.declared.types.Width.TheVariants.{W32, W64}
use Rattle.ctw_ops.specs.declared.types.Trust.{Trust}
use Rattle.ctw_ops.specs.declared.types.Trust.TheVariants.{Untrusted, Trusted}
use Rattle.ctw_ops.specs.declared.types.Limits.{Limits}
use Rattle.ctw_ops.specs.Types.{ValueType, MemoryType, FitsWidth}
use Rattle.ctw_ops.specs.Numeric.{is_numeric}
use Rattle.ctw_ops.specs.Forms.{is_load, is_store}
use Rattle.ctw_ops.specs.Code as ops
use Rattle.ctw_ops.specs.Code.{Leaf, Code, Op, Plain, Opens, Closes, OfBlock, OfLoop, OfIf, ByEnd, ByElse, onto, opcodes}
use Rattle.ctw_ops.specs.Typing.{Context, Row, Typed, inside}
use Rattle.ctw_ops.specs.Bodies.{HasItsType}
use Rattle.ctw_ops.specs.Plain.{is_public, is_plain_type, is_plain_leaf, is_plain_op, IsPublicType, IsPlainEntry, IsPlainExtern, IsPlainConstant, IsPlainGlobal, IsPlainFunction, IsPlainModule}
use Rattle.ctw_ops.specs.Tree as tree
use Rattle.ctw_ops.specs.Tree.{Module, TypeEntry, Extern, Import, Function, Constant, Export, Element, Segment, Custom}
use Rattle.ctw_ops.specs.Valid.{IsFitting, IsValid}
use Rattle.ctw_ops.proofs.Tables.{covered}
use Rattle.ctw_text.specs.Keys as k
use Rattle.ctw_text.specs.Keys.{Key, KVariant, KTrusted, KSecret, KTy, KOp, is_secret, is_own_leaf, is_own, allowed}
use Rattle.ctw_text.specs.Grammar.{fits, exponent}
use Rattle.ctw_text.specs.Print.{natural}
use Rattle.ctw_text.specs.Says.{IsU32, AllU32, TypesFit, ResultFits, LeafFits, CodeFits, AllOf, MaybeOf, TrustFits, BaseFits, EntryFits, LimitsFit, LabelFits, MemoryFits, ExternFits, ImportFits, FunctionFits, ConstantFits, GlobalFits, ExportFits, ElementFits, SegmentFits, CustomFits, Printable}
use Rattle.ctw_text.specs.Limited.{Is32, IsLimitedLeaf, IsLimitedOp, IsLimitedFunction, IsLimitedEntry, AreSizes, IsText, IsLimitedExtern, IsLimitedImport, IsLimitedExport, IsLimitedConstant, IsLimitedElement, IsLimitedSegment, item_counts, IsPlace, IsLimitedCustom, IsLimited}
use Rattle.ctw_text.proofs.Lexing.{both_true}
use Rattle.ctw_text.proofs.Atoms.{load_bytes, store_bytes}

pub all_of : {X : Type 0} (P Q : X → Type 0) → ((x : X) → P x → Q x) → (xs : List X) → All P xs → AllOf Q xs
all_of P Q f [] h = tt
all_of P Q f (x ∷ xs) h = (f x (All-head P x xs h), all_of P Q f xs (All-tail P x xs h))

maybe_of : {X : Type 0} (P Q : X → Type 0) → ((x : X) → P x → Q x) → (o : Option X) → IfSome o P → MaybeOf Q o
maybe_of P Q f None h = tt
maybe_of P Q f (Some x) h = f x h

u32 : (n : ℕ) → Is32 n → IsU32 n
u32 n h = lt-ltb n (2 ^ 32) h

-- what isn't own stands in every module
own_fits : (ct : Bool) (key : Key) → (ct ≡ false → is_own key ≡ false) → allowed ct key ≡ true
own_fits true key h = refl
own_fits false key h = rw (h refl) refl

secret_public : Secret ≡ Public → ⊥
secret_public e = cc

some_none : {X : Type 0} {x : X} → Some x ≡ None → ⊥
some_none e = cc

trusted_untrusted : Trusted ≡ Untrusted → ⊥
trusted_untrusted e = cc

module _ (ct : Bool) where
  type_fits : (t : ValueType Label) → (ct ≡ false → IsPublicType t) → allowed ct (KTy t) ≡ true
  type_fits t p = own_fits ct (KTy t) (λ e. ap is_secret (p e))

  types_fit : (ts : List (ValueType Label)) → (ct ≡ false → All IsPublicType ts) → TypesFit ct ts
  types_fit [] p = tt
  types_fit (t ∷ ts) p = (type_fits t (λ e. All-head IsPublicType t ts (p e)), types_fit ts (λ e. All-tail IsPublicType t ts (p e)))

  result_fits : (r : Option (ValueType Label)) → (ct ≡ false → IfSome r IsPublicType) → ResultFits ct r
  result_fits None p = tt
  result_fits (Some t) p = type_fits t p

  trust_fits : (t : Trust) → (ct ≡ false → t ≡ Untrusted) → TrustFits ct t
  trust_fits Untrusted p = tt
  trust_fits Trusted p = own_fits ct KTrusted (λ e. absurd (trusted_untrusted (p e)))

  base_fits : (base : Option ℕ) → IfSome base Is32 → (ct ≡ false → base ≡ None) → BaseFits ct base
  base_fits None l p = tt
  base_fits (Some n) l p = (own_fits ct KVariant (λ e. absurd (some_none (p e))), u32 n l)

  entry_fits : (e : TypeEntry Label) → IsLimitedEntry e → (ct ≡ false → IsPlainEntry e) → EntryFits ct e
  entry_fits e l p = (
    base_fits e.base l.0 (λ c. (p c).base),
    (trust_fits e.type.trust (λ c. (p c).trust), types_fit e.type.params (λ c. (p c).params), result_fits e.type.result (λ c. (p c).result)),
  )

  label_fits : (l : Label) → (ct ≡ false → l ≡ Public) → LabelFits ct l
  label_fits Public p = tt
  label_fits Secret p = own_fits ct KSecret (λ e. absurd (secret_public (p e)))

limits_fit : (l : Limits) → AreSizes l → LimitsFit l
limits_fit l h = (u32 l.min h.0, maybe_of Is32 IsU32 u32 l.max h.1)

taken : (bs : List ℕ) → IsText bs → (list_all (λ b. nat_lt b 128) bs || is_utf8 bs) ≡ true
taken bs h = rw h (or_true (list_all (λ b. nat_lt b 128) bs))
  where
    or_true : (x : Bool) → (x || true) ≡ true
    or_true true = refl
    or_true false = refl

width_fits : (w : Width) (n : ℕ) → FitsWidth w n → fits w false n ≡ true
width_fits W32 n h = lt-ltb n (2 ^ 32) h
width_fits W64 n h = lt-ltb n (2 ^ 64) h

-- Instructions

public_label : (l : Label) → is_public l ≡ true → is_secret l ≡ false
public_label Public e = refl
public_label Secret e = absurd (false≢true e)

plain_leaf : (leaf : Leaf Label) → is_plain_leaf leaf ≡ true → is_own_leaf leaf ≡ false
plain_leaf (ops.Select l) e = public_label l e
plain_leaf (ops.Load w l bytes signed align offset) e = public_label l e
plain_leaf (ops.Store w l bytes align offset) e = public_label l e
plain_leaf (ops.Const w l bits) e = public_label l e
plain_leaf (ops.Numeric op l) e = public_label l e
plain_leaf (ops.Classify w) e = absurd (false≢true e)
plain_leaf (ops.Declassify w) e = absurd (false≢true e)
plain_leaf ops.Unreachable e = refl
plain_leaf leaf e = refl

-- an align is at most that of eight bytes
align_low : (align bytes : ℕ) → bytes < 9 → 2 ^ align ≤ bytes → align < 4
align_low align bytes h l = go (nat_lt align 4) refl
  where
    go : (b : Bool) → nat_lt align 4 ≡ b → align < 4
    go true e = ltb-true align 4 e
    go false e = absurd (let m : 2 ^ 4 ≤ 2 ^ align = pow_mono (ltb-false align 4 e) in let s : 16 ≤ 2 ^ align = m in omega arith)

exponent_back : (align : ℕ) → align < 4 → exponent (2 ^ align) ≡ Some align
exponent_back zero h = refl
exponent_back (suc zero) h = refl
exponent_back (suc (suc zero)) h = refl
exponent_back (suc (suc (suc zero))) h = refl
exponent_back (suc (suc (suc (suc n)))) h = absurd (omega arith)

all_u32 : (ns : List ℕ) → All Is32 ns → AllU32 ns
all_u32 [] h = tt
all_u32 (n ∷ ns) h = (u32 n (All-head Is32 n ns h), all_u32 ns (All-tail Is32 n ns h))

-- what a leaf needs so that it has a word, and its numbers are numbers
abbrev pub LeafStands : Leaf Label → Type 0
LeafStands (ops.Br n) = Is32 n
LeafStands (ops.BrIf n) = Is32 n
LeafStands (ops.BrTable ns n) = All Is32 ns × Is32 n
LeafStands (ops.Call n) = Is32 n
LeafStands (ops.CallIndirect n) = Is32 n
LeafStands (ops.LocalGet n) = Is32 n
LeafStands (ops.LocalSet n) = Is32 n
LeafStands (ops.LocalTee n) = Is32 n
LeafStands (ops.GlobalGet n) = Is32 n
LeafStands (ops.GlobalSet n) = Is32 n
LeafStands (ops.Load w l bytes signed align offset) = (is_load w bytes signed ≡ true) × (align < 4) × Is32 offset
LeafStands (ops.Store w l bytes align offset) = (is_store w bytes ≡ true) × (align < 4) × Is32 offset
LeafStands (ops.Const w l bits) = FitsWidth w bits
LeafStands (ops.Numeric op l) = is_numeric op ≡ true
LeafStands _ = Unit {0}

abbrev pub CodeStands : Code Label → Type 0
CodeStands ops.Stop = Unit {0}
CodeStands (ops.Then leaf more) = LeafStands leaf × CodeStands more
CodeStands (ops.Block t body more) = CodeStands body × CodeStands more
CodeStands (ops.Loop t body more) = CodeStands body × CodeStands more
CodeStands (ops.If t arm more) = CodeStands arm × CodeStands more
CodeStands (ops.IfElse t arm other more) = CodeStands arm × CodeStands other × CodeStands more

module _ (ct : Bool) where
  form_fits : (f : k.Form) (leaf : Leaf Label) → k.is_own_form f ≡ is_own_leaf leaf → (ct ≡ false → is_plain_leaf leaf ≡ true) → allowed ct (KOp f) ≡ true
  form_fits f leaf same p = own_fits ct (KOp f) (λ e. same ∙ plain_leaf leaf (p e))

  leaf_fits : (C : Context Label) (leaf : Leaf Label) (a b : List (ValueType Label)) → IsLimitedLeaf leaf → Row C leaf a b → (ct ≡ false → is_plain_leaf leaf ≡ true) → LeafFits ct leaf × LeafStands leaf
  leaf_fits C (ops.Br n) a b l r p = (u32 n l, l)
  leaf_fits C (ops.BrIf n) a b l r p = (u32 n l, l)
  leaf_fits C (ops.BrTable ns n) a b l r p = ((all_u32 ns l.0, u32 n l.1), l)
  leaf_fits C (ops.Call n) a b l r p = (u32 n l, l)
  leaf_fits C (ops.CallIndirect n) a b l r p = (u32 n l, l)
  leaf_fits C (ops.LocalGet n) a b l r p = (u32 n l, l)
  leaf_fits C (ops.LocalSet n) a b l r p = (u32 n l, l)
  leaf_fits C (ops.LocalTee n) a b l r p = (u32 n l, l)
  leaf_fits C (ops.GlobalGet n) a b l r p = (u32 n l, l)
  leaf_fits C (ops.GlobalSet n) a b l r p = (u32 n l, l)
  leaf_fits C (ops.Load w l bytes signed align offset) a b h r p =
      let low = align_low align bytes (load_bytes w bytes signed r.0) r.2 in
      ((form_fits (k.Access (ops.Load w l bytes signed (natural bytes) 0)) (ops.Load w l bytes signed align offset) refl p, u32 offset h, exponent_back align low), (r.0, low, h))
  leaf_fits C (ops.Store w l bytes align offset) a b h r p =
      let low = align_low align bytes (store_bytes w bytes r.0) r.2 in
      ((form_fits (k.Access (ops.Store w l bytes (natural bytes) 0)) (ops.Store w l bytes align offset) refl p, u32 offset h, exponent_back align low), (r.0, low, h))
  leaf_fits C (ops.Const w l bits) a b h r p = ((form_fits (k.Const w l) (ops.Const w l bits) refl p, width_fits w bits r.0), r.0)
  leaf_fits C (ops.Numeric op l) a b h r p = (form_fits (k.Bare (ops.Numeric op l)) (ops.Numeric op l) refl p, sym (covered op) ∙ ap is_some r.1)
  leaf_fits C ops.Unreachable a b h r p = (form_fits (k.Bare ops.Unreachable) ops.Unreachable refl p, tt)
  leaf_fits C leaf a b h r p = (form_fits (k.Bare leaf) leaf refl p, tt)

  -- instructions before others
  record Fitted (c : Code Label) (os : List (Op Label)) : Type 0 where
    fits : CodeFits ct c
    stands : CodeStands c
    rest : All IsLimitedOp os
    plain : ct ≡ false → list_all is_plain_op os ≡ true

  plain_type : (t : Option (ValueType Label)) → (ct ≡ false → is_plain_type t ≡ true) → ResultFits ct t
  plain_type None p = tt
  plain_type (Some t) p = type_fits ct t (λ e. public (t.tag) (p e))
    where
      public : (l : Label) → is_public l ≡ true → l ≡ Public
      public Public e = refl
      public Secret e = absurd (false≢true e)

  next : (op : Op Label) (os : List (Op Label)) → All IsLimitedOp (op ∷ os) → All IsLimitedOp os
  next op os l = All-tail IsLimitedOp op os l

  next_plain : (op : Op Label) (os : List (Op Label)) → (ct ≡ false → list_all is_plain_op (op ∷ os) ≡ true) → ct ≡ false → list_all is_plain_op os ≡ true
  next_plain op os p e = (both_true (is_plain_op op) (list_all is_plain_op os) (p e)).1

  this_plain : (op : Op Label) (os : List (Op Label)) → (ct ≡ false → list_all is_plain_op (op ∷ os) ≡ true) → ct ≡ false → is_plain_op op ≡ true
  this_plain op os p e = (both_true (is_plain_op op) (list_all is_plain_op os) (p e)).0

  code_fits : (c : Code Label) (C : Context Label) (os : List (Op Label)) (a b : List (ValueType Label)) → All IsLimitedOp (onto c os) → (ct ≡ false → list_all is_plain_op (onto c os) ≡ true) → Typed C c a b → Fitted c os
  code_fits ops.Stop C os a b l p t = record { fits = tt; stands = tt; rest = l; plain = p }
  code_fits (ops.Then leaf more) C os a b l p t =
      let one = leaf_fits C leaf a t.0 (All-head IsLimitedOp (Plain leaf) (onto more os) l) t.1 (this_plain (Plain leaf) (onto more os) p) in
      let r = code_fits more C os t.0 b (next (Plain leaf) (onto more os) l) (next_plain (Plain leaf) (onto more os) p) t.2 in
      record { fits = (one.0, r.fits); stands = (one.1, r.stands); rest = r.rest; plain = r.plain }
  code_fits (ops.Block s body more) C os a b l p t =
      let behind = Closes ByEnd ∷ onto more os in
      let x = code_fits body (inside s C) behind _ _ (next (Opens OfBlock s) (onto body behind) l) (next_plain (Opens OfBlock s) (onto body behind) p) t.0 in
      let y = code_fits more C os _ b (next (Closes ByEnd) (onto more os) x.rest) (next_plain (Closes ByEnd) (onto more os) x.plain) t.1 in
      record { fits = (plain_type s (this_plain (Opens OfBlock s) (onto body behind) p), x.fits, y.fits); stands = (x.stands, y.stands); rest = y.rest; plain = y.plain }
  code_fits (ops.Loop s body more) C os a b l p t =
      let behind = Closes ByEnd ∷ onto more os in
      let x = code_fits body (inside None C) behind _ _ (next (Opens OfLoop s) (onto body behind) l) (next_plain (Opens OfLoop s) (onto body behind) p) t.0 in
      let y = code_fits more C os _ b (next (Closes ByEnd) (onto more os) x.rest) (next_plain (Closes ByEnd) (onto more os) x.plain) t.1 in
      record { fits = (plain_type s (this_plain (Opens OfLoop s) (onto body behind) p), x.fits, y.fits); stands = (x.stands, y.stands); rest = y.rest; plain = y.plain }
  code_fits (ops.If s arm more) C os a b l p t =
      let behind = Closes ByEnd ∷ onto more os in
      let x = code_fits arm (inside s C) behind _ _ (next (Opens OfIf s) (onto arm behind) l) (next_plain (Opens OfIf s) (onto arm behind) p) t.1 in
      let y = code_fits more C os _ b (next (Closes ByEnd) (onto more os) x.rest) (next_plain (Closes ByEnd) (onto more os) x.plain) t.4 in
      record { fits = (plain_type s (this_plain (Opens OfIf s) (onto arm behind) p), x.fits, y.fits); stands = (x.stands, y.stands); rest = y.rest; plain = y.plain }
  code_fits (ops.IfElse s arm other more) C os a b l p t =
      let behind = Closes ByEnd ∷ onto more os in
      let between = Closes ByElse ∷ onto other behind in
      let x = code_fits arm (inside s C) between _ _ (next (Opens OfIf s) (onto arm between) l) (next_plain (Opens OfIf s) (onto arm between) p) t.0 in
      let z = code_fits other (inside s C) behind _ _ (next (Closes ByElse) (onto other behind) x.rest) (next_plain (Closes ByElse) (onto other behind) x.plain) t.1 in
      let y = code_fits more C os _ b (next (Closes ByEnd) (onto more os) z.rest) (next_plain (Closes ByEnd) (onto more os) z.plain) t.4 in
      record { fits = (plain_type s (this_plain (Opens OfIf s) (onto arm between) p), x.fits, z.fits, y.fits); stands = (x.stands, z.stands, y.stands); rest = y.rest; plain = y.plain }

  -- Items

  extern_fits : (kind : Extern Label) → IsLimitedExtern kind → (ct ≡ false → IsPlainExtern kind) → ExternFits ct kind
  extern_fits (tree.ImportedFunction n) l p = u32 n l
  extern_fits (tree.ImportedTable t) l p = limits_fit t l
  extern_fits (tree.ImportedMemory m) l p = (label_fits ct m.tag p, limits_fit m.limits l)
  extern_fits (tree.ImportedGlobal g) l p = type_fits ct g.value p

  constant_fits : (c : Constant Label) → IsFitting c → IsLimitedConstant c → (ct ≡ false → IsPlainConstant c) → ConstantFits ct c
  constant_fits (tree.Number t bits) f l p = (own_fits ct (KOp (k.Const t.width t.tag)) (λ e. ap is_secret (p e)), width_fits t.width bits f)
  constant_fits (tree.ValueOf n) f l p = u32 n l

-- a place of a custom section
pub place_low : (m : Module Label) (place : ℕ) → IsPlace m place → place ≤ 11
place_low m place (inl e) = omega arith
place_low m place (inr h) = go (nat_lt 11 place) refl
  where
    go : (b : Bool) → nat_lt 11 place ≡ b → place ≤ 11
    go true e = absurd (let far : 11 < place = ltb-true 11 place e in let z : get_or (item_counts m) place 0 ≡ 0 = get_or_past (item_counts m) place 0 (omega arith) in omega arith)
    go false e = ltb-false 11 place e

module _ (m : Module Label) (v : IsValid m) (x : IsLimited m) where
  abbrev plain : m.ct ≡ false → IsPlainModule m
  plain = v.formed.plain

  function_fits : (f : Function Label) → IsLimitedFunction f → HasItsType m f → (m.ct ≡ false → IsPlainFunction f) → FunctionFits m.ct f × CodeStands f.body
  function_fits f l t p =
      let c = code_fits m.ct f.body _ (Closes ByEnd ∷ []) _ _ l.ops (λ e. (p e).1) t in
      ((u32 f.type l.type, types_fit m.ct f.locals (λ e. (p e).0), c.fits), c.stands)

  pub bodies_stand : AllOf (λ (f : Function Label). CodeStands f.body) m.functions
  bodies_stand =
      all_of (λ f. IsLimitedFunction f × HasItsType m f × (m.ct ≡ false → IsPlainFunction f)) (λ f. CodeStands f.body) (λ f h. (function_fits f h.0 h.1 h.2).1) m.functions
      (λ i d l. (x.functions i d l, v.bodies i d l, λ e. (plain e).functions i d l))

  -- Valid modules within limits may be printed.
  pub printable : Printable m
  printable = record {
    types = all_of (λ e. IsLimitedEntry e × (m.ct ≡ false → IsPlainEntry e)) (EntryFits m.ct) (λ e h. entry_fits m.ct e h.0 h.1) m.types (λ i d l. (x.types i d l, λ e. (plain e).types i d l));
    imports =
        all_of (λ i. IsLimitedImport i × (m.ct ≡ false → IsPlainExtern i.kind)) (ImportFits m.ct) (λ i h. (taken i.module_name h.0.0, taken i.name h.0.1, extern_fits m.ct i.kind h.0.2 h.1)) m.imports
        (λ i d l. (x.imports i d l, λ e. (plain e).imports i d l));
    functions =
        all_of (λ f. IsLimitedFunction f × HasItsType m f × (m.ct ≡ false → IsPlainFunction f)) (FunctionFits m.ct) (λ f h. (function_fits f h.0 h.1 h.2).0) m.functions
        (λ i d l. (x.functions i d l, v.bodies i d l, λ e. (plain e).functions i d l));
    table = maybe_of AreSizes LimitsFit limits_fit m.table x.table;
    memory = memory_fits m.memory x.memory (λ e. (plain e).memory);
    globals =
        all_of (λ g. IsFitting g.init × IsLimitedConstant g.init × (m.ct ≡ false → IsPlainGlobal g)) (GlobalFits m.ct)
        (λ g h. (type_fits m.ct g.type.value (λ e. (h.2 e).0), constant_fits m.ct g.init h.0 h.1 (λ e. (h.2 e).1))) m.globals
        (λ i d l. (v.formed.globals i d l, x.globals i d l, λ e. (plain e).globals i d l));
    exports = all_of IsLimitedExport ExportFits (λ e h. (taken e.name h.0, u32 e.index h.1)) m.exports x.exports;
    start = maybe_of Is32 IsU32 u32 m.start x.start;
    elements =
        all_of (λ e. IsFitting e.offset × IsLimitedElement e × (m.ct ≡ false → IsPlainConstant e.offset)) (ElementFits m.ct)
        (λ e h. (constant_fits m.ct e.offset h.0 h.1.0 h.2, all_u32 e.functions h.1.1)) m.elements
        (λ i d l. (v.formed.elements i d l, x.elements i d l, λ e. (plain e).elements i d l));
    segments =
        all_of (λ s. IsFitting s.offset × IsLimitedSegment s × (m.ct ≡ false → IsPlainConstant s.offset)) (SegmentFits m.ct) (λ s h. constant_fits m.ct s.offset h.0 h.1.0 h.2) m.segments
        (λ i d l. (v.formed.segments i d l, x.segments i d l, λ e. (plain e).segments i d l));
    customs = all_of (IsLimitedCustom m) CustomFits (λ c h. (le-leb c.place 11 (place_low m c.place h.place), taken c.name h.name)) m.customs x.customs;
  }
    where
      memory_fits : (o : Option (MemoryType Label)) → IfSome o (λ (type : MemoryType Label). AreSizes type.limits) → (m.ct ≡ false → IfSome o (λ (type : MemoryType Label). type.tag ≡ Public)) → MaybeOf (MemoryFits m.ct) o
      memory_fits None l p = tt
      memory_fits (Some t) l p = (label_fits m.ct t.tag p, limits_fit t.limits l)
