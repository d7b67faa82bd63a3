-- What is gathered from the pieces of printed instructions: their opcodes, without a fault among names.
use Rattle.std.proofs.Common.{◌≡◌, ℕ, ◌==◌, Bool, true, false, cond, List, [], ◌∷◌, ◌++◌, Option, Some, None, refl, ap, sym, ◌∙◌, subst}
use Rattle.std.specs.Prelude.{map, filter_map, flat_map, fold, unwrap_or}
use Rattle.std.proofs.lemmas.Bool.{false≢true, eqb-true}
use Rattle.ctw_ops.specs.declared.types.Label.{Label}
use Rattle.ctw_ops.specs.declared.types.Trust.TheVariants.{Untrusted}
use Rattle.ctw_ops.specs.ValueType.{ValueType}
use Rattle.ctw_ops.specs.Code as ops
use Rattle.ctw_ops.specs.Code.{Leaf, Code, Shape, OfBlock, OfLoop, OfIf, ByElse, ByEnd, onto}
use Rattle.ctw_text.specs.Keys.{Indexed}
use Rattle.ctw_text.specs.Pieces.{Index, Numbered, OfEntry, OfTarget, OfOp, FieldKind, Piece, Begin, NameIs, Refers, Entry, Single, Branches, Indirect, Opens, Else, End, AtOffset, Aligned, Yields}
use Rattle.ctw_text.specs.Fields.{Use, Raw, RSingle, RUses, RTargets, RIndirect, ROpens, RElse, REnd, Item, Op, Draft, Field, Gathered, empty, add, put, gathered, unfolded}
use Rattle.ctw_text.specs.Names.{Spelled, added, use_in, Scope, find, use_faults, op_of, ops_of, branches, leaf_of, raw_faults, body_faults, labels_behind}
use Rattle.ctw_text.specs.Print.{natural}
use Rattle.ctw_text.specs.Says.{Begins, begins, Entered, entered, SaysTargets, SaysOffset, SaysAlign, SaysLeaf, SaysYield, SaysCode}

-- Gathering, from the last piece on

-- what such pieces lead to
pub record Leads (R : List Piece → Type 0) (G : Gathered → Type 0) : Type 0 where
  pub to : {ps : List Piece} → R ps → G (gathered ps)

-- a draft that is made of something of which P holds
pub record Known {X : Type 0} (E : X → Draft) (P : X → Type 0) (d : Draft) : Type 0 where
  pub of : X
  pub holds : P of
  pub is : d ≡ E of

-- a draft of which D holds, before fields of which F holds
pub record Gathers (D : Draft → Type 0) (F : List Field → Type 0) (g : Gathered) : Type 0 where
  pub draft : D g.draft
  pub fields : F g.fields

abbrev pub is_begin : Piece → Bool
is_begin (Begin kind) = true
is_begin (NameIs w) = false
is_begin _ = false

put_adds : (p : Piece) (g : Gathered) → is_begin p ≡ false → put p g ≡ record { draft = add p g.draft; fields = g.fields }
put_adds (Begin kind) g e = absurd (false≢true (sym e))
put_adds (NameIs w) g e = refl
put_adds _ g e = refl

-- one more piece
pub said : {X : Type 0} {E : X → Draft} {P : X → Type 0} {F : List Field → Type 0} {R : List Piece → Type 0} (p : Piece) → is_begin p ≡ false → Leads R (Gathers (Known E P) F) →
    Leads (Begins (p ∷ []) R) (Gathers (Known (λ x. add p (E x)) P) F)
said {X} {E} {P} {F} {R} p e h = record { to = λ b. go b }
  where
    step : (g : Gathered) → Gathers (Known E P) F g → Gathers (Known (λ x. add p (E x)) P) F (put p g)
    step g k = subst (λ (g : Gathered). Gathers (Known (λ x. add p (E x)) P) F g) (sym (put_adds p g e))
        (record { draft = record { of = k.draft.of; holds = k.draft.holds; is = ap (add p) k.draft.is }; fields = k.fields })

    go : {ps : List Piece} → Begins (p ∷ []) R ps → Gathers (Known (λ x. add p (E x)) P) F (gathered ps)
    go (begins {ps} r) = step (gathered ps) (h.to r)

-- a `(type n)` somewhere
pub entered_said : {X : Type 0} {E : X → Draft} {P : X → Type 0} {F : List Field → Type 0} {R : List Piece → Type 0} (n : ℕ) → Leads R (Gathers (Known E P) F) →
    Leads (Entered n R) (Gathers (Known {X = ℕ × X} (λ y. add (Entry y.0) (add (Refers OfEntry (Numbered n)) (E y.1))) (λ y. P y.1)) F)
entered_said {X} {E} {P} {F} {R} n h = record { to = λ b. go b }
  where
    go : {ps : List Piece} → Entered n R ps → Gathers (Known {X = ℕ × X} (λ y. add (Entry y.0) (add (Refers OfEntry (Numbered n)) (E y.1))) (λ y. P y.1)) F (gathered ps)
    go (entered at r) =
        let k = h.to r in
        record { draft = record { of = (at, k.draft.of); holds = k.draft.holds; is = ap (λ d. add (Entry at) (add (Refers OfEntry (Numbered n)) d)) k.draft.is }; fields = k.fields }

-- the same draft, made of something else
pub turned : {X Y : Type 0} {E : X → Draft} {P : X → Type 0} {F : List Field → Type 0} {R : List Piece → Type 0} (E' : Y → Draft) (Q : Y → Type 0) (f : X → Y) → ((x : X) → P x → Q (f x)) → ((x : X) → E x ≡ E' (f x)) →
    Leads R (Gathers (Known E P) F) → Leads R (Gathers (Known E' Q) F)
turned E' Q f holds same h = record { to = λ r. let k = h.to r in record { draft = record { of = f k.draft.of; holds = holds k.draft.of k.draft.holds; is = k.draft.is ∙ same k.draft.of }; fields = k.fields } }

abbrev pub Anything : Unit {0} → Type 0
Anything u = Unit {0}

-- before a field nothing is known
abbrev pub Fresh : (List Field → Type 0) → Gathered → Type 0
Fresh F = Gathers (Known {X = Unit {0}} (λ u. empty) Anything) F

-- a field begins
pub begun : {X : Type 0} {E : X → Draft} {P : X → Type 0} {F : List Field → Type 0} {R : List Piece → Type 0} (kind : FieldKind) (F' : List Field → Type 0) →
    ((x : X) (fs : List Field) → P x → F fs → F' (record { kind = kind; draft = E x } ∷ fs)) → Leads R (Gathers (Known E P) F) → Leads (Begins (Begin kind ∷ []) R) (Fresh F')
begun {X} {E} {P} {F} {R} kind F' one h = record { to = λ b. go b }
  where
    go : {ps : List Piece} → Begins (Begin kind ∷ []) R ps → Fresh F' (gathered ps)
    go (begins {ps} r) =
        let k = h.to r in
        record {
          draft = record { of = tt; holds = tt; is = refl };
          fields = subst (λ (d : Draft). F' (record { kind = kind; draft = d } ∷ (gathered ps).fields)) (sym k.draft.is) (one k.draft.of (gathered ps).fields k.draft.holds k.fields);
        }

-- Instructions

-- Items are these opcodes, wherever they stand: no name is faulty, and each typeuse names its entry.
pub record Reads (os : List (ops.Op Label)) (items : List Item) : Type 0 where
  pub raws : List Raw
  pub plain : unfolded [] items ≡ raws
  pub means : (s : Scope) (labels : List (Option _)) → ops_of s labels raws ≡ os
  pub faultless : (s : Scope) (labels : List (Option _)) → body_faults s labels raws ≡ []
  pub uses : (es : List Spelled) → fold added es (filter_map use_in items) ≡ es

-- what an instruction is, wherever it stands
pub record IsOne (raw : Raw) (op : ops.Op Label) : Type 0 where
  pub means : (s : Scope) (labels : List (Option _)) → op_of s labels raw ≡ op
  pub faultless : (s : Scope) (labels : List (Option _)) → raw_faults s labels raw ≡ []
  pub uses : (items : List Item) (es : List Spelled) → fold added es (filter_map use_in (Op raw ∷ items)) ≡ fold added es (filter_map use_in items)

pub one_more : {os : List (ops.Op Label)} {raw : Raw} {op : ops.Op Label} → IsOne raw op → (items : List Item) → Reads os items → Reads (op ∷ os) (Op raw ∷ items)
one_more {os} {raw} {op} o items r = record {
  raws = raw ∷ r.raws;
  plain = ap (λ (rs : List Raw). raw ∷ rs) r.plain;
  means = λ s labels i. o.means s labels i ∷ r.means s (labels_behind raw labels) i;
  faultless = λ s labels i. o.faultless s labels i ++ r.faultless s (labels_behind raw labels) i;
  uses = λ es. o.uses items es ∙ r.uses es;
}

single_one : (leaf : Leaf Label) → IsOne (RSingle leaf) (ops.Plain leaf)
single_one leaf = record { means = λ s labels. refl; faultless = λ s labels. refl; uses = λ items es. refl }

uses_one : (op : Indexed) (n : ℕ) → IsOne (RUses op (Numbered n)) (ops.Plain (leaf_of op n))
uses_one op n = record { means = λ s labels. refl; faultless = λ s labels. refl; uses = λ items es. refl }

opens_one : (shape : Shape) (t : Option (ValueType Label)) → IsOne (ROpens shape None t) (ops.Opens shape t)
opens_one shape t = record { means = λ s labels. refl; faultless = λ s labels. refl; uses = λ items es. refl }

else_one : IsOne (RElse None) (ops.Closes ByElse)
else_one = record { means = λ s labels. refl; faultless = λ s labels. refl; uses = λ items es. refl }

end_one : IsOne (REnd None) (ops.Closes ByEnd)
end_one = record { means = λ s labels. refl; faultless = λ s labels. refl; uses = λ items es. refl }

-- the typeuse `(type n)`, with its place
abbrev pub used : (at n : ℕ) → Use
used at n = record { entry = Some (record { place = at; index = Numbered n }); trust = Untrusted; params = []; results = [] }

indirect_one : (at n : ℕ) → IsOne (RIndirect (used at n)) (ops.Plain (ops.CallIndirect n))
indirect_one at n = record { means = λ s labels. refl; faultless = λ s labels. refl; uses = λ items es. refl }

-- the targets of a br_table, the last one too
abbrev pub numbered : List ℕ → ℕ → List Index
numbered [] n = Numbered n ∷ []
numbered (m ∷ ms) n = Numbered m ∷ numbered ms n

with_target : ℕ → Leaf Label → Leaf Label
with_target m (ops.BrTable ms n) = ops.BrTable (m ∷ ms) n
with_target m ops.Unreachable = ops.Unreachable
with_target m leaf = leaf

numbered_branches : (names : List (Option _)) (ms : List ℕ) (n : ℕ) → branches (map (find names) (numbered ms n)) ≡ ops.BrTable ms n
unfolding with_target
numbered_branches names [] n = refl
numbered_branches names (m ∷ []) n = refl
numbered_branches names (m ∷ k ∷ ms) n = ap (with_target m) (numbered_branches names (k ∷ ms) n)

numbered_faultless : (names : List (Option _)) (ms : List ℕ) (n : ℕ) → flat_map (use_faults names) (numbered ms n) ≡ []
numbered_faultless names [] n = refl
numbered_faultless names (m ∷ ms) n = numbered_faultless names ms n

targets_one : (ms : List ℕ) (n : ℕ) → IsOne (RTargets (numbered ms n)) (ops.Plain (ops.BrTable ms n))
targets_one ms n = record { means = λ s labels. ap (λ (leaf : Leaf Label). ops.Plain leaf) (numbered_branches labels ms n); faultless = λ s labels. numbered_faultless labels ms n; uses = λ items es. refl }

-- Drafts of instructions

abbrev pub body : List Item → Draft
body items = record empty { code = items }

-- instructions with these opcodes, and then pieces of which R holds
abbrev pub Codes : List (ops.Op Label) → (List Field → Type 0) → Gathered → Type 0
Codes os F = Gathers (Known body (Reads os)) F

module _ {os : List (ops.Op Label)} {F : List Field → Type 0} {R : List Piece → Type 0} (h : Leads R (Codes os F)) where
  -- one instruction, of one piece
  pub instruction : (p : Piece) (raw : Raw) {op : ops.Op Label} → is_begin p ≡ false → IsOne raw op → ((items : List Item) → add p (body items) ≡ body (Op raw ∷ items)) → Leads (Begins (p ∷ []) R) (Codes (op ∷ os) F)
  instruction p raw e o same = turned body (Reads _) (λ items. Op raw ∷ items) (λ items r. one_more o items r) same (said p e h)

  uses_said : (op : Indexed) (n : ℕ) → Leads (Begins (Refers (OfOp op) (Numbered n) ∷ []) R) (Codes (ops.Plain (leaf_of op n) ∷ os) F)
  uses_said op n = instruction (Refers (OfOp op) (Numbered n)) (RUses op (Numbered n)) refl (uses_one op n) (λ items. refl)

  indirect_said : (n : ℕ) → Leads (Begins (Indirect ∷ []) (Entered n R)) (Codes (ops.Plain (ops.CallIndirect n) ∷ os) F)
  indirect_said n = turned body (Reads _) (λ y. Op (RIndirect (used y.0 n)) ∷ y.1) (λ y r. one_more (indirect_one y.0 n) y.1 r) (λ y. refl) (said Indirect refl (entered_said n h))

  abbrev targeted : List Index → List Item → Draft
  targeted xs items = record empty { code = items; targets = xs }

  targets_said : (ms : List ℕ) (n : ℕ) → Leads (SaysTargets ms (Begins (Refers OfTarget (Numbered n) ∷ []) R)) (Gathers (Known (targeted (numbered ms n)) (Reads os)) F)
  targets_said [] n = said (Refers OfTarget (Numbered n)) refl h
  targets_said (m ∷ ms) n = said (Refers OfTarget (Numbered m)) refl (targets_said ms n)

  table_said : (ms : List ℕ) (n : ℕ) → Leads (Begins (Branches ∷ []) (SaysTargets ms (Begins (Refers OfTarget (Numbered n) ∷ []) R))) (Codes (ops.Plain (ops.BrTable ms n) ∷ os) F)
  table_said ms n = turned body (Reads _) (λ items. Op (RTargets (numbered ms n)) ∷ items) (λ items r. one_more (targets_one ms n) items r) (λ items. refl) (said Branches refl (targets_said ms n))

  -- an access: its offset and align, and then its leaf
  abbrev placed_at : ℕ → Option ℕ → List Item → Draft
  placed_at offset align items = record empty { code = items; offset = offset; align = align }

  abbrev written : Bool → ℕ → Option ℕ
  written same e = cond same None (Some e)

  align_said : (n e : ℕ) → Leads (SaysAlign n e R) (Gathers (Known (placed_at 0 (written (e == n) e)) (Reads os)) F)
  align_said n e = go (e == n)
    where
      go : (b : Bool) → Leads (cond b R (Begins (Aligned e ∷ []) R)) (Gathers (Known (placed_at 0 (written b e)) (Reads os)) F)
      go true = h
      go false = said (Aligned e) refl h

  place_said : (offset n e : ℕ) → Leads (SaysOffset offset (SaysAlign n e R)) (Gathers (Known (placed_at offset (written (e == n) e)) (Reads os)) F)
  place_said offset n e = go (offset == 0) refl
    where
      none : offset ≡ 0 → Leads (SaysAlign n e R) (Gathers (Known (placed_at offset (written (e == n) e)) (Reads os)) F)
      none z = subst (λ (o : ℕ). Leads (SaysAlign n e R) (Gathers (Known (placed_at o (written (e == n) e)) (Reads os)) F)) (sym z) (align_said n e)

      go : (b : Bool) → (offset == 0) ≡ b → Leads (cond b (SaysAlign n e R) (Begins (AtOffset offset ∷ []) (SaysAlign n e R))) (Gathers (Known (placed_at offset (written (e == n) e)) (Reads os)) F)
      go true q = none (eqb-true offset 0 q)
      go false q = said (AtOffset offset) refl (align_said n e)

  -- a leaf that is written with a natural align and no offset
  access_said : (bare leaf : Leaf Label) (offset n e : ℕ) → ((items : List Item) → add (Single bare) (placed_at offset (written (e == n) e) items) ≡ body (Op (RSingle leaf) ∷ items)) →
      Leads (Begins (Single bare ∷ []) (SaysOffset offset (SaysAlign n e R))) (Codes (ops.Plain leaf ∷ os) F)
  access_said bare leaf offset n e same = turned body (Reads _) (λ items. Op (RSingle leaf) ∷ items) (λ items r. one_more (single_one leaf) items r) same (said (Single bare) refl (place_said offset n e))

  abbrev yielding : Option (ValueType Label) → List Item → Draft
  yielding t items = record empty { code = items; yields = t }

  yield_said : (t : Option (ValueType Label)) → Leads (SaysYield t R) (Gathers (Known (yielding t) (Reads os)) F)
  yield_said None = h
  yield_said (Some t) = said (Yields t) refl h

  opens_said : (shape : Shape) (t : Option (ValueType Label)) → Leads (Begins (Opens shape ∷ []) (SaysYield t R)) (Codes (ops.Opens shape t ∷ os) F)
  opens_said shape t = turned body (Reads _) (λ items. Op (ROpens shape None t) ∷ items) (λ items r. one_more (opens_one shape t) items r) (λ items. refl) (said (Opens shape) refl (yield_said t))

  else_said : Leads (Begins (Else ∷ []) R) (Codes (ops.Closes ByElse ∷ os) F)
  else_said = instruction Else (RElse None) refl else_one (λ items. refl)

  end_said : Leads (Begins (End ∷ []) R) (Codes (ops.Closes ByEnd ∷ os) F)
  end_said = instruction End (REnd None) refl end_one (λ items. refl)

-- the align that is written, or else the natural one, is the align
aligned : (n e : ℕ) → unwrap_or (cond (e == n) None (Some e)) n ≡ e
aligned n e = go (e == n) refl
  where
    go : (b : Bool) → (e == n) ≡ b → unwrap_or (cond b None (Some e)) n ≡ e
    go true q = sym (eqb-true e n q)
    go false q = refl

pub leaf_said : (leaf : Leaf Label) {os : List (ops.Op Label)} {F : List Field → Type 0} {R : List Piece → Type 0} → Leads R (Codes os F) → Leads (SaysLeaf leaf R) (Codes (ops.Plain leaf ∷ os) F)
leaf_said (ops.Br n) h = uses_said h _ n
leaf_said (ops.BrIf n) h = uses_said h _ n
leaf_said (ops.BrTable ms n) h = table_said h ms n
leaf_said (ops.Call n) h = uses_said h _ n
leaf_said (ops.CallIndirect n) h = indirect_said h n
leaf_said (ops.LocalGet n) h = uses_said h _ n
leaf_said (ops.LocalSet n) h = uses_said h _ n
leaf_said (ops.LocalTee n) h = uses_said h _ n
leaf_said (ops.GlobalGet n) h = uses_said h _ n
leaf_said (ops.GlobalSet n) h = uses_said h _ n
leaf_said (ops.Load w l bytes signed align offset) h =
    access_said h _ _ offset (natural bytes) align (λ items. ap (λ a. body (Op (RSingle (ops.Load w l bytes signed a offset)) ∷ items)) (aligned (natural bytes) align))
leaf_said (ops.Store w l bytes align offset) h =
    access_said h _ _ offset (natural bytes) align (λ items. ap (λ a. body (Op (RSingle (ops.Store w l bytes a offset)) ∷ items)) (aligned (natural bytes) align))
leaf_said leaf h = instruction h (Single leaf) (RSingle leaf) refl (single_one leaf) (λ items. refl)

-- printed instructions
pub code_said : (c : Code Label) {os : List (ops.Op Label)} {F : List Field → Type 0} {R : List Piece → Type 0} → Leads R (Codes os F) → Leads (SaysCode c R) (Codes (onto c os) F)
code_said ops.Stop h = h
code_said (ops.Then leaf more) h = leaf_said leaf (code_said more h)
code_said (ops.Block t c more) h = opens_said (code_said c (end_said (code_said more h))) OfBlock t
code_said (ops.Loop t c more) h = opens_said (code_said c (end_said (code_said more h))) OfLoop t
code_said (ops.If t c more) h = opens_said (code_said c (end_said (code_said more h))) OfIf t
code_said (ops.IfElse t c d more) h = opens_said (code_said c (else_said (code_said d (end_said (code_said more h))))) OfIf t
