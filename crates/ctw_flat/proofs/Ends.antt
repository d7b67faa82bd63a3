-- A sequence leaves the closings behind it as they are.
use Rattle.std.proofs.Common.{◌≡◌, ℕ, List, [], ◌∷◌, ◌++◌, append_assoc, Option, Some, refl, sym, ap, ◌∙◌}
use Rattle.ctw_ops.specs.ValueType.{ValueType}
use Rattle.ctw_ops.specs.declared.types.Label.{Label}
use Rattle.ctw_ops.specs.Code.{Code, Stop, Then, Block as a_block, Loop, If, IfElse, Shape, OfBlock, OfLoop, OfIf, Op, Plain, Opens, Closes, ByEnd, ByElse, onto}
use Rattle.ctw_flat.specs.Places.{Placed, ops_of}
use Rattle.ctw_flat.specs.Blocks.{close, closings_of}

abbrev pub placed : ℕ → Op Label → Placed
placed at op = record { at = at; op = op }

-- the end of a list
abbrev pub Part : List Placed → List Placed → Type 0
Part ps rest = (before : List Placed) × (ps ≡ before ++ rest)

pub part_trans : (a b c : List Placed) → Part a b → Part b c → Part a c
part_trans a b c p q = (p.0 ++ q.0, p.1 ∙ ap (λ (l : List Placed). p.0 ++ l) q.1 ∙ sym (append_assoc p.0 q.0 c))

-- what stands behind a sequence
pub record Behind (k : List (Op Label)) (ps : List Placed) : Type 0 where
  pub rest : List Placed
  pub ops : ops_of rest ≡ k
  pub same : closings_of rest ≡ closings_of ps
  pub part : Part ps rest

-- one opcode, and what stands behind it
pub record One (op : Op Label) (k : List (Op Label)) (ps : List Placed) : Type 0 where
  pub at : ℕ
  pub rest : List Placed
  pub is : ps ≡ placed at op ∷ rest
  pub ops : ops_of rest ≡ k

pub one : (op : Op Label) (k : List (Op Label)) (ps : List Placed) → ops_of ps ≡ op ∷ k → One op k ps
one op k [] e = absurd cc
one op k (p ∷ ps) e =
    let same_op : p.op ≡ op = cc in
    record { at = p.at; rest = ps; is = ap (λ (o : Op Label). placed p.at o ∷ ps) same_op; ops = cc }

closings_one : (op : Op Label) (k : List (Op Label)) (ps : List Placed) (o : One op k ps) → closings_of ps ≡ close op o.at (closings_of o.rest)
closings_one op k ps o = ap closings_of o.is

one_part : (op : Op Label) (k : List (Op Label)) (ps : List Placed) (o : One op k ps) → Part ps o.rest
one_part op k ps o = (placed o.at op ∷ [], o.is)

-- a sequence, and the opcode that closes it
pub record Closed (op : Op Label) (k : List (Op Label)) (ps : List Placed) : Type 0 where
  pub at : ℕ
  pub rest : List Placed
  pub ops : ops_of rest ≡ k
  pub same : close op at (closings_of rest) ≡ closings_of ps
  pub part : Part ps (placed at op ∷ rest)

pub closed : (op : Op Label) (k : List (Op Label)) (ps : List Placed) → Behind (op ∷ k) ps → Closed op k ps
closed op k ps b =
    let o = one op k b.rest b.ops in
    record { at = o.at; rest = o.rest; ops = o.ops; same = sym (closings_one op k b.rest o) ∙ b.same; part = (b.part.0, b.part.1 ∙ ap (λ (l : List Placed). b.part.0 ++ l) o.is) }

pub behind_closed : (op : Op Label) (k : List (Op Label)) (ps : List Placed) (c : Closed op k ps) → Part ps c.rest
behind_closed op k ps c = part_trans ps (placed c.at op ∷ c.rest) c.rest c.part (placed c.at op ∷ [], refl)

-- the induction's step at a block with one sequence
block : (shape : Shape) (t : Option (ValueType Label)) (c r : Code Label) (k : List (Op Label)) (ps : List Placed) → ops_of ps ≡ Opens shape t ∷ onto c (Closes ByEnd ∷ onto r k)
    → ((l : List Placed) → ops_of l ≡ onto c (Closes ByEnd ∷ onto r k) → Behind (Closes ByEnd ∷ onto r k) l)
    → ((l : List Placed) → ops_of l ≡ onto r k → Behind k l)
    → Behind k ps
block shape t c r k ps e inner outer =
    let o = one (Opens shape t) (onto c (Closes ByEnd ∷ onto r k)) ps e in
    let end = closed (Closes ByEnd) (onto r k) o.rest (inner o.rest o.ops) in
    let b = outer end.rest end.ops in
    let there : closings_of ps ≡ closings_of end.rest = closings_one (Opens shape t) (onto c (Closes ByEnd ∷ onto r k)) ps o ∙ ap (close (Opens shape t) o.at) (sym end.same) in
    record {
      rest = b.rest;
      ops = b.ops;
      same = b.same ∙ sym there;
      part = part_trans ps o.rest b.rest (one_part (Opens shape t) (onto c (Closes ByEnd ∷ onto r k)) ps o) (part_trans o.rest end.rest b.rest (behind_closed (Closes ByEnd) (onto r k) o.rest end) b.part);
    }

pub behind : (c : Code Label) (k : List (Op Label)) (ps : List Placed) → ops_of ps ≡ onto c k → Behind k ps
behind Stop k ps e = record { rest = ps; ops = e; same = refl; part = ([], refl) }
behind (Then l r) k ps e =
    let o = one (Plain l) (onto r k) ps e in
    let b = behind r k o.rest o.ops in
    record { rest = b.rest; ops = b.ops; same = b.same ∙ sym (closings_one (Plain l) (onto r k) ps o); part = part_trans ps o.rest b.rest (one_part (Plain l) (onto r k) ps o) b.part }
behind (a_block t c r) k ps e = block OfBlock t c r k ps e (λ l q. behind c (Closes ByEnd ∷ onto r k) l q) (λ l q. behind r k l q)
behind (Loop t c r) k ps e = block OfLoop t c r k ps e (λ l q. behind c (Closes ByEnd ∷ onto r k) l q) (λ l q. behind r k l q)
behind (If t c r) k ps e = block OfIf t c r k ps e (λ l q. behind c (Closes ByEnd ∷ onto r k) l q) (λ l q. behind r k l q)
behind (IfElse t c d r) k ps e =
    let o = one (Opens OfIf t) (onto c (Closes ByElse ∷ onto d (Closes ByEnd ∷ onto r k))) ps e in
    let parting = closed (Closes ByElse) (onto d (Closes ByEnd ∷ onto r k)) o.rest (behind c (Closes ByElse ∷ onto d (Closes ByEnd ∷ onto r k)) o.rest o.ops) in
    let end = closed (Closes ByEnd) (onto r k) parting.rest (behind d (Closes ByEnd ∷ onto r k) parting.rest parting.ops) in
    let b = behind r k end.rest end.ops in
    let inner : record { end = end.at; other = Some parting.at } ∷ closings_of end.rest ≡ closings_of o.rest = ap (close (Closes ByElse) parting.at) end.same ∙ parting.same in
    let there : closings_of ps ≡ closings_of end.rest = closings_one (Opens OfIf t) (onto c (Closes ByElse ∷ onto d (Closes ByEnd ∷ onto r k))) ps o ∙ ap (close (Opens OfIf t) o.at) (sym inner) in
    let p₁ = part_trans o.rest parting.rest end.rest (behind_closed (Closes ByElse) (onto d (Closes ByEnd ∷ onto r k)) o.rest parting) (behind_closed (Closes ByEnd) (onto r k) parting.rest end) in
    record {
      rest = b.rest;
      ops = b.ops;
      same = b.same ∙ sym there;
      part = part_trans ps o.rest b.rest (one_part (Opens OfIf t) (onto c (Closes ByElse ∷ onto d (Closes ByEnd ∷ onto r k))) ps o) (part_trans o.rest end.rest b.rest p₁ b.part);
    }

-- a sequence with what closes it
pub closes : (c : Code Label) (op : Op Label) (k : List (Op Label)) (ps : List Placed) → ops_of ps ≡ onto c (op ∷ k) → Closed op k ps
closes c op k ps e = closed op k ps (behind c (op ∷ k) ps e)
