-- What a machine, a validator or a printer meets at a place, and what is told of the ends of blocks.
use Rattle.std.proofs.Common.{◌≡◌, ℕ, ◌≤◌, eqb, inl, inr, List, [], ◌∷◌, ◌++◌, length, Option, Some, None, Ok, refl, sym, ap, subst, ◌∙◌, append_assoc, arith, rules}
use Rattle.std.specs.Prelude.{IsSome}
use Rattle.std.proofs.lemmas.Bool.{eq-eqb, ne_eqb, eqb-true}
use Rattle.ctw_leb.proofs.Exact.{chosen}
use Rattle.ctw_ops.specs.ValueType.{ValueType}
use Rattle.ctw_ops.specs.declared.types.Label.{Label}
use Rattle.ctw_ops.specs.Code.{Leaf, Code, Stop, Then, Block as a_block, Loop, If, IfElse, Shape, OfBlock, OfLoop, OfIf, Closer, ByEnd, ByElse, Op, Plain, Opens, Closes, onto, opcodes}
use Rattle.ctw_ops.specs.Segments.{Segment, segment, spread, segments, in_front, and_then}
use Rattle.ctw_ops.proofs.Segments.{segments_spread, spread_segments, one_spread}
use Rattle.ctw_flat.specs.declared.blocks.Block.{Block}
use Rattle.ctw_flat.specs.declared.blocks.Closing.{Closing}
use Rattle.ctw_flat.specs.Spelled.{IsBody}
use Rattle.ctw_flat.specs.Places.{Placed, Stand, instr_in, ops_of}
use Rattle.ctw_flat.specs.Blocks.{close, closings_of, with_opened, blocks_of, ends_in}
use Rattle.ctw_flat.specs.Positions.{At, OpensAt, EndsAlone, EndsWithElse, TellsEnds}
use Rattle.ctw_flat.proofs.Places.{stands, spelled, instr_behind, below, one_standing, one_ops}
use Rattle.ctw_flat.proofs.Ends.{placed, Part, closes}

-- from an opcode on that stands in the body
pub stand_from : (code : List ℕ) (at : ℕ) (front : List Placed) (q : Placed) (rest : List Placed) → at ≤ length code → Stand code at (front ++ q ∷ rest) → Stand code q.at (q ∷ rest) × (q.at ≤ length code)
stand_from code at [] q rest le s = (subst (λ (n : ℕ). Stand code n (q ∷ rest)) (sym s.1) s, omega (arith, s.1))
stand_from code at (p ∷ front) q rest le s = stand_from code s.0 front q rest (instr_behind code at p.op s.0 le s.2).1 s.3

-- a place of an opcode with what is left there
pub at_in : (code : List ℕ) (front : List Placed) (q : Placed) (rest : List Placed) (left : List (Segment Label)) → Stand code 0 (front ++ q ∷ rest) → q.op ∷ ops_of rest ≡ spread left → At code q.at left
at_in code front q rest left s e =
    let h = stand_from code 0 front q rest (omega arith) s in
    record { front = front; rest = q ∷ rest; all = s; here = h.0; inside = h.1; opcodes = e }

-- the first opcode of what is left stands at the place, and the others behind it
pub record Met (code : List ℕ) (place : ℕ) (op : Op Label) (left : List (Segment Label)) : Type 0 where
  pub next : ℕ
  pub reads : instr_in code place ≡ Ok (op, next)
  pub after : At code next left

pub meets : (code : List ℕ) (place : ℕ) (op : Op Label) (ss uu : List (Segment Label)) → spread ss ≡ op ∷ spread uu → At code place ss → Met code place op uu
meets code place op ss uu e a = go a.rest a.all a.here (a.opcodes ∙ e)
  where
    go : (ps : List Placed) → Stand code 0 (a.front ++ ps) → Stand code place ps → ops_of ps ≡ op ∷ spread uu → Met code place op uu
    go [] all here left = absurd cc
    go (p ∷ ps) all here left =
        let same_op : p.op ≡ op = cc in
        let reads : instr_in code place ≡ Ok (op, here.0) = here.2 ∙ ap (λ (o : Op Label). Ok (o, here.0)) same_op in
        record {
          next = here.0;
          reads = reads;
          after = record {
            front = a.front ++ p ∷ [];
            rest = ps;
            all = subst (λ (l : List Placed). Stand code 0 l) (sym (append_assoc a.front (p ∷ []) ps)) all;
            here = here.3;
            inside = (instr_behind code place op here.0 a.inside reads).1;
            opcodes = cc;
          };
        }

-- at the start the whole body is left
pub at_start : (code : List ℕ) (c : Code Label) → IsBody code c → At code 0 (segment c ByEnd ∷ [])
at_start code c m =
    let s = stands code 0 (opcodes c) (omega arith) m in
    record { front = []; rest = s.0; all = s.1; here = s.1; inside = omega arith; opcodes = s.2 }

pub at_leaf : (code : List ℕ) (place : ℕ) (l : Leaf Label) (r : Code Label) (k : Closer) (ss : List (Segment Label)) → At code place (segment (Then l r) k ∷ ss) → Met code place (Plain l) (segment r k ∷ ss)
at_leaf code place l r k ss a = meets code place (Plain l) (segment (Then l r) k ∷ ss) (segment r k ∷ ss) refl a

pub at_block : (code : List ℕ) (place : ℕ) (t : Option (ValueType Label)) (c r : Code Label) (k : Closer) (ss : List (Segment Label)) → At code place (segment (a_block t c r) k ∷ ss)
    → Met code place (Opens OfBlock t) (segment c ByEnd ∷ segment r k ∷ ss)
at_block code place t c r k ss a = meets code place (Opens OfBlock t) (segment (a_block t c r) k ∷ ss) (segment c ByEnd ∷ segment r k ∷ ss) refl a

pub at_loop : (code : List ℕ) (place : ℕ) (t : Option (ValueType Label)) (c r : Code Label) (k : Closer) (ss : List (Segment Label)) → At code place (segment (Loop t c r) k ∷ ss)
    → Met code place (Opens OfLoop t) (segment c ByEnd ∷ segment r k ∷ ss)
at_loop code place t c r k ss a = meets code place (Opens OfLoop t) (segment (Loop t c r) k ∷ ss) (segment c ByEnd ∷ segment r k ∷ ss) refl a

pub at_if : (code : List ℕ) (place : ℕ) (t : Option (ValueType Label)) (c r : Code Label) (k : Closer) (ss : List (Segment Label)) → At code place (segment (If t c r) k ∷ ss)
    → Met code place (Opens OfIf t) (segment c ByEnd ∷ segment r k ∷ ss)
at_if code place t c r k ss a = meets code place (Opens OfIf t) (segment (If t c r) k ∷ ss) (segment c ByEnd ∷ segment r k ∷ ss) refl a

pub at_if_else : (code : List ℕ) (place : ℕ) (t : Option (ValueType Label)) (c d r : Code Label) (k : Closer) (ss : List (Segment Label)) → At code place (segment (IfElse t c d r) k ∷ ss)
    → Met code place (Opens OfIf t) (segment c ByElse ∷ segment d ByEnd ∷ segment r k ∷ ss)
at_if_else code place t c d r k ss a = meets code place (Opens OfIf t) (segment (IfElse t c d r) k ∷ ss) (segment c ByElse ∷ segment d ByEnd ∷ segment r k ∷ ss) refl a

pub at_closer : (code : List ℕ) (place : ℕ) (k : Closer) (ss : List (Segment Label)) → At code place (segment Stop k ∷ ss) → Met code place (Closes k) ss
at_closer code place k ss a = meets code place (Closes k) (segment Stop k ∷ ss) ss refl a

-- what is left at a place is determined by the bytes
pub one_left : (code : List ℕ) (place : ℕ) (ss uu : List (Segment Label)) → At code place ss → At code place uu → ss ≡ uu
one_left code place ss uu a b =
    let same = one_standing code place a.rest b.rest a.inside a.here b.here in
    one_spread ss uu (sym a.opcodes ∙ ap ops_of same ∙ b.opcodes)

-- ---- each opcode of a body has something left

and_then_some : {A B : Type 0} (o : Option A) (f : A → Option B) (b : B) → and_then o f ≡ Some b → (a : A) × (o ≡ Some a)
and_then_some None f b e = absurd cc
and_then_some (Some a) f b e = (a, refl)

some_is_left : (xs ys : List (Op Label)) (ss : List (Segment Label)) → segments (xs ++ ys) ≡ Some ss → (uu : List (Segment Label)) × (segments ys ≡ Some uu)
some_is_left [] ys ss e = (ss, e)
some_is_left (x ∷ xs) ys ss e =
    let h = and_then_some (segments (xs ++ ys)) (in_front x) ss e in
    some_is_left xs ys h.0 h.1

ops_append : (front rest : List Placed) → ops_of (front ++ rest) ≡ ops_of front ++ ops_of rest
ops_append [] rest = refl
ops_append (p ∷ front) rest = ap (λ (l : List (Op Label)). p.op ∷ l) (ops_append front rest)

-- from any opcode of a body on, segments are left
pub at_any : (code : List ℕ) (c : Code Label) (front : List Placed) (q : Placed) (rest : List Placed) → IsBody code c → Stand code 0 (front ++ q ∷ rest) → (left : List (Segment Label)) × At code q.at left
at_any code c front q rest m s =
    let same : ops_of (front ++ q ∷ rest) ≡ opcodes c = one_ops code (ops_of (front ++ q ∷ rest)) (opcodes c) (spelled code 0 (front ++ q ∷ rest) (omega arith) s) m in
    let split : ops_of front ++ ops_of (q ∷ rest) ≡ opcodes c = sym (ops_append front (q ∷ rest)) ∙ same in
    let whole : segments (ops_of front ++ ops_of (q ∷ rest)) ≡ Some (segment c ByEnd ∷ []) = ap segments split ∙ segments_spread (segment c ByEnd ∷ []) in
    let u = some_is_left (ops_of front) (ops_of (q ∷ rest)) (segment c ByEnd ∷ []) whole in
    (u.0, at_in code front q rest u.0 s (sym (spread_segments (ops_of (q ∷ rest)) u.0 u.1)))

-- ---- the list of blocks

skipped : (op : Op Label) (at place : ℕ) (cs : List Closing) (bs : List Block) → (at ≡ place → ⊥) → ends_in (with_opened op at cs bs) place ≡ ends_in bs place
skipped (Plain l) at place cs bs ne = refl
skipped (Closes k) at place cs bs ne = refl
skipped (Opens s t) at place [] bs ne = refl
skipped (Opens s t) at place (c ∷ cs) bs ne = rw (ne_eqb at place ne) refl

-- what stands in front of a place tells nothing of it
ends_behind : (code : List ℕ) (at : ℕ) (front : List Placed) (p : Placed) (qs : List Placed) → at ≤ length code → Stand code at (front ++ p ∷ qs)
    → ends_in (blocks_of (front ++ p ∷ qs)) p.at ≡ ends_in (blocks_of (p ∷ qs)) p.at
ends_behind code at [] p qs le s = refl
ends_behind code at (x ∷ front) p qs le s =
    let b = instr_behind code at x.op s.0 le s.2 in
    let after = below code s.0 front p qs b.1 s.3 in
    skipped x.op x.at p.at (closings_of (front ++ p ∷ qs)) (blocks_of (front ++ p ∷ qs)) (λ q. omega (arith, s.1, b.0, after, q))
    ∙ ends_behind code s.0 front p qs b.1 s.3

ends_here : (p : Placed) (qs : List Placed) (s : Shape) (t : Option (ValueType Label)) (x : Closing) (cs : List Closing) → p.op ≡ Opens s t → closings_of qs ≡ x ∷ cs
    → ends_in (blocks_of (p ∷ qs)) p.at ≡ Some (x.end, x.other)
ends_here p qs s t x cs e h = rw (e, h, eq-eqb p.at p.at refl) refl

-- an opener in the body, with what is told of it once the closings behind it are known
record Opened (code : List ℕ) (ps : List Placed) (place : ℕ) (s : Shape) (t : Option (ValueType Label)) (k : List (Op Label)) : Type 0 where
  front : List Placed
  behind : List Placed
  stands : Stand code 0 (front ++ placed place (Opens s t) ∷ behind)
  ops : ops_of behind ≡ k
  told : (x : Closing) (cs : List Closing) → closings_of behind ≡ x ∷ cs → ends_in (blocks_of ps) place ≡ Some (x.end, x.other)

opened : (code : List ℕ) (ps : List Placed) (place : ℕ) (s : Shape) (t : Option (ValueType Label)) (k : List (Op Label)) (left : List (Segment Label)) → Stand code 0 ps → At code place left → spread left ≡ Opens s t ∷ k
    → Opened code ps place s t k
opened code ps place s t k left st a shape = go a.rest a.all a.here (a.opcodes ∙ shape)
  where
    go : (l : List Placed) → Stand code 0 (a.front ++ l) → Stand code place l → ops_of l ≡ Opens s t ∷ k → Opened code ps place s t k
    go [] all here q = absurd cc
    go (p ∷ qs) all here q =
        let op_is : p.op ≡ Opens s t = cc in
        let is : p ≡ placed place (Opens s t) = ap (λ (n : ℕ). placed n p.op) here.1 ∙ ap (placed place) op_is in
        let st₂ : Stand code 0 (a.front ++ placed place (Opens s t) ∷ qs) = subst (λ (x : Placed). Stand code 0 (a.front ++ x ∷ qs)) is all in
        let one = one_standing code 0 ps (a.front ++ placed place (Opens s t) ∷ qs) (omega arith) st st₂ in
        record {
          front = a.front;
          behind = qs;
          stands = st₂;
          ops = cc;
          told = λ x cs e.
              ap (λ (l : List Placed). ends_in (blocks_of l) place) one
              ∙ ends_behind code 0 a.front (placed place (Opens s t)) qs (omega arith) st₂ ∙ ends_here (placed place (Opens s t)) qs s t x cs refl e;
        }

-- the place of an opcode that closes a sequence behind an opener
at_part : (code : List ℕ) (front : List Placed) (q : Placed) (behind : List Placed) (op : Op Label) (at : ℕ) (rest : List Placed) (left : List (Segment Label)) → Stand code 0 (front ++ q ∷ behind)
    → Part behind (placed at op ∷ rest) → op ∷ ops_of rest ≡ spread left → At code at left
at_part code front q behind op at rest left s part e =
    let whole : front ++ q ∷ behind ≡ (front ++ q ∷ part.0) ++ placed at op ∷ rest =
    ap (λ (l : List Placed). front ++ q ∷ l) part.1 ∙ sym (append_assoc front (q ∷ part.0) (placed at op ∷ rest)) in
    at_in code (front ++ q ∷ part.0) (placed at op) rest left (subst (λ (l : List Placed). Stand code 0 l) whole s) e

block_ends : (code : List ℕ) (ps : List Placed) (place : ℕ) (s : Shape) (t : Option (ValueType Label)) (c : Code Label) (outer left : List (Segment Label)) → Stand code 0 ps → At code place left
    → spread left ≡ Opens s t ∷ onto c (Closes ByEnd ∷ spread outer) → EndsAlone code (ends_in (blocks_of ps) place) outer
block_ends code ps place s t c outer left st a shape =
    let o = opened code ps place s t (onto c (Closes ByEnd ∷ spread outer)) left st a shape in
    let end = closes c (Closes ByEnd) (spread outer) o.behind o.ops in (
      end.at,
      o.told (record { end = end.at; other = None }) (closings_of end.rest) (sym end.same),
      at_part code o.front (placed place (Opens s t)) o.behind (Closes ByEnd) end.at end.rest (segment Stop ByEnd ∷ outer) o.stands end.part (ap (λ (l : List (Op Label)). Closes ByEnd ∷ l) end.ops),
    )

if_else_ends : (code : List ℕ) (ps : List Placed) (place : ℕ) (t : Option (ValueType Label)) (c d : Code Label) (outer left : List (Segment Label)) → Stand code 0 ps → At code place left
    → spread left ≡ Opens OfIf t ∷ onto c (Closes ByElse ∷ onto d (Closes ByEnd ∷ spread outer)) → EndsWithElse code (ends_in (blocks_of ps) place) d outer
if_else_ends code ps place t c d outer left st a shape =
    let o = opened code ps place OfIf t (onto c (Closes ByElse ∷ onto d (Closes ByEnd ∷ spread outer))) left st a shape in
    let parting = closes c (Closes ByElse) (onto d (Closes ByEnd ∷ spread outer)) o.behind o.ops in
    let end = closes d (Closes ByEnd) (spread outer) parting.rest parting.ops in
    let inner : record { end = end.at; other = Some parting.at } ∷ closings_of end.rest ≡ closings_of o.behind = ap (close (Closes ByElse) parting.at) end.same ∙ parting.same in
    let q = placed place (Opens OfIf t) in
    let far : Part o.behind (placed end.at (Closes ByEnd) ∷ end.rest) = (
      (parting.part.0 ++ placed parting.at (Closes ByElse) ∷ end.part.0),
      parting.part.1 ∙ ap (λ (l : List Placed). parting.part.0 ++ placed parting.at (Closes ByElse) ∷ l) end.part.1
          ∙ sym (append_assoc parting.part.0 (placed parting.at (Closes ByElse) ∷ end.part.0) (placed end.at (Closes ByEnd) ∷ end.rest)),
    ) in (
      end.at,
      parting.at,
      o.told (record { end = end.at; other = Some parting.at }) (closings_of end.rest) (sym inner),
      at_part code o.front q o.behind (Closes ByElse) parting.at parting.rest (segment Stop ByElse ∷ segment d ByEnd ∷ outer) o.stands parting.part (ap (λ (l : List (Op Label)). Closes ByElse ∷ l) parting.ops),
      at_part code o.front q o.behind (Closes ByEnd) end.at end.rest (segment Stop ByEnd ∷ outer) o.stands far (ap (λ (l : List (Op Label)). Closes ByEnd ∷ l) end.ops),
    )

-- ---- where the list tells something, a block begins
abbrev Among : List Placed → ℕ → Type 0
Among ps place = (front rest : List Placed) × (s : Shape) × (t : Option (ValueType Label)) × (ps ≡ front ++ placed place (Opens s t) ∷ rest)

later : (p : Placed) (ps : List Placed) (place : ℕ) → Among ps place → Among (p ∷ ps) place
later p ps place h = (p ∷ h.0, h.1, h.2, h.3, ap (λ (l : List Placed). p ∷ l) h.4)

told_among : (ps : List Placed) (place : ℕ) (x : ℕ × Option ℕ) → ends_in (blocks_of ps) place ≡ Some x → Among ps place
told_among [] place x e = absurd cc
told_among (p ∷ ps) place x e = go (λ q. told_among ps place x q) p.op p.at (closings_of ps) refl e
  where
    go : (ends_in (blocks_of ps) place ≡ Some x → Among ps place) → (op : Op Label) (at : ℕ) (cs : List Closing) → p ≡ placed at op → ends_in (with_opened op at cs (blocks_of ps)) place ≡ Some x → Among (p ∷ ps) place
    go again (Plain l) at cs is q = later p ps place (again q)
    go again (Closes k) at cs is q = later p ps place (again q)
    go again (Opens s t) at [] is q = later p ps place (again q)
    go again (Opens s t) at (c ∷ cs) is q =
        elim (chosen (eqb at place) (Some (c.end, c.other)) (ends_in (blocks_of ps) place) (Some x) q) [
          | inl h ↦ ([], ps, s, t, ap (λ (z : Placed). z ∷ ps) (is ∙ ap (λ (n : ℕ). placed n (Opens s t)) (eqb-true at place h.0)))
          | inr h ↦ later p ps place (again h.1)
        ]

told_opens : (code : List ℕ) (ps : List Placed) (place : ℕ) → Stand code 0 ps → IsSome (ends_in (blocks_of ps) place) → OpensAt code place
told_opens code ps place st some = go (ends_in (blocks_of ps) place) refl some
  where
    go : (told : Option (ℕ × Option ℕ)) → ends_in (blocks_of ps) place ≡ told → IsSome told → OpensAt code place
    go None e h = absurd (no h)
      where
        no : IsSome {T = ℕ × Option ℕ} None → ⊥
        no q = cc
    go (Some x) e h =
        let a = told_among ps place x e in
        (a.0, a.1, a.2, a.3, subst (λ (l : List Placed). Stand code 0 l) a.4 st)

some_told : (told : Option (ℕ × Option ℕ)) (x : ℕ × Option ℕ) → told ≡ Some x → IsSome told
some_told told x e = rw e (search rules)

opens_told : (code : List ℕ) (ps : List Placed) (place : ℕ) (c : Code Label) → Stand code 0 ps → IsBody code c → OpensAt code place → IsSome (ends_in (blocks_of ps) place)
opens_told code ps place c st m h =
    let a = at_any code c h.0 (placed place (Opens h.2 h.3)) h.1 m h.4 in
    let same = one_standing code place a.1.rest (placed place (Opens h.2 h.3) ∷ h.1) a.1.inside a.1.here (stand_from code 0 h.0 (placed place (Opens h.2 h.3)) h.1 (omega arith) h.4).0 in
    go a.0 a.1 (sym a.1.opcodes ∙ ap ops_of same)
  where
    one : (outer left : List (Segment Label)) (s : Shape) (t : Option (ValueType Label)) (b : Code Label) → At code place left → spread left ≡ Opens s t ∷ onto b (Closes ByEnd ∷ spread outer) → IsSome (ends_in (blocks_of ps) place)
    one outer left s t b a e = let r = block_ends code ps place s t b outer left st a e in some_told (ends_in (blocks_of ps) place) (r.0, None) r.1

    first : (d : Code Label) (k : Closer) (outer : List (Segment Label)) → At code place (segment d k ∷ outer) → spread (segment d k ∷ outer) ≡ Opens h.2 h.3 ∷ ops_of h.1 → IsSome (ends_in (blocks_of ps) place)
    first Stop k outer a e = absurd cc
    first (Then l r) k outer a e = absurd cc
    first (a_block t b r) k outer a e = one (segment r k ∷ outer) (segment (a_block t b r) k ∷ outer) OfBlock t b a refl
    first (Loop t b r) k outer a e = one (segment r k ∷ outer) (segment (Loop t b r) k ∷ outer) OfLoop t b a refl
    first (If t b r) k outer a e = one (segment r k ∷ outer) (segment (If t b r) k ∷ outer) OfIf t b a refl
    first (IfElse t b d r) k outer a e =
        let q = if_else_ends code ps place t b d (segment r k ∷ outer) (segment (IfElse t b d r) k ∷ outer) st a refl in
        some_told (ends_in (blocks_of ps) place) (q.0, Some q.1) q.2

    go : (left : List (Segment Label)) → At code place left → spread left ≡ Opens h.2 h.3 ∷ ops_of h.1 → IsSome (ends_in (blocks_of ps) place)
    go [] a e = absurd cc
    go (s ∷ outer) a e = first s.code s.closer outer a e

-- the list of a body's blocks tells their ends
pub tells : (code : List ℕ) (ps : List Placed) (c : Code Label) → Stand code 0 ps → IsBody code c → TellsEnds code (ends_in (blocks_of ps))
tells code ps c st m = record {
  blocks = λ place t b r k outer a. block_ends code ps place OfBlock t b (segment r k ∷ outer) (segment (a_block t b r) k ∷ outer) st a refl;
  loops = λ place t b r k outer a. block_ends code ps place OfLoop t b (segment r k ∷ outer) (segment (Loop t b r) k ∷ outer) st a refl;
  ifs = λ place t b r k outer a. block_ends code ps place OfIf t b (segment r k ∷ outer) (segment (If t b r) k ∷ outer) st a refl;
  if_elses = λ place t b d r k outer a. if_else_ends code ps place t b d (segment r k ∷ outer) (segment (IfElse t b d r) k ∷ outer) st a refl;
  only = λ place. (told_opens code ps place st, opens_told code ps place c st m);
}
