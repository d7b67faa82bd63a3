-- Opcodes and what is left, and a body's opcodes and its tree, determine each other.
use Rattle.std.proofs.Common.{◌≡◌, List, [], ◌∷◌, Option, Some, None, refl, sym, ap, ◌∙◌}
use Rattle.ctw_ops.specs.ValueType.{ValueType}
use Rattle.ctw_ops.specs.Code.{Code, Stop, Then, Block, Loop, If, IfElse, Shape, OfBlock, OfLoop, OfIf, Closer, ByEnd, ByElse, Op, Plain, Opens, Closes, onto, opcodes}
use Rattle.ctw_ops.specs.Segments.{Segment, segment, spread, with_arms, with_opener, in_front, and_then, segments, only, nested}

-- a sequence and its closer in front of what is left
pub segments_onto : {S : Type 0} (c : Code S) (k : Closer) (ops : List (Op S)) (ss : List (Segment S)) → segments ops ≡ Some ss → segments (onto c (Closes k ∷ ops)) ≡ Some (segment c k ∷ ss)
segments_onto Stop k ops ss e = rw e refl
segments_onto (Then l r) k ops ss e = rw (segments_onto r k ops ss e) refl
segments_onto (Block t b r) k ops ss e =
    rw (segments_onto b ByEnd (onto r (Closes k ∷ ops)) (segment r k ∷ ss) (segments_onto r k ops ss e)) refl
segments_onto (Loop t b r) k ops ss e =
    rw (segments_onto b ByEnd (onto r (Closes k ∷ ops)) (segment r k ∷ ss) (segments_onto r k ops ss e)) refl
segments_onto (If t b r) k ops ss e =
    rw (segments_onto b ByEnd (onto r (Closes k ∷ ops)) (segment r k ∷ ss) (segments_onto r k ops ss e)) refl
segments_onto (IfElse t a o r) k ops ss e =
    let last = segments_onto r k ops ss e in
    let other = segments_onto o ByEnd (onto r (Closes k ∷ ops)) (segment r k ∷ ss) last in
    rw (segments_onto a ByElse (onto o (Closes ByEnd ∷ onto r (Closes k ∷ ops))) (segment o ByEnd ∷ segment r k ∷ ss) other) refl

pub segments_spread : {S : Type 0} (ss : List (Segment S)) → segments (spread ss) ≡ Some ss
segments_spread [] = refl
segments_spread (s ∷ ss) = segments_onto s.code s.closer (spread ss) ss (segments_spread ss)

-- the other way
some_is : {A : Type 0} (x y : A) → Some x ≡ Some y → x ≡ y
some_is x y q = cc

with_arms_spreads : {S : Type 0} (t : Option (ValueType S)) (a o : Code S) (k : Closer) (s : Segment S) (ss out : List (Segment S)) → with_arms OfIf t a (segment o k ∷ s ∷ ss) ≡ Some out
    → spread out ≡ Opens OfIf t ∷ onto a (Closes ByElse ∷ spread (segment o k ∷ s ∷ ss))
with_arms_spreads t a o ByEnd s ss out e = ap spread (sym (some_is _ out e))
with_arms_spreads t a o ByElse s ss out e = absurd cc

with_opener_spreads : {S : Type 0} (shape : Shape) (t : Option (ValueType S)) (c : Code S) (k : Closer) (ss out : List (Segment S)) → with_opener shape t (segment c k) ss ≡ Some out
    → spread out ≡ Opens shape t ∷ onto c (Closes k ∷ spread ss)
with_opener_spreads shape t c ByEnd [] out e = absurd cc
with_opener_spreads OfBlock t c ByEnd (s ∷ ss) out e = ap spread (sym (some_is _ out e))
with_opener_spreads OfLoop t c ByEnd (s ∷ ss) out e = ap spread (sym (some_is _ out e))
with_opener_spreads OfIf t c ByEnd (s ∷ ss) out e = ap spread (sym (some_is _ out e))
with_opener_spreads OfBlock t c ByElse ss out e = absurd cc
with_opener_spreads OfLoop t c ByElse ss out e = absurd cc
with_opener_spreads OfIf t c ByElse [] out e = absurd cc
with_opener_spreads OfIf t c ByElse (o ∷ []) out e = absurd cc
with_opener_spreads OfIf t c ByElse (o ∷ s ∷ ss) out e = with_arms_spreads t c o.code o.closer s ss out e

in_front_spreads : {S : Type 0} (op : Op S) (ss out : List (Segment S)) → in_front op ss ≡ Some out → spread out ≡ op ∷ spread ss
in_front_spreads (Closes k) ss out e = ap spread (sym (some_is _ out e))
in_front_spreads (Plain l) [] out e = absurd cc
in_front_spreads (Plain l) (s ∷ ss) out e = ap spread (sym (some_is _ out e))
in_front_spreads (Opens shape t) [] out e = absurd cc
in_front_spreads (Opens shape t) (s ∷ ss) out e = with_opener_spreads shape t s.code s.closer ss out e

and_then_some : {A B : Type 0} (o : Option A) (f : A → Option B) (b : B) → and_then o f ≡ Some b → (a : A) × (o ≡ Some a) × (f a ≡ Some b)
and_then_some None f b e = absurd cc
and_then_some (Some a) f b e = (a, refl, e)

pub spread_segments : {S : Type 0} (ops : List (Op S)) (ss : List (Segment S)) → segments ops ≡ Some ss → spread ss ≡ ops
spread_segments [] ss e = ap spread (sym (some_is _ ss e))
spread_segments {S} (op ∷ ops) ss e =
    let h = and_then_some (segments ops) (in_front op) ss e in
    in_front_spreads op h.0 ss h.2 ∙ ap (λ (l : List (Op S)). op ∷ l) (spread_segments ops h.0 h.1)

only_spreads : {S : Type 0} (ss : List (Segment S)) (c : Code S) → only ss ≡ Some c → spread ss ≡ opcodes c
only_spreads [] c e = absurd cc
only_spreads {S} (s ∷ []) c e = one s.code s.closer e
  where
    one : (d : Code S) (k : Closer) → only (segment d k ∷ []) ≡ Some c → spread (segment d k ∷ []) ≡ opcodes c
    one d ByEnd q = ap opcodes (some_is d c q)
    one d ByElse q = absurd cc
only_spreads (s ∷ t ∷ ss) c e = absurd cc

pub opcodes_nested : {S : Type 0} (ops : List (Op S)) (c : Code S) → nested ops ≡ Some c → ops ≡ opcodes c
opcodes_nested ops c e =
    let h = and_then_some (segments ops) only c e in
    sym (spread_segments ops h.0 h.1) ∙ only_spreads h.0 c h.2

pub nested_opcodes : {S : Type 0} (c : Code S) → nested (opcodes c) ≡ Some c
nested_opcodes c = rw (segments_onto c ByEnd [] [] refl) refl

-- a body's opcodes determine its tree, and what is left is determined by its opcodes
pub one_code : {S : Type 0} (c d : Code S) → opcodes c ≡ opcodes d → c ≡ d
one_code c d e = some_is c d (sym (nested_opcodes c) ∙ ap nested e ∙ nested_opcodes d)

pub one_spread : {S : Type 0} (ss uu : List (Segment S)) → spread ss ≡ spread uu → ss ≡ uu
one_spread ss uu e = some_is ss uu (sym (segments_spread ss) ∙ ap segments e ∙ segments_spread uu)
