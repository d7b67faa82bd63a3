-- The instructions of each function nest, where not too many blocks are open.
use Rattle.std.proofs.Common.{◌≡◌, ℕ, suc, ◌<◌, ◌≤◌, subst, Bool, true, false, cond, List, [], ◌∷◌, ◌++◌, Option, Some, length, refl, arith, length-append, map}
use Rattle.std.specs.Prelude.{◌&&◌, nat_le}
use Rattle.std.proofs.lemmas.Bool.{lt-ltb, leb-false}
use Rattle.ctw_ops.specs.declared.types.Label.{Label}
use Rattle.ctw_ops.specs.ValueType.{ValueType}
use Rattle.ctw_ops.specs.Code as ops
use Rattle.ctw_ops.specs.Code.{Leaf, Code, Shape, OfBlock, OfLoop, OfIf, Plain, Opens, Closes, ByEnd, ByElse}
use Rattle.ctw_ops.specs.Limits.{most_nesting}
use Rattle.ctw_ops.specs.Segments.{nested}
use Rattle.ctw_ops.proofs.Segments.{opcodes_nested}
use Rattle.ctw_flat.specs.Spelled.{height}
use Rattle.ctw_flat.specs.Bodies.{takes_else, own_body}
use Rattle.ctw_flat.proofs.Bodies.{Allowed, body_limited}
use Rattle.ctw_flat.proofs.Balance.{open_after, closed_body}
use Rattle.ctw_text.specs.declared.fields.Raw.{Raw}
use Rattle.ctw_text.specs.declared.fields.Raw.TheVariants.{Single as RSingle, Uses as RUses, Targets as RTargets, Indirect as RIndirect, Opens as ROpens, Else as RElse, End as REnd}
use Rattle.ctw_text.specs.declared.fields.Item.{Item}
use Rattle.ctw_text.specs.declared.fields.Item.TheVariants.{Op, Folds, Unfolds}
use Rattle.ctw_text.specs.Written.{Name}
use Rattle.ctw_text.specs.Fields.{unfolded}
use Rattle.ctw_text.specs.Names.{Scope, ops_of, labels_behind, leaf_of, find, names_for, branches, entry_of}
use Rattle.ctw_text.specs.Limits.{Excess, nesting_excess}
use Rattle.ctw_parse.proofs.Nested.{Held, HeldIf, HeldPlain, is_nil, step, runs, is_plain_raw, first_true, second_true}

-- ---- raw instructions after unfolding

abbrev balanced : List Bool → List Raw → Bool
balanced bs [] = is_nil bs
balanced bs (r ∷ rs) = step r bs (λ bs. balanced bs rs)

abbrev is_if : Raw → Bool
is_if (RSingle leaf) = false
is_if (RUses op x) = false
is_if (RTargets xs) = false
is_if (RIndirect u) = false
is_if (ROpens OfIf n t) = true
is_if (ROpens OfBlock n t) = false
is_if (ROpens OfLoop n t) = false
is_if (RElse n) = false
is_if (REnd n) = false

abbrev holds : Raw → Held → Bool
holds r HeldPlain = is_plain_raw r
holds r HeldIf = is_if r

abbrev matches : List Raw → List Held → Bool
matches [] [] = true
matches [] (h ∷ hs) = false
matches (r ∷ rs) [] = false
matches (r ∷ rs) (h ∷ hs) = holds r h && matches rs hs

step_then : (r : Raw) (bs : List Bool) (k l : List Bool → Bool) → ((bs : List Bool) → k bs ≡ true → l bs ≡ true) → step r bs k ≡ true → step r bs l ≡ true
step_then (RSingle leaf) bs k l f h = f bs h
step_then (RUses op x) bs k l f h = f bs h
step_then (RTargets xs) bs k l f h = f bs h
step_then (RIndirect u) bs k l f h = f bs h
step_then (ROpens shape n t) bs k l f h = f (takes_else shape ∷ bs) h
step_then (RElse n) [] k l f h = absurd cc
step_then (RElse n) (false ∷ bs) k l f h = absurd cc
step_then (RElse n) (true ∷ bs) k l f h = f (false ∷ bs) h
step_then (REnd n) [] k l f h = absurd cc
step_then (REnd n) (b ∷ bs) k l f h = f bs h

plain_step : (r : Raw) (bs : List Bool) (k : List Bool → Bool) → is_plain_raw r ≡ true → k bs ≡ true → step r bs k ≡ true
plain_step (RSingle leaf) bs k e h = h
plain_step (RUses op x) bs k e h = h
plain_step (RTargets xs) bs k e h = h
plain_step (RIndirect u) bs k e h = h
plain_step (ROpens OfIf n t) bs k e h = absurd cc
plain_step (ROpens OfBlock n t) bs k e h = absurd cc
plain_step (ROpens OfLoop n t) bs k e h = absurd cc
plain_step (RElse n) bs k e h = absurd cc
plain_step (REnd n) bs k e h = absurd cc

if_step : (r : Raw) (bs : List Bool) (k : List Bool → Bool) → is_if r ≡ true → k (true ∷ bs) ≡ true → step r bs k ≡ true
if_step (RSingle leaf) bs k e h = absurd cc
if_step (RUses op x) bs k e h = absurd cc
if_step (RTargets xs) bs k e h = absurd cc
if_step (RIndirect u) bs k e h = absurd cc
if_step (ROpens OfIf n t) bs k e h = h
if_step (ROpens OfBlock n t) bs k e h = absurd cc
if_step (ROpens OfLoop n t) bs k e h = absurd cc
if_step (RElse n) bs k e h = absurd cc
if_step (REnd n) bs k e h = absurd cc

unfolded_balanced : (keep : List Raw) (hs : List Held) (bs : List Bool) (is : List Item) → matches keep hs ≡ true → runs false hs bs is ≡ true → balanced bs (unfolded keep is) ≡ true
unfolded_balanced keep hs bs [] m h = h
unfolded_balanced keep hs bs (Folds ∷ Op (RSingle leaf) ∷ is) m h = unfolded_balanced (RSingle leaf ∷ keep) (HeldPlain ∷ hs) bs is m h
unfolded_balanced keep hs bs (Folds ∷ Op (RUses op x) ∷ is) m h = unfolded_balanced (RUses op x ∷ keep) (HeldPlain ∷ hs) bs is m h
unfolded_balanced keep hs bs (Folds ∷ Op (RTargets xs) ∷ is) m h = unfolded_balanced (RTargets xs ∷ keep) (HeldPlain ∷ hs) bs is m h
unfolded_balanced keep hs bs (Folds ∷ Op (RIndirect u) ∷ is) m h = unfolded_balanced (RIndirect u ∷ keep) (HeldPlain ∷ hs) bs is m h
unfolded_balanced keep hs bs (Folds ∷ Op (ROpens OfIf n t) ∷ is) m h = unfolded_balanced (ROpens OfIf n t ∷ keep) (HeldIf ∷ hs) bs is m h
unfolded_balanced keep hs bs (Folds ∷ Op (ROpens OfBlock n t) ∷ is) m h = absurd cc
unfolded_balanced keep hs bs (Folds ∷ Op (ROpens OfLoop n t) ∷ is) m h = absurd cc
unfolded_balanced keep hs bs (Folds ∷ Op (RElse n) ∷ is) m h = absurd cc
unfolded_balanced keep hs bs (Folds ∷ Op (REnd n) ∷ is) m h = absurd cc
unfolded_balanced keep hs bs (Folds ∷ []) m h = absurd cc
unfolded_balanced keep hs bs (Folds ∷ Folds ∷ is) m h = absurd cc
unfolded_balanced keep hs bs (Folds ∷ Unfolds ∷ is) m h = absurd cc
unfolded_balanced [] [] bs (Unfolds ∷ is) m h = absurd cc
unfolded_balanced [] (x ∷ hs) bs (Unfolds ∷ is) m h = absurd cc
unfolded_balanced (r ∷ keep) [] bs (Unfolds ∷ is) m h = absurd cc
unfolded_balanced (r ∷ keep) (HeldPlain ∷ hs) bs (Unfolds ∷ is) m h = plain_step r bs (λ bs. balanced bs (unfolded keep is)) (first_true _ _ m) (unfolded_balanced keep hs bs is (second_true _ _ m) h)
unfolded_balanced (r ∷ keep) (HeldIf ∷ hs) bs (Unfolds ∷ is) m h = if_step r bs (λ bs. balanced bs (unfolded keep is)) (first_true _ _ m) (unfolded_balanced keep hs (true ∷ bs) is (second_true _ _ m) h)
unfolded_balanced keep hs bs (Op r ∷ is) m h = step_then r bs (λ bs. runs false hs bs is) (λ bs. balanced bs (unfolded keep is)) (λ bs q. unfolded_balanced keep hs bs is m q) h

-- ---- opcodes

abbrev Nesting : List Bool → List (ops.Op Label) → Type 0
Nesting bs os = Allowed (bs ++ own_body) os × (open_after (bs ++ own_body) os ≡ [])

plain_nests : (leaf : Leaf Label) (bs : List Bool) (os : List (ops.Op Label)) → Nesting bs os → Nesting bs (Plain leaf ∷ os)
plain_nests leaf [] os h = ((refl, h.0), h.1)
plain_nests leaf (b ∷ bs) os h = ((refl, h.0), h.1)

opens_nests : (shape : Shape) (t : Option (ValueType Label)) (bs : List Bool) (os : List (ops.Op Label)) → length bs < 4096 → Nesting (takes_else shape ∷ bs) os → Nesting bs (Opens shape t ∷ os)
opens_nests shape t [] os lt h = ((refl, h.0), h.1)
opens_nests shape t (b ∷ bs) os lt h = ((lt-ltb (length (bs ++ own_body)) 4096 (omega (arith, length-append bs own_body, lt)), h.0), h.1)

plain_left : (leaf : Leaf Label) (bs : List Bool) (os : List (ops.Op Label)) → nesting_excess (length bs) (Plain leaf ∷ os) ≡ [] → nesting_excess (length bs) os ≡ []
plain_left leaf [] os e = e
plain_left leaf (b ∷ bs) os e = e

opens_left : (b : Bool) (l : List Excess) (e : Excess) → cond b (e ∷ []) [] ++ l ≡ [] → (b ≡ false) × (l ≡ [])
opens_left true l e h = absurd cc
opens_left false l e h = (refl, h)

few_open : (n : ℕ) → nat_le 4096 n ≡ false → n < 4096
few_open n e = leb-false 4096 n e

opcodes_nest : (s : Scope) (labels : List (Option Name)) (bs : List Bool) (rs : List Raw) → balanced bs rs ≡ true → nesting_excess (length bs) (ops_of s labels rs) ≡ [] → Nesting bs (ops_of s labels rs)
opcodes_nest s labels [] [] h e = ((refl, tt), refl)
opcodes_nest s labels (b ∷ bs) [] h e = absurd cc
opcodes_nest s labels bs (RSingle leaf ∷ rs) h e = plain_nests leaf bs (ops_of s labels rs) (opcodes_nest s labels bs rs h (plain_left leaf bs (ops_of s labels rs) e))
opcodes_nest s labels bs (RUses op x ∷ rs) h e = plain_nests (leaf_of op (find (names_for s labels op) x)) bs (ops_of s labels rs) (opcodes_nest s labels bs rs h (plain_left (leaf_of op (find (names_for s labels op) x)) bs (ops_of s labels rs) e))
opcodes_nest s labels bs (RTargets xs ∷ rs) h e = plain_nests (branches (map (find labels) xs)) bs (ops_of s labels rs) (opcodes_nest s labels bs rs h (plain_left (branches (map (find labels) xs)) bs (ops_of s labels rs) e))
opcodes_nest s labels bs (RIndirect u ∷ rs) h e = plain_nests (ops.CallIndirect (entry_of s.space u)) bs (ops_of s labels rs) (opcodes_nest s labels bs rs h (plain_left (ops.CallIndirect (entry_of s.space u)) bs (ops_of s labels rs) e))
opcodes_nest s labels bs (ROpens shape n t ∷ rs) h e =
    let o = opens_left (nat_le 4096 (length bs)) (nesting_excess (suc (length bs)) (ops_of s (n ∷ labels) rs)) _ e in
    opens_nests shape t bs (ops_of s (n ∷ labels) rs) (few_open (length bs) o.0) (opcodes_nest s (n ∷ labels) (takes_else shape ∷ bs) rs h o.1)
opcodes_nest s labels [] (RElse n ∷ rs) h e = absurd cc
opcodes_nest s labels (false ∷ bs) (RElse n ∷ rs) h e = absurd cc
opcodes_nest s labels (true ∷ bs) (RElse n ∷ rs) h e = let r = opcodes_nest s labels (false ∷ bs) rs h e in ((refl, r.0), r.1)
opcodes_nest s labels [] (REnd n ∷ rs) h e = absurd cc
opcodes_nest s labels (b ∷ bs) (REnd n ∷ rs) h e = let r = opcodes_nest s (labels_behind (REnd n) labels) bs rs h e in ((refl, r.0), r.1)

pub body_nested : (s : Scope) (is : List Item) → runs false [] [] is ≡ true → nesting_excess 0 (ops_of s [] (unfolded [] is)) ≡ [] → (c : Code Label) × (nested (ops_of s [] (unfolded [] is)) ≡ Some c)
body_nested s is h e =
    let r = opcodes_nest s [] [] (unfolded [] is) (unfolded_balanced [] [] [] is refl h) e in
    closed_body (ops_of s [] (unfolded [] is)) r.0 r.1

-- and no deeper than blocks may
pub body_low : (s : Scope) (is : List Item) (c : Code Label) → runs false [] [] is ≡ true → nesting_excess 0 (ops_of s [] (unfolded [] is)) ≡ [] → nested (ops_of s [] (unfolded [] is)) ≡ Some c → height c ≤ most_nesting
body_low s is c h e n =
    let r = opcodes_nest s [] [] (unfolded [] is) (unfolded_balanced [] [] [] is refl h) e in
    body_limited c (subst (λ (os : List (ops.Op Label)). Allowed own_body os) (opcodes_nested (ops_of s [] (unfolded [] is)) c n) r.0)
