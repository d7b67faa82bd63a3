-- Operands of which something is asked, one after another.
use Rattle.std.proofs.Common.{◌≡◌, ◌≤◌, ℕ, zero, suc, ◌+◌, ◌-◌, Bool, true, false, List, [], ◌∷◌, ◌++◌, length, Option, Some, None, ◌⊎◌, inl, inr, refl, sym, ◌∙◌, ap, subst, arith, length-append, append_assoc}
use Rattle.std.specs.Prelude.{IsSome, map, option_map, replicate, if◌then◌else◌}
use Rattle.std.proofs.lemmas.List.{append-nil, length-map}
use Rattle.ctw_ops.specs.declared.types.Width.TheVariants.{W32}
use Rattle.ctw_ops.specs.declared.types.Label.{Label}
use Rattle.ctw_ops.specs.Types.{ValueType, FunctionType, value_type}
use Rattle.ctw_ops.specs.Segments.{and_then}
use Rattle.ctw_ops.specs.Typing.{optional}
use Rattle.ctw_stack.specs.Operands.{Operands, killed}
use Rattle.ctw_stack.specs.Opens.{Open, with_operands}
use Rattle.ctw_stack.specs.Steps.{expect, expects, pushes}
use Rattle.ctw_labels.specs.declared.tag.Tag.{Tag}
use Rattle.ctw_labels.specs.declared.tag.Tag.TheVariants.{At, Fixed}
use Rattle.ctw_labels.specs.Sited.{yes}
use Rattle.ctw_labels.specs.Links.{Fact, after, wants, wants_all, wants_above}
use Rattle.ctw_labels.specs.Collected.{wants_on}
use Rattle.ctw_labels.proofs.FactLaws.{expects_end}
use Rattle.ctw_sites.specs.Rows.{rest_of, rests, Row, done, given_at}
use Rattle.ctw_sites.specs.Stacks.{on_innermost}
use Rattle.ctw_sites.specs.Tags.{tags_from}
use Rattle.ctw_labels.specs.Numbering.{type_from}
use Rattle.ctw_sites.proofs.RowLaws.{expect_rest, expects_rests}
use Rattle.ctw_sites.proofs.ScopeLaws.{tags_are}
use Rattle.ctw_links.specs.declared.asks.Ask.{Ask}
use Rattle.ctw_links.specs.Asks.{ask, asked, asked_on, asks_all, tags_of, param_asks, alike_asks, call_asks, left}

pub rests_first : (k : ℕ) (o : Operands Tag) → rests k (rest_of o) ≡ rest_of (rests k o)
rests_first zero o = refl
rests_first (suc k) o = ap rest_of (rests_first k o)

pub rests_both : (j k : ℕ) (o : Operands Tag) → rests j (rests k o) ≡ rests (j + k) o
rests_both zero k o = let e : k ≡ 0 + k = omega arith in ap (λ z. rests z o) e
rests_both (suc j) k o = let e : suc (j + k) ≡ suc j + k = omega arith in ap rest_of (rests_both j k o) ∙ ap (λ z. rests z o) e

abbrev told_of : Ask → Operands Tag → List (Fact Tag)
told_of a o = wants a.rule (value_type W32 a.tag) o

pub asked_append : (xs ys : List Ask) (o : Operands Tag) → asked (xs ++ ys) o ≡ asked xs o ++ asked ys (rests (length xs) o)
asked_append [] ys o = refl
asked_append (x ∷ xs) ys o =
    ap (λ z. told_of x o ++ z) (asked_append xs ys (rest_of o) ∙ ap (λ z. asked xs (rest_of o) ++ asked ys z) (rests_first (length xs) o))
    ∙ sym (append_assoc (told_of x o) (asked xs (rest_of o)) (asked ys (rests (length (x ∷ xs)) o)))

pub asks_length : (r : ℕ) (more : List Tag) → length (asks_all r more) ≡ length more
asks_length r [] = refl
asks_length r (a ∷ more) = let l = length-append (asks_all r more) (ask r a ∷ []) in let h = asks_length r more in omega (arith, l, h)

pub tags_length : (ts : List (ValueType Tag)) → length (tags_of ts) ≡ length ts
tags_length ts = length-map ts (λ (t : ValueType Tag). t.tag)

-- ---- what is wanted of operands that are there

pub wants_asked : (r : ℕ) (ts : List (ValueType Tag)) (o : Operands Tag) → IsSome (expects yes ts o) → wants_all r ts o ≡ asked (asks_all r (tags_of ts)) o
wants_asked r [] o e = refl
wants_asked r (t ∷ ts) o e = by_found (λ w. wants_asked r ts o w) (expects yes ts o) refl e
  where
    last : (k : Operands Tag) → rests (length ts) o ≡ k → wants r t k ≡ asked (ask r t.tag ∷ []) (rests (length (asks_all r (tags_of ts))) o)
    last k q =
        let l : length ts ≡ length (asks_all r (tags_of ts)) = sym (tags_length ts) ∙ sym (asks_length r (tags_of ts)) in
        sym (append-nil (wants r t k)) ∙ ap (λ z. asked (ask r t.tag ∷ []) z) (sym q ∙ ap (λ z. rests z o) l)

    by_found : (IsSome (expects yes ts o) → wants_all r ts o ≡ asked (asks_all r (tags_of ts)) o) → (x : Option (Operands Tag)) → expects yes ts o ≡ x → IsSome (and_then x (expect yes t)) → wants_all r ts o ++ after (expects yes ts o) (wants r t) ≡ asked (asks_all r (tags_of (t ∷ ts))) o
    by_found h None q e = cc
    by_found h (Some k) q e =
        (λ i. h (subst IsSome (sym q) refl) i ++ after (q i) (wants r t))
        ∙ ap (λ z. asked (asks_all r (tags_of ts)) o ++ z) (last k (expects_rests ts o k q))
        ∙ sym (asked_append (asks_all r (tags_of ts)) (ask r t.tag ∷ []) o)

pub above_asked : (r : ℕ) (u : ValueType Tag) (q : ℕ) (ts : List (ValueType Tag)) (o : Operands Tag) → IsSome (expects yes (ts ++ u ∷ []) o) → wants_above r u q ts o ≡ asked (ask r u.tag ∷ asks_all q (tags_of ts)) o
above_asked r u q ts o e = by_found (expect yes u o) refl (subst IsSome (expects_end yes ts u o) e)
  where
    by_found : (x : Option (Operands Tag)) → expect yes u o ≡ x → IsSome (and_then x (expects yes ts)) → wants r u o ++ after (expect yes u o) (wants_all q ts) ≡ wants r u o ++ asked (asks_all q (tags_of ts)) (rest_of o)
    by_found None p e = cc
    by_found (Some k) p e =
        ap (λ z. wants r u o ++ z) (ap (λ z. after z (wants_all q ts)) p ∙ wants_asked q ts k e ∙ ap (asked (asks_all q (tags_of ts))) (sym (expect_rest u o k p)))

-- ---- parameters, and operands that are alike

alike_end : (a : Ask) (k : ℕ) → alike_asks a k ++ a ∷ [] ≡ alike_asks a (suc k)
alike_end a zero = refl
alike_end a (suc k) = ap (λ z. a ∷ z) (alike_end a k)

pub alike_all : (r k : ℕ) (t : ValueType Tag) → alike_asks (ask r t.tag) k ≡ asks_all r (tags_of (replicate k t))
alike_all r zero t = refl
alike_all r (suc k) t = sym (alike_end (ask r t.tag) k) ∙ ap (λ z. z ++ ask r t.tag ∷ []) (alike_all r k t)

params_end : (n k : ℕ) → param_asks (n + 1) k ++ ask 7 (At n) ∷ [] ≡ param_asks n (suc k)
params_end n zero = let e : n ≡ n + 0 = omega arith in ap (λ z. ask 7 (At z) ∷ []) e
params_end n (suc k) = let e : n + 1 + k ≡ n + suc k = omega arith in λ i. ask 7 (At (e i)) ∷ params_end n k i

pub params_all : (n k : ℕ) → param_asks n k ≡ asks_all 7 (tags_from n k)
params_all n zero = refl
params_all n (suc k) = sym (params_end n k) ∙ ap (λ z. z ++ ask 7 (At n) ∷ []) (params_all (n + 1) k)

-- ---- what is left for the row

left_under : (e : Bool) (t k : ℕ) (o : Operands Tag) → (e ≡ true) ⊎ (k ≤ t) → (if e then killed else rests (t - k) (rests k o)) ≡ (if e then killed else rests t o)
left_under true t k o h = refl
left_under false t k o (inl q) = cc
left_under false t k o (inr le) = let e : t - k + k ≡ t = omega (arith, le) in rests_both (t - k) k o ∙ ap (λ z. rests z o) e

pub done_left : (p k : ℕ) (r : Row) (b : List (Open Tag)) → (r.ends ≡ true) ⊎ (k ≤ r.takes) → on_innermost (done p (left k r)) (on_innermost (rests k) b) ≡ on_innermost (done p r) b
done_left p k r [] h = refl
done_left p k r (v ∷ outer) h = ap (λ z. with_operands v (pushes (optional (given_at p r)) z) ∷ outer) (left_under r.ends r.takes k v.operands h)

-- ---- on the open blocks

pub asked_first : (a : Ask) (more : List Ask) (b : List (Open Tag)) → asked_on (a ∷ more) b ≡ wants_on a.rule (value_type W32 a.tag) b ++ asked_on more (on_innermost rest_of b)
asked_first a more [] = refl
asked_first a more (v ∷ outer) = refl

pub rests_on : (k : ℕ) (b : List (Open Tag)) → on_innermost (rests k) (on_innermost rest_of b) ≡ on_innermost (rests (suc k)) b
rests_on k [] = refl
rests_on k (v ∷ outer) = ap (λ z. with_operands v z ∷ outer) (rests_first k v.operands)

pub rests_none : (b : List (Open Tag)) → on_innermost (rests 0) b ≡ b
rests_none [] = refl
rests_none (v ∷ outer) = refl

pub asked_none : (b : List (Open Tag)) → asked_on [] b ≡ []
asked_none [] = refl
asked_none (v ∷ outer) = refl

-- one more operand of a list is told
pub told_on : (told told' all : List (Fact Tag)) (a : Ask) (more : List Ask) (b b' : List (Open Tag)) → told' ≡ told ++ wants_on a.rule (value_type W32 a.tag) b → b' ≡ on_innermost rest_of b → told ++ asked_on (a ∷ more) b ≡ all → told' ++ asked_on more b' ≡ all
told_on told told' all a more b b' e f h =
    (λ i. e i ++ asked_on more (f i)) ∙ append_assoc told (wants_on a.rule (value_type W32 a.tag) b) (asked_on more (on_innermost rest_of b)) ∙ ap (λ z. told ++ z) (sym (asked_first a more b)) ∙ h

pub taken_on : (k : ℕ) (b b' all : List (Open Tag)) → b' ≡ on_innermost rest_of b → on_innermost (rests (suc k)) b ≡ all → on_innermost (rests k) b' ≡ all
taken_on k b b' all f h = ap (on_innermost (rests k)) f ∙ rests_on k b ∙ h

-- nothing is left
pub told_done : (told all : List (Fact Tag)) (b : List (Open Tag)) → told ++ asked_on [] b ≡ all → told ≡ all
told_done told all b h = sym (append-nil told) ∙ ap (λ z. told ++ z) (sym (asked_none b)) ∙ h

pub some_on : (f : Operands Tag → Operands Tag) (b : List (Open Tag)) → length (on_innermost f b) ≡ length b
some_on f [] = refl
some_on f (v ∷ outer) = refl

pub alike_length : (a : Ask) (k : ℕ) → length (alike_asks a k) ≡ k
alike_length a zero = refl
alike_length a (suc k) = ap suc (alike_length a k)

pub params_length : (n k : ℕ) → length (param_asks n k) ≡ k
params_length n zero = refl
params_length n (suc k) = ap suc (params_length n k)

pub told_then : (told t1 t2 : List (Fact Tag)) (a : Ask) (more : List Ask) (b b1 : List (Open Tag)) → t1 ≡ told ++ wants_on a.rule (value_type W32 a.tag) b → b1 ≡ on_innermost rest_of b → t2 ≡ t1 ++ asked_on more b1 → t2 ≡ told ++ asked_on (a ∷ more) b
told_then told t1 t2 a more b b1 e f h = h ∙ told_on told t1 (told ++ asked_on (a ∷ more) b) a more b b1 e f refl

pub one_on : (a : Ask) (b : List (Open Tag)) → wants_on a.rule (value_type W32 a.tag) b ≡ asked_on (a ∷ []) b
one_on a [] = refl
one_on a (v ∷ outer) = sym (append-nil (wants a.rule (value_type W32 a.tag) v.operands))

-- ---- calls

abbrev tags_asked : Option (List Tag) → List Ask
tags_asked None = []
tags_asked (Some more) = asks_all 7 more

call_is : (x : Option (FunctionType Tag)) → call_asks x ≡ tags_asked (option_map (λ g. map (λ t. t.tag) g.params) x)
call_is None = refl
call_is (Some g) = refl

pub call_asked : (first count : ℕ) (x : Option (FunctionType Tag)) → Some (tags_from first count) ≡ option_map (λ g. map (λ t. t.tag) g.params) x → param_asks first count ≡ call_asks x
call_asked first count x e = params_all first count ∙ ap tags_asked e ∙ sym (call_is x)

pub user_asked : (n k : ℕ) (g : FunctionType Label) → k ≡ length g.params → ask 14 Fixed ∷ param_asks n k ≡ ask 14 Fixed ∷ asks_all 7 (tags_of (type_from n g).params)
user_asked n k g e = ap (λ z. ask 14 Fixed ∷ z) (params_all n k ∙ ap (λ z. asks_all 7 (tags_from n z)) e ∙ ap (asks_all 7) (tags_are n g.params))
