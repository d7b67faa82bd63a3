-- Bodies have no fault exactly where each has its function's type, and no fault of a body is want of memory.
use Rattle.std.proofs.Common.{◌≡◌, ◌≢◌, ◌≤◌, ◌<◌, ◌↔◌, ◌⊎◌, ℕ, suc, ◌+◌, ◌-◌, Bool, true, false, not, if◌then◌else◌, List, [], ◌∷◌, length, slice_get, Option, Some, None, option_map, All, refl, sym, ap, ◌∙◌, inl, inr, arith}
use Rattle.std.proofs.lemmas.Bool.{le-ltb}
use Rattle.ctw_ops.specs.declared.types.Label.{Label}
use Rattle.ctw_ops.specs.declared.fault.SecretRule.{SecretRule}
use Rattle.ctw_ops.specs.Code.{Op, Plain, Opens, Closes, opcodes}
use Rattle.ctw_ops.specs.Typing.{Context}
use Rattle.ctw_ops.specs.Tree.{Module, Function, imported_functions, function_entries}
use Rattle.ctw_ops.specs.Bodies.{context_of, HasItsType}
use Rattle.ctw_stack.specs.Pass.{Level, within, outermost, flat}
use Rattle.ctw_module.specs.Lookup.{imported_count, function_named}
use Rattle.ctw_valid.specs.declared.fault.BodyFault.{BodyFault}
use Rattle.ctw_valid.specs.declared.fault.BodyFault.TheVariants as body
use Rattle.ctw_valid.specs.Faults.{same_label, is_there, is_aligned, is_mutable, is_allowed, broken_rule, by_type, kind_of, slots_of, unless_refused, fault_from, body_fault}
use Rattle.ctw_valid.proofs.FaultLaws.{typed_iff}
use Rattle.ctw_modcheck.specs.declared.fault.Invalid.{Invalid}
use Rattle.ctw_modcheck.specs.declared.fault.Invalid.TheVariants.{Body, NoMemory}
use Rattle.ctw_modcheck.specs.Answers.{fault_at}
use Rattle.ctw_modcheck.specs.Check.{function_body_fault, bodies_fault}
use Rattle.ctw_modcheck.specs.Faults.{or_else, first_in}
use Rattle.ctw_modcheck.proofs.Nones.{NoneWhere, none_first}
use Rattle.ctw_module.proofs.IndexSpaces.{functions_count}
use Rattle.ctw_modcheck.proofs.Counts.{some_there}
use Rattle.ctw_modcheck.proofs.Loops.{Reached, reached_more, reached_fault, reached_all, at_item}

-- ---- no fault

body_none : (m : Module Label) (f : Function Label) → (body_fault m f ≡ None) ↔ HasItsType m f
unfolding body_fault
body_none m f = typed_iff (context_of m f) refl f.body

mapped_none : (g : BodyFault → Invalid) (o : Option BodyFault) → (option_map g o ≡ None) ↔ (o ≡ None)
mapped_none g None = ((λ e. refl), (λ e. refl))
mapped_none g (Some x) = ((λ e. absurd cc), (λ e. absurd cc))

pub function_none : (m : Module Label) (i : ℕ) (f : Function Label) → NoneWhere (function_body_fault m i f) (HasItsType m f)
function_none m i f =
    let a = mapped_none (Body i) (body_fault m f) in
    let b = body_none m f in
    ((λ e. b.0 (a.0 e)), (λ t. a.1 (b.1 t)))

pub bodies_none : (m : Module Label) → NoneWhere (bodies_fault m) (All (HasItsType m) m.functions)
bodies_none m = none_first (function_body_fault m) (HasItsType m) (function_none m) (length (imported_functions m.imports)) m.functions

-- ---- never want of memory

if_kept : (b : Bool) (x y : BodyFault) → x ≢ body.NoMemory → y ≢ body.NoMemory → (if b then x else y) ≢ body.NoMemory
if_kept true x y p q = p
if_kept false x y p q = q

typed_kind : (at : ℕ) (rule : Option SecretRule) → by_type at rule ≢ body.NoMemory
typed_kind at None = λ q. cc
typed_kind at (Some rule) = λ q. cc

kind_kept : (C : Context Label) (op : Op Label) (at : ℕ) (vs : List (Level Label)) → kind_of (within C vs) op at (slots_of vs) ≢ body.NoMemory
kind_kept C (Plain leaf) at vs =
    let rest = typed_kind at (broken_rule C.profile (Plain leaf) (slots_of vs)) in
    let D = within C vs in
    let a = if_kept (not (is_allowed D leaf)) (body.Trust at) _ (λ q. cc) rest in
    let b = if_kept (not (is_mutable D leaf)) (body.Immutable at) _ (λ q. cc) a in
    let c = if_kept (not (is_aligned leaf)) (body.Align at) _ (λ q. cc) b in
    if_kept (not (is_there D leaf)) (body.Index at) _ (λ q. cc) c
kind_kept C (Opens k t) at vs = typed_kind at (broken_rule C.profile (Opens k t) (slots_of vs))
kind_kept C (Closes k) at vs = typed_kind at (broken_rule C.profile (Closes k) (slots_of vs))

fault_kept : (C : Context Label) (at : ℕ) (ops : List (Op Label)) (vs : List (Level Label)) → fault_from C at ops vs ≢ Some body.NoMemory
fault_kept C at [] vs = λ q. cc
fault_kept C at (op ∷ ops) vs = go (flat same_label C op vs) (λ us. fault_kept C (suc at) ops us)
  where
    go : (r : Option (List (Level Label))) → ((us : List (Level Label)) → fault_from C (suc at) ops us ≢ Some body.NoMemory) → unless_refused (kind_of (within C vs) op at (slots_of vs)) (fault_from C (suc at) ops) r ≢ Some body.NoMemory
    go None again = λ q. kind_kept C op at vs (some_is q)
      where
        some_is : {x : BodyFault} → ◌≡◌ {A = Option BodyFault} (Some x) (Some body.NoMemory) → x ≡ body.NoMemory
        some_is q = cc
    go (Some us) again = again us

pub body_kept : (m : Module Label) (f : Function Label) → body_fault m f ≢ Some body.NoMemory
unfolding body_fault
body_kept m f = fault_kept (context_of m f) 0 (opcodes f.body) (outermost (context_of m f))

-- ---- a loop over bodies

-- the defined functions with their indexes
abbrev pub defined_fault : Module Label → ℕ → Function Label → Option Invalid
defined_fault m i f = function_body_fault m (imported_count m + i) f

shifted : (m : Module Label) (k : ℕ) (l : List (Function Label)) → first_in (defined_fault m) k l ≡ first_in (function_body_fault m) (imported_count m + k) l
shifted m k [] = refl
shifted m k (f ∷ l) =
    let next : imported_count m + suc k ≡ suc (imported_count m + k) = omega arith in
    ap (or_else (function_body_fault m (imported_count m + k) f)) (shifted m (suc k) l ∙ ap (λ (n : ℕ). first_in (function_body_fault m) n l) next)

pub all_defined : (m : Module Label) → first_in (defined_fault m) 0 m.functions ≡ bodies_fault m
all_defined m =
    let none : imported_count m + 0 ≡ imported_count m = omega arith in
    shifted m 0 m.functions ∙ ap (λ (n : ℕ). first_in (function_body_fault m) n m.functions) none

-- the defined function of a number, which has the index f
pub record DefinedAt (m : Module Label) (f i : ℕ) : Type 0 where
  pub function : Function Label
  pub is : slice_get m.functions i ≡ Some function
  pub named : function_named m f ≡ Some function
  pub same : f ≡ imported_count m + i

pub defined_at : (m : Module Label) (k i : ℕ) → k ≡ imported_count m → i < length (function_entries m) - k → DefinedAt m (k + i) i
defined_at m k i e lt =
    let there = some_there m.functions i (omega (arith, e, lt, functions_count m)) in
    let at : (k + i) - imported_count m ≡ i = omega (arith, e) in
    let past : imported_count m ≤ k + i = omega (arith, e) in
    record {
      function = there.0;
      is = there.1;
      named = rw (le-ltb (k + i) (imported_count m) past) (ap (λ (n : ℕ). slice_get m.functions n) at ∙ there.1);
      same = omega (arith, e);
    }

at_defined : (m : Module Label) (f i : ℕ) (d : DefinedAt m f i) → fault_at (defined_fault m) m.functions i ≡ function_body_fault m f d.function
at_defined m f i d = at_item (defined_fault m) m.functions i d.function (function_body_fault m f d.function) d.is (ap (λ (n : ℕ). function_body_fault m n d.function) (sym d.same))

pub bodies_more : (m : Module Label) (f i : ℕ) (d : DefinedAt m f i) → function_body_fault m f d.function ≡ None → Reached (defined_fault m) m.functions 0 i → Reached (defined_fault m) m.functions 0 (i + 1)
bodies_more m f i d e r = reached_more (defined_fault m) m.functions 0 i (at_defined m f i d ∙ e) r

pub bodies_fail : (m : Module Label) (f i : ℕ) (d : DefinedAt m f i) (e : Invalid) → (e ≡ NoMemory) ⊎ (function_body_fault m f d.function ≡ Some e) → Reached (defined_fault m) m.functions 0 i → (e ≡ NoMemory) ⊎ (bodies_fault m ≡ Some e)
bodies_fail m f i d e (inl short) r = inl short
bodies_fail m f i d e (inr h) r = inr (sym (all_defined m) ∙ reached_fault (defined_fault m) m.functions 0 i e (at_defined m f i d ∙ h) r)

pub bodies_all : (m : Module Label) (i : ℕ) → length m.functions ≤ i → Reached (defined_fault m) m.functions 0 i → bodies_fault m ≡ None
bodies_all m i le r = sym (all_defined m) ∙ reached_all (defined_fault m) m.functions 0 i le r
