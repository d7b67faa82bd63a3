-- What the answer of the check of a whole module says of it.
use Rattle.std.proofs.Common.{◌≡◌, ◌≢◌, ◌⊎◌, ℕ, suc, Bool, true, false, List, [], ◌∷◌, Option, Some, None, option_map, Result, Ok, Err, sym, ◌∙◌, inl, inr}
use Rattle.std.specs.Prelude.{OnOk, IfErr, IsOkUnless}
use Rattle.ctw_ops.specs.declared.types.Label.{Label}
use Rattle.ctw_ops.specs.declared.fault.Space.{Space}
use Rattle.ctw_ops.specs.declared.fault.Space.TheVariants as space
use Rattle.ctw_ops.specs.Tree.{Module, TypeEntry, Extern, ImportedFunction, ImportedTable, ImportedMemory, ImportedGlobal, Export, Constant}
use Rattle.ctw_ops.specs.Valid.{IsFormed, IsValid}
use Rattle.ctw_valid.specs.declared.fault.BodyFault.{BodyFault}
use Rattle.ctw_valid.specs.declared.fault.BodyFault.TheVariants as body
use Rattle.ctw_valid.specs.Faults.{body_fault}
use Rattle.ctw_modcheck.specs.declared.fault.Invalid.{Invalid}
use Rattle.ctw_modcheck.specs.declared.fault.Invalid.TheVariants.{Body, ModuleIndex, DoubleExport, ConstExpr, LimitsOrder, StartType, SegmentType, Variant, NoMemory}
use Rattle.ctw_ops.specs.FirstFault.{FindsFault}
use Rattle.ctw_modcheck.specs.Check.{function_body_fault, bodies_fault, fault_of}
use Rattle.ctw_modcheck.specs.Faults.{or_else, unless, first_in, of_some, types_fault, variant_fault, extern_fault, import_fault, function_fault, table_fault, memory_fault, global_fault, export_fault, exports_fault, start_type_fault, start_fault, offset_fault, element_fault, segment_fault, around_fault}
use Rattle.ctw_modcheck.proofs.BodyChecks.{body_kept}
use Rattle.ctw_modcheck.proofs.Loops.{skip, stop}
use Rattle.ctw_modcheck.proofs.Validity.{none_is_valid, valid_is_none}

-- ---- no fault holds another's want of memory

abbrev Kept : Option Invalid → Type 0
Kept o = (f : ℕ) → o ≢ Some (Body f body.NoMemory)

abbrev Apart : Invalid → Type 0
Apart e = (f : ℕ) → e ≢ Body f body.NoMemory

kept_none : Kept None
kept_none f = λ q. cc

kept_or : (a b : Option Invalid) → Kept a → Kept b → Kept (or_else a b)
kept_or None b h k = k
kept_or (Some e) b h k = h

kept_unless : (b : Bool) (e : Invalid) → Apart e → Kept (unless b e)
kept_unless true e h f = λ q. cc
kept_unless false e h f = λ q. h f (same q)
  where
    same : {x : Invalid} → ◌≡◌ {A = Option Invalid} (Some e) (Some x) → e ≡ x
    same q = cc

kept_first : {A : Type 0} (fault : ℕ → A → Option Invalid) → ((i : ℕ) (a : A) → Kept (fault i a)) → (i : ℕ) (l : List A) → Kept (first_in fault i l)
kept_first fault h i [] = kept_none
kept_first fault h i (a ∷ l) = kept_or (fault i a) (first_in fault (suc i) l) (h i a) (kept_first fault h (suc i) l)

kept_some : {A : Type 0} (fault : A → Option Invalid) → ((a : A) → Kept (fault a)) → (o : Option A) → Kept (of_some fault o)
kept_some fault h None = kept_none
kept_some fault h (Some a) = h a

index_apart : (s : Space) (i : ℕ) → Apart (ModuleIndex s i)
index_apart s i f = λ q. cc

limits_apart : (s : Space) → Apart (LimitsOrder s)
limits_apart s f = λ q. cc

expression_apart : (s : Space) (i : ℕ) → Apart (ConstExpr s i)
expression_apart s i f = λ q. cc

segment_apart : (s : Space) (i : ℕ) → Apart (SegmentType s i)
segment_apart s i f = λ q. cc

types_kept : (all : List (TypeEntry Label)) (i : ℕ) (l : List (TypeEntry Label)) → Kept (types_fault all i l)
types_kept all i [] = kept_none
types_kept all i (e ∷ l) = kept_or (variant_fault all l i e) (types_fault all (suc i) l) (kept_some _ (λ base. kept_unless _ (Variant i) (λ f q. cc)) e.base) (types_kept all (suc i) l)

extern_kept : (m : Module Label) (i : ℕ) (e : Extern Label) → Kept (extern_fault m i e)
extern_kept m i (ImportedFunction type) = kept_unless _ (ModuleIndex space.Imports i) (index_apart space.Imports i)
extern_kept m i (ImportedTable limits) = kept_unless _ (LimitsOrder space.Imports) (limits_apart space.Imports)
extern_kept m i (ImportedMemory type) = kept_unless _ (LimitsOrder space.Imports) (limits_apart space.Imports)
extern_kept m i (ImportedGlobal type) = kept_none

exports_kept : (m : Module Label) (before : List Export) (i : ℕ) (l : List Export) → Kept (exports_fault m before i l)
exports_kept m before i [] = kept_none
exports_kept m before i (e ∷ l) =
    kept_or (export_fault m before i e) (exports_fault m (e ∷ before) (suc i) l)
    (kept_or _ _ (kept_unless _ (ModuleIndex space.Exports i) (index_apart space.Exports i)) (kept_unless _ (DoubleExport i) (λ f q. cc)))
    (exports_kept m (e ∷ before) (suc i) l)

start_kept : (m : Module Label) (o : Option ℕ) → Kept (start_type_fault m o)
start_kept m None = λ f q. index_apart space.Start 0 f (same q)
  where
    same : {x : Invalid} → ◌≡◌ {A = Option Invalid} (Some (ModuleIndex space.Start 0)) (Some x) → ModuleIndex space.Start 0 ≡ x
    same q = cc
start_kept m (Some type) = kept_unless _ StartType (λ f q. cc)

offset_kept : (m : Module Label) (s : Space) (i : ℕ) (found : Bool) (c : Constant Label) → Kept (offset_fault m s i found c)
offset_kept m s i found c =
    kept_or _ _ (kept_unless _ (ModuleIndex s i) (index_apart s i)) (kept_or _ _ (kept_unless _ (ConstExpr s i) (expression_apart s i)) (kept_unless _ (SegmentType s i) (segment_apart s i)))

around_kept : (m : Module Label) → Kept (around_fault m)
unfolding around_fault
around_kept m =
    kept_or _ _ (types_kept m.types 0 m.types)
    (kept_or _ _ (kept_first (import_fault m) (λ i x. extern_kept m i x.kind) 0 m.imports)
    (kept_or _ _ (kept_first (function_fault m) (λ i f. kept_unless _ (ModuleIndex space.Functions i) (index_apart space.Functions i)) 0 m.functions)
    (kept_or _ _ (kept_some (table_fault space.Tables) (λ l. kept_unless _ (LimitsOrder space.Tables) (limits_apart space.Tables)) m.table)
    (kept_or _ _ (kept_some (memory_fault space.Memories) (λ t. kept_unless _ (LimitsOrder space.Memories) (limits_apart space.Memories)) m.memory)
    (kept_or _ _ (kept_first (global_fault m) (λ i g. kept_or _ _ (kept_unless _ (ModuleIndex space.Globals i) (index_apart space.Globals i)) (kept_unless _ (ConstExpr space.Globals i) (expression_apart space.Globals i))) 0 m.globals)
    (kept_or _ _ (exports_kept m [] 0 m.exports)
    (kept_or _ _ (kept_some (start_fault m) (λ f. start_kept m _) m.start)
    (kept_or _ _ (kept_first (element_fault m) (λ i e. offset_kept m space.Elements i _ e.offset) 0 m.elements) (kept_first (segment_fault m) (λ i s. offset_kept m space.Segments i _ s.offset) 0 m.segments)))))))))

mapped_kept : (i : ℕ) (o : Option BodyFault) → o ≢ Some body.NoMemory → Kept (option_map (Body i) o)
mapped_kept i None h f = λ q. cc
mapped_kept i (Some e) h f = λ q. h (same q)
  where
    same : ◌≡◌ {A = Option Invalid} (Some (Body i e)) (Some (Body f body.NoMemory)) → ◌≡◌ {A = Option BodyFault} (Some e) (Some body.NoMemory)
    same q = cc

pub fault_kept : (m : Module Label) → Kept (fault_of m)
unfolding fault_of
fault_kept m =
    kept_or (around_fault m) (bodies_fault m) (around_kept m)
    (kept_first (function_body_fault m) (λ i f. mapped_kept i (body_fault m f) (body_kept m f)) _ m.functions)

-- ---- the answer

-- the fault where there is none around the bodies
pub behind_around : (m : Module Label) (r : Result (Unit {0}) Invalid) → around_fault m ≡ None → FindsFault NoMemory r (bodies_fault m) → FindsFault NoMemory r (fault_of m)
unfolding fault_of
behind_around m (Ok u) e h = skip (around_fault m) (bodies_fault m) e ∙ h
behind_around m (Err x) e (inl short) = inl short
behind_around m (Err x) e (inr h) = inr (skip (around_fault m) (bodies_fault m) e ∙ h)

pub around_first : (m : Module Label) (x : Invalid) → (x ≡ NoMemory) ⊎ (around_fault m ≡ Some x) → (x ≡ NoMemory) ⊎ (fault_of m ≡ Some x)
unfolding fault_of
around_first m x (inl short) = inl short
around_first m x (inr h) = inr (stop (around_fault m) (bodies_fault m) x h)

no_some : {x : Invalid} → ◌≡◌ {A = Option Invalid} None (Some x) → ⊥
no_some q = cc

module _ (m : Module Label) where
  pub is_sound : (r : Result (Unit {0}) Invalid) → IsFormed m → FindsFault NoMemory r (fault_of m) → OnOk r (IsValid m)
  is_sound (Ok u) formed h = none_is_valid m formed h
  is_sound (Err x) formed h = tt

  pub is_complete : (r : Result (Unit {0}) Invalid) → FindsFault NoMemory r (fault_of m) → IsValid m → IsOkUnless r NoMemory
  is_complete (Ok u) h v = tt
  is_complete (Err x) (inl short) v = short
  is_complete (Err x) (inr h) v = absurd (no_some (sym (valid_is_none m v) ∙ h))

  pub is_fault : (r : Result (Unit {0}) Invalid) → FindsFault NoMemory r (fault_of m) → IfErr r (λ x. x ≢ NoMemory → fault_of m ≡ Some x)
  is_fault (Ok u) h = tt
  is_fault (Err x) (inl short) = λ n. absurd (n short)
  is_fault (Err x) (inr h) = λ n. h

  pub is_held : (r : Result (Unit {0}) Invalid) → FindsFault NoMemory r (fault_of m) → (f : ℕ) → IfErr r (λ x. x ≢ Body f body.NoMemory)
  is_held (Ok u) h f = tt
  is_held (Err x) (inl short) f = λ q. apart (sym short ∙ q)
    where
      apart : NoMemory ≡ Body f body.NoMemory → ⊥
      apart q = cc
  is_held (Err x) (inr h) f = λ q. fault_kept m f (h ∙ held q)
    where
      held : x ≡ Body f body.NoMemory → ◌≡◌ {A = Option Invalid} (Some x) (Some (Body f body.NoMemory))
      held q = cc
