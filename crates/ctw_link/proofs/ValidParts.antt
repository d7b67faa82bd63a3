-- What is known of the functions and the exports of a valid module.
use Rattle.std.proofs.Common.{◌≡◌, ℕ, ◌<◌, Bool, true, false, List, [], ◌∷◌, length, map, slice_get, Option, Some, None, refl, subst, All}
use Rattle.std.specs.Prelude.{IsSome, cond}
use Rattle.std.specs.Str.{bytes_eq}
use Rattle.std.proofs.lemmas.Bool.{false≢true}
use Rattle.std.proofs.lemmas.Option.{slice_get_within, get_or_from_slice_get}
use Rattle.std.proofs.lemmas.List.Elements.{All-nil, All-cons, All-head, All-tail, All-append, All-map, All-get_or}
use Rattle.ctw_ops.specs.declared.types.Label.{Label}
use Rattle.ctw_ops.specs.declared.types.ExternTag.{ExternTag}
use Rattle.ctw_ops.specs.Tree.{Module, Function, Extern, ImportedFunction, ImportedTable, ImportedMemory, ImportedGlobal, Import, Export, with_function, imported_functions, function_entries}
use Rattle.ctw_ops.specs.Valid.{Names, IsImported, IsExported, IsValidAround, IsValid}
use Rattle.ctw_module.specs.Lookup.{export_in}

-- what holds of all holds of each
pub at_element : {A : Type 0} (P : A → Type 0) (xs : List A) (i : ℕ) (x : A) → All P xs → slice_get xs i ≡ Some x → P x
at_element P xs i x h e = subst P (get_or_from_slice_get xs i x x e) (All-get_or P xs i x (slice_get_within xs i x e) h)

pub some_same : {A : Type 0} {x y : A} → Some x ≡ Some y → x ≡ y
some_same e = cc

pub none_some : {A : Type 0} (x : A) → None ≡ Some x → ⊥
none_some x e = cc

imported : (m : Module Label) (imports : List (Import Label)) → All (λ (i : Import Label). IsImported m i.kind) imports → All (Names m.types) (imported_functions imports)
imported m [] h = All-nil (Names m.types)
imported m (i ∷ others) h = by i.kind (All-head (λ (j : Import Label). IsImported m j.kind) i others h) (imported m others (All-tail (λ (j : Import Label). IsImported m j.kind) i others h))
  where
    by : (kind : Extern Label) → IsImported m kind → All (Names m.types) (imported_functions others) → All (Names m.types) (with_function kind (imported_functions others))
    by (ImportedFunction type) n k = All-cons (Names m.types) type (imported_functions others) n k
    by (ImportedTable limits) n k = k
    by (ImportedMemory type) n k = k
    by (ImportedGlobal type) n k = k

typed : (m : Module Label) → IsValidAround m → All (Names m.types) (function_entries m)
typed m v =
    All-append (Names m.types) (imported_functions m.imports) (map (λ (f : Function Label). f.type) m.functions) (imported m m.imports v.imports) (All-map (Names m.types) (λ (f : Function Label). f.type) m.functions v.functions)

pub there : {A : Type 0} (xs : List A) (i : ℕ) → IsSome (slice_get xs i) → i < length xs
there {A} xs i h = by (slice_get xs i) refl h
  where
    by : (o : Option A) → slice_get xs i ≡ o → IsSome o → i < length xs
    by None e s = absurd (false≢true s)
    by (Some x) e s = slice_get_within xs i x e

-- the type of a function is there
pub function_typed : (m : Module Label) (f entry : ℕ) → IsValid m → slice_get (function_entries m) f ≡ Some entry → entry < length m.types
function_typed m f entry v e = there m.types entry (at_element (Names m.types) (function_entries m) f entry (typed m v.around) e)

-- what is exported is there
pub exported : (m : Module Label) (name : List ℕ) (tag : ExternTag) (index : ℕ) → IsValid m → export_in name m.exports ≡ Some (tag, index) → IsExported m tag index
exported m name tag index v e = go m.exports v.around.exports e
  where
    same : (t : ExternTag) (n : ℕ) → IsExported m t n → ◌≡◌ {A = Option (ExternTag × ℕ)} (Some (t, n)) (Some (tag, index)) → IsExported m tag index
    same t n h q =
        let both : ◌≡◌ {A = ExternTag × ℕ} (t, n) (tag, index) = some_same q in
        subst (λ (x : ExternTag × ℕ). IsExported m x.0 x.1) both h

    go : (exports : List Export) → All (λ x. IsExported m x.kind x.index) exports → export_in name exports ≡ Some (tag, index) → IsExported m tag index
    go [] h q = absurd (none_some (tag, index) q)
    go (x ∷ exports) h q =
        by (bytes_eq x.name name) (All-head (λ (x : Export). IsExported m x.kind x.index) x exports h) (go exports (All-tail (λ (x : Export). IsExported m x.kind x.index) x exports h)) q
      where
        by : (b : Bool) → IsExported m x.kind x.index → (export_in name exports ≡ Some (tag, index) → IsExported m tag index) → cond b (Some (x.kind, x.index)) (export_in name exports) ≡ Some (tag, index) → IsExported m tag index
        by true h k q = same x.kind x.index h q
        by false h k q = k q
