-- In a module that is valid around its bodies each function's type is there.
use Rattle.std.proofs.Common.{List, [], ◌∷◌, map}
use Rattle.std.specs.Prelude.{All}
use Rattle.std.proofs.lemmas.List.Elements.{All-nil, All-cons, All-head, All-tail, All-append, All-map}
use Rattle.ctw_ops.specs.declared.types.Label.{Label}
use Rattle.ctw_ops.specs.Tree.{Module, Function, Extern, ImportedFunction, ImportedTable, ImportedMemory, ImportedGlobal, Import, with_function, imported_functions}
use Rattle.ctw_ops.specs.Valid.{Names, IsImported, IsValidAround}
use Rattle.ctw_valid.specs.Named.{AreTyped}

imported : (m : Module Label) (imports : List (Import Label)) → All (λ (i : Import Label). IsImported m i.kind) imports → All (Names m.types) (imported_functions imports)
imported m [] h = All-nil (Names m.types)
imported m (i ∷ others) h = by i.kind (All-head (λ (j : Import Label). IsImported m j.kind) i others h) (imported m others (All-tail (λ (j : Import Label). IsImported m j.kind) i others h))
  where
    by : (kind : Extern Label) → IsImported m kind → All (Names m.types) (imported_functions others) → All (Names m.types) (with_function kind (imported_functions others))
    by (ImportedFunction type) n k = All-cons (Names m.types) type (imported_functions others) n k
    by (ImportedTable limits) n k = k
    by (ImportedMemory type) n k = k
    by (ImportedGlobal type) n k = k

pub typed_around : (m : Module Label) → IsValidAround m → AreTyped m
typed_around m v =
    All-append (Names m.types) (imported_functions m.imports) (map (λ (f : Function Label). f.type) m.functions) (imported m m.imports v.imports) (All-map (Names m.types) (λ (f : Function Label). f.type) m.functions v.functions)
