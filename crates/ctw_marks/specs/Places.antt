-- Which sites of functions, globals and the memory are there, by what the module has; and which function is trusted.
use Rattle.std.specs.Prelude.{◌≡◌, ◌≤◌, ◌<◌, ℕ, length, Option, Some, None, nat_lt, IsSome, slice_get}
use Rattle.ctw_ops.specs.declared.types.Label.{Label}
use Rattle.ctw_ops.specs.Tree.{Module, function_entries, global_types, memory_among, type_named}
use Rattle.ctw_module.specs.Lookup.{imported_count, locals_named}
use Rattle.ctw_labels.specs.declared.name.SiteName.{SiteName}
use Rattle.ctw_labels.specs.declared.name.SiteName.TheVariants.{Param, Result, GlobalOf, Local, Block, Op, Push, IParam, IResult}
use Rattle.ctw_labels.specs.declared.name.SiteName.TheVariants as site
use Rattle.ctw_script.specs.MoveValues.{tested}
use Rattle.ctw_marks.specs.declared.order.Subject.{Subject}
use Rattle.ctw_marks.specs.Meaning.{function_of}

abbrev pub IsParam : Module Label → ℕ → ℕ → Type 0
IsParam m f i = (y : ℕ) × (slice_get (function_entries m) f ≡ Some y) × (i < length (type_named m y).params)

abbrev pub IsResult : Module Label → ℕ → Type 0
IsResult m f = (y : ℕ) × (slice_get (function_entries m) f ≡ Some y) × IsSome (type_named m y).result

abbrev pub IsGlobal : Module Label → ℕ → Type 0
IsGlobal m g = g < length (global_types m)

abbrev pub IsMemory : Module Label → Type 0
IsMemory m = IsSome (memory_among m.imports m.memory)

-- a local of a defined function behind its parameters
pub record IsLocal (m : Module Label) (f i : ℕ) : Type 0 where
  pub defined : imported_count m ≤ f
  pub entry : ℕ
  pub there : slice_get (function_entries m) f ≡ Some entry
  pub behind : length (type_named m entry).params ≤ i
  pub within : i < length (locals_named m f)

-- the function of a subject, where it is there
abbrev pub trusted_function : Module Label → Subject → Option ℕ
trusted_function m s = tested (λ f. nat_lt f (length (function_entries m))) (function_of m s)

-- the site of a function, a global or the memory is there
abbrev pub IsAround : Module Label → SiteName → Type 0
IsAround m (Param f i) = IsParam m f i
IsAround m (Result f) = IsResult m f
IsAround m (GlobalOf g) = IsGlobal m g
IsAround m site.Memory = IsMemory m
IsAround m (Local f i) = IsLocal m f i
IsAround m (Block f at) = ⊥
IsAround m (Op f at) = ⊥
IsAround m (Push f at) = ⊥
IsAround m (IParam f at i) = ⊥
IsAround m (IResult f at) = ⊥
