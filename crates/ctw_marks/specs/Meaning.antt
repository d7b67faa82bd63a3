-- What a line of marks means in a module: which site it names, which function it trusts, and where that releases.
use Rattle.std.specs.Prelude.{◌≡◌, ℕ, ◌<◌, List, [], ◌∷◌, length, Option, Some, None, option_map, Contains}
use Rattle.ctw_ops.specs.declared.types.Label.{Label}
use Rattle.ctw_ops.specs.declared.types.ExternTag.{ExternTag}
use Rattle.ctw_ops.specs.declared.types.ExternTag.TheVariants.{Func, Table, Memory, Global}
use Rattle.ctw_ops.specs.Segments.{and_then}
use Rattle.ctw_ops.specs.Tree.{Module, function_entries}
use Rattle.ctw_lex.specs.Lexeme.{Lexeme}
use Rattle.ctw_module.specs.Lookup.{export_in}
use Rattle.ctw_labels.specs.declared.name.SiteName.{SiteName}
use Rattle.ctw_labels.specs.declared.name.SiteName.TheVariants as site
use Rattle.ctw_labels.specs.Names.{Site}
use Rattle.ctw_labels.specs.Order.{name_at}
use Rattle.ctw_labels.specs.SitedModule.{sites}
use Rattle.ctw_marks.specs.declared.order.Subject.{Subject}
use Rattle.ctw_marks.specs.declared.order.Subject.TheVariants.{Number, Export}
use Rattle.ctw_marks.specs.declared.order.Spot.{Spot}
use Rattle.ctw_marks.specs.declared.order.Spot.TheVariants as spot
use Rattle.ctw_marks.specs.declared.order.Order.{Order}
use Rattle.ctw_marks.specs.declared.order.Order.TheVariants as order
use Rattle.ctw_marks.specs.Grammar.{IsOrder}

-- ---- what is named

abbrev pub func_of_kind : ExternTag → ℕ → Option ℕ
func_of_kind Func i = Some i
func_of_kind Table i = None
func_of_kind Memory i = None
func_of_kind Global i = None

abbrev pub global_of_kind : ExternTag → ℕ → Option ℕ
global_of_kind Global i = Some i
global_of_kind Func i = None
global_of_kind Table i = None
global_of_kind Memory i = None

-- the index that names a function: it is given, or that of the first export of a name, where that is a function
abbrev pub function_of : Module Label → Subject → Option ℕ
function_of m (Number i) = i
function_of m (Export name) = and_then (export_in name m.exports) (λ e. func_of_kind e.0 e.1)

abbrev pub global_of : Module Label → Subject → Option ℕ
global_of m (Number i) = i
global_of m (Export name) = and_then (export_in name m.exports) (λ e. global_of_kind e.0 e.1)

-- the name of a place
abbrev pub spot_name : Module Label → Spot → Option SiteName
spot_name m (spot.Param func i) = and_then (function_of m func) (λ f. option_map (λ k. site.Param f k) i)
spot_name m (spot.Result func) = option_map (λ f. site.Result f) (function_of m func)
spot_name m (spot.Local func i) = and_then (function_of m func) (λ f. option_map (λ k. site.Local f k) i)
spot_name m (spot.Global global) = option_map (λ g. site.GlobalOf g) (global_of m global)
spot_name m spot.Memory = Some site.Memory

-- ---- what is there

-- a site of this name is there
abbrev pub HasName : SiteName → List Site → Type 0
HasName name xs = (k : ℕ) × (name_at xs k ≡ Some name)

abbrev pub HasSite : Module Label → SiteName → Type 0
HasSite m name = HasName name (sites m)

-- the place has this site
abbrev pub IsAt : Module Label → Spot → SiteName → Type 0
IsAt m s name = (spot_name m s ≡ Some name) × HasSite m name

-- a function that is there
abbrev pub IsFunction : Module Label → Subject → ℕ → Type 0
IsFunction m s f = (function_of m s ≡ Some f) × (f < length (function_entries m))

-- an opcode of a function that pushes a value with a site
abbrev pub IsPush : Module Label → Subject → Option ℕ → ℕ → ℕ → Type 0
IsPush m s at f k = (function_of m s ≡ Some f) × (at ≡ Some k) × HasSite m (site.Push f k)

-- what a line asks for is there
abbrev pub IsPlaced : Module Label → Order → Type 0
IsPlaced m (order.Label l s) = (name : SiteName) × IsAt m s name
IsPlaced m (order.Trust s) = (f : ℕ) × IsFunction m s f
IsPlaced m (order.Release s at) = (f k : ℕ) × IsPush m s at f k

-- ---- trust

-- one of the lines makes the function a trusted one
abbrev pub IsTrusted : Module Label → List (List Lexeme) → ℕ → Type 0
IsTrusted m lines f =
    (line : List Lexeme) × Contains lines line × (s : Subject) × IsOrder line (order.Trust s) × IsFunction m s f

-- a function that releases is among these
abbrev pub IsCovered : Module Label → (ℕ → Type 0) → Order → Type 0
IsCovered m trusted (order.Label l s) = Unit {0}
IsCovered m trusted (order.Trust s) = Unit {0}
IsCovered m trusted (order.Release s at) = (f : ℕ) × (function_of m s ≡ Some f) × trusted f

-- ---- what is marked

abbrev pub named_label : Label → Option SiteName → List (SiteName × Label)
named_label l None = []
named_label l (Some name) = (name, l) ∷ []

abbrev pub labels_of : Module Label → Order → List (SiteName × Label)
labels_of m (order.Label l s) = named_label l (spot_name m s)
labels_of m (order.Trust s) = []
labels_of m (order.Release s at) = []
