-- Small modules, by computation.
use Rattle.std.proofs.Common.{◌≡◌, ℕ, true, false, List, [], ◌∷◌, Option, Some, None, refl}
use Rattle.std.specs.Prelude.{◌==◌, ◌||◌, if◌then◌else◌, map}
use Rattle.ctw_ops.specs.Numeric as Numerics
use Rattle.ctw_ops.specs.declared.types.Width.TheVariants.{W32}
use Rattle.ctw_ops.specs.declared.numeric.Profile.TheVariants.{Divide}
use Rattle.ctw_ops.specs.declared.types.Label.{Label}
use Rattle.ctw_ops.specs.declared.types.Label.TheVariants.{Public, Secret}
use Rattle.ctw_ops.specs.declared.types.Trust.TheVariants.{Untrusted, Trusted}
use Rattle.ctw_ops.specs.Types.{ValueType, MemoryType, value_type}
use Rattle.ctw_ops.specs.Code.{Code, straight, Stop, Then, Loop, If, Block, LocalGet, LocalSet, LocalTee, Load, Numeric, Const, Return, CallIndirect, Select, Unreachable, Drop, BrIf, Declassify}
use Rattle.ctw_ops.specs.Tree.{Module, TypeEntry, Function, Global, Constant, Number, ValueOf, ImportedGlobal}
use Rattle.ctw_ops.specs.Erasure.{erase_module}
use Rattle.ctw_labels.specs.Names.{SiteName, Param, Result, GlobalOf, MemoryOf, OpOf, PushOf, IParam, IResult, BlockOf}
use Rattle.ctw_labels.specs.Links.{Link, Must, at_tag}
use Rattle.ctw_labels.specs.SitedModule.{sites}
use Rattle.ctw_labels.specs.ModuleLinks.{links, musts}
use Rattle.ctw_labels.specs.Placed.{placed}
use Rattle.ctw_labels.specs.Points.{Points, no_points}

names : Module Label → List SiteName
names m = map (λ s. s.name) (sites m)

i32 : ValueType Label
i32 = value_type W32 Public

s32 : ValueType Label
s32 = value_type W32 Secret

entry : Option ℕ → List (ValueType Label) → Option (ValueType Label) → TypeEntry Label
entry base params result = record { base = base; type = record { trust = Untrusted; params = params; result = result } }

some_pages : Label → MemoryType Label
some_pages l = record { tag = l; limits = record { min = 1; max = None } }

-- a plain module with no more than this
plain : List (TypeEntry Label) → List (Function Label) → Option (MemoryType Label) → Module Label
plain types functions memory = record {
  ct = false;
  profile = Divide;
  types = types;
  imports = [];
  functions = functions;
  table = None;
  memory = memory;
  globals = [];
  exports = [];
  start = None;
  elements = [];
  segments = [];
  customs = [];
}

function : ℕ → List (ValueType Label) → Code Label → Function Label
function type locals body = record { type = type; locals = locals; body = body }

link : ℕ → ℕ → ℕ → Link
link a b r = record { from = a; to = b; rule = r }

must : ℕ → ℕ → Must
must a r = record { site = a; rule = r }

-- ---- three functions that give their parameter back

get : Function Label
get = function 0 [] (Then (LocalGet 0) Stop)

three : Module Label
three = plain (entry None (i32 ∷ []) (Some i32) ∷ []) (get ∷ get ∷ get ∷ []) None

three_sites : names three ≡ Param 0 0 ∷ Result 0 ∷ Param 1 0 ∷ Result 1 ∷ Param 2 0 ∷ Result 2 ∷ PushOf 0 0 ∷ PushOf 1 0 ∷ PushOf 2 0 ∷ []
unfolding names three plain entry get function i32
three_sites = refl

three_links : links three no_points ≡ link 0 6 1 ∷ link 2 7 1 ∷ link 4 8 1 ∷ link 6 1 10 ∷ link 1 6 10 ∷ link 7 3 10 ∷ link 3 7 10 ∷ link 8 5 10 ∷ link 5 8 10 ∷ []
unfolding three plain entry get function i32 link
three_links = refl

three_musts : musts three no_points ≡ []
unfolding three plain entry get function i32 link
three_musts = refl

-- sites 2, 3 and 7 are secret
second_secret : ℕ → Label
second_secret n = if (n == 2 || n == 3) || n == 7 then Secret else Public

three_placed : Module Label
three_placed = record (plain (entry None (i32 ∷ []) (Some i32) ∷ entry (Some 0) (s32 ∷ []) (Some s32) ∷ []) (get ∷ function 1 [] (Then (LocalGet 0) Stop) ∷ get ∷ []) None) { ct = true }

three_are_placed : placed (at_tag second_secret) three no_points ≡ three_placed
unfolding three three_placed plain entry get function i32 s32 second_secret
three_are_placed = refl

-- erasing undoes it
three_are_erased : erase_module three_placed ≡ three
unfolding three three_placed plain entry get function i32 s32
three_are_erased = refl

-- ---- two bytes of memory are compared, with an early return: a secret memory has no labelling

compare : Function Label
compare = function 0 [] (Then (LocalGet 0) (Then (Load W32 Public 1 false 0 0) (Then (LocalGet 1) (Then (Load W32 Public 1 false 0 0) (Then (Numeric 0x47 Public) (If None (Then (Const W32 Public 0) (Then Return Stop)) (Then (Const W32 Public 1) Stop)))))))

early : Module Label
early = plain (entry None (i32 ∷ i32 ∷ []) (Some i32) ∷ []) (compare ∷ []) (Some (some_pages Public))

early_sites : names early ≡ Param 0 0 ∷ Param 0 1 ∷ Result 0 ∷ MemoryOf ∷ PushOf 0 0 ∷ PushOf 0 1 ∷ PushOf 0 2 ∷ PushOf 0 3 ∷ OpOf 0 4 ∷ PushOf 0 4 ∷ PushOf 0 6 ∷ PushOf 0 9 ∷ []
unfolding names early plain entry compare function i32 some_pages Numerics.leaks Numerics.is_timed Numerics.is_product Numerics.num_sig_of
early_sites = refl

early_links : links early no_points ≡ link 0 4 1 ∷ link 3 5 1 ∷ link 1 6 1 ∷ link 3 7 1 ∷ link 8 9 1 ∷ link 7 8 2 ∷ link 8 7 2 ∷ link 5 8 2 ∷ link 8 5 2 ∷ link 10 2 10 ∷ link 2 10 10 ∷ link 11 2 10 ∷ link 2 11 10 ∷ []
unfolding early plain entry compare function i32 some_pages link Numerics.leaks Numerics.is_timed Numerics.is_product Numerics.num_sig_of
early_links = refl

early_musts : musts early no_points ≡ must 4 15 ∷ must 6 15 ∷ must 9 13 ∷ []
unfolding early plain entry compare function i32 some_pages must Numerics.leaks Numerics.is_timed Numerics.is_product Numerics.num_sig_of
early_musts = refl

-- ---- a secret address

load : Module Label
load = plain (entry None (i32 ∷ []) (Some i32) ∷ []) (function 0 [] (straight (LocalGet 0 ∷ Load W32 Public 4 false 2 0 ∷ [])) ∷ []) (Some (some_pages Public))

load_sites : names load ≡ Param 0 0 ∷ Result 0 ∷ MemoryOf ∷ PushOf 0 0 ∷ PushOf 0 1 ∷ []
unfolding names load plain entry function i32 some_pages
load_sites = refl

load_musts : musts load no_points ≡ must 3 15 ∷ []
unfolding load plain entry function i32 some_pages must
load_musts = refl

load_links : links load no_points ≡ link 0 3 1 ∷ link 2 4 1 ∷ link 4 1 10 ∷ link 1 4 10 ∷ []
unfolding load plain entry function i32 some_pages link
load_links = refl

-- ---- bytes compared in time that doesn't depend on them

equal : Function Label
equal = function 0 (i32 ∷ i32 ∷ []) (Loop None (straight (LocalGet 3 ∷ LocalGet 0 ∷ LocalGet 2 ∷ Numeric 0x6A Public ∷ Load W32 Public 1 false 0 0 ∷ LocalGet 1 ∷ LocalGet 2 ∷ Numeric 0x6A Public ∷ Load W32 Public 1 false 0 0 ∷ Numeric 0x73 Public ∷ Numeric 0x72 Public ∷ LocalSet 3
    ∷ LocalGet 2 ∷ Const W32 Public 1 ∷ Numeric 0x6A Public ∷ LocalTee 2 ∷ Const W32 Public 32 ∷ Numeric 0x49 Public ∷ BrIf 0 ∷ [])) (straight (LocalGet 3 ∷ Numeric 0x45 Public ∷ [])))

eq : Module Label
eq = plain (entry None (i32 ∷ i32 ∷ []) (Some i32) ∷ []) (equal ∷ []) (Some (some_pages Public))

eq_musts : musts eq no_points ≡ must 10 15 ∷ must 15 15 ∷ must 28 13 ∷ []
unfolding eq equal plain entry function i32 some_pages must Numerics.leaks Numerics.is_timed Numerics.is_product Numerics.num_sig_of
eq_musts = refl

-- ---- a block with a result, a branch that carries it, a dead select, an indirect call, a table user

nested : Function Label
nested = function 0 [] (Block (Some i32) (straight (LocalGet 0 ∷ LocalGet 0 ∷ LocalGet 0 ∷ BrIf 0 ∷ CallIndirect 0 ∷ Unreachable ∷ Select Public ∷ Drop ∷ [])) Stop)

dispatch : Module Label
dispatch = record (plain (entry None (i32 ∷ []) (Some i32) ∷ []) (nested ∷ []) None) { table = Some (record { min = 1; max = None }); elements = record { table = 0; offset = Number i32 0; functions = 0 ∷ [] } ∷ [] }

dispatch_sites : names dispatch ≡ Param 0 0 ∷ Result 0 ∷ BlockOf 0 0 ∷ PushOf 0 0 ∷ PushOf 0 1 ∷ PushOf 0 2 ∷ PushOf 0 3 ∷ PushOf 0 4 ∷ IParam 0 5 0 ∷ IResult 0 5 ∷ PushOf 0 5 ∷ OpOf 0 7 ∷ []
unfolding names dispatch plain entry nested function i32
dispatch_sites = refl

dispatch_links : links dispatch no_points ≡ link 2 3 1 ∷ link 0 4 1 ∷ link 0 5 1 ∷ link 0 6 1 ∷ link 2 7 1 ∷ link 9 10 1 ∷ link 5 2 8 ∷ link 2 5 8 ∷ link 4 8 7 ∷ link 8 4 7 ∷ link 3 1 10 ∷ link 1 3 10
    ∷ link 0 0 11 ∷ link 0 0 11 ∷ link 1 1 11 ∷ link 1 1 11 ∷ link 8 0 11 ∷ link 0 8 11 ∷ link 9 1 11 ∷ link 1 9 11 ∷ []
unfolding dispatch plain entry nested function i32 link
dispatch_links = refl

dispatch_musts : musts dispatch no_points ≡ must 6 13 ∷ must 7 14 ∷ []
unfolding dispatch plain entry nested function i32 must
dispatch_musts = refl

-- ---- an imported constant global, one that begins as it, and an offset

global_of : Constant Label → Global Label
global_of c = record { type = record { mutable = false; value = i32 }; init = c }

begins : Module Label
begins = record (plain [] [] None) {
  imports = record { module_name = []; name = []; kind = ImportedGlobal (record { mutable = false; value = i32 }) } ∷ [];
  globals = global_of (ValueOf 0) ∷ global_of (Number i32 7) ∷ [];
  table = Some (record { min = 1; max = None });
  elements = record { table = 0; offset = ValueOf 2; functions = [] } ∷ [];
}

begins_sites : names begins ≡ GlobalOf 0 ∷ GlobalOf 1 ∷ GlobalOf 2 ∷ []
unfolding names begins plain global_of i32
begins_sites = refl

begins_links : links begins no_points ≡ link 0 1 12 ∷ link 1 0 12 ∷ []
unfolding begins plain global_of i32 link
begins_links = refl

begins_musts : musts begins no_points ≡ must 2 18 ∷ []
unfolding begins plain global_of i32 must
begins_musts = refl

-- ---- a trusted function that releases a bit of its secret parameter

bit : Module Label
bit = plain (entry None (i32 ∷ []) (Some i32) ∷ []) (function 0 [] (straight (LocalGet 0 ∷ Const W32 Public 1 ∷ Numeric 0x71 Public ∷ [])) ∷ []) None

one_release : Points
one_release = record { trusted = 0 ∷ []; releases = record { func = 0; at = 2 } ∷ [] }

bit_sites : names bit ≡ Param 0 0 ∷ Result 0 ∷ PushOf 0 0 ∷ PushOf 0 1 ∷ OpOf 0 2 ∷ PushOf 0 2 ∷ []
unfolding names bit plain entry function i32 Numerics.leaks Numerics.is_timed Numerics.is_product Numerics.num_sig_of
bit_sites = refl

-- the push that is released has no link from its operation
bit_links : links bit one_release ≡ link 0 2 1 ∷ link 3 4 2 ∷ link 4 3 2 ∷ link 2 4 2 ∷ link 4 2 2 ∷ link 5 1 10 ∷ link 1 5 10 ∷ []
unfolding bit one_release plain entry function i32 link Numerics.leaks Numerics.is_timed Numerics.is_product Numerics.num_sig_of
bit_links = refl

bit_links_unreleased : links bit no_points ≡ link 0 2 1 ∷ link 4 5 1 ∷ link 3 4 2 ∷ link 4 3 2 ∷ link 2 4 2 ∷ link 4 2 2 ∷ link 5 1 10 ∷ link 1 5 10 ∷ []
unfolding bit plain entry function i32 link Numerics.leaks Numerics.is_timed Numerics.is_product Numerics.num_sig_of
bit_links_unreleased = refl

-- sites 0, 2, 3 and 4 are secret
operands_secret : ℕ → Label
operands_secret n = if (n == 0 || n == 2) || (n == 3 || n == 4) then Secret else Public

bit_placed : Module Label
bit_placed = record (plain (entry None (i32 ∷ []) (Some i32) ∷ record { base = Some 0; type = record { trust = Trusted; params = s32 ∷ []; result = Some i32 } } ∷ [])
    (function 1 [] (straight (LocalGet 0 ∷ Const W32 Secret 1 ∷ Numeric 0x71 Secret ∷ Declassify W32 ∷ [])) ∷ []) None) { ct = true }

bit_is_placed : placed (at_tag operands_secret) bit one_release ≡ bit_placed
unfolding bit bit_placed one_release plain entry function i32 s32 operands_secret Numerics.leaks Numerics.is_timed Numerics.is_product Numerics.num_sig_of
bit_is_placed = refl
