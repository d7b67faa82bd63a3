-- Small sets, launched by computing.
use Rattle.std.proofs.Common.{◌≡◌, ℕ, Bool, true, false, List, [], ◌∷◌, map, take, Some, None, refl}
use Rattle.ctw_ops.specs.declared.types.Label.{Label}
use Rattle.ctw_ops.specs.declared.types.Label.TheVariants.{Public, Secret}
use Rattle.ctw_ops.specs.declared.types.Width.TheVariants.{W32}
use Rattle.ctw_ops.specs.declared.types.Trust.TheVariants.{Untrusted}
use Rattle.ctw_ops.specs.declared.types.Limits.{Limits}
use Rattle.ctw_ops.specs.declared.types.ExternTag.{ExternTag}
use Rattle.ctw_ops.specs.declared.types.ExternTag.TheVariants as tag
use Rattle.ctw_ops.specs.declared.numeric.Profile.TheVariants.{Divide, Multiply}
use Rattle.ctw_ops.specs.Types.{ValueType, VariableType, value_type}
use Rattle.ctw_ops.specs.Code.{Code, Const, GlobalSet, Unreachable, straight}
use Rattle.ctw_ops.specs.Tree as Tree
use Rattle.ctw_ops.specs.Tree.{under, Module, TypeEntry, Import, Function, Export, Element, Segment, Constant, Number, ValueOf, Extern, ImportedFunction, ImportedTable, ImportedMemory, ImportedGlobal}
use Rattle.ctw_script.specs.declared.trap.TrapCode.TheVariants as trap
use Rattle.ctw_semantics.specs.Stores.{Storage, written_at}
use Rattle.ctw_ops.specs.Limits.{most_weight, most_steps}
use Rattle.ctw_link.specs.Sets.{NamedModule, ModuleSet}
use Rattle.ctw_link.specs.Numbers.{linked}
use Rattle.ctw_link.specs.SetInstances.{set_instances}
use Rattle.ctw_launch.specs.Launched.{allocated, loaded, outside, Started, Stands, Fails, SegmentOutside, OfElements, OfData, StartTrapped, StartUnfinished, launched_within, launched}

abbrev i32 : ValueType Label
i32 = value_type W32 Public

abbrev constant : VariableType Label
constant = record { mutable = false; value = i32 }

abbrev variable : VariableType Label
variable = record { mutable = true; value = i32 }

abbrev sized : ℕ → Limits
sized n = record { min = n; max = None }

abbrev type : TypeEntry Label
type = record { base = None; type = record { trust = Untrusted; params = []; result = None } }

abbrev function : Code Label → Function Label
function code = record { type = 0; locals = []; body = code }

abbrev global : VariableType Label → Constant Label → Tree.Global Label
global t c = record { type = t; init = c }

abbrev exported : ℕ → ExternTag → ℕ → Export
exported name kind index = record { name = name ∷ []; kind = kind; index = index }

abbrev imported : ℕ → Extern Label → Import Label
imported name kind = record { module_name = 97 ∷ []; name = name ∷ []; kind = kind }

-- "a" has the constant 1, a variable, a table of two with its function in front, a page of secret bytes, and sets its variable to 1
abbrev first : Code Label → NamedModule
first code = record {
  name = 97 ∷ [];
  tree = record {
    ct = true;
    profile = Divide;
    types = type ∷ [];
    imports = [];
    functions = function code ∷ [];
    table = Some (sized 2);
    memory = Some (record { tag = Secret; limits = sized 1 });
    globals = global constant (Number i32 1) ∷ global variable (Number i32 0) ∷ [];
    exports = exported 103 tag.Global 0 ∷ exported 107 tag.Global 1 ∷ exported 116 tag.Table 0 ∷ exported 109 tag.Memory 0 ∷ [];
    start = Some 0;
    elements = record { table = 0; offset = Number i32 0; functions = 0 ∷ [] } ∷ [];
    segments = record { memory = 0; offset = Number i32 1; bytes = 7 ∷ 8 ∷ [] } ∷ [];
    customs = [];
  };
}

-- "b" imports all of it, has a variable that begins as the constant, puts its function behind the other, and sets the variable of "a" to 2
abbrev second : List ℕ → ℕ → List ℕ → NamedModule
second functions at bytes = record {
  name = 98 ∷ [];
  tree = record {
    ct = true;
    profile = Divide;
    types = type ∷ [];
    imports = imported 103 (ImportedGlobal constant) ∷ imported 116 (ImportedTable (sized 2)) ∷ imported 107 (ImportedGlobal variable) ∷ imported 109 (ImportedMemory (record { tag = Secret; limits = sized 1 })) ∷ [];
    functions = function (straight (Const W32 Public 2 ∷ GlobalSet 1 ∷ [])) ∷ [];
    table = None;
    memory = None;
    globals = global variable (ValueOf 0) ∷ [];
    exports = [];
    start = Some 0;
    elements = record { table = 0; offset = ValueOf 0; functions = functions } ∷ [];
    segments = record { memory = 0; offset = Number i32 at; bytes = bytes } ∷ [];
    customs = [];
  };
}

abbrev sets : ModuleSet
sets = first (straight (Const W32 Public 1 ∷ GlobalSet 1 ∷ [])) ∷ second (0 ∷ []) 2 (9 ∷ []) ∷ []

where_globals_lead : map (λ fn. fn.part.globals) (set_instances sets) ≡ (0 ∷ 1 ∷ []) ∷ (0 ∷ 1 ∷ 2 ∷ []) ∷ []
where_globals_lead = refl

where_tables_lead : map (λ fn. fn.part.table) (set_instances sets) ≡ Some 0 ∷ Some 0 ∷ []
where_tables_lead = refl

loaded_globals : map (λ g. g.value.number) (loaded sets).globals ≡ 1 ∷ 0 ∷ 1 ∷ []
loaded_globals = refl

loaded_tables : (loaded sets).tables ≡ record { limits = sized 2; entries = Some 0 ∷ Some 1 ∷ [] } ∷ []
unfolding written_at
loaded_tables = refl

-- a later part writes over what an earlier one wrote
loaded_bytes : map (λ m. take 4 m.bytes) (loaded sets).memories ≡ (0 ∷ 7 ∷ 9 ∷ 0 ∷ []) ∷ []
unfolding written_at
loaded_bytes = refl

all_inside : outside (allocated (linked sets)) (linked sets) ≡ None
all_inside = refl

-- the start functions run in order
abbrev globals_of : Storage → List ℕ
globals_of s = map (λ g. g.value.number) s.globals

abbrev outcome : ModuleSet → List ℕ
outcome set = of (launched set)
  where
    of : Started → List ℕ
    of (Stands s) = globals_of s
    of (Fails f) = []

last_start : outcome sets ≡ 1 ∷ 2 ∷ 1 ∷ []
unfolding launched_within most_steps most_weight written_at
last_start = refl

-- two functions from entry 1 on pass the end of a table of two
past_the_table : launched (first (straight []) ∷ second (0 ∷ 0 ∷ []) 2 [] ∷ []) ≡ Fails (SegmentOutside (98 ∷ []) OfElements 0)
unfolding launched_within
past_the_table = refl

-- nothing fits at the end of a memory, and not past it
at_the_end : outside (allocated (linked (first (straight []) ∷ second [] 65536 [] ∷ []))) (linked (first (straight []) ∷ second [] 65536 [] ∷ [])) ≡ None
at_the_end = refl

past_the_end : launched (first (straight []) ∷ second [] 65537 [] ∷ []) ≡ Fails (SegmentOutside (98 ∷ []) OfData 0)
unfolding launched_within
past_the_end = refl

trapped_start : launched (first (straight (Unreachable ∷ [])) ∷ []) ≡ Fails (StartTrapped (97 ∷ []) trap.Unreachable)
unfolding launched_within most_steps most_weight written_at
trapped_start = refl

-- ---- how many steps a start function may take

-- two instructions and the end of the body are three steps; a start function that ends with its last step has ended
abbrev short : ModuleSet
short = first (straight (Const W32 Public 1 ∷ GlobalSet 1 ∷ [])) ∷ []

abbrev stands : Started → Bool
stands (Stands s) = true
stands (Fails f) = false

two_steps : launched_within 2 short ≡ Fails (StartUnfinished (97 ∷ []))
unfolding launched_within most_weight written_at
two_steps = refl

three_steps : stands (launched_within 3 short) ≡ true
unfolding launched_within most_weight written_at
three_steps = refl

-- the first part's start function is unfinished before the second part's is called
unfinished_before_trapped : launched_within 2 (first (straight (Const W32 Public 1 ∷ GlobalSet 1 ∷ [])) ∷ second [] 0 [] ∷ []) ≡ Fails (StartUnfinished (97 ∷ []))
unfolding launched_within most_weight written_at
unfinished_before_trapped = refl

-- a segment outside comes before each start function
outside_before_trapped : launched_within 9 (first (straight (Unreachable ∷ [])) ∷ second [] 65537 [] ∷ []) ≡ Fails (SegmentOutside (98 ∷ []) OfData 0)
unfolding launched_within
outside_before_trapped = refl

-- elements come before data, and an earlier part before both
elements_before_data : launched_within 9 (first (straight []) ∷ second (0 ∷ 0 ∷ []) 65537 [] ∷ []) ≡ Fails (SegmentOutside (98 ∷ []) OfElements 0)
unfolding launched_within
elements_before_data = refl

-- ---- where indexes and store numbers differ

where_functions_lead : map (λ fn. fn.part.functions) (set_instances sets) ≡ (0 ∷ []) ∷ (1 ∷ []) ∷ []
where_functions_lead = refl

where_memories_lead : map (λ fn. fn.part.memory) (set_instances sets) ≡ Some 0 ∷ Some 0 ∷ []
where_memories_lead = refl

under_their_profiles : map (λ fn. fn.part.profile) (set_instances (map (λ (p : NamedModule). record p { tree = under Multiply p.tree }) sets)) ≡ Multiply ∷ Multiply ∷ []
under_their_profiles = refl

-- two parts that share nothing: index 0 of the second leads to number 1 of functions, tables and memories
abbrev apart : ModuleSet
apart = first (straight []) ∷ record (first (straight [])) { name = 98 ∷ [] } ∷ []

apart_functions : map (λ fn. fn.part.functions) (set_instances apart) ≡ (0 ∷ []) ∷ (1 ∷ []) ∷ []
apart_functions = refl

apart_globals : map (λ fn. fn.part.globals) (set_instances apart) ≡ (0 ∷ 1 ∷ []) ∷ (2 ∷ 3 ∷ []) ∷ []
apart_globals = refl

apart_memory : map (λ fn. fn.part.memory) (set_instances apart) ≡ Some 0 ∷ Some 1 ∷ []
apart_memory = refl

apart_table : map (λ fn. fn.part.table) (set_instances apart) ≡ Some 0 ∷ Some 1 ∷ []
apart_table = refl

apart_bytes : map (λ m. take 4 m.bytes) (loaded apart).memories ≡ (0 ∷ 7 ∷ 8 ∷ 0 ∷ []) ∷ (0 ∷ 7 ∷ 8 ∷ 0 ∷ []) ∷ []
unfolding written_at
apart_bytes = refl

apart_tables : map (λ t. t.entries) (loaded apart).tables ≡ (Some 0 ∷ None ∷ []) ∷ (Some 1 ∷ None ∷ []) ∷ []
unfolding written_at
apart_tables = refl
