-- Runs of small bodies by computing, with their steps and events.
use Rattle.std.proofs.Common.{◌≡◌, ℕ, zero, suc, ◌+◌, Bool, true, false, List, [], ◌∷◌, ◌++◌, replicate, Option, Some, None, refl, ap, ◌∙◌, arith, cond, nat_le, le-leb, nat_lt}
use Rattle.std.proofs.lemmas.Bool.{lt-leb}
use Rattle.ctw_ops.specs.declared.types.Label.{Label}
use Rattle.ctw_ops.specs.declared.types.Label.TheVariants.{Public, Secret}
use Rattle.ctw_ops.specs.declared.types.Width.TheVariants.{W32, W64}
use Rattle.ctw_ops.specs.declared.types.Trust.TheVariants.{Untrusted, Trusted}
use Rattle.ctw_ops.specs.Types.{ValueType, FunctionType, value_type}
use Rattle.ctw_ops.specs.declared.numeric.Profile.{Profile}
use Rattle.ctw_ops.specs.declared.numeric.Profile.TheVariants.{Divide, Multiply}
use Rattle.ctw_ops.specs.Numeric.{num_sig_of, is_timed, is_product, leaks}
use Rattle.ctw_ops.specs.Code.{Leaf, Unreachable, Br, BrIf, BrTable, Return, Call, CallIndirect, Drop, Select, LocalGet, LocalSet, LocalTee, GlobalGet, GlobalSet, Load, Store, MemorySize, MemoryGrow, Const, Numeric, Classify, Declassify, Code, Stop, Then, Block, Loop, If, IfElse, straight}
use Rattle.ctw_num.specs.Integers.{idiv_s, irem_s, truncated, remainder, signed, unsigned, bitwise, iand, ior, ixor}
use Rattle.ctw_num.specs.Values.{value1, unary32, unary64, value2, binary32, binary64, arithmetic32, arithmetic64, comparison32, division32}
use Rattle.ctw_script.specs.declared.trap.TrapCode.{TrapCode}
use Rattle.ctw_script.specs.declared.trap.TrapCode.TheVariants.{DivZero, DivOverflow, MemoryBounds, TableBounds, EmptyEntry, CallType, Exhausted}
use Rattle.ctw_script.specs.declared.event.Event.{Event}
use Rattle.ctw_script.specs.declared.event.Event.TheVariants as Events
use Rattle.ctw_semantics.specs.Values.{Value, value, i32}
use Rattle.ctw_semantics.specs.Stores.{Memory, Global, Table, Storage, fresh_memory, fresh_table, may_grow, number_at, written_at}
use Rattle.ctw_semantics.specs.Instances.{ModuleInstance, FunctionInstance, Functions}
use Rattle.ctw_ops.specs.Limits.{most_memory_pages, most_set_pages, most_weight}
use Rattle.ctw_semantics.specs.Activations.{Activation, weight}
use Rattle.ctw_semantics.specs.Machine.{begun}
use Rattle.ctw_semantics.specs.Answers as Answers
use Rattle.ctw_semantics.specs.Answers.{Goes}
use Rattle.ctw_semantics.specs.Seen.{seen_turned}
use Rattle.ctw_semantics.specs.Erased.{erase_functions, erase_activation}
use Rattle.ctw_ops.specs.Tree.{TypeEntry, ImportedFunction, ImportedGlobal, Number, ValueOf, Module}
use Rattle.ctw_ops.specs.declared.types.ExternTag.TheVariants as ExternTag
use Rattle.ctw_ops.specs.Erasure.{erase_entries, erase_module}
use Rattle.ctw_semantics.specs.Steps.{Left, Running, Finished, Trapped, Stuck, Stepped, Turned, then_turn, step, turn}

-- ---- short words

abbrev s32 : ValueType Label
s32 = value_type W32 Secret

-- one function, numbered 0, over memory 0 and table 0
abbrev part : ModuleInstance
part = record { profile = Divide; types = []; functions = 0 ∷ []; globals = []; memory = Some 0; table = Some 0 }

abbrev signature : List (ValueType Label) → Option (ValueType Label) → FunctionType Label
signature params result = record { trust = Untrusted; params = params; result = result }

abbrev function : FunctionType Label → Code Label → FunctionInstance
function type body = record { part = part; type = type; locals = []; body = body }

abbrev empty : Storage
empty = record { memories = []; globals = []; tables = [] }

-- a store with one memory of these bytes
abbrev over : Label → Option ℕ → List ℕ → Storage
over label max bytes = record { memories = record { type = record { tag = label; limits = record { min = 0; max = max } }; bytes = bytes } ∷ []; globals = []; tables = [] }

abbrev page : List ℕ
page = replicate 65536 0

-- so many steps ended with this value
abbrev done : Storage → ℕ → Option Value → List Event → List ℕ → Turned
done s steps v events releases = record { storage = s; left = Finished v; steps = steps; events = events; releases = releases }

abbrev trap : Storage → ℕ → TrapCode → List Event → Turned
trap s steps code events = record { storage = s; left = Trapped code; steps = steps; events = events; releases = [] }

abbrev stuck : Storage → ℕ → Turned
stuck s steps = record { storage = s; left = Stuck; steps = steps; events = []; releases = [] }

abbrev run : FunctionInstance → Storage → List Value → Turned
run fn s args = turn 1000000 (fn ∷ []) s (begun 0 fn args)

-- ---- a secret and a public number are added; the classify costs no step

abbrev adds : FunctionInstance
adds = function (signature (s32 ∷ i32 ∷ []) (Some s32)) (straight (LocalGet 0 ∷ LocalGet 1 ∷ Classify W32 ∷ Numeric 0x6A Secret ∷ []))

five_and_seven : run adds empty (value s32 5 ∷ value i32 7 ∷ []) ≡ done empty 4 (Some (value s32 12)) [] []
unfolding num_sig_of leaks is_timed is_product value2 binary32 arithmetic32 most_weight
five_and_seven = refl

sum_wraps : run adds empty (value s32 4294967295 ∷ value i32 7 ∷ []) ≡ done empty 4 (Some (value s32 6)) [] []
unfolding num_sig_of leaks is_timed is_product value2 binary32 arithmetic32 most_weight
sum_wraps = refl

-- ---- the bit of a secret is released

abbrev bit : FunctionInstance
bit = function (record { trust = Trusted; params = s32 ∷ []; result = Some i32 }) (straight (LocalGet 0 ∷ Const W32 Secret 1 ∷ Numeric 0x71 Secret ∷ Declassify W32 ∷ []))

bit_of_three : run bit empty (value s32 3 ∷ []) ≡ done empty 4 (Some (value i32 1)) [] (1 ∷ [])
unfolding num_sig_of leaks is_timed is_product value2 binary32 arithmetic32 iand bitwise most_weight
bit_of_three = refl

bit_of_four : run bit empty (value s32 4 ∷ []) ≡ done empty 4 (Some (value i32 0)) [] (0 ∷ [])
unfolding num_sig_of leaks is_timed is_product value2 binary32 arithmetic32 iand bitwise most_weight
bit_of_four = refl

-- ---- divisions show their operands, and trap with their event

abbrev divides : ℕ → FunctionInstance
divides op = function (signature (i32 ∷ i32 ∷ []) (Some i32)) (straight (LocalGet 0 ∷ LocalGet 1 ∷ Numeric op Public ∷ []))

remainder_of_the_least : run (divides 0x6F) empty (value i32 2147483648 ∷ value i32 4294967295 ∷ []) ≡ done empty 4 (Some (value i32 0)) (Events.Divide 2147483648 4294967295 ∷ []) []
unfolding num_sig_of leaks is_timed is_product value2 binary32 division32 irem_s remainder signed unsigned most_weight
remainder_of_the_least = refl

quotient_of_the_least : run (divides 0x6D) empty (value i32 2147483648 ∷ value i32 4294967295 ∷ []) ≡ trap empty 3 DivOverflow (Events.Divide 2147483648 4294967295 ∷ [])
unfolding num_sig_of leaks is_timed is_product value2 binary32 division32 idiv_s truncated signed unsigned most_weight
quotient_of_the_least = refl

quotient_by_zero : run (divides 0x6E) empty (value i32 7 ∷ value i32 0 ∷ []) ≡ trap empty 3 DivZero (Events.Divide 7 0 ∷ [])
unfolding num_sig_of leaks is_timed is_product value2 binary32 division32 most_weight
quotient_by_zero = refl

secret_quotient_is_stuck : run (function (signature (s32 ∷ s32 ∷ []) (Some s32)) (straight (LocalGet 0 ∷ LocalGet 1 ∷ Numeric 0x6E Secret ∷ []))) empty (value s32 7 ∷ value s32 2 ∷ []) ≡ stuck empty 3
unfolding num_sig_of leaks is_timed is_product value2 binary32 division32 most_weight
secret_quotient_is_stuck = refl

-- ---- loads: the last word of a page, one past it, and an address above 2^32

abbrev loads : ℕ → FunctionInstance
loads offset = function (signature (i32 ∷ []) (Some i32)) (straight (LocalGet 0 ∷ Load W32 Public 4 false 2 offset ∷ []))

last_word : run (loads 0) (over Public None page) (value i32 65532 ∷ []) ≡ done (over Public None page) 3 (Some (value i32 0)) (Events.Load 0 65532 4 ∷ []) []
unfolding most_weight number_at
last_word = refl

past_the_page : run (loads 0) (over Public None page) (value i32 65533 ∷ []) ≡ trap (over Public None page) 2 MemoryBounds (Events.Load 0 65533 4 ∷ [])
unfolding most_weight number_at
past_the_page = refl

past_all_memories : run (loads 4294967295) (over Public None page) (value i32 4294967295 ∷ []) ≡ trap (over Public None page) 2 MemoryBounds (Events.Load 0 8589934590 4 ∷ [])
unfolding most_weight number_at
past_all_memories = refl

-- ---- a load carries the sign on; a store writes the lowest byte first

abbrev small_loads : ℕ → Bool → FunctionInstance
small_loads count signed = function (signature [] (Some (value_type W64 Public))) (straight (Const W32 Public 1 ∷ Load W64 Public count signed 0 0 ∷ []))

abbrev four : Storage
four = over Public None (1 ∷ 254 ∷ 255 ∷ 7 ∷ [])

two_bytes_signed : run (small_loads 2 true) four [] ≡ done four 3 (Some (value (value_type W64 Public) 18446744073709551614)) (Events.Load 0 1 2 ∷ []) []
unfolding most_weight number_at signed unsigned
two_bytes_signed = refl

two_bytes_unsigned : run (small_loads 2 false) four [] ≡ done four 3 (Some (value (value_type W64 Public) 65534)) (Events.Load 0 1 2 ∷ []) []
unfolding most_weight number_at signed unsigned
two_bytes_unsigned = refl

abbrev stores : FunctionInstance
stores = function (signature (i32 ∷ []) None) (straight (Const W32 Public 1 ∷ LocalGet 0 ∷ Store W32 Public 2 0 0 ∷ []))

low_byte_first : run stores four (value i32 66051 ∷ []) ≡ done (over Public None (1 ∷ 3 ∷ 2 ∷ 7 ∷ [])) 4 None (Events.Store 0 1 2 ∷ []) []
unfolding most_weight written_at
low_byte_first = refl

-- ---- growth of a secret memory of one page to at most two

abbrev grows : FunctionInstance
grows = function (signature (i32 ∷ []) (Some i32)) (straight (LocalGet 0 ∷ MemoryGrow ∷ []))

abbrev two_pages : Storage
two_pages = over Secret (Some 2) (page ++ page)

grows_once : run grows (over Secret (Some 2) page) (value i32 1 ∷ []) ≡ done two_pages 3 (Some (value i32 1)) (Events.Grow 1 ∷ []) []
unfolding most_weight may_grow most_memory_pages most_set_pages
grows_once = refl

grows_no_more : run grows two_pages (value i32 1 ∷ []) ≡ done two_pages 3 (Some (value i32 4294967295)) (Events.Grow 1 ∷ []) []
unfolding most_weight may_grow most_memory_pages most_set_pages
grows_no_more = refl

grows_by_nothing : run grows two_pages (value i32 0 ∷ []) ≡ done two_pages 3 (Some (value i32 2)) (Events.Grow 0 ∷ []) []
unfolding most_weight may_grow most_memory_pages most_set_pages
grows_by_nothing = refl

-- ---- two calls take turns over one memory

abbrev writes : FunctionInstance
writes = function (signature (i32 ∷ []) None) (straight (Const W32 Public 0 ∷ LocalGet 0 ∷ Store W32 Public 1 0 0 ∷ Const W32 Public 1 ∷ LocalGet 0 ∷ Store W32 Public 1 0 0 ∷ []))

abbrev bytes : List ℕ → Storage
bytes two = over Public None two

-- what goes on after a turn
abbrev kept : Left → Activation
kept (Running a) = a
kept _ = []

abbrev first_turn : Turned
first_turn = turn 3 (writes ∷ []) (bytes (0 ∷ 0 ∷ [])) (begun 0 writes (value i32 5 ∷ []))

abbrev other_turn : Turned
other_turn = turn 1 (writes ∷ []) first_turn.storage (begun 0 writes (value i32 9 ∷ []))

abbrev other_again : Turned
other_again = turn 5 (writes ∷ []) other_turn.storage (kept other_turn.left)

abbrev no_turn : Turned
no_turn = turn 0 (writes ∷ []) other_again.storage (kept first_turn.left)

abbrev last_turn : Turned
last_turn = turn 1000000 (writes ∷ []) no_turn.storage (kept no_turn.left)

turns_of_two_calls :
    ((first_turn.steps ≡ 3) × (first_turn.events ≡ Events.Store 0 0 1 ∷ []) × (first_turn.storage ≡ bytes (5 ∷ 0 ∷ [])))
    × ((other_turn.steps ≡ 1) × (other_turn.events ≡ []))
    × ((other_again.steps ≡ 5) × (other_again.events ≡ Events.Store 0 0 1 ∷ Events.Store 0 1 1 ∷ []) × (other_again.storage ≡ bytes (9 ∷ 9 ∷ [])))
    × ((no_turn.steps ≡ 0) × (no_turn.events ≡ []))
    × (last_turn ≡ done (bytes (9 ∷ 5 ∷ [])) 4 None (Events.Store 0 1 1 ∷ []) [])
unfolding most_weight written_at
turns_of_two_calls = ((refl, refl, refl), (refl, refl), (refl, refl, refl), (refl, refl), refl)

-- ---- branches

abbrev of_i32 : Code Label → FunctionInstance
of_i32 body = function (signature (i32 ∷ []) (Some i32)) body

abbrev seven : Leaf Label
seven = Const W32 Public 7

-- an `if` takes its operand, opens a block and shows which arm it takes; leaving the arm is a step
abbrev chooses : FunctionInstance
chooses = of_i32 (Then (LocalGet 0) (IfElse (Some i32) (straight (seven ∷ [])) (straight (Const W32 Public 8 ∷ [])) Stop))

takes_the_arm : run chooses empty (value i32 3 ∷ []) ≡ done empty 5 (Some (value i32 7)) (Events.Branch true ∷ []) []
unfolding most_weight
takes_the_arm = refl

takes_the_other : run chooses empty (value i32 0 ∷ []) ≡ done empty 5 (Some (value i32 8)) (Events.Branch false ∷ []) []
unfolding most_weight
takes_the_other = refl

-- an `if` without `else` has an empty other arm, which is left like any
skips_the_arm : run (of_i32 (Then (LocalGet 0) (If None (straight (Unreachable ∷ [])) (straight (seven ∷ []))))) empty (value i32 0 ∷ []) ≡ done empty 5 (Some (value i32 7)) (Events.Branch false ∷ []) []
unfolding most_weight
skips_the_arm = refl

-- a branch out of a block goes on behind it, keeps the value that it carries and drops the operands below; the end isn't counted
branches_out : run (of_i32 (Block (Some i32) (straight (LocalGet 0 ∷ seven ∷ LocalGet 0 ∷ BrIf 0 ∷ Unreachable ∷ [])) Stop)) empty (value i32 2 ∷ []) ≡ done empty 6 (Some (value i32 7)) (Events.Branch true ∷ []) []
unfolding most_weight
branches_out = refl

-- a br_if that isn't taken wants its value too
not_taken_wants_its_value : run (of_i32 (Block (Some i32) (straight (LocalGet 0 ∷ BrIf 0 ∷ seven ∷ [])) Stop)) empty (value i32 0 ∷ []) ≡ stuck empty 3
unfolding most_weight
not_taken_wants_its_value = refl

secret_condition_is_stuck : run (function (signature (s32 ∷ []) None) (Block None (straight (LocalGet 0 ∷ BrIf 0 ∷ [])) Stop)) empty (value s32 1 ∷ []) ≡ stuck empty 3
unfolding most_weight
secret_condition_is_stuck = refl

-- a loop counts its local down: a branch to it goes on at the loop instruction
abbrev counts : FunctionInstance
counts = of_i32 (Loop None (straight (LocalGet 0 ∷ Const W32 Public 1 ∷ Numeric 0x6B Public ∷ LocalTee 0 ∷ BrIf 0 ∷ [])) (straight (LocalGet 0 ∷ [])))

counts_down : run counts empty (value i32 2 ∷ []) ≡ done empty 15 (Some (value i32 0)) (Events.Branch true ∷ Events.Branch false ∷ []) []
unfolding num_sig_of leaks is_timed is_product value2 binary32 arithmetic32 most_weight
counts_down = refl

-- a branch table shows its operand; the default is taken past the targets
abbrev switches : FunctionInstance
switches = of_i32 (Block None (Block None (straight (LocalGet 0 ∷ BrTable (0 ∷ []) 1 ∷ [])) (straight (seven ∷ Return ∷ []))) (straight (Const W32 Public 8 ∷ [])))

first_target : run switches empty (value i32 0 ∷ []) ≡ done empty 6 (Some (value i32 7)) (Events.Table 0 ∷ []) []
unfolding most_weight
first_target = refl

past_the_targets : run switches empty (value i32 9 ∷ []) ≡ done empty 6 (Some (value i32 8)) (Events.Table 9 ∷ []) []
unfolding most_weight
past_the_targets = refl

-- a branch to the outermost label returns
outermost_returns : run (of_i32 (Block None (straight (seven ∷ Br 1 ∷ [])) Stop)) empty (value i32 0 ∷ []) ≡ done empty 3 (Some (value i32 7)) [] []
unfolding most_weight
outermost_returns = refl

selects_the_first : run (of_i32 (straight (seven ∷ Const W32 Public 8 ∷ LocalGet 0 ∷ Select Public ∷ []))) empty (value i32 1 ∷ []) ≡ done empty 5 (Some (value i32 7)) [] []
unfolding most_weight
selects_the_first = refl

-- ---- a loop over a secret memory, whose trace shows addresses and the count alone

-- whether 32 bytes at each of two places are equal: the differences are gathered in local 3, and local 2 counts
abbrev compares : FunctionInstance
compares = record {
  part = part;
  type = signature (i32 ∷ i32 ∷ []) (Some s32);
  locals = i32 ∷ s32 ∷ [];
  body = Loop None (straight (
      LocalGet 3 ∷ LocalGet 0 ∷ LocalGet 2 ∷ Numeric 0x6A Public ∷ Load W32 Secret 1 false 0 0
      ∷ LocalGet 1 ∷ LocalGet 2 ∷ Numeric 0x6A Public ∷ Load W32 Secret 1 false 0 0 ∷ Numeric 0x73 Secret ∷ Numeric 0x72 Secret ∷ LocalSet 3
      ∷ LocalGet 2 ∷ Const W32 Public 1 ∷ Numeric 0x6A Public ∷ LocalTee 2 ∷ Const W32 Public 32 ∷ Numeric 0x49 Public ∷ BrIf 0 ∷ []))
      (straight (LocalGet 3 ∷ Numeric 0x45 Secret ∷ []));
}

-- the events of so many more rounds from a place on
abbrev rounds : ℕ → ℕ → List Event
rounds zero i = []
rounds (suc more) i = Events.Load 0 i 1 ∷ Events.Load 0 (32 + i) 1 ∷ Events.Branch (nat_lt (i + 1) 32) ∷ rounds more (i + 1)

abbrev twins : Storage
twins = over Secret None (replicate 32 9 ++ replicate 32 9)

equal_bytes : run compares twins (value i32 0 ∷ value i32 32 ∷ []) ≡ done twins 644 (Some (value s32 1)) (rounds 32 0) []
unfolding num_sig_of leaks is_timed is_product value1 unary32 value2 binary32 arithmetic32 comparison32 ior ixor bitwise most_weight number_at
equal_bytes = refl

abbrev others : Storage
others = over Secret None (replicate 32 9 ++ replicate 31 9 ++ 8 ∷ [])

other_bytes : run compares others (value i32 0 ∷ value i32 32 ∷ []) ≡ done others 644 (Some (value s32 0)) (rounds 32 0) []
unfolding num_sig_of leaks is_timed is_product value1 unary32 value2 binary32 arithmetic32 comparison32 ior ixor bitwise most_weight number_at
other_bytes = refl

-- ---- label instructions behind the last step of a turn run in the next one

abbrev classifies : FunctionInstance
classifies = function (signature (i32 ∷ []) (Some s32)) (straight (LocalGet 0 ∷ Classify W32 ∷ []))

abbrev before_it : Turned
before_it = turn 1 (classifies ∷ []) empty (begun 0 classifies (value i32 5 ∷ []))

classify_waits : before_it.left ≡ Running (record { func = 0; locals = value i32 5 ∷ []; labels = record { values = value i32 5 ∷ []; code = straight (Classify W32 ∷ []); result = Some s32; again = None } ∷ [] } ∷ [])
unfolding most_weight
classify_waits = refl

classify_runs : turn 1 (classifies ∷ []) empty (kept before_it.left) ≡ done empty 1 (Some (value s32 5)) [] []
unfolding most_weight
classify_runs = refl

-- ---- indirect calls: through an entry, past the end, through an empty entry, and of another type

abbrev indirect : FunctionType Label → FunctionInstance
indirect type = record {
  part = record part { types = record { base = None; type = type } ∷ [] };
  type = signature (i32 ∷ []) None;
  locals = [];
  body = straight (Const W32 Public 5 ∷ LocalGet 0 ∷ CallIndirect 0 ∷ []);
}

abbrev takes : ValueType Label → FunctionInstance
takes t = function (signature (t ∷ []) None) Stop

abbrev through : Storage
through = record empty { tables = record { limits = record { min = 2; max = None }; entries = Some 1 ∷ None ∷ [] } ∷ [] }

abbrev calls : ℕ → ValueType Label → Turned
calls index t = turn 1000000 (indirect (signature (i32 ∷ []) None) ∷ takes t ∷ []) through (begun 0 (indirect (signature (i32 ∷ []) None)) (value i32 index ∷ []))

indirect_call : calls 0 i32 ≡ done through 5 None (Events.Indirect 0 (Some 1) ∷ []) []
unfolding most_weight
indirect_call = refl

past_the_table : calls 2 i32 ≡ trap through 3 TableBounds (Events.Indirect 2 None ∷ [])
unfolding most_weight
past_the_table = refl

empty_entry : calls 1 i32 ≡ trap through 3 EmptyEntry (Events.Indirect 1 None ∷ [])
unfolding most_weight
empty_entry = refl

another_label : calls 0 s32 ≡ trap through 3 CallType (Events.Indirect 0 None ∷ [])
unfolding most_weight
another_label = refl

another_trust : turn 1000000 (indirect (signature [] None) ∷ function (record { trust = Trusted; params = []; result = None }) Stop ∷ []) through (begun 0 (indirect (signature [] None)) (value i32 0 ∷ []))
    ≡ trap through 3 CallType (Events.Indirect 0 None ∷ [])
unfolding most_weight
another_trust = refl

-- ---- declared locals begin as zero, and globals keep what is set

abbrev with_locals : FunctionInstance
with_locals = record { part = part; type = signature [] (Some i32); locals = i32 ∷ []; body = straight (LocalGet 0 ∷ []) }

local_is_zero : run with_locals empty [] ≡ done empty 2 (Some (value i32 0)) [] []
unfolding most_weight
local_is_zero = refl

abbrev counter : ℕ → Storage
counter n = record empty { globals = record { mutable = true; value = value i32 n } ∷ [] }

abbrev sets : FunctionInstance
sets = record { part = record part { globals = 0 ∷ [] }; type = signature [] (Some i32); locals = []; body = straight (seven ∷ GlobalSet 0 ∷ GlobalGet 0 ∷ []) }

global_is_set : run sets (counter 3) [] ≡ done (counter 7) 4 (Some (value i32 7)) [] []
unfolding most_weight
global_is_set = refl

-- ---- instructions after an unreachable one may be typed, but never run

unreachable_traps : run (function (signature [] None) (straight (Unreachable ∷ Select Public ∷ Drop ∷ []))) empty [] ≡ trap empty 1 TrapCode.Unreachable []
unfolding most_weight
unreachable_traps = refl

-- ---- what an activation weighs: two operands below and one inside, a block, two locals and a frame

light : weight (record { func = 0; locals = value i32 1 ∷ value i32 2 ∷ []; labels = record { values = value i32 3 ∷ []; code = Stop; result = None; again = None } ∷ record { values = value i32 4 ∷ value i32 5 ∷ []; code = Stop; result = None; again = None } ∷ [] } ∷ []) ≡ 7
light = refl

-- ---- two secrets whose low bits are equal look the same; the run that releases another bit doesn't

bits_look_the_same : seen_turned (run bit empty (value s32 3 ∷ [])) ≡ seen_turned (run bit empty (value s32 5 ∷ []))
unfolding num_sig_of leaks is_timed is_product value2 binary32 arithmetic32 iand bitwise most_weight
bits_look_the_same = refl

another_bit : seen_turned (run bit empty (value s32 3 ∷ [])) ≡ seen_turned (run bit empty (value s32 4 ∷ [])) → ⊥
unfolding num_sig_of leaks is_timed is_product value2 binary32 arithmetic32 iand bitwise most_weight
another_bit e = let released : 1 ≡ 0 = ap bit_of (ap (λ (x : Turned). x.left) e) in absurd (omega (arith, released))
  where
    number_of : Option Value → ℕ
    number_of None = 0
    number_of (Some v) = v.number

    bit_of : Left → ℕ
    bit_of (Finished v) = number_of v
    bit_of _ = 0

-- ---- the erased call takes the same steps and releases nothing

erased_bit : turn 1000000 (erase_functions (bit ∷ [])) empty (erase_activation (bit ∷ []) (begun 0 bit (value s32 3 ∷ []))) ≡ done empty 4 (Some (value i32 1)) [] []
unfolding num_sig_of leaks is_timed is_product value2 binary32 arithmetic32 iand bitwise most_weight
erased_bit = refl

-- a call through a variant, and erased through its base
abbrev two_types : List (TypeEntry Label)
two_types = record { base = None; type = signature (i32 ∷ []) None } ∷ record { base = Some 0; type = signature (s32 ∷ []) None } ∷ []

abbrev through_variant : FunctionInstance
through_variant = record { part = record part { types = two_types }; type = signature (i32 ∷ []) None; locals = []; body = straight (Const W32 Secret 5 ∷ LocalGet 0 ∷ CallIndirect 1 ∷ []) }

abbrev variant_set : Functions
variant_set = through_variant ∷ takes s32 ∷ []

variant_call : turn 1000000 variant_set through (begun 0 through_variant (value i32 0 ∷ [])) ≡ done through 5 None (Events.Indirect 0 (Some 1) ∷ []) []
unfolding most_weight
variant_call = refl

base_call : turn 1000000 (erase_functions variant_set) through (erase_activation variant_set (begun 0 through_variant (value i32 0 ∷ []))) ≡ done through 5 None (Events.Indirect 0 (Some 1) ∷ []) []
unfolding most_weight
base_call = refl

erased_entries : erase_entries two_types ≡ record { base = None; type = signature (i32 ∷ []) None } ∷ []
erased_entries = refl

-- ---- an erased module: a variant is left out, each use of it names its base, and all but labels stays

-- a module with one of each thing: with the version, type entries, indexes of types and label of a CT module, or of a plain one
abbrev module_of : Bool → List (TypeEntry Label) → ℕ → Label → Code Label → Module Label
module_of ct types type l body = record {
  ct = ct;
  profile = Multiply;
  types = types;
  imports =
      record { module_name = 97 ∷ []; name = 102 ∷ []; kind = ImportedFunction type }
      ∷ record { module_name = 97 ∷ []; name = 103 ∷ []; kind = ImportedGlobal (record { mutable = false; value = value_type W64 l }) } ∷ [];
  functions = record { type = type; locals = value_type W32 l ∷ []; body = body } ∷ [];
  table = Some (record { min = 1; max = None });
  memory = Some (record { tag = l; limits = record { min = 1; max = Some 2 } });
  globals = record { type = record { mutable = true; value = value_type W32 l }; init = Number (value_type W32 l) 7 } ∷ [];
  exports = record { name = 109 ∷ []; kind = ExternTag.Memory; index = 0 } ∷ [];
  start = Some 1;
  elements = record { table = 0; offset = Number i32 0; functions = 1 ∷ [] } ∷ [];
  segments = record { memory = 0; offset = ValueOf 0; bytes = 5 ∷ 6 ∷ [] } ∷ [];
  customs = record { place = 0; name = 110 ∷ []; bytes = 1 ∷ [] } ∷ [];
}

erased_module :
    erase_module (module_of true two_types 1 Secret (straight (LocalGet 0 ∷ Classify W32 ∷ Const W32 Secret 1 ∷ Numeric 0x6A Secret ∷ Drop ∷ Const W32 Public 0 ∷ CallIndirect 1 ∷ [])))
    ≡ module_of false (record { base = None; type = signature (i32 ∷ []) None } ∷ []) 0 Public (straight (LocalGet 0 ∷ Const W32 Public 1 ∷ Numeric 0x6A Public ∷ Drop ∷ Const W32 Public 0 ∷ CallIndirect 0 ∷ []))
erased_module = refl

-- ---- a set of two parts: the second's memory, global, table and function have index 0 there and number 1 in the store

abbrev second_part : Profile → ModuleInstance
second_part profile = record {
  profile = profile;
  types = record { base = None; type = signature [] (Some i32) } ∷ [];
  functions = 1 ∷ [];
  globals = 1 ∷ [];
  memory = Some 1;
  table = Some 1;
}

abbrev in_second : FunctionType Label → Code Label → FunctionInstance
in_second type body = record { part = second_part Divide; type = type; locals = []; body = body }

abbrev gives : ModuleInstance → ℕ → FunctionInstance
gives part n = record { part = part; type = signature [] (Some i32); locals = []; body = straight (Const W32 Public n ∷ []) }

abbrev public_memory : List ℕ → Memory
public_memory bytes = record { type = record { tag = Public; limits = record { min = 0; max = None } }; bytes = bytes }

abbrev public_global : ℕ → Global
public_global n = record { mutable = true; value = value i32 n }

abbrev one_entry : ℕ → Table
one_entry f = record { limits = record { min = 1; max = Some 1 }; entries = Some f ∷ [] }

abbrev of_two : List ℕ → List ℕ → ℕ → Storage
of_two first second n = record {
  memories = public_memory first ∷ public_memory second ∷ [];
  globals = public_global 40 ∷ public_global n ∷ [];
  tables = one_entry 0 ∷ one_entry 1 ∷ [];
}

abbrev two_parts : Storage
two_parts = of_two (1 ∷ 2 ∷ 3 ∷ 4 ∷ []) (5 ∷ 6 ∷ 7 ∷ 8 ∷ []) 50

-- a body of the second part runs as function 2, where function 0 is the first part's
abbrev run_second : FunctionType Label → List (Leaf Label) → Storage → List Value → Turned
run_second type leaves s args =
    let fns = gives part 60 ∷ gives (second_part Divide) 70 ∷ in_second type (straight leaves) ∷ [] in
    turn 1000000 fns s (begun 2 (in_second type (straight leaves)) args)

enters_function_one : run_second (signature [] (Some i32)) (Call 0 ∷ []) two_parts [] ≡ done two_parts 4 (Some (value i32 70)) (Events.Enter 1 ∷ []) []
unfolding most_weight
enters_function_one = refl

calls_through_table_one : run_second (signature [] (Some i32)) (Const W32 Public 0 ∷ CallIndirect 0 ∷ []) two_parts [] ≡ done two_parts 5 (Some (value i32 70)) (Events.Indirect 0 (Some 1) ∷ []) []
unfolding most_weight
calls_through_table_one = refl

reads_global_one : run_second (signature [] (Some i32)) (GlobalGet 0 ∷ []) two_parts [] ≡ done two_parts 2 (Some (value i32 50)) [] []
unfolding most_weight
reads_global_one = refl

writes_global_one : run_second (signature [] None) (seven ∷ GlobalSet 0 ∷ []) two_parts [] ≡ done (of_two (1 ∷ 2 ∷ 3 ∷ 4 ∷ []) (5 ∷ 6 ∷ 7 ∷ 8 ∷ []) 7) 3 None [] []
unfolding most_weight
writes_global_one = refl

-- the address is the operand and the offset
loads_from_memory_one : run_second (signature [] (Some i32)) (Const W32 Public 1 ∷ Load W32 Public 1 false 0 2 ∷ []) two_parts [] ≡ done two_parts 3 (Some (value i32 8)) (Events.Load 1 3 1 ∷ []) []
unfolding most_weight number_at
loads_from_memory_one = refl

loads_past_memory_one : run_second (signature [] (Some i32)) (Const W32 Public 1 ∷ Load W32 Public 1 false 0 3 ∷ []) two_parts [] ≡ trap two_parts 2 MemoryBounds (Events.Load 1 4 1 ∷ [])
unfolding most_weight number_at
loads_past_memory_one = refl

stores_into_memory_one : run_second (signature [] None) (Const W32 Public 1 ∷ Const W32 Public 515 ∷ Store W32 Public 2 0 1 ∷ []) two_parts []
    ≡ done (of_two (1 ∷ 2 ∷ 3 ∷ 4 ∷ []) (5 ∷ 6 ∷ 3 ∷ 2 ∷ []) 50) 4 None (Events.Store 1 2 2 ∷ []) []
unfolding most_weight written_at
stores_into_memory_one = refl

stores_past_memory_one : run_second (signature [] None) (Const W32 Public 1 ∷ Const W32 Public 515 ∷ Store W32 Public 2 0 2 ∷ []) two_parts [] ≡ trap two_parts 3 MemoryBounds (Events.Store 1 3 2 ∷ [])
unfolding most_weight written_at
stores_past_memory_one = refl

size_of_memory_one : run_second (signature [] (Some i32)) (MemorySize ∷ []) (of_two [] page 50) [] ≡ done (of_two [] page 50) 2 (Some (value i32 1)) [] []
unfolding most_weight
size_of_memory_one = refl

grows_memory_one : run_second (signature [] (Some i32)) (Const W32 Public 1 ∷ MemoryGrow ∷ []) (of_two [] page 50) [] ≡ done (of_two [] (page ++ page) 50) 3 (Some (value i32 1)) (Events.Grow 1 ∷ []) []
unfolding most_weight may_grow most_memory_pages most_set_pages
grows_memory_one = refl

-- ---- memories and tables as they begin

fresh_page : fresh_memory (record { tag = Secret; limits = record { min = 1; max = Some 2 } }) ≡ record { type = record { tag = Secret; limits = record { min = 1; max = Some 2 } }; bytes = page }
fresh_page = refl

fresh_entries : fresh_table (record { min = 2; max = None }) ≡ record { limits = record { min = 2; max = None }; entries = None ∷ None ∷ [] }
fresh_entries = refl

-- ---- a multiplication shows its operands where its module's profile says so, and has public ones there

abbrev multiplies : Profile → ℕ → ValueType Label → FunctionInstance
multiplies profile op t = record {
  part = record part { profile = profile };
  type = signature (t ∷ t ∷ []) (Some t);
  locals = [];
  body = straight (LocalGet 0 ∷ LocalGet 1 ∷ Numeric op t.tag ∷ []);
}

abbrev product : Profile → ℕ → ValueType Label → Turned
product profile op t = run (multiplies profile op t) empty (value t 6 ∷ value t 7 ∷ [])

abbrev i64 : ValueType Label
i64 = value_type W64 Public

quiet_product : product Divide 0x6C i32 ≡ done empty 4 (Some (value i32 42)) [] []
unfolding num_sig_of leaks is_timed is_product value2 binary32 arithmetic32 most_weight
quiet_product = refl

shown_product : product Multiply 0x6C i32 ≡ done empty 4 (Some (value i32 42)) (Events.Divide 6 7 ∷ []) []
unfolding num_sig_of leaks is_timed is_product value2 binary32 arithmetic32 most_weight
shown_product = refl

quiet_wide_product : product Divide 0x7E i64 ≡ done empty 4 (Some (value i64 42)) [] []
unfolding num_sig_of leaks is_timed is_product value2 binary64 arithmetic64 most_weight
quiet_wide_product = refl

shown_wide_product : product Multiply 0x7E i64 ≡ done empty 4 (Some (value i64 42)) (Events.Divide 6 7 ∷ []) []
unfolding num_sig_of leaks is_timed is_product value2 binary64 arithmetic64 most_weight
shown_wide_product = refl

secret_product : product Divide 0x6C s32 ≡ done empty 4 (Some (value s32 42)) [] []
unfolding num_sig_of leaks is_timed is_product value2 binary32 arithmetic32 most_weight
secret_product = refl

shown_secret_product_is_stuck : product Multiply 0x6C s32 ≡ stuck empty 3
unfolding num_sig_of leaks is_timed is_product value2 binary32 arithmetic32 most_weight
shown_secret_product_is_stuck = refl

-- a sum shows nothing under either, and a quotient shows its operands under both
sum_shows_nothing : product Multiply 0x6A i32 ≡ done empty 4 (Some (value i32 13)) [] []
unfolding num_sig_of leaks is_timed is_product value2 binary32 arithmetic32 most_weight
sum_shows_nothing = refl

quotient_is_shown : product Multiply 0x6E i32 ≡ done empty 4 (Some (value i32 0)) (Events.Divide 6 7 ∷ []) []
unfolding num_sig_of leaks is_timed is_product value2 binary32 division32 most_weight
quotient_is_shown = refl

-- each function runs under the profile of its own module
abbrev squares : Profile → FunctionInstance
squares profile = record { part = record part { profile = profile }; type = signature [] (Some i32); locals = []; body = straight (seven ∷ seven ∷ Numeric 0x6C Public ∷ []) }

abbrev calls_and_squares : Profile → FunctionInstance
calls_and_squares profile = record {
  part = record part { profile = profile; functions = 1 ∷ [] };
  type = signature [] (Some i32);
  locals = [];
  body = straight (Call 0 ∷ Const W32 Public 2 ∷ Numeric 0x6C Public ∷ []);
}

abbrev mixed : Profile → Profile → Turned
mixed outer inner = turn 1000000 (calls_and_squares outer ∷ squares inner ∷ []) empty (begun 0 (calls_and_squares outer) [])

callee_shows : mixed Divide Multiply ≡ done empty 8 (Some (value i32 98)) (Events.Enter 1 ∷ Events.Divide 7 7 ∷ []) []
unfolding num_sig_of leaks is_timed is_product value2 binary32 arithmetic32 most_weight
callee_shows = refl

caller_shows : mixed Multiply Divide ≡ done empty 8 (Some (value i32 98)) (Events.Enter 1 ∷ Events.Divide 49 2 ∷ []) []
unfolding num_sig_of leaks is_timed is_product value2 binary32 arithmetic32 most_weight
caller_shows = refl

-- ---- sign extensions: the low bits are read as signed

abbrev extends : ℕ → ValueType Label → ℕ → Turned
extends op t n = run (function (signature (t ∷ []) (Some t)) (straight (LocalGet 0 ∷ Numeric op t.tag ∷ []))) empty (value t n ∷ [])

abbrev extended : ValueType Label → ℕ → Turned
extended t n = done empty 3 (Some (value t n)) [] []

of_8_bits :
    (extends 0xC0 i32 127 ≡ extended i32 127) × (extends 0xC0 i32 128 ≡ extended i32 4294967168) × (extends 0xC0 i32 255 ≡ extended i32 4294967295)
    × (extends 0xC0 i32 384 ≡ extended i32 4294967168) × (extends 0xC0 s32 128 ≡ extended s32 4294967168)
unfolding num_sig_of value1 unary32 signed unsigned most_weight
of_8_bits = (refl, refl, refl, refl, refl)

of_16_bits : (extends 0xC1 i32 32767 ≡ extended i32 32767) × (extends 0xC1 i32 32768 ≡ extended i32 4294934528) × (extends 0xC1 i32 65535 ≡ extended i32 4294967295) × (extends 0xC1 i32 65536 ≡ extended i32 0)
unfolding num_sig_of value1 unary32 signed unsigned most_weight
of_16_bits = (refl, refl, refl, refl)

of_8_bits_wide : (extends 0xC2 i64 127 ≡ extended i64 127) × (extends 0xC2 i64 128 ≡ extended i64 18446744073709551488) × (extends 0xC2 i64 384 ≡ extended i64 18446744073709551488)
unfolding num_sig_of value1 unary64 signed unsigned most_weight
of_8_bits_wide = (refl, refl, refl)

of_16_bits_wide : (extends 0xC3 i64 32767 ≡ extended i64 32767) × (extends 0xC3 i64 32768 ≡ extended i64 18446744073709518848) × (extends 0xC3 i64 65536 ≡ extended i64 0)
unfolding num_sig_of value1 unary64 signed unsigned most_weight
of_16_bits_wide = (refl, refl, refl)

of_32_bits_wide : (extends 0xC4 i64 2147483647 ≡ extended i64 2147483647) × (extends 0xC4 i64 2147483648 ≡ extended i64 18446744071562067968) × (extends 0xC4 i64 9223372036854775808 ≡ extended i64 0)
unfolding num_sig_of value1 unary64 signed unsigned most_weight
of_32_bits_wide = (refl, refl, refl)

-- what is no operation has no reduction
no_operation_is_stuck : extends 0xC5 i32 1 ≡ stuck empty 2
unfolding num_sig_of value1 most_weight
no_operation_is_stuck = refl

-- ---- a function that calls itself without end traps when a million frames are open

abbrev recursive : FunctionInstance
recursive = function (signature [] None) (straight (Call 0 ∷ []))

-- so many frames, all but the innermost waiting for a call to end
abbrev waiting : ℕ → Activation
waiting zero = []
waiting (suc n) = record { func = 0; locals = []; labels = record { values = []; code = Stop; result = None; again = None } ∷ [] } ∷ waiting n

abbrev deep : ℕ → Activation
deep n = record { func = 0; locals = []; labels = record { values = []; code = recursive.body; result = None; again = None } ∷ [] } ∷ waiting n

weight_of_waiting : (n : ℕ) → weight (waiting n) ≡ n
weight_of_waiting zero = refl
weight_of_waiting (suc n) = let e = weight_of_waiting n in omega (arith, e)

deeper : (n : ℕ) (b : Bool) → nat_le (weight (deep (suc n))) most_weight ≡ b
    → step (recursive ∷ []) empty (deep n) ≡ record { answer = cond b (Goes empty (deep (suc n))) (Answers.Trapped Exhausted); event = Some (Events.Enter 0); releases = [] }
deeper n b e = ap (λ b. record { answer = cond b (Goes empty (deep (suc n))) (Answers.Trapped Exhausted); event = Some (Events.Enter 0); releases = [] }) e

weight_of_deep : (n : ℕ) → weight (deep (suc n)) ≡ n + 2
weight_of_deep n = let e = weight_of_waiting n in omega (arith, e)

-- a call that is a million frames short by so many more calls
calls_run_out : (more n : ℕ) → n + suc more ≡ 1000000
    → turn (suc more) (recursive ∷ []) empty (deep n) ≡ trap empty (suc more) Exhausted (replicate (suc more) (Events.Enter 0))
unfolding most_weight
calls_run_out zero n e =
    let w = weight_of_deep n in
    ap (λ (x : Stepped). then_turn empty x.answer x.event x.releases (turn 0 (recursive ∷ []))) (deeper n false (lt-leb (weight (deep (suc n))) 1000000 (omega (arith, w))))
calls_run_out (suc more) n e =
    let w = weight_of_deep n in
    ap (λ (x : Stepped). then_turn empty x.answer x.event x.releases (turn (suc more) (recursive ∷ []))) (deeper n true (le-leb (weight (deep (suc n))) 1000000 (omega (arith, w))))
    ∙ ap (λ (x : Turned). record { storage = x.storage; left = x.left; steps = suc x.steps; events = Events.Enter 0 ∷ x.events; releases = x.releases }) (calls_run_out more (suc n) (omega (arith, e)))

-- the millionth call traps, with its event
millionth_call : turn 1000000 (recursive ∷ []) empty (begun 0 recursive []) ≡ trap empty 1000000 Exhausted (replicate 1000000 (Events.Enter 0))
millionth_call = calls_run_out 999999 0 refl
