-- Small sets, launched and moved by computing.
use Rattle.std.proofs.Common.{◌≡◌, ℕ, true, false, List, [], ◌∷◌, map, Option, Some, None, refl, codes}
use Rattle.ctw_ops.specs.declared.types.Label.{Label}
use Rattle.ctw_ops.specs.declared.types.Label.TheVariants.{Public, Secret}
use Rattle.ctw_ops.specs.declared.types.Width.TheVariants.{W32, W64}
use Rattle.ctw_ops.specs.declared.types.Trust.{Trust}
use Rattle.ctw_ops.specs.declared.types.Trust.TheVariants.{Untrusted, Trusted}
use Rattle.ctw_ops.specs.declared.types.ExternTag.TheVariants as tag
use Rattle.ctw_ops.specs.declared.numeric.Profile.{Profile}
use Rattle.ctw_ops.specs.declared.numeric.Profile.TheVariants.{Divide, Multiply}
use Rattle.ctw_ops.specs.Types.{ValueType, MemoryType, value_type}
use Rattle.ctw_ops.specs.Numeric.{num_sig_of, is_timed, is_product, leaks}
use Rattle.ctw_ops.specs.Code.{Leaf, LocalGet, Const, Numeric, Classify, Declassify, Store, straight}
use Rattle.ctw_ops.specs.Tree.{under, TypeEntry}
use Rattle.ctw_num.specs.Integers.{bitwise, iand}
use Rattle.ctw_num.specs.Values.{value2, binary32, arithmetic32}
use Rattle.ctw_script.specs.declared.event.Event.{Event}
use Rattle.ctw_script.specs.declared.event.Event.TheVariants as Events
use Rattle.ctw_script.specs.declared.moves.Arg.{Arg}
use Rattle.ctw_script.specs.declared.moves.Arg.TheVariants.{Number, Vault}
use Rattle.ctw_script.specs.declared.moves.Move.{Move}
use Rattle.ctw_script.specs.declared.moves.Move.TheVariants.{Begin, Turn, Leave, Poke, Peek, Seal, Reveal}
use Rattle.ctw_script.specs.declared.reply.Shown.TheVariants as shown
use Rattle.ctw_script.specs.declared.reply.Refusal.TheVariants.{NoExport, BadArgs, SlotBusy, SlotFree, NoMemoryExport, Bounds, WrongLabel, VaultShort, TurnTooLong}
use Rattle.ctw_script.specs.declared.reply.Reply.{Reply}
use Rattle.ctw_script.specs.declared.reply.Reply.TheVariants.{Began, More, Done, Dropped, Wrote, Bytes, Sealed, Revealed, Refused}
use Rattle.ctw_semantics.specs.Stores.{written_at}
use Rattle.ctw_semantics.specs.Activations.{Activation}
use Rattle.ctw_ops.specs.Limits.{most_weight}
use Rattle.ctw_semantics.specs.Values.{i32}
use Rattle.ctw_link.specs.Sets.{NamedModule, ModuleSet}
use Rattle.ctw_launch.specs.Launched.{launched_within}
use Rattle.ctw_launch.specs.ErasedSets.{erase_set}
use Rattle.ctw_link.specs.Exports.{exported}
use Rattle.ctw_ops.specs.Limits.{most_steps}
use Rattle.ctw_moves.specs.Arguments.{in_range, number_of, next_number}
use Rattle.ctw_moves.specs.States.{in_slot}
use Rattle.ctw_moves.specs.Moves.{most_sealed}
use Rattle.ctw_moves.specs.Runs.{Told}
use Rattle.ctw_moves.specs.ErasedRuns.{erase_moves}
use Rattle.ctw_moves.specs.LaunchedStates.{Launch, Ready, Faulty, launch, Session, Ran, NotLaunched, run_of, released}

abbrev s32 : ValueType Label
s32 = value_type W32 Secret

abbrev s64 : ValueType Label
s64 = value_type W64 Secret

abbrev entry : Trust → List (ValueType Label) → Option (ValueType Label) → TypeEntry Label
entry trust params result = record { base = None; type = record { trust = trust; params = params; result = result } }

-- the part "m" with one function of this type, and perhaps a page of memory, exported as "mem"
abbrev part : TypeEntry Label → List (Leaf Label) → List ℕ → Option Label → ModuleSet
part type leaves name memory = record {
  name = codes "m";
  tree = record {
    ct = true;
    profile = Divide;
    types = type ∷ [];
    imports = [];
    functions = record { type = 0; locals = []; body = straight leaves } ∷ [];
    table = None;
    memory = page memory;
    globals = [];
    exports = record { name = name; kind = tag.Func; index = 0 } ∷ record { name = codes "mem"; kind = tag.Memory; index = 0 } ∷ [];
    start = None;
    elements = [];
    segments = [];
    customs = [];
  };
} ∷ []
  where
    page : Option Label → Option (MemoryType Label)
    page None = None
    page (Some l) = Some (record { tag = l; limits = record { min = 1; max = None } })

abbrev quietly : Reply → Told
quietly r = record { events = []; reply = r }

-- what is told of a run, and its sealed bytes
abbrev told_in : Session → List Told
told_in (Ran r) = r.told
told_in (NotLaunched fault) = []

abbrev sealed_in : Session → List ℕ
sealed_in (Ran r) = r.state.sealed
sealed_in (NotLaunched fault) = []

abbrev vault_in : Session → List ℕ
vault_in (Ran r) = r.state.vault
vault_in (NotLaunched fault) = []

-- one call and one turn
abbrev once : List ℕ → List Arg → List Move
once name args = Begin 0 (codes "m") name args ∷ Turn 0 1000000 ∷ []

-- ---- a secret sum

abbrev sum : ModuleSet
sum = part (entry Untrusted (s32 ∷ i32 ∷ []) (Some s32)) (LocalGet 0 ∷ LocalGet 1 ∷ Classify W32 ∷ Numeric 0x6A Secret ∷ []) (codes "f") None

abbrev sum_of : List ℕ → Session
sum_of vault = run_of sum vault (once (codes "f") (Vault ∷ Number false 7 ∷ []))

sum_told : told_in (sum_of (5 ∷ 0 ∷ 0 ∷ 0 ∷ [])) ≡ quietly Began ∷ quietly (Done 4 shown.Secret) ∷ []
unfolding launched_within exported in_range number_of next_number most_steps num_sig_of leaks is_timed is_product value2 binary32 arithmetic32 most_weight
sum_told = refl

sum_sealed : sealed_in (sum_of (5 ∷ 0 ∷ 0 ∷ 0 ∷ [])) ≡ 12 ∷ 0 ∷ 0 ∷ 0 ∷ []
unfolding launched_within exported in_range number_of next_number most_steps num_sig_of leaks is_timed is_product value2 binary32 arithmetic32 most_weight
sum_sealed = refl

wrapped_sum : sealed_in (sum_of (255 ∷ 255 ∷ 255 ∷ 255 ∷ [])) ≡ 6 ∷ 0 ∷ 0 ∷ 0 ∷ []
unfolding launched_within exported in_range number_of next_number most_steps num_sig_of leaks is_timed is_product value2 binary32 arithmetic32 most_weight
wrapped_sum = refl

-- ---- a released bit

abbrev bit : ModuleSet
bit = part (entry Trusted (s32 ∷ []) (Some i32)) (LocalGet 0 ∷ Const W32 Secret 1 ∷ Numeric 0x71 Secret ∷ Declassify W32 ∷ []) (codes "bit") None

abbrev bit_of : ℕ → Session
bit_of low = run_of bit (low ∷ 0 ∷ 0 ∷ 0 ∷ []) (once (codes "bit") (Vault ∷ []))

odd : told_in (bit_of 3) ≡ quietly Began ∷ quietly (Done 4 (shown.Number W32 1)) ∷ []
unfolding launched_within exported in_range number_of next_number most_steps num_sig_of leaks is_timed is_product value2 binary32 arithmetic32 iand bitwise most_weight
odd = refl

odd_too : told_in (bit_of 5) ≡ quietly Began ∷ quietly (Done 4 (shown.Number W32 1)) ∷ []
unfolding launched_within exported in_range number_of next_number most_steps num_sig_of leaks is_timed is_product value2 binary32 arithmetic32 iand bitwise most_weight
odd_too = refl

even : told_in (bit_of 4) ≡ quietly Began ∷ quietly (Done 4 (shown.Number W32 0)) ∷ []
unfolding launched_within exported in_range number_of next_number most_steps num_sig_of leaks is_timed is_product value2 binary32 arithmetic32 iand bitwise most_weight
even = refl

odd_released : released (bit_of 3) ≡ 1 ∷ []
unfolding launched_within exported in_range number_of next_number most_steps num_sig_of leaks is_timed is_product value2 binary32 arithmetic32 iand bitwise most_weight
odd_released = refl

even_released : released (bit_of 4) ≡ 0 ∷ []
unfolding launched_within exported in_range number_of next_number most_steps num_sig_of leaks is_timed is_product value2 binary32 arithmetic32 iand bitwise most_weight
even_released = refl

-- ---- a short vault

abbrev taker : ModuleSet
taker = part (entry Untrusted (s64 ∷ []) None) [] (codes "f") None

abbrev taken : List Arg → Session
taken args = run_of taker (1 ∷ 2 ∷ 3 ∷ 4 ∷ 5 ∷ 6 ∷ 7 ∷ []) (Begin 0 (codes "m") (codes "f") args ∷ [])

short : told_in (taken (Vault ∷ [])) ≡ quietly (Refused VaultShort) ∷ []
unfolding launched_within exported in_range number_of next_number
short = refl

written_out : told_in (taken (Number true 1 ∷ [])) ≡ quietly Began ∷ []
unfolding launched_within exported in_range number_of next_number
written_out = refl

-- ---- two calls over one memory

abbrev writer : ModuleSet
writer = part (entry Untrusted (i32 ∷ []) None) (Const W32 Public 0 ∷ LocalGet 0 ∷ Store W32 Public 1 0 0 ∷ Const W32 Public 1 ∷ LocalGet 0 ∷ Store W32 Public 1 0 0 ∷ []) (codes "w") (Some Public)

abbrev begins : ℕ → ℕ → Move
begins slot n = Begin slot (codes "m") (codes "w") (Number false n ∷ [])

abbrev peeks : Move
peeks = Peek (codes "m") (codes "mem") 0 2

abbrev stores : ℕ → Event
stores at = Events.Store 0 at 1

abbrev turns : List Event → Reply → Told
turns events r = record { events = events; reply = r }

interleaved : told_in (run_of writer [] (begins 0 5 ∷ begins 1 9 ∷ Turn 0 3 ∷ Turn 1 1 ∷ peeks ∷ Turn 1 5 ∷ peeks ∷ Turn 0 0 ∷ Turn 0 1000000 ∷ peeks ∷ Turn 0 1 ∷ Turn 1 1000001 ∷ begins 1 1 ∷ Leave 1 ∷ []))
    ≡ quietly Began ∷ quietly Began ∷ turns (stores 0 ∷ []) (More 3) ∷ quietly (More 1) ∷ quietly (Bytes (5 ∷ 0 ∷ []))
    ∷ turns (stores 0 ∷ stores 1 ∷ []) (More 5) ∷ quietly (Bytes (9 ∷ 9 ∷ [])) ∷ quietly (More 0)
    ∷ turns (stores 1 ∷ []) (Done 4 shown.Nothing) ∷ quietly (Bytes (9 ∷ 5 ∷ []))
    ∷ quietly (Refused SlotFree) ∷ quietly (Refused TurnTooLong) ∷ quietly (Refused SlotBusy) ∷ quietly Dropped ∷ []
unfolding launched_within exported in_range number_of next_number most_steps most_weight written_at
interleaved = refl

-- ---- a secret memory, and a vault of six bytes

abbrev keeper : ModuleSet
keeper = part (entry Untrusted (s32 ∷ s64 ∷ i32 ∷ []) None) [] (codes "f") (Some Secret)

abbrev kept : List Move → Session
kept ms = run_of keeper (1 ∷ 2 ∷ 3 ∷ 4 ∷ 5 ∷ 6 ∷ []) ms

abbrev seals : ℕ → ℕ → Move
seals at count = Seal (codes "m") (codes "mem") at count

abbrev reveals : ℕ → ℕ → Move
reveals at count = Reveal (codes "m") (codes "mem") at count

-- up to the memory's end
abbrev round_trip : Session
round_trip = kept (seals 65534 2 ∷ seals 65535 1 ∷ reveals 65533 3 ∷ [])

round_trip_told : told_in round_trip ≡ quietly Sealed ∷ quietly Sealed ∷ quietly (Revealed 3) ∷ []
unfolding launched_within exported most_sealed written_at
round_trip_told = refl

round_trip_sealed : sealed_in round_trip ≡ 0 ∷ 1 ∷ 3 ∷ []
unfolding launched_within exported most_sealed written_at
round_trip_sealed = refl

round_trip_vault : vault_in round_trip ≡ 4 ∷ 5 ∷ 6 ∷ []
unfolding launched_within exported most_sealed written_at
round_trip_vault = refl

-- refusals of moves on a memory, in their order
memory_refusals : told_in (kept (Peek (codes "n") (codes "mem") 0 1 ∷ Peek (codes "m") (codes "f") 65535 2 ∷ Peek (codes "m") (codes "mem") 65535 2 ∷ Peek (codes "m") (codes "mem") 65535 1
    ∷ seals 65530 7 ∷ seals 65529 7 ∷ reveals 65536 1 ∷ Poke (codes "m") (codes "mem") 65535 (1 ∷ 2 ∷ []) ∷ Poke (codes "m") (codes "mem") 65534 (1 ∷ 2 ∷ []) ∷ []))
    ≡ quietly (Refused NoMemoryExport) ∷ quietly (Refused NoMemoryExport) ∷ quietly (Refused Bounds) ∷ quietly (Refused WrongLabel)
    ∷ quietly (Refused Bounds) ∷ quietly (Refused VaultShort) ∷ quietly (Refused Bounds) ∷ quietly (Refused Bounds) ∷ quietly Wrote ∷ []
unfolding launched_within exported most_sealed written_at
memory_refusals = refl

public_refusals : told_in (run_of writer [] (seals 65535 2 ∷ seals 65535 1 ∷ reveals 65535 2 ∷ reveals 65535 1 ∷ [])) ≡ quietly (Refused Bounds) ∷ quietly (Refused WrongLabel) ∷ quietly (Refused Bounds) ∷ quietly (Refused WrongLabel) ∷ []
unfolding launched_within exported most_sealed written_at
public_refusals = refl

-- ---- arguments

abbrev calls : ℕ → List Arg → Move
calls slot args = Begin slot (codes "m") (codes "f") args

abbrev numbers : Arg → Arg → Arg → List Arg
numbers a b c = a ∷ b ∷ c ∷ []

abbrev n : ℕ → Arg
n size = Number false size

abbrev minus : ℕ → Arg
minus size = Number true size

begin_refusals : told_in (kept (Begin 0 (codes "n") (codes "f") [] ∷ Begin 0 (codes "m") (codes "mem") [] ∷ calls 0 (n 1 ∷ n 1 ∷ []) ∷ calls 0 (numbers Vault (n 0) Vault)
    ∷ calls 0 (numbers (n 1) (n 1) (n 1)) ∷ calls 0 (n 1 ∷ []) ∷ calls 0 (numbers Vault Vault (n 1)) ∷ calls 1 (numbers Vault Vault (n 1)) ∷ Turn 63 1000001 ∷ Turn 0 1000001 ∷ Leave 63 ∷ Leave 0 ∷ Leave 0 ∷ Turn 0 0 ∷ []))
    ≡ quietly (Refused NoExport) ∷ quietly (Refused NoExport) ∷ quietly (Refused BadArgs) ∷ quietly (Refused BadArgs)
    ∷ quietly Began ∷ quietly (Refused BadArgs) ∷ quietly (Refused SlotBusy) ∷ quietly (Refused VaultShort) ∷ quietly (Refused SlotFree) ∷ quietly (Refused TurnTooLong) ∷ quietly (Refused SlotFree) ∷ quietly Dropped ∷ quietly (Refused SlotFree) ∷ quietly (Refused SlotFree) ∷ []
unfolding launched_within exported in_range number_of next_number most_steps
begin_refusals = refl

-- from -2^31 to 2^32 - 1, and from -2^63 to 2^64 - 1
ranges : told_in (kept (calls 0 (numbers (minus 2147483648) (minus 9223372036854775808) (minus 2147483648)) ∷ calls 1 (numbers (n 4294967295) (n 18446744073709551615) (n 4294967295))
    ∷ calls 2 (numbers (minus 2147483649) (n 0) (n 0)) ∷ calls 2 (numbers (n 0) (minus 9223372036854775809) (n 0)) ∷ calls 2 (numbers (n 0) (n 0) (minus 2147483649))
    ∷ calls 2 (numbers (n 4294967296) (n 0) (n 0)) ∷ calls 2 (numbers (n 0) (n 18446744073709551616) (n 0)) ∷ calls 2 (numbers (n 0) (n 0) (n 4294967296)) ∷ []))
    ≡ quietly Began ∷ quietly Began ∷ quietly (Refused BadArgs) ∷ quietly (Refused BadArgs) ∷ quietly (Refused BadArgs) ∷ quietly (Refused BadArgs) ∷ quietly (Refused BadArgs) ∷ quietly (Refused BadArgs) ∷ []
unfolding launched_within exported in_range number_of next_number most_steps
ranges = refl

-- the numbers of the parameters, each from its bytes, the lowest first
abbrev parameters : ℕ → List ℕ → List Arg → List ℕ
parameters slot vault args = of (in_slot_of (run_of keeper vault (calls slot args ∷ [])))
  where
    in_slot_of : Session → Option Activation
    in_slot_of (Ran r) = in_slot r.state slot
    in_slot_of (NotLaunched fault) = None

    of : Option Activation → List ℕ
    of (Some (f ∷ fs)) = map (λ v. v.number) f.locals
    of _ = []

from_vault : parameters 63 (1 ∷ 2 ∷ 0 ∷ 0 ∷ 3 ∷ 0 ∷ 0 ∷ 0 ∷ 4 ∷ 0 ∷ 0 ∷ 0 ∷ 5 ∷ []) (numbers Vault Vault (minus 1)) ≡ 513 ∷ 17179869187 ∷ 4294967295 ∷ []
unfolding launched_within exported in_range number_of next_number
from_vault = refl

-- ---- stripped

abbrev stripped : ModuleSet → List ℕ → List Move → List Move
stripped set vault ms = of (launch set vault)
  where
    of : Launch → List Move
    of (Ready s) = erase_moves set s ms
    of (Faulty fault) = []

abbrev stripped_told : ModuleSet → List ℕ → List Move → List Told
stripped_told set vault ms = told_in (run_of (erase_set set) [] (stripped set vault ms))

stripped_sum : stripped sum (5 ∷ 0 ∷ 0 ∷ 0 ∷ []) (once (codes "f") (Vault ∷ n 7 ∷ [])) ≡ once (codes "f") (n 5 ∷ n 7 ∷ [])
unfolding launched_within exported in_range number_of next_number most_steps num_sig_of leaks is_timed is_product value2 binary32 arithmetic32 most_weight
stripped_sum = refl

stripped_sum_told : stripped_told sum (5 ∷ 0 ∷ 0 ∷ 0 ∷ []) (once (codes "f") (Vault ∷ n 7 ∷ [])) ≡ quietly Began ∷ quietly (Done 4 (shown.Number W32 12)) ∷ []
unfolding launched_within exported in_range number_of next_number most_steps num_sig_of leaks is_timed is_product value2 binary32 arithmetic32 most_weight
stripped_sum_told = refl

-- what is refused by label or vault is left out, and what is refused otherwise gets zeros
stripped_moves : stripped keeper (1 ∷ 2 ∷ []) (seals 65535 2 ∷ seals 0 3 ∷ seals 1 2 ∷ reveals 0 3 ∷ Peek (codes "m") (codes "mem") 0 1 ∷ calls 0 (numbers (n 1) (n 1) (n 1)) ∷ calls 0 (numbers Vault Vault (n 1)) ∷ calls 1 (numbers Vault (n 1) (n 1)) ∷ Begin 1 (codes "m") (codes "g") (Vault ∷ []) ∷ [])
    ≡ Poke (codes "m") (codes "mem") 65535 (0 ∷ 0 ∷ []) ∷ Poke (codes "m") (codes "mem") 1 (1 ∷ 2 ∷ []) ∷ Peek (codes "m") (codes "mem") 0 3 ∷ calls 0 (numbers (n 1) (n 1) (n 1)) ∷ calls 0 (numbers (n 0) (n 0) (n 1)) ∷ Begin 1 (codes "m") (codes "g") (n 0 ∷ []) ∷ []
unfolding launched_within exported in_range number_of next_number most_sealed written_at
stripped_moves = refl

stripped_moves_told : stripped_told keeper (1 ∷ 2 ∷ []) (seals 65535 2 ∷ seals 0 3 ∷ seals 1 2 ∷ reveals 0 3 ∷ Peek (codes "m") (codes "mem") 0 1 ∷ [])
    ≡ quietly (Refused Bounds) ∷ quietly Wrote ∷ quietly (Bytes (0 ∷ 1 ∷ 2 ∷ [])) ∷ []
unfolding launched_within exported in_range number_of next_number most_sealed written_at
stripped_moves_told = refl

-- ---- one module under both profiles

abbrev product : Profile → ModuleSet
product profile = map (λ (p : NamedModule). record p { tree = under profile p.tree }) (part (entry Untrusted (i32 ∷ i32 ∷ []) (Some i32)) (LocalGet 0 ∷ LocalGet 1 ∷ Numeric 0x6C Public ∷ []) (codes "f") None)

abbrev product_of : Profile → List Told
product_of profile = told_in (run_of (product profile) [] (once (codes "f") (n 6 ∷ n 7 ∷ [])))

quiet_product : product_of Divide ≡ quietly Began ∷ quietly (Done 4 (shown.Number W32 42)) ∷ []
unfolding launched_within exported in_range number_of next_number most_steps num_sig_of leaks is_timed is_product value2 binary32 arithmetic32 most_weight
quiet_product = refl

shown_product : product_of Multiply ≡ quietly Began ∷ turns (Events.Divide 6 7 ∷ []) (Done 4 (shown.Number W32 42)) ∷ []
unfolding launched_within exported in_range number_of next_number most_steps num_sig_of leaks is_timed is_product value2 binary32 arithmetic32 most_weight
shown_product = refl
