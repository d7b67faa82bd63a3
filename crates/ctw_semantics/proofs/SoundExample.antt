-- A sound state: a call that adds a secret and a public number, over a store with a memory and a global.
use Rattle.std.proofs.Common.{◌≡◌, ℕ, ◌<◌, zero, suc, true, [], ◌∷◌, replicate, Some, None, slice_get, All, refl, ap, arith}
use Rattle.std.proofs.lemmas.List.Elements.{All-replicate}
use Rattle.ctw_ops.specs.declared.types.Label.{Label}
use Rattle.ctw_ops.specs.declared.types.Label.TheVariants.{Secret}
use Rattle.ctw_ops.specs.declared.types.Width.TheVariants.{W32}
use Rattle.ctw_ops.specs.declared.types.Trust.TheVariants.{Untrusted}
use Rattle.ctw_ops.specs.Types.{ValueType, value_type}
use Rattle.ctw_ops.specs.declared.numeric.Profile.TheVariants.{Divide}
use Rattle.ctw_ops.specs.Numeric.{num_sig_of, is_timed, is_product, leaks}
use Rattle.ctw_ops.specs.Limits.{most_memory_pages, most_set_pages}
use Rattle.ctw_ops.specs.Code.{LocalGet, Numeric, Classify, straight}
use Rattle.ctw_ops.specs.Typing.{Typed}
use Rattle.ctw_semantics.specs.Values.{value, i32}
use Rattle.ctw_semantics.specs.Stores.{Memory, Global, Storage}
use Rattle.ctw_semantics.specs.Instances.{FunctionInstance}
use Rattle.ctw_ops.specs.Limits.{most_weight}
use Rattle.ctw_semantics.specs.Machine.{begun}
use Rattle.ctw_semantics.specs.Sound.{Shape, ValueFits, SoundStorage, MemoryFits, IndexTypes, context, IndexesLead, FunctionTyped, UsersAlike, SoundSet, SoundCall}
use Rattle.ctw_semantics.proofs.Begun.{begun_sound}

all_one : {A : Type 0} (P : A → Type 0) (x : A) → P x → All P (x ∷ [])
all_one P x p zero d less = p
all_one P x p (suc k) d less = absurd (omega (arith, less))

none_of : {A : Type 0} (P : A → Type 0) → All P []
none_of P k d less = absurd (omega (arith, less))

abbrev s32 : ValueType Label
s32 = value_type W32 Secret

abbrev adds : FunctionInstance
adds = record {
  part = record { profile = Divide; types = []; functions = 0 ∷ []; globals = 0 ∷ []; memory = Some 0; table = None };
  type = record { trust = Untrusted; params = s32 ∷ i32 ∷ []; result = Some s32 };
  locals = [];
  body = straight (LocalGet 0 ∷ LocalGet 1 ∷ Classify W32 ∷ Numeric 0x6A Secret ∷ []);
}

abbrev memory : Memory
memory = record { type = record { tag = Secret; limits = record { min = 1; max = Some 2 } }; bytes = replicate 65536 7 }

abbrev global : Global
global = record { mutable = true; value = value i32 9 }

abbrev storage : Storage
storage = record { memories = memory ∷ []; globals = global ∷ []; tables = [] }

abbrev shape : Shape
shape = record { memories = memory.type ∷ []; globals = record { mutable = true; value = i32 } ∷ []; tables = [] }

abbrev names : IndexTypes
names = record { functions = adds.type ∷ []; globals = record { mutable = true; value = i32 } ∷ []; memory = Some Secret }

first : {A : Type 0} (n : ℕ) (x y : A) → slice_get (x ∷ []) n ≡ Some y → (n ≡ 0) × (x ≡ y)
first zero x y e = (refl, cc)
first (suc n) x y e = cc

leads : IndexesLead (adds ∷ []) shape adds.part names
leads = record {
  functions = λ f t e. let q = first f adds.type t e in (0, adds, ap (slice_get (0 ∷ [])) q.0, refl, q.1);
  globals = λ x t e. let q = first x (record { mutable = true; value = i32 }) t e in (0, ap (slice_get (0 ∷ [])) q.0, ap Some q.1);
  memory = λ l e. (0, memory.type, refl, refl, cc);
  table = λ t e. cc;
}

typed : Typed (context names adds (Some s32 ∷ [])) adds.body [] (s32 ∷ [])
unfolding num_sig_of is_timed is_product leaks
typed = (
  s32 ∷ [],
  (s32, refl, ([], refl, refl)),
  (
    i32 ∷ s32 ∷ [],
    (i32, refl, (s32 ∷ [], refl, refl)),
    (
      s32 ∷ s32 ∷ [],
      (s32 ∷ [], refl, refl),
      (s32 ∷ [], (record { arity = 2; operand = W32; result = W32 }, refl, λ leak. cc, ([], refl, refl)), refl),
    ),
  ),
)

sound_set : SoundSet (adds ∷ []) shape
sound_set = record {
  bodies = all_one (FunctionTyped (adds ∷ []) shape) adds (record { names = names; leads = leads; variants = record { entries = []; variants = []; all = refl; plain = none_of _; based = none_of _ }; body = typed });
  users = all_one (UsersAlike (adds ∷ []) shape) adds (λ t y f table entry callee e. cc);
  entries = λ t f table e c. cc;
}

sound_storage : SoundStorage shape storage
unfolding most_memory_pages most_set_pages
sound_storage = record {
  shaped = refl;
  memories = all_one MemoryFits memory (record { whole = refl; least = omega arith; greatest = omega arith; most = omega arith; bytes = All-replicate (λ byte. byte < 256) 65536 7 (omega arith) });
  total = omega arith;
  globals = all_one (λ g. ValueFits g.value) global (omega arith);
  tables = none_of _;
}

sound_call : SoundCall (adds ∷ []) shape (Some s32) (begun 0 adds (value s32 5 ∷ value i32 7 ∷ []))
unfolding most_weight
sound_call = begun_sound (adds ∷ []) shape sound_set 0 adds (value s32 5 ∷ value i32 7 ∷ []) refl (refl, omega arith, (refl, omega arith, tt)) (omega arith)
