-- What is told of a step besides what it does.
use Rattle.std.specs.Prelude.{◌≡◌, ℕ, List, Some, Option, option_map, IfSome}
use Rattle.ctw_ops.specs.declared.types.Label.{Label}
use Rattle.ctw_ops.specs.declared.types.Label.TheVariants.{Public}
use Rattle.ctw_ops.specs.Types.{ValueType}
use Rattle.ctw_semantics.specs.Values.{Value}
use Rattle.ctw_semantics.specs.Stores.{Storage}
use Rattle.ctw_semantics.specs.Activations.{Activation, weight}
use Rattle.ctw_semantics.specs.Answers.{Goes, Ended, Trapped}
use Rattle.ctw_semantics.specs.Steps as Steps
use Rattle.ctw_semantics.specs.Seen.{Agree}
use Rattle.ctw_semantics.specs.Sound.{Shape, SoundStorage}
use Rattle.ctw_semantics.specs.Erased.{erase_storage, erase_activation, erase_value}
use Rattle.ctw_link.specs.declared.set.Part.{Part}
use Rattle.ctw_step.specs.declared.running.Stepped.{Stepped}
use Rattle.ctw_step.specs.declared.running.Stepped.TheVariants as Steppeds
use Rattle.ctw_step.specs.Shown.{Shown}
use Rattle.ctw_link.specs.Linked.{code_in}
use Rattle.ctw_step.specs.SetInstances.{instances}
use Rattle.ctw_step.specs.Stands.{Stands, number_of}
use Rattle.ctw_step.specs.Stepping.{Standing}

-- soundness stays: a call that goes on stands for a sound one over a sound store of the same shape
abbrev pub StaysSound : List Part → Storage → Shown → Shape → Option (ValueType Label) → Stepped → Type 0
StaysSound parts s c shape last (Steppeds.Went e) = (b : Activation) × Standing parts s c shape last b
StaysSound parts s c shape last (Steppeds.Ended v e) = SoundStorage shape s
StaysSound parts s c shape last (Steppeds.Trapped code e) = SoundStorage shape s

-- the number of a value that an onlooker sees is this one
abbrev pub ShowsPublic : Option ℕ → Option Value → Type 0
ShowsPublic n v = IfSome v (λ v. v.type.tag ≡ Public → n ≡ Some v.number)

-- A step of an agreeing state looks the same: it goes on to an agreeing state, ends with the same public number, or
-- traps with the same code, and has the same event.
abbrev pub SeenAs : List Part → Storage → Shown → Stepped → Steps.Stepped → Type 0
SeenAs parts s c (Steppeds.Went e) x =
    (a : Activation) × (t : Storage) × (b : Activation) × Stands (code_in parts) c a × (x.answer ≡ Goes t b)
    × Agree s a t b × (e ≡ x.event)
SeenAs parts s c (Steppeds.Ended n e) x = (v : Option Value) × (x.answer ≡ Ended v) × ShowsPublic n v × (e ≡ x.event)
SeenAs parts s c (Steppeds.Trapped code e) x = (x.answer ≡ Trapped code) × (e ≡ x.event)

-- The step of the erased state is the same: it goes on to the erased state, which weighs the same, ends with the same
-- number, or traps with the same code, and has the same event.
abbrev pub ErasedAs : List Part → Storage → Shown → Stepped → Steps.Stepped → Type 0
ErasedAs parts s c (Steppeds.Went e) x =
    (a : Activation) × Stands (code_in parts) c a
    × (x.answer ≡ Goes (erase_storage s) (erase_activation (instances parts) a))
    × (weight (erase_activation (instances parts) a) ≡ weight a) × (e ≡ x.event)
ErasedAs parts s c (Steppeds.Ended n e) x =
    (v : Option Value) × (x.answer ≡ Ended (option_map erase_value v)) × (n ≡ option_map number_of v) × (e ≡ x.event)
ErasedAs parts s c (Steppeds.Trapped code e) x = (x.answer ≡ Trapped code) × (e ≡ x.event)
