-- The declared locals of a function under labels, one after another.
use Rattle.std.proofs.Common.{◌≡◌, ℕ, ◌+◌, List, [], ◌∷◌, length, map, Some, slice_get, ◌∙◌, ap}
use Rattle.std.specs.Prelude.{option_map}
use Rattle.std.proofs.lemmas.List.{length-map}
use Rattle.std.proofs.lemmas.Option.{slice_get-map}
use Rattle.ctw_ops.specs.declared.types.Label.{Label}
use Rattle.ctw_ops.specs.Types.{ValueType, value_type}
use Rattle.ctw_ops.specs.TagMaps.{type_to}
use Rattle.ctw_ops.specs.Code.{Stop}
use Rattle.ctw_ops.specs.Tree.{Module, Function, type_named}
use Rattle.ctw_module.specs.Lookup.{function_named, locals_named}
use Rattle.ctw_labels.specs.declared.tag.Tag.{Tag}
use Rattle.ctw_labels.specs.declared.tag.Tag.TheVariants.{At}
use Rattle.ctw_labels.specs.Numbering.{params_from}
use Rattle.ctw_sites.specs.Heads.{declared, declared_of_some}
use Rattle.ctw_sites.proofs.ScopeLaws.{params_at, params_length}
use Rattle.ctw_write.proofs.Running.{local_at}

-- a module of one function that declares these
abbrev pub with_locals : List (ValueType Label) → Function Label
with_locals ts = record { type = 0; locals = ts; body = Stop }

abbrev pub alone : Module Label → List (ValueType Label) → Module Label
alone m ts = record m { imports = []; functions = with_locals ts ∷ [] }

module _ (m : Module Label) (L : Tag → Label) (f n : ℕ) where
  abbrev pub under : List (ValueType Label)
  under = map (type_to L) (params_from n (declared m f))

  declared_is : (F : Function Label) → function_named m f ≡ Some F → declared m f ≡ F.locals
  declared_is F e = ap declared_of_some e

  pub under_is : (F : Function Label) → function_named m f ≡ Some F → under ≡ map (type_to L) (params_from n F.locals)
  under_is F e = ap (λ z. map (type_to L) (params_from n z)) (declared_is F e)

  pub under_length : (F : Function Label) → function_named m f ≡ Some F → length under ≡ length F.locals
  under_length F e = length-map (params_from n (declared m f)) (type_to L) ∙ params_length n (declared m f) ∙ ap length (declared_is F e)

  pub under_at : (F : Function Label) (first i : ℕ) (t : ValueType Label) → function_named m f ≡ Some F → first ≡ length (type_named m F.type).params → slice_get (locals_named m f) (first + i) ≡ Some t → slice_get under i ≡ Some (value_type t.width (L (At (n + i))))
  under_at F first i t e q s =
      let own : slice_get (declared m f) i ≡ Some t = ap (λ z. slice_get z i) (declared_is F e) ∙ local_at m f first i F t e q s in
      slice_get-map (type_to L) (params_from n (declared m f)) i ∙ ap (option_map (type_to L)) (params_at n (declared m f) i ∙ ap (option_map (λ t. value_type t.width (At (n + i)))) own)
