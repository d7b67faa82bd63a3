-- Calls that have just begun: sound, alike where their arguments look the same, and erased.
use Rattle.std.proofs.Common.{◌≡◌, ℕ, suc, ◌+◌, ◌≤◌, List, [], ◌∷◌, ◌++◌, map, length, Some, None, slice_get, option_map, refl, sym, ap, ap₂, ◌∙◌, arith, length-append}
use Rattle.std.proofs.lemmas.List.{map-append}
use Rattle.ctw_ops.specs.declared.types.Label.{Label}
use Rattle.ctw_ops.specs.Types.{ValueType, erase_value_type}
use Rattle.ctw_ops.specs.Tree.{TypeEntry}
use Rattle.ctw_ops.specs.Erasure.{erase_code}
use Rattle.ctw_semantics.specs.Values.{Value, zero_of}
use Rattle.ctw_semantics.specs.Instances.{FunctionInstance, Functions}
use Rattle.ctw_ops.specs.Limits.{most_weight}
use Rattle.ctw_semantics.specs.Machine.{begun}
use Rattle.ctw_semantics.specs.Seen.{seen_value, seen}
use Rattle.ctw_semantics.specs.Sound.{Shape, FunctionTyped, SoundSet, HasTypes, SoundCall}
use Rattle.ctw_semantics.specs.Erased.{erase_instance, erase_value, erase_activation}
use Rattle.ctw_ops.proofs.Lists.{all_get}
use Rattle.ctw_semantics.proofs.Typed.{types_append, zeros_typed}
use Rattle.ctw_semantics.proofs.ErasesPlaces.{entries_are, zeros_erased}

length-types : (ts : List (ValueType Label)) (vs : List Value) → HasTypes ts vs → length vs ≡ length ts
length-types [] [] h = refl
length-types (t ∷ ts) (v ∷ vs) h = ap suc (length-types ts vs h.2)
length-types [] (v ∷ vs) h = absurd h
length-types (t ∷ ts) [] h = absurd h

length-zeros : (ts : List (ValueType Label)) → length (map zero_of ts) ≡ length ts
length-zeros [] = refl
length-zeros (t ∷ ts) = ap suc (length-zeros ts)

pub begun_sound : (fns : Functions) (shape : Shape) → SoundSet fns shape → (n : ℕ) (fn : FunctionInstance) (args : List Value) → slice_get fns n ≡ Some fn → HasTypes fn.type.params args → 1 + length fn.type.params + length fn.locals ≤ most_weight → SoundCall fns shape fn.type.result (begun n fn args)
begun_sound fns shape set n fn args e h small =
    let typed = all_get (FunctionTyped fns shape) fns n fn set.bodies e in
    let a = length-append args (map zero_of fn.locals) in
    let b = length-types fn.type.params args h in
    let c = length-zeros fn.locals in
    record {
      typed = (
        fn,
        record {
          found = e;
          names = typed.names;
          leads = typed.leads;
          locals = types_append fn.type.params fn.locals args (map zero_of fn.locals) h (zeros_typed fn.locals);
          labels = (record { holds = []; values = tt; code = typed.body; again = tt }, (refl, refl));
          place = (fn.body, 0, refl, refl);
        },
        refl,
      );
      light = omega (arith, small, a, b, c);
    }

pub begun_alike : (n : ℕ) (fn : FunctionInstance) (xs ys : List Value) → map seen_value xs ≡ map seen_value ys → seen (begun n fn xs) ≡ seen (begun n fn ys)
begun_alike n fn xs ys e =
    let zs = map zero_of fn.locals in
    let l : map seen_value (xs ++ zs) ≡ map seen_value (ys ++ zs) = map-append seen_value xs zs ∙ ap (λ (l : List Value). l ++ map seen_value zs) e ∙ sym (map-append seen_value ys zs) in
    ap (λ (l : List Value). record { func = n; locals = l; labels = record { values = []; code = fn.body; result = fn.type.result; again = None } ∷ [] } ∷ []) l

pub begun_erased : (fns : Functions) (n : ℕ) (fn : FunctionInstance) (args : List Value) → slice_get fns n ≡ Some fn → erase_activation fns (begun n fn args) ≡ begun n (erase_instance fn) (map erase_value args)
begun_erased fns n fn args e =
    ap₂ (λ (l : List Value) (entries : List (TypeEntry Label)). record { func = n; locals = l; labels = record { values = []; code = erase_code entries fn.body; result = option_map erase_value_type fn.type.result; again = None } ∷ [] } ∷ [])
    (map-append erase_value args (map zero_of fn.locals) ∙ ap (λ l. map erase_value args ++ l) (zeros_erased fns fn.locals)) (entries_are fns n fn e)
