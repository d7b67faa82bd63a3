-- The names of parts, by their indexes.
use Rattle.std.proofs.Common.{◌≡◌, ◌≤◌, ℕ, true, List, [], length, get_or, nat_lt, Option, Some, None, option_map, slice_get, refl, sym, ap, ◌∙◌}
use Rattle.std.proofs.lemmas.Option.{slice_get-map, slice_get_read, slice_get_past}
use Rattle.std.proofs.lemmas.Bool.{ltb-true}
use Rattle.ctw_link.specs.Sets.{NamedModule, ModuleSet}
use Rattle.ctw_inputs.specs.declared.parts.LoadedPart.{LoadedPart}
use Rattle.ctw_inputs.specs.Lines.{name_or_empty, part_name}
use Rattle.ctw_inputs.specs.Parts.{AreNamed}

abbrev text_of : Option (List ℕ) → List ℕ
text_of None = []
text_of (Some text) = text

name_text : (o : Option NamedModule) → name_or_empty o ≡ text_of (option_map (λ (m : NamedModule). m.name) o)
name_text None = refl
name_text (Some m) = refl

abbrev name_in : LoadedPart → List ℕ
name_in p = p.part.name.now

name_is : (set : ModuleSet) (parts : List LoadedPart) (index : ℕ) → AreNamed set parts → part_name set index ≡ text_of (option_map name_in (slice_get parts index))
name_is set parts index e =
    name_text (slice_get set index) ∙ ap text_of (sym (slice_get-map (λ (m : NamedModule). m.name) set index) ∙ ap (λ (l : List (List ℕ)). slice_get l index) e ∙ slice_get-map name_in parts index)

pub name_there : (set : ModuleSet) (parts : List LoadedPart) (index : ℕ) (p : LoadedPart) → true ≡ nat_lt index (length parts) → p ≡ get_or parts index p → AreNamed set parts → p.part.name.now ≡ part_name set index
name_there set parts index p l g e =
    let h : slice_get parts index ≡ Some p = slice_get_read parts (length parts) index p refl (ltb-true index (length parts) (sym l)) g in
    sym (name_is set parts index e ∙ ap (λ (o : Option LoadedPart). text_of (option_map name_in o)) h)

pub name_absent : (set : ModuleSet) (parts : List LoadedPart) (index : ℕ) → length parts ≤ index → AreNamed set parts → [] ≡ part_name set index
name_absent set parts index l e =
    let h : slice_get parts index ≡ None = slice_get_past parts index l in
    sym (name_is set parts index e ∙ ap (λ (o : Option LoadedPart). text_of (option_map name_in o)) h)
