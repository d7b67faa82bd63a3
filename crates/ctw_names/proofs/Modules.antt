-- The module of some fields and its faults, from their parts.
use Rattle.std.proofs.Common.{◌≡◌, Bool, List, [], ◌∷◌, ◌++◌, map, refl, ap, sym, ◌∙◌}
use Rattle.std.specs.Prelude.{Option, None, filter}
use Rattle.std.specs.List.{flat_map}
use Rattle.ctw_ops.specs.Tree.{Custom}
use Rattle.ctw_ops.specs.declared.types.ExternTag.TheVariants.{Func}
use Rattle.ctw_text.specs.declared.fields.Field.{Field}
use Rattle.ctw_text.specs.declared.pieces.FieldKind.TheVariants.{CustomField}
use Rattle.ctw_text.specs.Names.{NameFault, Space, Wide, WideFunction, by_place, custom_of, defined, double_faults, faults_of, field_faults, function_of, is_empty, is_kind, leftmost, sections_with, space_of, wide_of, without_customs}
use Rattle.ctw_names.specs.Noted.{noted}
use Rattle.ctw_names.proofs.Noting.{leftmost_noted, noted_append}

-- the faults of names that stand twice and those of the fields, as they are noted
pub all_noted : (fs : List Field) (a b c : Option NameFault) → a ≡ None
    → b ≡ noted (noted (noted (noted (noted a (double_faults [] (space_of fs).types)) (double_faults [] (space_of fs).funcs)) (double_faults [] (space_of fs).tables)) (double_faults [] (space_of fs).memories)) (double_faults [] (space_of fs).globals)
    → c ≡ noted b (flat_map (field_faults (space_of fs)) fs) → c ≡ leftmost (faults_of fs)
all_noted fs a b c none doubles fields =
    let S = space_of fs in
    let t = double_faults [] S.types in
    let f = double_faults [] S.funcs in
    let k = double_faults [] S.tables in
    let m = double_faults [] S.memories in
    let g = double_faults [] S.globals in
    let e = flat_map (field_faults S) fs in
    fields
    ∙ ap (λ (o : Option NameFault). noted o e)
    (doubles
    ∙ ap (λ (o : Option NameFault). noted (noted (noted (noted (noted o t) f) k) m) g) none
    ∙ ap (λ (o : Option NameFault). noted (noted (noted o k) m) g) (sym (noted_append t f None))
    ∙ ap (λ (o : Option NameFault). noted (noted o m) g) (sym (noted_append (t ++ f) k None))
    ∙ ap (λ (o : Option NameFault). noted o g) (sym (noted_append ((t ++ f) ++ k) m None))
    ∙ sym (noted_append (((t ++ f) ++ k) ++ m) g None))
    ∙ sym (noted_append ((((t ++ f) ++ k) ++ m) ++ g) e None)
    ∙ sym (leftmost_noted (faults_of fs))

pub none_mapped : {X Y : Type 0} (f : X → Y) (xs : List X) → is_empty (map f xs) ≡ is_empty xs
none_mapped f [] = refl
none_mapped f (x ∷ xs) = refl

-- the module, from its parts
pub module_is : (ct : Bool) (fs : List Field) (S : Space) (m : Wide) (has : List Bool) (functions : List WideFunction) (customs : List Custom) → S ≡ space_of fs → m ≡ record (without_customs ct S fs) { functions = [] }
    → has ≡ sections_with (record m { functions = map (function_of S) (defined Func fs) }) → functions ≡ map (function_of S) (defined Func fs) → customs ≡ by_place 11 (map (custom_of has) (filter (is_kind CustomField) fs))
    → record m { functions = functions; customs = customs } ≡ wide_of ct fs
module_is ct fs S m has functions customs space sections items fun cust =
    let F = map (function_of S) (defined Func fs) in
    let given = λ (h : List Bool). by_place 11 (map (custom_of h) (filter (is_kind CustomField) fs)) in
    ap (λ (l : List WideFunction). record m { functions = l; customs = customs }) fun
    ∙ ap (λ (l : List Custom). record m { functions = F; customs = l }) (cust ∙ ap given items)
    ∙ ap (λ (w : Wide). record w { functions = F; customs = given (sections_with (record w { functions = F })) }) sections
    ∙ ap (λ (s : Space). record (without_customs ct s fs) { customs = given (sections_with (without_customs ct s fs)) }) space
