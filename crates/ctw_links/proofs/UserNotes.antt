-- Noting the users of the table, and telling the sites of two of them.
use Rattle.std.proofs.Common.{◌≡◌, ◌≤◌, ◌<◌, ℕ, zero, suc, ◌+◌, ◌-◌, List, [], ◌∷◌, ◌++◌, length, Option, Some, None, refl, sym, ◌∙◌, ap, arith, append_assoc}
use Rattle.std.specs.Prelude.{get_or, slice_get}
use Rattle.std.proofs.lemmas.List.{append-nil, map-append}
use Rattle.std.proofs.lemmas.Option.{slice_get_past, slice_get-get_or}
use Rattle.ctw_ops.specs.declared.types.Label.{Label}
use Rattle.ctw_ops.specs.Types.{FunctionType}
use Rattle.ctw_ops.specs.Tree.{Module, function_entries, function_types}
use Rattle.ctw_labels.specs.declared.tag.Tag.{Tag}
use Rattle.ctw_labels.specs.declared.tag.Tag.TheVariants.{At}
use Rattle.ctw_labels.specs.Links.{Fact, fact, after}
use Rattle.ctw_labels.specs.SitedModule.{sited_functions}
use Rattle.ctw_sites.specs.Heads.{heads}
use Rattle.ctw_sites.proofs.ScopeLaws.{heads_length, types_length, types_at}
use Rattle.ctw_links.specs.declared.user.User.{User}
use Rattle.ctw_links.specs.Firsts.{site_facts}
use Rattle.ctw_links.specs.Uses.{user, type_of_user, types_of_users}

abbrev one : Option (FunctionType Tag) → List (FunctionType Tag)
one x = after x (λ g. g ∷ [])

pub none_noted : (m : Module Label) (f : ℕ) (us : List User) → length (heads m) ≤ f → types_of_users (function_types m) us ≡ types_of_users (function_types m) us ++ after (slice_get (sited_functions m) f) (λ g. g ∷ [])
none_noted m f us le =
    let a = heads_length m 0 (function_entries m) in
    let b = types_length m 0 (function_entries m) in
    sym (append-nil (types_of_users (function_types m) us))
    ∙ ap (λ z. types_of_users (function_types m) us ++ one z) (sym (slice_get_past (sited_functions m) f (omega (arith, a, b, le))))

pub some_noted : (m : Module Label) (f y h : ℕ) (us us' : List User) → f < length (heads m) → slice_get (function_entries m) f ≡ Some y → h ≡ get_or (heads m) f 0 → us' ≡ us ++ user y h ∷ []
    → types_of_users (function_types m) us' ≡ types_of_users (function_types m) us ++ after (slice_get (sited_functions m) f) (λ g. g ∷ [])
some_noted m f y h us us' lt e q n =
    let there : slice_get (heads m) f ≡ Some h = slice_get-get_or (heads m) f 0 lt ∙ ap Some (sym q) in
    ap (types_of_users (function_types m)) n
    ∙ map-append (type_of_user (function_types m)) us (user y h ∷ [])
    ∙ ap (λ z. types_of_users (function_types m) us ++ one z) (sym (types_at m 0 (function_entries m) f y h e there))

pub none_there : {X : Type 0} (xs : List X) (i : ℕ) → i < length xs → None ≡ slice_get xs i → ⊥
none_there [] i lt e = omega (arith, lt)
none_there (x ∷ xs) zero lt e = cc
none_there (x ∷ xs) (suc i) lt e = none_there xs i (omega (arith, lt)) e

-- ---- sites of two users

pub site_begins : (a b count : ℕ) (told : List (Fact Tag)) → told ++ site_facts (a + 0) (b + 0) (count - 0) ≡ told ++ site_facts a b count
site_begins a b count told =
    let e : a + 0 ≡ a = omega arith in
    let f : b + 0 ≡ b = omega arith in
    let g : count - 0 ≡ count = omega arith in
    λ i. told ++ site_facts (e i) (f i) (g i)

pub site_on : (a b count i : ℕ) (told told' all : List (Fact Tag)) → i < count → told' ≡ told ++ fact 11 (At (a + i)) (At (b + i)) → told ++ site_facts (a + i) (b + i) (count - i) ≡ all
    → told' ++ site_facts (a + (i + 1)) (b + (i + 1)) (count - (i + 1)) ≡ all
site_on a b count i told told' all lt e h =
    let f : a + (i + 1) ≡ a + i + 1 = omega arith in
    let g : b + (i + 1) ≡ b + i + 1 = omega arith in
    let k : count - i ≡ suc (count - (i + 1)) = omega (arith, lt) in
    (λ j. e j ++ site_facts (f j) (g j) (count - (i + 1)))
    ∙ append_assoc told (fact 11 (At (a + i)) (At (b + i))) (site_facts (a + i + 1) (b + i + 1) (count - (i + 1)))
    ∙ ap (λ z. told ++ site_facts (a + i) (b + i) z) (sym k) ∙ h

pub site_done : (a b count i : ℕ) (told all : List (Fact Tag)) → count ≤ i → told ++ site_facts (a + i) (b + i) (count - i) ≡ all → told ≡ all
site_done a b count i told all le h =
    let k : count - i ≡ 0 = omega (arith, le) in
    sym (append-nil told) ∙ ap (λ z. told ++ site_facts (a + i) (b + i) z) (sym k) ∙ h
