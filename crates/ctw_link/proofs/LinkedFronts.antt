-- Sets of linked modules, part by part.
use Rattle.std.proofs.Common.{◌≡◌, ℕ, zero, suc, ◌+◌, ◌-◌, List, [], ◌∷◌, ◌++◌, length, take, drop, map, slice_get, Some, refl, sym, ap, ◌∙◌, append_assoc, append-nil, arith}
use Rattle.std.specs.Prelude.{find, option_and_then, fold}
use Rattle.std.specs.List.{position_from}
use Rattle.std.proofs.lemmas.List.{map-append, length-map}
use Rattle.std.proofs.lemmas.List.Sums.{fold-append}
use Rattle.std.proofs.lemmas.Option.{slice_get_within}
use Rattle.ctw_form.proofs.Params.{slice_get_left, slice_get_right}
use Rattle.ctw_ops.specs.declared.types.ExternTag.{ExternTag}
use Rattle.ctw_link.specs.Sets.{NamedModule, ModuleSet, defined_in, defined}
use Rattle.ctw_link.specs.Externals.{has_name}
use Rattle.ctw_link.specs.Numbers.{LinkedModule, is_named, defined_before, linked_module, with_linked, linked}
use Rattle.ctw_link.proofs.Lists.{front_length, position_mapped, find_place}

-- a part without its numbers
abbrev pub bare : LinkedModule → NamedModule
bare p = record { name = p.name; tree = p.tree }

pub linked_more : (front : ModuleSet) (p : NamedModule) → linked (front ++ p ∷ []) ≡ linked front ++ linked_module (linked front) p ∷ []
linked_more front p = fold-append with_linked [] front (p ∷ [])

bare_behind : (before : List LinkedModule) (set : ModuleSet) → map bare (fold with_linked before set) ≡ map bare before ++ set
bare_behind before [] = sym (append-nil (map bare before))
bare_behind before (p ∷ set) =
    bare_behind (with_linked before p) set ∙ ap (λ (l : ModuleSet). l ++ set) (map-append bare before (linked_module before p ∷ [])) ∙ append_assoc (map bare before) (p ∷ []) set

-- the linked parts are the parts
pub bare_linked : (set : ModuleSet) → map bare (linked set) ≡ set
bare_linked set = bare_behind [] set

pub linked_length : (set : ModuleSet) → length (linked set) ≡ length set
linked_length set = sym (length-map (linked set) bare) ∙ ap length (bare_linked set)

kept : (before : List LinkedModule) (set : ModuleSet) (j : ℕ) (q : LinkedModule) → slice_get before j ≡ Some q → slice_get (fold with_linked before set) j ≡ Some q
kept before [] j q e = e
kept before (p ∷ set) j q e = kept (with_linked before p) set j q (slice_get_left before (linked_module before p ∷ []) j (slice_get_within before j q e) ∙ e)

split_at : (set : ModuleSet) (j : ℕ) (p : NamedModule) → slice_get set j ≡ Some p → set ≡ (take j set ++ p ∷ []) ++ drop (suc j) set
split_at [] j p e = absurd cc
split_at (q ∷ set) zero p e = let s : q ≡ p = cc in ap (λ (x : NamedModule). x ∷ set) s
split_at (q ∷ set) (suc j) p e = ap (λ (l : ModuleSet). q ∷ l) (split_at set j p e)

-- a part is linked behind those before
pub linked_at : (set : ModuleSet) (j : ℕ) (p : NamedModule) → slice_get set j ≡ Some p → slice_get (linked set) j ≡ Some (linked_module (linked (take j set)) p)
linked_at set j p e =
    let front = take j set in
    let q = linked_module (linked front) p in
    let size : length (linked front) ≡ j = linked_length front ∙ front_length set j p e in
    let zeroth : length (linked front) - length (linked front) ≡ 0 = omega arith in
    let last : slice_get (linked (front ++ p ∷ [])) j ≡ Some q =
    ap (λ (l : List LinkedModule). slice_get l j) (linked_more front p) ∙ ap (slice_get (linked front ++ q ∷ [])) (sym size)
    ∙ slice_get_right (linked front) (q ∷ []) (length (linked front)) (omega arith) ∙ ap (slice_get (q ∷ [])) zeroth in
    ap (λ (s : ModuleSet). slice_get (linked s) j) (split_at set j p e) ∙ ap (λ (l : List LinkedModule). slice_get l j) (fold-append with_linked [] (front ++ p ∷ []) (drop (suc j) set))
    ∙ kept (linked (front ++ p ∷ [])) (drop (suc j) set) j q last

-- what the parts before define
pub defined_linked : (tag : ExternTag) (set : ModuleSet) → defined_before tag (linked set) ≡ defined tag set
defined_linked tag set = go 0 (linked set) ∙ ap (defined tag) (bare_linked set)
  where
    go : (n : ℕ) (l : List LinkedModule) → fold (λ (a : ℕ) (x : LinkedModule). a + defined_in tag x.tree) n l ≡ fold (λ (a : ℕ) (x : NamedModule). a + defined_in tag x.tree) n (map bare l)
    go n [] = refl
    go n (q ∷ l) = go (n + defined_in tag q.tree) l

-- the linked part of a name is at the place of the part of that name
pub find_linked : (set : ModuleSet) (name : List ℕ) → find (is_named name) (linked set) ≡ option_and_then (slice_get (linked set)) (position_from (has_name name) 0 set)
find_linked set name =
    find_place (is_named name) (linked set)
    ∙ ap (option_and_then (slice_get (linked set))) (sym (position_mapped bare (has_name name) 0 (linked set)) ∙ ap (position_from (has_name name) 0) (bare_linked set))
