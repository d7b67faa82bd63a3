-- The tree of a view over bytes that spell a module is that module, and each function's code there spells its body.
use Rattle.std.proofs.Common.{◌≡◌, ℕ, zero, suc, Bool, List, [], ◌∷◌, length, map, get_or, Some, None, refl, sym, ap, subst, ◌∙◌, arith}
use Rattle.std.specs.List.{All, slice_get}
use Rattle.std.proofs.lemmas.List.Elements.{All-head, All-tail}
use Rattle.ctw_ops.specs.declared.types.Label.{Label}
use Rattle.ctw_ops.specs.Tree.{Module, Function}
use Rattle.ctw_leb.specs.Grammar.{state_after}
use Rattle.ctw_form.specs.Sections.{Entry, Parts, no_parts, with_section, locals_of, functions_of}
use Rattle.ctw_form.specs.Spelled.{IsFormBody, Spells}
use Rattle.ctw_module.specs.Trees.{Lent, file_of_bytes, tree, parts, code_of, view_of}
use Rattle.ctw_form.proofs.FileForms.{spelled_file}
use Rattle.ctw_form.proofs.SpelledParts.{IsSpelledEntry, Filled, file_filled}

-- ---- the tree and the parts of a view

abbrev lent : List ℕ → Lent
lent bytes = view_of bytes

pub tree_is : (bytes : List ℕ) (m : Module Label) → Spells bytes m → tree (view_of bytes) ≡ m
unfolding tree file_of_bytes
tree_is bytes m s = rw (spelled_file bytes m s) s.made

pub parts_are : (bytes : List ℕ) (m : Module Label) (s : Spells bytes m) → parts (view_of bytes) ≡ state_after with_section no_parts s.file.sections
unfolding parts file_of_bytes
parts_are bytes m s = rw (spelled_file bytes m s) refl

pub parts_filled : (bytes : List ℕ) (m : Module Label) → Spells bytes m → Filled m.ct (parts (view_of bytes))
parts_filled bytes m s = subst (Filled m.ct) (sym (parts_are bytes m s)) (file_filled bytes m s)

pub functions_are : (bytes : List ℕ) (m : Module Label) → Spells bytes m → m.functions ≡ functions_of (parts (view_of bytes)).uses (parts (view_of bytes)).entries
functions_are bytes m s =
    ap (λ (n : Module Label). n.functions) (sym s.made) ∙ ap (λ (p : Parts). functions_of p.uses p.entries) (sym (parts_are bytes m s))

uses_of : (uses : List ℕ) (entries : List Entry) → length entries ≡ length uses → map (λ f. f.type) (functions_of uses entries) ≡ uses
uses_of [] entries e = refl
uses_of (type ∷ uses) [] e = absurd (omega (arith, e))
uses_of (type ∷ uses) (entry ∷ entries) e = ap (λ (l : List ℕ). type ∷ l) (uses_of uses entries (omega (arith, e)))

-- each declared use is a function's
pub uses_are : (bytes : List ℕ) (m : Module Label) → Spells bytes m → map (λ f. f.type) m.functions ≡ (parts (view_of bytes)).uses
uses_are bytes m s =
    let p = parts (view_of bytes) in
    ap (map (λ f. f.type)) (functions_are bytes m s) ∙ uses_of p.uses p.entries (parts_filled bytes m s).counted

none_some : {A : Type 0} (x : A) → None ≡ Some x → ⊥
none_some x e = cc

some_is : {A : Type 0} (x y : A) → Some x ≡ Some y → x ≡ y
some_is x y e = cc

code_in : (ct : Bool) (uses : List ℕ) (entries : List Entry) (k : ℕ) (f : Function Label) → All (IsSpelledEntry ct) entries → slice_get (functions_of uses entries) k ≡ Some f
    → IsFormBody ct (get_or (map (λ e. e.code) entries) k []) f.body
code_in ct [] entries k f h e = absurd (none_some f e)
code_in ct (type ∷ uses) [] k f h e = absurd (none_some f e)
code_in ct (type ∷ uses) (entry ∷ entries) zero f h e =
    let same = some_is (record { type = type; locals = locals_of entry.groups; body = entry.body }) f e in
    subst (λ (g : Function Label). IsFormBody ct entry.code g.body) same (All-head (IsSpelledEntry ct) entry entries h)
code_in ct (type ∷ uses) (entry ∷ entries) (suc k) f h e = code_in ct uses entries k f (All-tail (IsSpelledEntry ct) entry entries h) e

-- the code of a view's function spells its body
pub code_spelled : (bytes : List ℕ) (m : Module Label) (k : ℕ) (f : Function Label) → Spells bytes m → slice_get m.functions k ≡ Some f → IsFormBody m.ct (code_of (view_of bytes) k) f.body
unfolding code_of
code_spelled bytes m k f s e =
    let p = parts (view_of bytes) in
    code_in m.ct p.uses p.entries k f (parts_filled bytes m s).spelled (ap (λ (l : List (Function Label)). slice_get l k) (sym (functions_are bytes m s)) ∙ e)
