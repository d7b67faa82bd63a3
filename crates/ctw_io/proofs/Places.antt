-- Looking a file up by its name, replacing it and adding one.
use Rattle.std.proofs.Common.{◌≡◌, ◌<◌, ◌+◌, ℕ, zero, suc, Bool, true, false, cond, List, [], ◌∷◌, ◌++◌, length, get_or, set, take, Option, Some, None, string_bytes, refl, sym, ap, ◌∙◌, arith, nat_eq, add-one}
use Rattle.std.specs.FinMap.{get, insert, find, from_entries, get-from_entries, get-insert, from_entries_push, same_map, slice_cmp-IsAntisymmetric, nat_cmp-IsAntisymmetric}
use Rattle.std.specs.Ordering.{nat_cmp, eq_by_cmp}
use Rattle.std.specs.Cmp.Lexicographic.{slice_cmp, texts_ties}
use Rattle.std.proofs.lemmas.Cmp.{nat_list_cmp_total, eq_by_cmp_equiv}
use Rattle.std.proofs.lemmas.List.{map-append}
use lib.Pointwise.{pointwise}
use Rattle.ctw_io.specs.Files.{Files}
use Rattle.ctw_io.specs.Held.{NamedFile, file_entries, files_of, IsPlaceOf}

-- whether two names are one
abbrev is_name : List ℕ → List ℕ → Bool
is_name q k = eq_by_cmp (slice_cmp nat_cmp) q k

-- the content of the first file of this name
abbrev first_content : List ℕ → List NamedFile → Option (List ℕ)
first_content q files = find (slice_cmp nat_cmp) q (file_entries files)

name_itself : (q k : List ℕ) → k ≡ q → is_name q k ≡ true
name_itself q k e = rw e ((eq_by_cmp_equiv nat_list_cmp_total).refl q)

none_of : {X : Type 0} (b : Bool) (x : X) (o : Option X) → cond b (Some x) o ≡ None → (b ≡ false) × (o ≡ None)
none_of true x o e = cc
none_of false x o e = (refl, e)

none_past : (files : List NamedFile) (q : List ℕ) (i : ℕ) (d : NamedFile) → i < length files → is_name q (string_bytes (get_or files i d).0) ≡ false → first_content q (take i files) ≡ None → first_content q (take (suc i) files) ≡ None
none_past [] q i d h n e = absurd (omega arith)
none_past (f ∷ fs) q zero d h n e = rw n refl
none_past (f ∷ fs) q (suc i) d h n e =
    let rest = none_of (is_name q (string_bytes f.0)) f.1.items (first_content q (take i fs)) e in
    rw rest.0 (none_past fs q i d (omega arith) n rest.1)

-- the file that stands here has another name
pub past_place : (files : List NamedFile) (q name : List ℕ) (i : ℕ) (d : NamedFile) → i < length files → name ≡ string_bytes (get_or files i d).0 → false ≡ pointwise nat_eq name q → first_content q (take i files) ≡ None → first_content q (take (i + 1) files) ≡ None
past_place files q name i d h is n e =
    let apart : is_name q (string_bytes (get_or files i d).0) ≡ false = rw (← is) ((eq_by_cmp_equiv nat_list_cmp_total).symm q name ∙ sym (texts_ties name q) ∙ sym n) in
    rw add-one (none_past files q i d h apart e)

content_here : (files : List NamedFile) (q : List ℕ) (i : ℕ) (d : NamedFile) → i < length files → string_bytes (get_or files i d).0 ≡ q → first_content q (take i files) ≡ None → first_content q files ≡ Some (get_or files i d).1.items
content_here [] q i d h n e = absurd (omega arith)
content_here (f ∷ fs) q zero d h n e = rw (name_itself q (string_bytes f.0) n) refl
content_here (f ∷ fs) q (suc i) d h n e =
    let rest = none_of (is_name q (string_bytes f.0)) f.1.items (first_content q (take i fs)) e in
    rw rest.0 (content_here fs q i d (omega arith) n rest.1)

-- a file that isn't in the list isn't told
pub missing : (files there : List NamedFile) (told : Files) (q : List ℕ) → files_of files ≡ told → there ≡ files → first_content q there ≡ None → None ≡ get told q
missing files there told q v s e = sym (rw (← v) (get-from_entries nat_list_cmp_total (file_entries files) q ∙ rw (← s) e))

-- the content of the first file of a name is the one that is told
pub found : (files there : List NamedFile) (told : Files) (q content : List ℕ) (i : ℕ) (file : NamedFile) → files_of files ≡ told → there ≡ files → IsPlaceOf there q i → file ≡ get_or files i file → content ≡ file.1.items → Some content ≡ get told q
found files there told q content i file v s p is c =
    let place : IsPlaceOf files q i = rw (← s) p in
    let here = content_here files q i file place.within (place.named file) place.first in
    sym (rw (← v) (get-from_entries nat_list_cmp_total (file_entries files) q ∙ here ∙ ap (λ (f : NamedFile). Some f.1.items) (sym is) ∙ ap Some (sym c)))

later : {X : Type 0} (a b : Bool) (x y z : X) → (b ≡ true → a ≡ false) → cond a x (cond b y z) ≡ cond b y (cond a x z)
later true true x y z apart = absurd (let e = apart refl in cc)
later true false x y z apart = refl
later false b x y z apart = refl

shadowed : {X : Type 0} (b : Bool) (x y z : X) → cond b x z ≡ cond b x (cond b y z)
shadowed true x y z = refl
shadowed false x y z = refl

content_set : (files : List NamedFile) (q k : List ℕ) (i : ℕ) (d new : NamedFile) → i < length files → string_bytes (get_or files i d).0 ≡ q → string_bytes new.0 ≡ q → first_content q (take i files) ≡ None → first_content k (set files i new) ≡ cond (is_name k q) (Some new.1.items) (first_content k files)
content_set [] q k i d new h n m e = absurd (omega arith)
content_set (f ∷ fs) q k zero d new h n m e = rw (n, m) (shadowed (is_name k q) (Some new.1.items) (Some f.1.items) (first_content k fs))
content_set (f ∷ fs) q k (suc i) d new h n m e =
    let rest = none_of (is_name q (string_bytes f.0)) f.1.items (first_content q (take i fs)) e in
    let same = content_set fs q k i d new (omega arith) n m rest.1 in
    ap (λ o. cond (is_name k (string_bytes f.0)) (Some f.1.items) o) same
    ∙ later (is_name k (string_bytes f.0)) (is_name k q) (Some f.1.items) (Some new.1.items) (first_content k fs) (λ t. (eq_by_cmp_equiv nat_list_cmp_total).congr k q (string_bytes f.0) t ∙ rest.0)

-- a new content for the first file of a name is what is told of it from then on
pub replaced : (files there : List NamedFile) (told : Files) (q bytes : List ℕ) (i : ℕ) (file new : NamedFile) → files_of files ≡ told → there ≡ files → IsPlaceOf there q i → file ≡ get_or files i file → new.0 ≡ file.0 → new.1.items ≡ bytes → files_of (set files i new) ≡ insert told q bytes
replaced files there told q bytes i file new v s p is same c =
    let place : IsPlaceOf files q i = rw (← s) p in
    let named : string_bytes new.0 ≡ q = ap string_bytes same ∙ ap (λ (f : NamedFile). string_bytes f.0) is ∙ place.named file in
    same_map nat_list_cmp_total (slice_cmp-IsAntisymmetric nat_cmp-IsAntisymmetric) (files_of (set files i new)) (insert told q bytes) (λ k.
    get-from_entries nat_list_cmp_total (file_entries (set files i new)) k
    ∙ content_set files q k i file new place.within (place.named file) named place.first
    ∙ rw (c, ← v) (ap (cond (is_name k q) (Some bytes)) (sym (get-from_entries nat_list_cmp_total (file_entries files) k)) ∙ sym (get-insert nat_list_cmp_total (files_of files) q bytes k)))

-- a file of a new name at the list's end is told like the others
pub added : (files there after : List NamedFile) (told : Files) (q bytes : List ℕ) (new : NamedFile) → files_of files ≡ told → there ≡ files → first_content q there ≡ None → string_bytes new.0 ≡ q → new.1.items ≡ bytes → after ≡ files ++ new ∷ [] → files_of after ≡ insert told q bytes
added files there after told q bytes new v s none n c e =
    let absent : first_content q files ≡ None = rw (← s) none in
    let entries : file_entries (files ++ new ∷ []) ≡ file_entries files ++ (q, bytes) ∷ [] = map-append _ files (new ∷ []) ∙ rw (n, c) refl in
    rw e (ap from_entries entries ∙ from_entries_push nat_list_cmp_total (slice_cmp-IsAntisymmetric nat_cmp-IsAntisymmetric) (file_entries files) q bytes absent ∙ ap (λ (m : Files). insert m q bytes) v)
