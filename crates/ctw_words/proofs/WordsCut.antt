-- Words that are cut at their first `=`.
use Rattle.std.proofs.Common.{◌≡◌, ◌≢◌, ℕ, suc, ◌<◌, Bool, List, [], ◌∷◌, ◌++◌, length, get_or, Some, None, option_map, option_and_then, refl, ap, ◌∙◌, cond, arith}
use Rattle.std.proofs.lemmas.Bool.{ne_eqb}
use Rattle.ctw_words.specs.NamedFiles.{cut_at_equals, unless_unnamed, named_file}

-- the word has no `=`
abbrev pub HasNone : List ℕ → Type 0
HasNone word = (i : ℕ) → i < length word → get_or word i 0 ≢ 61

abbrev behind : ℕ → List ℕ × List ℕ → List ℕ × List ℕ
behind byte halves = (byte ∷ halves.0, halves.1)

-- one byte further
cut_behind : (byte : ℕ) (word : List ℕ) → byte ≢ 61 → cut_at_equals (byte ∷ word) ≡ option_map (behind byte) (cut_at_equals word)
cut_behind byte word h = ap (λ (t : Bool). cond t (Some ([], word)) (option_map (behind byte) (cut_at_equals word))) (ne_eqb byte 61 h)

later : (byte : ℕ) (word : List ℕ) → HasNone (byte ∷ word) → HasNone word
later byte word none = λ i h. none (suc i) (omega (arith, h))

cut_none : (word : List ℕ) → HasNone word → cut_at_equals word ≡ None
cut_none [] none = refl
cut_none (byte ∷ word) none = cut_behind byte word (none 0 (omega arith)) ∙ ap (option_map (behind byte)) (cut_none word (later byte word none))

cut_some : (name file : List ℕ) → HasNone name → cut_at_equals (name ++ 61 ∷ file) ≡ Some (name, file)
cut_some [] file none = refl
cut_some (byte ∷ name) file none = cut_behind byte (name ++ 61 ∷ file) (none 0 (omega arith)) ∙ ap (option_map (behind byte)) (cut_some name file (later byte name none))

-- no name and file
pub not_cut : (word : List ℕ) → HasNone word → named_file word ≡ None
not_cut word none = ap (option_and_then unless_unnamed) (cut_none word none)

unnamed : (name file : List ℕ) → length name ≡ 0 → unless_unnamed (name, file) ≡ None
unnamed [] file e = refl
unnamed (byte ∷ name) file e = absurd (omega (arith, e))

named : (name file : List ℕ) → (length name ≡ 0 → ⊥) → unless_unnamed (name, file) ≡ Some (record { name = name; file = file })
named [] file h = absurd (h refl)
named (byte ∷ name) file h = refl

pub cut_unnamed : (word name file : List ℕ) → word ≡ name ++ 61 ∷ file → HasNone name → length name ≡ 0 → named_file word ≡ None
cut_unnamed word name file e none h = ap named_file e ∙ ap (option_and_then unless_unnamed) (cut_some name file none) ∙ unnamed name file h

pub cut_named : (word name file : List ℕ) → word ≡ name ++ 61 ∷ file → HasNone name → (length name ≡ 0 → ⊥) → named_file word ≡ Some (record { name = name; file = file })
cut_named word name file e none h = ap named_file e ∙ ap (option_and_then unless_unnamed) (cut_some name file none) ∙ named name file h
