-- Types that are written one after another.
use Rattle.std.proofs.Common.{◌≡◌, ◌<◌, ◌+◌, ◌≤◌, ◌-◌, ℕ, List, [], ◌∷◌, ◌++◌, map, take, drop, length, Result, Ok, Err, OnOk, get_or, sym, ap, ◌∙◌, append_assoc, append-nil, add-one, arith}
use Rattle.std.proofs.Math.Seq.{take-suc, take-length}
use Rattle.std.proofs.lemmas.List.{map-append}
use Rattle.ctw_ops.specs.declared.types.Label.{Label}
use Rattle.ctw_ops.specs.Types.{ValueType}
use Rattle.ctw_script.specs.Lines.{blank_before_each}
use Rattle.ctw_lines.specs.Types.{value_word, value_words}
use Rattle.ctw_lines.proofs.Rests.{rest_is}
use Rattle.ctw_lines.proofs.WordsText.{words_added}

-- the first without a blank, and the others behind one
pub words_are : (t : ValueType Label) (others : List (ValueType Label)) → value_words (t ∷ others) ≡ value_word t ++ blank_before_each (map value_word others)
words_are t [] = sym (append-nil (value_word t))
words_are t (u ∷ others) = ap (λ (l : List ℕ). value_word t ++ 32 ∷ l) (words_are u others)

-- a line with one more type
pub type_more : (line new old word : List ℕ) (types : List (ValueType Label)) (i : ℕ) (t : ValueType Label) → i < length types → word ≡ value_word (get_or types i t)
    → line ≡ old ++ blank_before_each (map value_word (take i types)) → new ≡ line ++ blank_before_each (word ∷ []) → new ≡ old ++ blank_before_each (map value_word (take (i + 1) types))
type_more line new old word types i t h w e f =
    let taken : take (i + 1) types ≡ take i types ++ get_or types i t ∷ [] = ap (λ (k : ℕ). take k types) (add-one i) ∙ take-suc types i t h in
    words_added old new line (map value_word (take i types)) (word ∷ []) (map value_word (take (i + 1) types)) e f
    (ap (λ (word : List ℕ). map value_word (take i types) ++ word ∷ []) w ∙ sym (map-append value_word (take i types) (get_or types i t ∷ []))
    ∙ ap (map value_word) (sym taken))

pub types_all : (line old : List ℕ) (types : List (ValueType Label)) (i : ℕ) → length types ≤ i → i ≤ length types → line ≡ old ++ blank_before_each (map value_word (take i types)) → line ≡ old ++ blank_before_each (map value_word types)
types_all line old types i h k e =
    let n : i ≡ length types = omega (arith, h, k) in
    e ∙ ap (λ (l : List (ValueType Label)). old ++ blank_before_each (map value_word l)) (ap (λ (k : ℕ). take k types) n ∙ take-length types)

-- a line with the first type and the others
pub values_added : {E : Type 0} (r : Result (Unit {0}) E) (line mid new word : List ℕ) (types : List (ValueType Label)) (t : ValueType Label) → 1 ≤ length types → t ≡ get_or types 0 t → word ≡ value_word t → mid ≡ line ++ word
    → OnOk r (new ≡ mid ++ blank_before_each (map value_word (take (length types - 1) (drop 1 types)))) → OnOk r (new ≡ line ++ value_words types)
values_added (Err e) line mid new word types t h g w m n = tt
values_added (Ok u) line mid new word [] t h g w m n = absurd (omega (arith, h))
values_added (Ok u) line mid new word (x ∷ others) t h g w m n =
    n ∙ ap (λ (l : List (ValueType Label)). mid ++ blank_before_each (map value_word l)) (rest_is x others)
    ∙ ap (λ (l : List ℕ). l ++ blank_before_each (map value_word others)) (m ∙ ap (λ (l : List ℕ). line ++ l) (w ∙ ap value_word g))
    ∙ append_assoc line (value_word x) (blank_before_each (map value_word others)) ∙ ap (λ (l : List ℕ). line ++ l) (sym (words_are x others))
