-- What words stand for, word by word.
use Rattle.std.proofs.Common.{◌≡◌, ℕ, suc, ◌+◌, ◌<◌, ◌≤◌, true, false, List, [], ◌∷◌, ◌++◌, map, length, drop, take, get_or, Option, Some, None, option_map, option_and_then, option_to_list, is_some, filter_map, refl, sym, ap, ◌∙◌, add-one}
use Rattle.std.specs.List.{cons_option}
use Rattle.std.proofs.Math.Seq.{drop-cons, take-suc}
use Rattle.std.proofs.lemmas.List.{map-append, take_all}
use Rattle.std.proofs.lemmas.List.Elements.{filter_map-append}
use Rattle.ctw_words.specs.NamedFiles.{all_read}

module _ {P : Type 0} (read : List ℕ → Option P) where
  abbrev all_behind : Option P → Option (List P) → Option (List P)
  all_behind first others = option_and_then (λ first. option_map (λ others. first ∷ others) others) first

  gathered_one : (first : Option P) (others : Option (List P)) (gathered : List P) (found : List P) → ((l : List P) → others ≡ Some l → l ≡ gathered) → all_behind first others ≡ Some found → found ≡ cons_option first gathered
  gathered_one None others gathered found h e = cc
  gathered_one (Some first) None gathered found h e = cc
  gathered_one (Some first) (Some others) gathered found h e = let here : found ≡ first ∷ others = cc in here ∙ ap (λ (l : List P). first ∷ l) (h others refl)

  -- what a list of all of them is
  gathered : (words : List (List ℕ)) (found : List P) → all_read read words ≡ Some found → found ≡ filter_map read words
  gathered [] found e = cc
  gathered (word ∷ words) found e = gathered_one (read word) (all_read read words) (filter_map read words) found (gathered words) e

  counted_one : (first : Option P) (others : Option (List P)) (n : ℕ) (found : List P) → ((l : List P) → others ≡ Some l → length l ≡ n) → all_behind first others ≡ Some found → length found ≡ suc n
  counted_one None others n found h e = cc
  counted_one (Some first) None n found h e = cc
  counted_one (Some first) (Some others) n found h e = let here : found ≡ first ∷ others = cc in ap length here ∙ ap suc (h others refl)

  counted : (words : List (List ℕ)) (found : List P) → all_read read words ≡ Some found → length found ≡ length words
  counted [] found e = let here : found ≡ [] = cc in ap length here
  counted (word ∷ words) found e = counted_one (read word) (all_read read words) (length words) found (counted words) e

  -- words of which each stands for something
  pub all_found : (words : List (List ℕ)) → true ≡ is_some (all_read read words) → all_read read words ≡ Some (filter_map read words)
  all_found words h = at (all_read read words) refl h
    where
      at : (o : Option (List P)) → all_read read words ≡ o → true ≡ is_some o → all_read read words ≡ Some (filter_map read words)
      at None e h = cc
      at (Some found) e h = e ∙ ap (λ (l : List P). Some l) (gathered words found e)

  pub as_many : (words : List (List ℕ)) → all_read read words ≡ Some (filter_map read words) → length (filter_map read words) ≡ length words
  as_many words e = counted words (filter_map read words) e

  module _ {X : Type 0} (f : X → List ℕ) (words : List X) where
    -- the words from an index on, of which the first is known
    front : (i : ℕ) (w : X) → i < length words → w ≡ get_or words i w → all_read read (map f (drop i words)) ≡ all_behind (read (f w)) (all_read read (map f (drop (i + 1) words)))
    front i w h e =
        let d : drop i words ≡ w ∷ drop (i + 1) words = drop-cons words i w h ∙ ap (λ (x : X). x ∷ drop (suc i) words) (sym e) ∙ ap (λ (k : ℕ). w ∷ drop k words) (sym (add-one i)) in
        ap (λ (l : List X). all_read read (map f l)) d

    none_behind : (o : Option P) (others : Option (List P)) → is_some o ≡ false → is_some (all_behind o others) ≡ false
    none_behind None others e = refl
    none_behind (Some first) others e = cc

    pub one_none : (i : ℕ) (w : X) → i < length words → w ≡ get_or words i w → is_some (read (f w)) ≡ false → is_some (all_read read (map f (drop i words))) ≡ false
    one_none i w h e n = ap is_some (front i w h e) ∙ none_behind (read (f w)) (all_read read (map f (drop (i + 1) words))) n

    mapped_none : {Q : Type 0} (g : Q → P) (r : Option Q) → is_some r ≡ false → is_some (option_map g r) ≡ false
    mapped_none g None n = refl
    mapped_none g (Some part) n = cc

    pub one_bad : {Q : Type 0} (g : Q → P) (r : Option Q) (i : ℕ) (w : X) → i < length words → w ≡ get_or words i w → option_map g r ≡ read (f w) → is_some r ≡ false
        → is_some (all_read read (map f (drop i words))) ≡ false
    one_bad g r i w h e q n = one_none i w h e (sym (ap is_some q) ∙ mapped_none g r n)

    -- what the first words stand for
    pub one_more : (i : ℕ) (w : X) → i < length words → w ≡ get_or words i w → filter_map read (map f (take (i + 1) words)) ≡ filter_map read (map f (take i words)) ++ option_to_list (read (f w))
    one_more i w h e =
        ap (λ (k : ℕ). filter_map read (map f (take k words))) (add-one i)
        ∙ ap (λ (l : List X). filter_map read (map f l)) (take-suc words i w h ∙ ap (λ (x : X). take i words ++ x ∷ []) (sym e))
        ∙ ap (filter_map read) (map-append f (take i words) (w ∷ []))
        ∙ filter_map-append read (map f (take i words)) (f w ∷ [])
        ∙ ap (λ (l : List P). filter_map read (map f (take i words)) ++ l) (one (read (f w)))
      where
        one : (o : Option P) → cons_option o [] ≡ option_to_list o
        one None = refl
        one (Some part) = refl

    -- what was found, with what one more word stands for
    pub found_more : (i : ℕ) (w : X) (o : Option P) (old new : List P) → i < length words → w ≡ get_or words i w → read (f w) ≡ o → old ≡ filter_map read (map f (take i words)) → new ≡ old ++ option_to_list o
        → new ≡ filter_map read (map f (take (i + 1) words))
    found_more i w o old new h e q r n =
        n ∙ ap (λ (l : List P). l ++ option_to_list o) r ∙ ap (λ (o : Option P). filter_map read (map f (take i words)) ++ option_to_list o) (sym q) ∙ sym (one_more i w h e)

    pub found_all : (i : ℕ) (all : List P) → length words ≤ i → all ≡ filter_map read (map f (take i words)) → all ≡ filter_map read (map f words)
    found_all i all h e = e ∙ ap (λ (l : List X). filter_map read (map f l)) (take_all i words h)
