-- Words behind others.
use Rattle.std.proofs.Common.{◌≡◌, ℕ, List, [], ◌∷◌, ◌++◌, Result, Ok, Err, OnOk, refl, sym, ap, ◌∙◌, append_assoc}
use Rattle.ctw_script.specs.Lines.{blank_before_each, spaced}

blank_before_each-append : (xs ys : List (List ℕ)) → blank_before_each (xs ++ ys) ≡ blank_before_each xs ++ blank_before_each ys
blank_before_each-append [] ys = refl
blank_before_each-append (x ∷ xs) ys =
    ap (λ (l : List ℕ). 32 ∷ (x ++ l)) (blank_before_each-append xs ys) ∙ ap (λ (l : List ℕ). 32 ∷ l) (sym (append_assoc x (blank_before_each xs) (blank_before_each ys)))

-- a line after words, and then others
pub more_words : {E : Type 0} (r : Result (Unit {0}) E) (line new mid : List ℕ) (a b words : List (List ℕ)) → mid ≡ line ++ blank_before_each a → OnOk r (new ≡ mid ++ blank_before_each b) → a ++ b ≡ words → OnOk r (new ≡ line ++ blank_before_each words)
more_words (Ok u) line new mid a b words e f h =
    f ∙ ap (λ (l : List ℕ). l ++ blank_before_each b) e ∙ append_assoc line (blank_before_each a) (blank_before_each b)
    ∙ ap (λ (l : List ℕ). line ++ l) (sym (blank_before_each-append a b) ∙ ap blank_before_each h)
more_words (Err e) line new mid a b words p f h = tt

-- the same of words that were added
pub words_added : (line new mid : List ℕ) (a b words : List (List ℕ)) → mid ≡ line ++ blank_before_each a → new ≡ mid ++ blank_before_each b → a ++ b ≡ words → new ≡ line ++ blank_before_each words
words_added line new mid a b words e f h = more_words {E = ℕ} (Ok tt) line new mid a b words e f h

-- the same of no words before
pub first_words : {E : Type 0} (r : Result (Unit {0}) E) (line new : List ℕ) (b words : List (List ℕ)) → OnOk r (new ≡ line ++ blank_before_each b) → b ≡ words → OnOk r (new ≡ line ++ blank_before_each words)
first_words (Ok u) line new b words f h = f ∙ ap (λ (w : List (List ℕ)). line ++ blank_before_each w) h
first_words (Err e) line new b words f h = tt

-- a line of a head, a word and words, part by part
pub line_is : (head word : List ℕ) (words : List (List ℕ)) (l0 l1 l2 l3 : List ℕ) → l0 ≡ head → l1 ≡ l0 ++ blank_before_each (word ∷ []) → l2 ≡ l1 ++ blank_before_each words → l3 ≡ l2 ++ 10 ∷ []
    → l3 ≡ head ++ 32 ∷ spaced (word ∷ words)
line_is head word words l0 l1 l2 l3 e0 e1 e2 e3 =
    e3 ∙ ap (λ (l : List ℕ). l ++ 10 ∷ []) (e2 ∙ ap (λ (l : List ℕ). l ++ blank_before_each words) (e1 ∙ ap (λ (l : List ℕ). l ++ blank_before_each (word ∷ [])) e0)
    ∙ append_assoc head (blank_before_each (word ∷ [])) (blank_before_each words) ∙ ap (λ (l : List ℕ). head ++ l) (sym (blank_before_each-append (word ∷ []) words)))
    ∙ append_assoc head (blank_before_each (word ∷ words)) (10 ∷ [])
