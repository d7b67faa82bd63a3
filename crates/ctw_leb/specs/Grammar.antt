-- Grammars: which bytes spell a value. Each combinator has its reader, under its name in lower case, in `Reading`.
use Rattle.std.specs.Prelude.{◌≡◌, ℕ, zero, suc, List, [], ◌∷◌, ◌++◌, length, Result, Ok, Bool, true}

-- which bytes spell which value
abbrev pub Grammar : Type 0 → Type 1
Grammar A = List ℕ → A → Type 0

-- one thing and then another, which may depend on it
infixl 10 ◌>>=◌
abbrev pub ◌>>=◌ : {A B : Type 0} → Grammar A → (A → Grammar B) → Grammar B
◌>>=◌ {A} G H text b = (a : A) × (x y : List ℕ) × G x a × H a y b × (text ≡ x ++ y)

-- no bytes
abbrev pub Just : {A : Type 0} → A → Grammar A
Just a text b = (text ≡ []) × (a ≡ b)

-- bytes that stand for themselves
abbrev pub Bytes : Grammar (List ℕ)
Bytes text bytes = text ≡ bytes

-- one byte that stands for something; where it stands for nothing, the table says why
abbrev pub OneOf : {A K : Type 0} → (ℕ → Result A K) → Grammar A
OneOf table text a = (b : ℕ) × (text ≡ b ∷ []) × (table b ≡ Ok a)

-- the state behind items, each of which changes it
abbrev pub state_after : {S A : Type 0} → (S → A → S) → S → List A → S
state_after next s [] = s
state_after next s (a ∷ others) = state_after next (next s a) others

-- items to the end of the bytes, each read in the state behind those before it
abbrev pub Items : {S A : Type 0} → (S → Grammar A) → (S → A → S) → S → Grammar (List A)
Items G next s text [] = text ≡ []
Items G next s text (a ∷ others) = (x y : List ℕ) × G s x a × Items G next (next s a) y others × (text ≡ x ++ y)

-- so many items, each read in the state behind those before it
abbrev pub TimesFrom : {S A : Type 0} → (S → Grammar A) → (S → A → S) → ℕ → S → Grammar (List A)
TimesFrom G next zero s = Just []
TimesFrom G next (suc n) s = G s >>= λ a. TimesFrom G next n (next s a) >>= λ others. Just (a ∷ others)

-- no state
abbrev pub stays : {A : Type 0} → Unit {0} → A → Unit {0}
stays u a = u

-- so many items
abbrev pub Times : {A : Type 0} → Grammar A → ℕ → Grammar (List A)
Times G n = TimesFrom (λ u. G) stays n tt

-- something in exactly so many bytes
abbrev pub Within : {A : Type 0} → ℕ → Grammar A → Grammar A
Within n G text a = (length text ≡ n) × G text a

-- something that passes a test
abbrev pub Passing : {A : Type 0} → (A → Bool) → Grammar A → Grammar A
Passing test G text a = G text a × (test a ≡ true)

-- something, seen in another way
abbrev pub Mapped : {A B : Type 0} → (A → B) → Grammar A → Grammar B
Mapped {A} f G text b = (a : A) × G text a × (f a ≡ b)

-- the bytes end inside a spelling
abbrev pub EndsInside : {A : Type 0} → Grammar A → List ℕ → Type 0
EndsInside {A} G bytes = (c : ℕ) × (more : List ℕ) × (a : A) × G (bytes ++ c ∷ more) a

-- no spelling stands at the front, and none can come of more bytes
abbrev pub BeginsNone : {A : Type 0} → Grammar A → List ℕ → Type 0
BeginsNone {A} G bytes = (more text after : List ℕ) (a : A) → G text a → bytes ++ more ≡ text ++ after → ⊥
