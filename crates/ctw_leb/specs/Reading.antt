-- Readers: the value at the front of the bytes, or the first fault. Each combinator of `Grammar` has one here.
use Rattle.std.specs.Prelude.{◌≡◌, ℕ, zero, suc, ◌+◌, List, [], ◌∷◌, ◌++◌, length, take, drop, Result, Ok, Err, nat_le, Bool, if◌then◌else◌}
use Rattle.ctw_leb.specs.Input.{Input, behind}
use Rattle.ctw_leb.specs.Grammar.{Grammar, stays}

-- a value and where it ends, or a fault
abbrev pub Reader : Type 0 → Type 0 → Type 0
Reader A F = Input → Result (A × Input) F

-- the same of all the bytes
abbrev pub WholeReader : Type 0 → Type 0 → Type 0
WholeReader A F = Input → Result A F

-- A reader is exact for a grammar where it answers a value exactly where a spelling of it stands, and then
-- stands behind that spelling.
pub record Exact {A F : Type 0} (G : Grammar A) (r : Reader A F) : Type 0 where
  pub sound : (i : Input) (a : A) (o : Input) → r i ≡ Ok (a, o)
      → (text : List ℕ) × G text a × (i.rest ≡ text ++ o.rest) × (o.at ≡ i.at + length text)
  pub complete : (text rest : List ℕ) (at : ℕ) (a : A) → G text a
      → r (record { at = at; rest = text ++ rest }) ≡ Ok (a, behind at text rest)

-- A reader of all bytes is exact for a grammar where it answers a value exactly where all the bytes spell it.
pub record Whole {A F : Type 0} (G : Grammar A) (r : WholeReader A F) : Type 0 where
  pub sound : (i : Input) (a : A) → r i ≡ Ok a → G i.rest a
  pub complete : (i : Input) (a : A) → G i.rest a → r i ≡ Ok a

-- go on with the value, where there is one
abbrev pub chain : {X Y F : Type 0} → Result X F → (X → Result Y F) → Result Y F
chain (Ok x) f = f x
chain (Err e) f = Err e

-- one thing and then another, which may depend on it
infixl 10 ◌>>=◌
abbrev pub ◌>>=◌ : {A B F : Type 0} → Reader A F → (A → Reader B F) → Reader B F
◌>>=◌ r f i = chain (r i) (λ x. f x.0 x.1)

-- a thing, and then all the other bytes
abbrev pub then_all : {A B F : Type 0} → Reader A F → (A → WholeReader B F) → WholeReader B F
then_all r s i = chain (r i) (λ x. s x.0 x.1)

-- no bytes
abbrev pub give : {A F : Type 0} → A → Reader A F
give a i = Ok (a, i)

-- all the bytes as they are
abbrev pub all_bytes : {F : Type 0} → WholeReader (List ℕ) F
all_bytes i = Ok i.rest

-- the fault seen in another way
abbrev pub refused : {X F G : Type 0} → (F → G) → Result X F → Result X G
refused f (Ok x) = Ok x
refused f (Err e) = Err (f e)

-- the fault seen in another way, which may speak of where the reader began
abbrev pub faulted : {A F G : Type 0} → (Input → F → G) → Reader A F → Reader A G
faulted f r i = refused (f i) (r i)

-- what a byte stands for, or the fault of its kind
abbrev pub known : {A K F : Type 0} → (K → F) → Input → Result A K → Result (A × Input) F
known bad o (Ok a) = Ok (a, o)
known bad o (Err kind) = Err (bad kind)

-- the same of the first of these bytes
abbrev pub one_of_bytes : {A K F : Type 0} → (ℕ → F) → (K → ℕ → F) → (ℕ → Result A K) → ℕ → List ℕ
    → Result (A × Input) F
one_of_bytes short bad table at [] = Err (short at)
one_of_bytes short bad table at (b ∷ rest) = known (λ kind. bad kind at) (record { at = at + 1; rest = rest }) (table b)

-- one byte by a table: `short` where there is none, `bad` by its kind where it stands for nothing
abbrev pub one_of : {A K F : Type 0} → (ℕ → F) → (K → ℕ → F) → (ℕ → Result A K) → Reader A F
one_of short bad table i = one_of_bytes short bad table i.at i.rest

-- the same, with the kind of a fault and its place
abbrev pub tabled : {A K : Type 0} → K → (ℕ → Result A K) → Reader A (K × ℕ)
tabled short table = one_of (λ at. (short, at)) (λ kind at. (kind, at)) table

-- so many items, each read in the state behind those before it
abbrev pub times_from : {S A F : Type 0} → (S → Reader A F) → (S → A → S) → ℕ → S → Reader (List A) F
times_from r next zero s = give []
times_from r next (suc n) s = r s >>= λ a. times_from r next n (next s a) >>= λ others. give (a ∷ others)

-- so many items
abbrev pub times : {A F : Type 0} → Reader A F → ℕ → Reader (List A) F
times r n = times_from (λ u. r) stays n tt

-- items to the end; the first number is at least the count of bytes
unfoldable pub items_in : {S A F : Type 0} → (S → Reader A F) → (S → A → S) → ℕ → S → ℕ → List ℕ → Result (List A) F
items_in r next fuel s at [] = Ok []
items_in r next zero s at (b ∷ rest) = Ok []
items_in r next (suc fuel) s at (b ∷ rest) =
    chain (r s (record { at = at; rest = b ∷ rest }))
    (λ x. chain (items_in r next fuel (next s x.0) x.1.at x.1.rest) (λ others. Ok (x.0 ∷ others)))

-- items to the end, each read in the state behind those before it
abbrev pub items : {S A F : Type 0} → (S → Reader A F) → (S → A → S) → S → WholeReader (List A) F
items r next s i = items_in r next (length i.rest) s i.at i.rest

-- nothing behind a thing, else `more` at the first byte behind it
abbrev pub ends : {A F : Type 0} → (ℕ → F) → A × Input → Result A F
ends more x = if nat_le (length x.1.rest) 0 then Ok x.0 else Err (more x.1.at)

-- a thing and no bytes behind it
abbrev pub alone : {A F : Type 0} → (ℕ → F) → Reader A F → WholeReader A F
alone more r i = chain (r i) (ends more)

-- the next n bytes as a window, and what is behind them
abbrev pub window_of : {F : Type 0} → (ℕ → F) → ℕ → Reader Input F
window_of short n i =
    if nat_le n (length i.rest)
    then Ok (record { at = i.at; rest = take n i.rest }, record { at = i.at + n; rest = drop n i.rest })
    else Err (short (i.at + length i.rest))

-- something in exactly n bytes; `short` at the end of the bytes where they are fewer
abbrev pub within : {A F : Type 0} → (ℕ → F) → ℕ → WholeReader A F → Reader A F
within short n r = window_of short n >>= λ w. λ o. chain (r w) (λ a. Ok (a, o))

-- the thing that was read, where it passes a test
abbrev pub passed : {A F : Type 0} → (A → Bool) → F → A × Input → Result (A × Input) F
passed test f x = if test x.0 then Ok x else Err f

-- something that passes a test; else `fails` where it begins
abbrev pub tested : {A F : Type 0} → (A → Bool) → (ℕ → F) → Reader A F → Reader A F
tested test fails r i = chain (r i) (passed test (fails i.at))

-- something at the front, seen in another way
abbrev pub seen_as : {A B F : Type 0} → (A → B) → Reader A F → Reader B F
seen_as f r i = chain (r i) (λ x. Ok (f x.0, x.1))

-- all the bytes, seen in another way
abbrev pub mapped : {A B F : Type 0} → (A → B) → WholeReader A F → WholeReader B F
mapped f r i = chain (r i) (λ a. Ok (f a))
