-- What a call on a cursor answered, and where it left the cursor.
use Rattle.std.specs.Prelude.{◌≡◌, ℕ, ◌+◌, ◌^◌, ◌<◌, ◌⊎◌, ◌↔◌, List, ◌++◌, length, Option, Some, None, Result, Ok, Err, IfOk, IfErr, OnErr, IsOk, IsUtf8}
use Rattle.ctw_leb.specs.declared.fault.LebFault.{LebFault}
use Rattle.ctw_leb.specs.declared.fault.LebFault.TheVariants.{Truncated, BadLeb, BadUtf8}
use Rattle.ctw_leb.specs.Input.{Input, behind}
use Rattle.ctw_leb.specs.Grammar.{Grammar, EndsInside, BeginsNone}
use Rattle.ctw_leb.specs.Numbers.{IsU32}
use Rattle.ctw_leb.specs.Vectors.{IsByteVector, IsName}

-- the answer, seen by view, is what a list function says
abbrev pub Gives : {X Y F : Type 0} → (X → Y) → Result X F → Result Y F → Type 0
Gives view (Ok x) read = read ≡ Ok (view x)
Gives view (Err e) read = read ≡ Err e

-- the answer, seen by view, and the cursor behind it are what a reader says; where it is refused,
-- the cursor is as before
abbrev pub ReadsAs : {X Y F : Type 0} → (X → Y) → Result X F → Input → Input → Result (Y × Input) F → Type 0
ReadsAs view (Ok x) old new read = read ≡ Ok (view x, new)
ReadsAs view (Err e) old new read = (read ≡ Err e) × (new ≡ old)

-- the same of a value that is seen as it is
abbrev pub Reads : {X F : Type 0} → Result X F → Input → Input → Result (X × Input) F → Type 0
Reads = ReadsAs (λ x. x)

-- the answer, seen by view, and the cursor behind it are what a reader says; where it is refused,
-- the cursor is anywhere
abbrev pub Finds : {X Y F : Type 0} → (X → Y) → Result X F → Input → Result (Y × Input) F → Type 0
Finds view (Ok x) new read = read ≡ Ok (view x, new)
Finds view (Err e) new read = read ≡ Err e

-- calls answer what a table has in the row of each byte
abbrev pub Tabulates : {A K : Type 0} → (ℕ → Result A K → Type 0) → (ℕ → Result A K) → Type 0
Tabulates {A} {K} answers rows =
    (byte : ℕ) → byte < 2 ^ 8 → (answer : Result A K) → answers byte answer → answer ≡ rows byte

-- the same of a reader whose value isn't kept
abbrev pub Skips : {A X F : Type 0} → Result X F → Input → Result (A × Input) F → Type 0
Skips {A} (Ok x) new read = (a : A) × (read ≡ Ok (a, new))
Skips (Err e) new read = read ≡ Err e

-- a reader's fault, where there is one
abbrev pub IsFault : {F Y : Type 0} → Result Y F → Option F → Type 0
IsFault read (Some f) = read ≡ Err f
IsFault read None = Unit {0}

-- A call's fault is a reader's, or memory ran out: `told` says which fault of a reader it is, none for want of memory.
abbrev pub FailsBy : {E F Y : Type 0} → (E → Option F) → E → Result Y F → Type 0
FailsBy told e read = IsFault read (told e)

-- A reader of all the bytes has a value of which this holds, or the same fault, or memory ran out.
abbrev pub HoldsBy : {X Y E F : Type 0} → (E → Option F) → (X → Y → Type 0) → Result X E → Result Y F → Type 0
HoldsBy {X} {Y} told holds (Ok x) read = (y : Y) × (read ≡ Ok y) × holds x y
HoldsBy told holds (Err e) read = FailsBy told e read

-- The same of a reader of the front, which ends at `new`.
abbrev pub HoldsFrontBy : {X Y E F : Type 0} → (E → Option F) → (X → Y → Type 0) → Result X E → Input
    → Result (Y × Input) F → Type 0
HoldsFrontBy {X} {Y} told holds (Ok x) new read = (y : Y) × (read ≡ Ok (y, new)) × holds x y
HoldsFrontBy told holds (Err e) new read = FailsBy told e read

-- the cursor moved behind a spelling of the value
abbrev pub Passes : {A : Type 0} → Grammar A → A → Input → Input → Type 0
Passes G a old new = (text : List ℕ) × G text a × (old.rest ≡ text ++ new.rest) × (new.at ≡ old.at + length text)

-- What a call that reads a number answers, by the grammar alone.
pub record ReadsNumber {X : Type 0} (G : Grammar X) (result : Result X LebFault) (old new : Input) : Type 0 where
  pub value : IfOk result (λ n. Passes G n old new)
  pub found : (text after : List ℕ) (n : X) → G text n → old.rest ≡ text ++ after
      → (result ≡ Ok n) × (new ≡ behind old.at text after)
  pub truncated : (result ≡ Err Truncated) ↔ EndsInside G old.rest
  pub bad : (result ≡ Err (BadLeb old.at)) ↔ BeginsNone G old.rest
  pub only : IfErr result (λ e. (e ≡ Truncated) ⊎ (e ≡ BadLeb old.at))
  pub kept : OnErr result (new ≡ old)

-- a size stands at the front and so many bytes that aren't UTF-8, the first of them at that place
abbrev pub IsBadText : Input → ℕ → Type 0
IsBadText i place =
    (n : ℕ) × (size text after : List ℕ) × IsU32 size n × (length text ≡ n) × (i.rest ≡ size ++ text ++ after)
    × (place ≡ i.at + length size) × ¬ IsUtf8 text

-- What a call that reads a name answers, by the grammar alone.
pub record ReadsName {X : Type 0} (bytes : X → List ℕ) (result : Result X LebFault) (old new : Input) : Type 0 where
  pub value : IfOk result (λ x. Passes IsName (bytes x) old new)
  pub found : (text after name : List ℕ) → IsName text name → old.rest ≡ text ++ after
      → IfOk result (λ x. bytes x ≡ name) × IsOk result × (new ≡ behind old.at text after)
  pub truncated : (result ≡ Err Truncated) ↔ EndsInside IsByteVector old.rest
  pub bad_size : (result ≡ Err (BadLeb old.at)) ↔ BeginsNone IsU32 old.rest
  pub bad_text : (place : ℕ) → (result ≡ Err (BadUtf8 place)) ↔ IsBadText old place
  pub only : IfErr result (λ e. (e ≡ Truncated) ⊎ ((e ≡ BadLeb old.at) ⊎ ((place : ℕ) × (e ≡ BadUtf8 place))))
  pub kept : OnErr result (new ≡ old)
