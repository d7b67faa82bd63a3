-- What bytes bring is no more than there are bytes.
use Rattle.std.proofs.Common.{◌≡◌, ℕ, zero, suc, ◌+◌, ◌≤◌, Bool, List, [], ◌∷◌, length, Result, refl, sym, ap, subst, ◌∙◌, arith}
use Rattle.std.proofs.lemmas.List.{length-append}
use Rattle.ctw_leb.specs.Grammar.{Grammar, OneOf, TimesFrom, Times, Passing, Mapped, stays, ◌>>=◌}
use Rattle.ctw_leb.specs.Numbers.{IsU32, IsUnsigned}
use Rattle.ctw_leb.specs.Vectors.{Vector, IsName}

-- each of them meets P
abbrev pub Every : {A : Type 0} → (A → Type 0) → List A → Type 0
Every P [] = Unit {0}
Every P (a ∷ others) = P a × Every P others

-- their weights together
abbrev pub weight : {A : Type 0} → (A → ℕ) → List A → ℕ
weight w [] = 0
weight w (a ∷ others) = w a + weight w others

-- a spelling is at least as long as its value is heavy
abbrev pub Carries : {A : Type 0} → Grammar A → (A → ℕ) → Type 0
Carries {A} G w = (text : List ℕ) (a : A) → G text a → w a ≤ length text

abbrev pub HasSome : {A : Type 0} → Grammar A → Type 0
HasSome {A} G = Carries G (λ a. 1)

pub then_some : {A B : Type 0} (G : Grammar A) (H : A → Grammar B) → HasSome G → HasSome (G >>= H)
then_some G H some text b m = omega (arith, some m.1 m.0 m.3, ap length m.5, length-append m.1 m.2)

pub one_of_some : {A K : Type 0} (table : ℕ → Result A K) → HasSome (OneOf table)
one_of_some table text a m = omega (arith, ap length m.1)

pub mapped_some : {A B : Type 0} (f : A → B) (G : Grammar A) → HasSome G → HasSome (Mapped f G)
mapped_some f G some text b m = some text m.0 m.1

pub passing_some : {A : Type 0} (test : A → Bool) (G : Grammar A) → HasSome G → HasSome (Passing test G)
passing_some test G some text a m = some text a m.0

unsigned_some : (bits : ℕ) → HasSome (IsUnsigned bits)
unsigned_some bits [] n m = absurd m
unsigned_some bits (b ∷ bs) n m = omega arith

pub u32_some : HasSome IsU32
u32_some = unsigned_some 32

pub name_some : HasSome IsName
name_some text a m = omega (arith, u32_some m.0.1 m.0.0 m.0.3, ap length m.0.5, length-append m.0.1 m.0.2)

-- ---- lists

pub times_from_carry : {S A : Type 0} (G : S → Grammar A) (next : S → A → S) (w : A → ℕ) → ((s : S) → Carries (G s) w) → (n : ℕ) (s : S) → Carries (TimesFrom G next n s) (weight w)
times_from_carry {S} {A} G next w carry zero s text l m = subst (λ (z : List A). weight w z ≤ length text) m.1 (omega arith)
times_from_carry {S} {A} G next w carry (suc n) s text l m =
    let r = m.4 in
    let first = carry s m.1 m.0 m.3 in
    let others = times_from_carry G next w carry n (next s m.0) r.1 r.0 r.3 in
    let both : w m.0 + weight w r.0 ≤ length text = omega (arith, first, others, ap length m.5, ap length r.5, length-append m.1 m.2, length-append r.1 r.2) in
    subst (λ (z : List A). weight w z ≤ length text) r.4.1 both

pub times_carry : {A : Type 0} (G : Grammar A) (w : A → ℕ) → Carries G w → (n : ℕ) → Carries (Times G n) (weight w)
times_carry G w carry n = times_from_carry (λ u. G) stays w (λ u. carry) n tt

pub then_carry : {A B : Type 0} (G : Grammar A) (H : A → Grammar B) (w : B → ℕ) → ((a : A) → Carries (H a) w) → Carries (G >>= H) w
then_carry G H w carry text b m = omega (arith, carry m.0 m.2 b m.4, ap length m.5, length-append m.1 m.2)

pub vector_carry : {A : Type 0} (G : Grammar A) (w : A → ℕ) → Carries G w → Carries (Vector G) (weight w)
vector_carry G w carry = then_carry IsU32 (λ n. Times G n) (weight w) (times_carry G w carry)

pub weight_ones : {A : Type 0} (l : List A) → weight (λ a. 1) l ≡ length l
weight_ones [] = refl
weight_ones (a ∷ others) = omega (arith, weight_ones others)

pub mapped_carry : {A B : Type 0} (f : A → B) (G : Grammar A) (w : A → ℕ) (v : B → ℕ) → Carries G w → ((a : A) → v (f a) ≡ w a) → Carries (Mapped f G) v
mapped_carry {A} {B} f G w v carry same text b m =
    let here : v (f m.0) ≤ length text = omega (arith, carry text m.0 m.1, same m.0) in
    subst (λ (z : B). v z ≤ length text) m.2 here

-- ---- each item

pub times_from_every : {S A : Type 0} (G : S → Grammar A) (next : S → A → S) (P : A → Type 0) → ((s : S) (text : List ℕ) (a : A) → G s text a → P a) → (n : ℕ) (s : S) (text : List ℕ) (l : List A)
    → TimesFrom G next n s text l → Every P l
times_from_every {S} {A} G next P each zero s text l m = subst (λ (z : List A). Every P z) m.1 tt
times_from_every {S} {A} G next P each (suc n) s text l m =
    let r = m.4 in
    subst (λ (z : List A). Every P z) r.4.1 (each s m.1 m.0 m.3, times_from_every G next P each n (next s m.0) r.1 r.0 r.3)

pub times_from_count : {S A : Type 0} (G : S → Grammar A) (next : S → A → S) (n : ℕ) (s : S) (text : List ℕ) (l : List A) → TimesFrom G next n s text l → length l ≡ n
times_from_count {S} {A} G next zero s text l m = ap length (sym m.1)
times_from_count {S} {A} G next (suc n) s text l m =
    let r = m.4 in
    ap length (sym r.4.1) ∙ ap suc (times_from_count G next n (next s m.0) r.1 r.0 r.3)
