-- Texts one behind another, and then the rest.
use Rattle.std.proofs.Common.{◌≡◌, ℕ, List, ◌++◌, Result, Ok, Err, cond, sym, ap, ◌∙◌, append_assoc}
use Rattle.std.specs.Prelude.{OnOk, is_ok}

pub join2 : (a b r : List ℕ) → a ++ (b ++ r) ≡ (a ++ b) ++ r
join2 a b r = sym (append_assoc a b r)

pub join3 : (a b c r : List ℕ) → a ++ (b ++ (c ++ r)) ≡ ((a ++ b) ++ c) ++ r
join3 a b c r = join2 a b (c ++ r) ∙ join2 (a ++ b) c r

pub join4 : (a b c d r : List ℕ) → a ++ (b ++ (c ++ (d ++ r))) ≡ (((a ++ b) ++ c) ++ d) ++ r
join4 a b c d r = join3 a b c (d ++ r) ∙ join2 ((a ++ b) ++ c) d r

pub join5 : (a b c d e r : List ℕ) → a ++ (b ++ (c ++ (d ++ (e ++ r)))) ≡ ((((a ++ b) ++ c) ++ d) ++ e) ++ r
join5 a b c d e r = join4 a b c d (e ++ r) ∙ join2 (((a ++ b) ++ c) ++ d) e r

pub join6 : (a b c d e f r : List ℕ) → a ++ (b ++ (c ++ (d ++ (e ++ (f ++ r))))) ≡ (((((a ++ b) ++ c) ++ d) ++ e) ++ f) ++ r
join6 a b c d e f r = join5 a b c d e (f ++ r) ∙ join2 ((((a ++ b) ++ c) ++ d) ++ e) f r

pub join7 : (a b c d e f g r : List ℕ) → a ++ (b ++ (c ++ (d ++ (e ++ (f ++ (g ++ r)))))) ≡ ((((((a ++ b) ++ c) ++ d) ++ e) ++ f) ++ g) ++ r
join7 a b c d e f g r = join6 a b c d e f (g ++ r) ∙ join2 (((((a ++ b) ++ c) ++ d) ++ e) ++ f) g r

-- three texts behind one
pub behind3 : (o a b c : List ℕ) → ((o ++ a) ++ b) ++ c ≡ o ++ ((a ++ b) ++ c)
behind3 o a b c = sym (join3 o a b c) ∙ ap (λ (l : List ℕ). o ++ l) (join2 a b c)

-- a function's head, its type, its locals, its lines and its end, part by part
pub function_joined : {A E : Type 0} (r : Result A E) (o a u l lines z one two three four : List ℕ) → one ≡ (o ++ a) ++ u → two ≡ one ++ l → three ≡ two ++ lines → four ≡ cond (is_ok r) (three ++ z) three
    → OnOk r (four ≡ o ++ ((((a ++ u) ++ l) ++ lines) ++ z))
function_joined (Err x) o a u l lines z one two three four p q s t = tt
function_joined (Ok x) o a u l lines z one two three four p q s t =
    t ∙ ap (λ (k : List ℕ). k ++ z) (s ∙ ap (λ (k : List ℕ). k ++ lines) (q ∙ ap (λ (k : List ℕ). k ++ l) p))
    ∙ sym (join5 o a u l lines z) ∙ ap (λ (k : List ℕ). o ++ k) (join4 a u l lines z)
