-- Opcodes that push a value with a site, as the words of sites tell them, and as release points.
use Rattle.std.specs.Prelude.{◌≡◌, ◌↔◌, ℕ, ◌≤◌, ◌+◌, ◌-◌, ◌^◌, ◌/◌, ◌%◌, ◌==◌, ◌&&◌, ◌||◌, Bool, true, false, List, [], ◌∷◌, Option, Some, None, length, take, drop, if◌then◌else◌}
use Rattle.ctw_ops.specs.declared.types.Label.{Label}
use Rattle.ctw_ops.specs.Tree.{Module}
use Rattle.ctw_labels.specs.declared.name.SiteName.TheVariants.{Push}
use Rattle.ctw_labels.specs.Points.{Points, is_released}
use Rattle.ctw_marks.specs.Meaning.{HasSite}

-- the opcode of the site of a push, by the site's word
abbrev pub pushed_at : ℕ → Option ℕ
pushed_at word = if word % 2 ^ 4 == 7 then Some (word / 2 ^ 4 % 2 ^ 21) else None

abbrev pub is_some_number : ℕ → Option ℕ → Bool
is_some_number k None = false
is_some_number k (Some n) = n == k

-- one of the words is that of the push of an opcode
abbrev pub pushes_among : ℕ → List ℕ → Bool
pushes_among k [] = false
pushes_among k (w ∷ ws) = is_some_number k (pushed_at w) || pushes_among k ws

-- the points release at just the opcodes with a push
abbrev pub ArePushes : Module Label → Points → Type 0
ArePushes m p = (f k : ℕ) → (is_released p f k ≡ true) ↔ HasSite m (Push f k)

abbrev pub MayBePushes : Module Label → Option Points → Type 0
MayBePushes m None = Unit {0}
MayBePushes m (Some p) = ArePushes m p

-- ---- body by body

-- where a body's sites end whose followers begin there: the whole ends at `n`
abbrev pub end_of : ℕ → List ℕ → ℕ
end_of n [] = n
end_of n (s ∷ ss) = s

-- one of the bodies, which are numbered from `f` on, has the number `g`, and a word of the push of the opcode `k`
abbrev pub pushes_in : ℕ → List ℕ → List ℕ → ℕ → ℕ → Bool
pushes_in f [] words g k = false
pushes_in f (s ∷ ss) words g k =
    (f == g && pushes_among k (take (end_of (length words) ss - s) (drop s words))) || pushes_in (f + 1) ss words g k

-- starts that don't fall, up to `n`
abbrev pub AreStarts : List ℕ → ℕ → Type 0
AreStarts [] n = Unit {0}
AreStarts (s ∷ ss) n = (s ≤ end_of n ss) × (end_of n ss ≤ n) × AreStarts ss n
