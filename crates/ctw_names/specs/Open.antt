-- What is kept of the labels that are open.
use Rattle.std.specs.Prelude.{◌≡◌, ◌<◌, ◌^◌, ℕ, Bool, false, cond, List, [], ◌∷◌, Option, Some, None, length, map, reverse}
use Rattle.std.specs.Str.{bytes_eq}
use Rattle.indexmap.specs.IndexMap.{get_by}
use Rattle.ctw_text.specs.Written.{Name}
use Rattle.ctw_text.specs.Names.{is_named}
use Rattle.ctw_names.specs.declared.labels.OpenBlock.{OpenBlock}
use Rattle.ctw_names.specs.declared.labels.Labels.TheInside.{Inside}

-- the blocks from the innermost on
abbrev pub blocks_in : Inside → List OpenBlock
blocks_in l = reverse l.open.items

abbrev pub labels_in : Inside → List (Option Name)
labels_in l = map (λ (b : OpenBlock). b.name) (blocks_in l)

-- the number from the outermost on of the innermost block with a word
abbrev pub top : List ℕ → List OpenBlock → Option ℕ
top w [] = None
top w (b ∷ bs) = cond (is_named (record { word = w; place = 0 }) b.name) (Some (length bs)) (top w bs)

abbrev pub shadowed_by : Option Name → List OpenBlock → Option ℕ
shadowed_by None bs = None
shadowed_by (Some w) bs = top w.word bs

-- each block keeps what its label shadows
abbrev pub IsStack : List OpenBlock → Type 0
IsStack [] = Unit {0}
IsStack (b ∷ bs) = (b.shadowed ≡ shadowed_by b.name bs) × IsStack bs

abbrev pub flat : Option (Option ℕ) → Option ℕ
flat None = None
flat (Some o) = o

-- the map holds for each word the innermost block with it
pub record IsOpen (l : Inside) : Type 0 where
  pub few : length l.open.items < 2 ^ 32
  pub shadows : IsStack (blocks_in l)
  pub tops : (w : List ℕ) → flat (get_by (λ k. bytes_eq w k.now) l.tops) ≡ top w (blocks_in l)

-- whether the first of these labels is a name's word
abbrev pub is_front : Name → List (Option Name) → Bool
is_front w [] = false
is_front w (l ∷ labels) = is_named w l
