-- Loops that pass users, one part's and then part by part.
use Rattle.std.proofs.Common.{◌≡◌, ◌≤◌, ℕ, ◌<◌, ◌+◌, List, [], ◌∷◌, ◌++◌, length, map, drop, get_or, All, Result, Ok, Err, inl, inr, refl, sym, ap, ap₂, subst, ◌∙◌}
use Rattle.std.proofs.lemmas.Option.{slice_get-get_or}
use Rattle.ctw_ops.specs.declared.types.Label.{Label}
use Rattle.ctw_ops.specs.Types.{FunctionType}
use Rattle.ctw_link.specs.declared.fault.LinkFault.{LinkFault}
use Rattle.ctw_link.specs.declared.set.Part.{Part}
use Rattle.ctw_ops.specs.Tree.{Module, type_named}
use Rattle.ctw_ops.specs.Valid.{IsValid}
use Rattle.ctw_module.specs.Trees.{tree, view_module}
use Rattle.ctw_link.specs.Linked.{IsPart}
use Rattle.ctw_link.specs.Users.{users_in, user_entries, first_uses, mix_behind}
use Rattle.ctw_link.proofs.EntryBounds.{users_below}
use Rattle.ctw_link.proofs.Repeats.{mix_of_uses, uses_below}
use Rattle.std.proofs.lemmas.List.Elements.{All-weaker}
use Rattle.ctw_link.specs.Firsts.{type_in, HasEntry, TellsFirsts, TellsSome, Passes}
use Rattle.ctw_link.proofs.FirstUsers.{Firsts}
use Rattle.ctw_link.proofs.Folding.{drop_there, drop_past}

-- users are passed, and others are left
abbrev pub Leaves : List Part → List (FunctionType Label) → List (FunctionType Label) → List (FunctionType Label) → Firsts → Type 0
Leaves parts before users left firsts =
    (after : List (FunctionType Label)) × TellsFirsts parts after firsts × ((others : List (FunctionType Label)) → mix_behind before (users ++ others) ≡ mix_behind after (left ++ others))

-- the entries before a place are passed
pub record EntriesPassed (parts : List Part) (part : ℕ) (entries : List ℕ) (start now : Firsts) (i : ℕ) : Type 0 where
  pub told : TellsSome parts now
  pub behind : (before : List (FunctionType Label)) → TellsFirsts parts before start → Leaves parts before (map (type_in parts part) entries) (map (type_in parts part) (drop i entries)) now

pub entries_none : (parts : List Part) (part : ℕ) (entries : List ℕ) (start : Firsts) → TellsSome parts start → EntriesPassed parts part entries start start 0
entries_none parts part entries start told = record { told = told; behind = λ before t. (before, t, λ others. refl) }

left_at : (parts : List Part) (part : ℕ) (entries : List ℕ) (i : ℕ) → i < length entries → map (type_in parts part) (drop i entries) ≡ type_in parts part (get_or entries i 0) ∷ map (type_in parts part) (drop (i + 1) entries)
left_at parts part entries i lt = ap (map (type_in parts part)) (drop_there entries i (get_or entries i 0) (slice_get-get_or entries i 0 lt))

pub entries_more : (parts : List Part) (part : ℕ) (entries : List ℕ) (start now next : Firsts) (i table : ℕ) → i < length entries
    → ((before : List (FunctionType Label)) → TellsFirsts parts before now → Passes parts table before (type_in parts part (get_or entries i 0) ∷ []) next (Ok tt))
    → EntriesPassed parts part entries start now i → EntriesPassed parts part entries start next (i + 1)
entries_more parts part entries start now next i table lt pass h = record {
  told = (let p = pass h.told.0 h.told.1 in (p.0, p.1));
  behind = λ before t.
      (let b = h.behind before t in
      let p = pass b.0 b.1 in
      (p.0, p.1, λ others. b.2 others ∙ ap (λ l. mix_behind b.0 (l ++ others)) (left_at parts part entries i lt) ∙ p.2 (map (type_in parts part) (drop (i + 1) entries) ++ others)));
}

pub entries_stop : (parts : List Part) (part : ℕ) (entries : List ℕ) (start now next : Firsts) (i table : ℕ) (e : LinkFault) → i < length entries
    → ((before : List (FunctionType Label)) → TellsFirsts parts before now → Passes parts table before (type_in parts part (get_or entries i 0) ∷ []) next (Err e))
    → EntriesPassed parts part entries start now i → (before : List (FunctionType Label)) → TellsFirsts parts before start → Passes parts table before (map (type_in parts part) entries) next (Err e)
entries_stop parts part entries start now next i table e lt pass h before t = go (h.behind before t)
  where
    go : Leaves parts before (map (type_in parts part) entries) (map (type_in parts part) (drop i entries)) now → Passes parts table before (map (type_in parts part) entries) next (Err e)
    go b = stopped (pass b.0 b.1)
      where
        stopped : Passes parts table b.0 (type_in parts part (get_or entries i 0) ∷ []) next (Err e) → Passes parts table before (map (type_in parts part) entries) next (Err e)
        stopped (inl short) = inl short
        stopped (inr m) = inr (m.0, m.1, m.2, λ others. b.2 others ∙ ap (λ l. mix_behind b.0 (l ++ others)) (left_at parts part entries i lt) ∙ m.3 (map (type_in parts part) (drop (i + 1) entries) ++ others))

pub entries_all : (parts : List Part) (part : ℕ) (entries : List ℕ) (start now : Firsts) (i table : ℕ) → length entries ≤ i → EntriesPassed parts part entries start now i
    → (before : List (FunctionType Label)) → TellsFirsts parts before start → Passes parts table before (map (type_in parts part) entries) now (Ok tt)
entries_all parts part entries start now i table le h before t =
    let b = h.behind before t in
    (b.0, b.1, λ others. b.2 others ∙ ap (λ l. mix_behind b.0 (map (type_in parts part) l ++ others)) (drop_past entries i le))

-- ---- the users of a part

named_in : (parts : List Part) (part : ℕ) (p : Part) (entry : ℕ) → IsPart parts part p → type_in parts part entry ≡ type_named (tree p.«module») entry
named_in parts part p entry is = rw is refl

same_map : {A B : Type 0} (f g : A → B) (l : List A) → ((a : A) → f a ≡ g a) → map f l ≡ map g l
same_map f g [] h = refl
same_map f g (a ∷ l) h = ap₂ (λ x xs. x ∷ xs) (h a) (same_map f g l h)

pub users_there : (parts : List Part) (part : ℕ) (p : Part) (entries : List ℕ) → IsPart parts part p → IsValid (view_module p.«module») → entries ≡ first_uses (user_entries (tree p.«module»)) → All (HasEntry parts part) entries
users_there parts part p entries is v e =
    let m = view_module p.«module» in
    subst (λ l. All (HasEntry parts part) l) (sym e)
    (All-weaker (λ entry. entry < length m.types) (HasEntry parts part) (λ entry lt. (p, is, lt)) (first_uses (user_entries m)) (uses_below (length m.types) (user_entries m) (users_below m v)))

pub users_pass : (parts : List Part) (part table : ℕ) (p : Part) (entries : List ℕ) (before : List (FunctionType Label)) (firsts : Firsts) (r : Result (Unit {0}) LinkFault) → IsPart parts part p → entries ≡ first_uses (user_entries (tree p.«module»))
    → Passes parts table before (map (type_in parts part) entries) firsts r → Passes parts table before (users_in (tree p.«module»)) firsts r
users_pass parts part table p entries before firsts r is e pass = go r pass
  where
    m : Module Label
    m = tree p.«module»

    same : (others : List (FunctionType Label)) → mix_behind before (users_in m ++ others) ≡ mix_behind before (map (type_in parts part) entries ++ others)
    same others =
        mix_of_uses (type_named m) before (user_entries m) others
        ∙ ap (λ l. mix_behind before (l ++ others)) (ap (map (type_named m)) (sym e) ∙ sym (same_map (type_in parts part) (type_named m) entries (λ entry. named_in parts part p entry is)))

    go : (r : Result (Unit {0}) LinkFault) → Passes parts table before (map (type_in parts part) entries) firsts r → Passes parts table before (users_in m) firsts r
    go (Ok u) h = (h.0, h.1, λ others. same others ∙ h.2 others)
    go (Err f) (inl short) = inl short
    go (Err f) (inr h) = inr (h.0, h.1, h.2, λ others. same others ∙ h.3 others)
