-- Type entries that are used again change nothing of which users are mixed.
use Rattle.std.proofs.Common.{◌≡◌, ℕ, ◌<◌, Bool, true, false, ◌||◌, cond, nat_eq, List, [], ◌∷◌, ◌++◌, map, fold, find, Option, Some, None, if◌then◌else◌, refl, sym, ap, ap₂, subst, ◌∙◌}
use Rattle.std.specs.List.{list_any}
use Rattle.std.specs.Option.{option_or}
use Rattle.std.proofs.lemmas.Bool.{eqb-true, false≢true}
use Rattle.std.proofs.lemmas.List.{append_assoc, append-nil}
use Rattle.std.proofs.lemmas.List.Folds.{find-append, list_any-append}
use Rattle.std.proofs.lemmas.List.Elements.{All-head, All-tail, All-push, All-nil}
use Rattle.std.proofs.lemmas.Option.{same_Some, none-some}
use Rattle.ctw_ops.specs.declared.types.Label.{Label}
use Rattle.ctw_ops.specs.Types.{FunctionType}
use Rattle.ctw_ops.specs.Equal.{same_function_type, erases_alike}
use Rattle.ctw_link.specs.Users.{differing, or_later, mix_behind, with_entry, first_uses}
use Rattle.ctw_link.specs.Marks.{AllBelow}
use Rattle.ctw_ops.proofs.EqualLaws.{same_function_type_is, same_function_type_refl, alike_refl}

-- ---- entries that are not found yet

abbrev new_ones : List ℕ → List ℕ → List ℕ
new_ones found [] = []
new_ones found (e ∷ entries) = if list_any (nat_eq e) found then new_ones found entries else e ∷ new_ones (found ++ e ∷ []) entries

with_new : (found entries : List ℕ) → fold with_entry found entries ≡ found ++ new_ones found entries
with_new found [] = sym (append-nil found)
with_new found (e ∷ entries) = go (list_any (nat_eq e) found) (with_new found entries) (with_new (found ++ e ∷ []) entries)
  where
    go : (b : Bool) → fold with_entry found entries ≡ found ++ new_ones found entries → fold with_entry (found ++ e ∷ []) entries ≡ (found ++ e ∷ []) ++ new_ones (found ++ e ∷ []) entries
        → fold with_entry (if b then found else found ++ e ∷ []) entries ≡ found ++ (if b then new_ones found entries else e ∷ new_ones (found ++ e ∷ []) entries)
    go true had more = had
    go false had more = more ∙ append_assoc found (e ∷ []) (new_ones (found ++ e ∷ []) entries)

first_new : (entries : List ℕ) → first_uses entries ≡ new_ones [] entries
first_new entries = with_new [] entries

-- first uses are of the same entries
pub uses_below : (count : ℕ) (entries : List ℕ) → AllBelow count entries → AllBelow count (first_uses entries)
uses_below count entries all = go [] entries (All-nil (λ entry. entry < count)) all
  where
    more : (found : List ℕ) (e : ℕ) (b : Bool) → AllBelow count found → e < count → AllBelow count (if b then found else found ++ e ∷ [])
    more found e true all lt = all
    more found e false all lt = All-push (λ entry. entry < count) found e all lt

    go : (found entries : List ℕ) → AllBelow count found → AllBelow count entries → AllBelow count (fold with_entry found entries)
    go found [] had all = had
    go found (e ∷ entries) had all =
        go (with_entry found e) entries (more found e (list_any (nat_eq e) found) had (All-head (λ entry. entry < count) e entries all)) (All-tail (λ entry. entry < count) e entries all)

-- ---- users with the same first ones

abbrev HaveSameFirsts : List (FunctionType Label) → List (FunctionType Label) → Type 0
HaveSameFirsts before other = (t : FunctionType Label) → find (erases_alike t) before ≡ find (erases_alike t) other

same_firsts_push : (before other : List (FunctionType Label)) (b : FunctionType Label) → HaveSameFirsts before other → HaveSameFirsts (before ++ b ∷ []) (other ++ b ∷ [])
same_firsts_push before other b h t =
    find-append (erases_alike t) before (b ∷ []) ∙ ap (λ o. option_or o (find (erases_alike t) (b ∷ []))) (h t) ∙ sym (find-append (erases_alike t) other (b ∷ []))

same_mix : (before other users : List (FunctionType Label)) → HaveSameFirsts before other → mix_behind before users ≡ mix_behind other users
same_mix before other [] h = refl
same_mix before other (b ∷ users) h =
    ap₂ (λ o later. or_later (differing b o) later) (h b) (same_mix (before ++ b ∷ []) (other ++ b ∷ []) users (same_firsts_push before other b h))

-- ---- a user that is the first of those that erase like it

abbrev IsAFirst : List (FunctionType Label) → FunctionType Label → Type 0
IsAFirst before t = find (erases_alike t) before ≡ Some t

kept_first : (before : List (FunctionType Label)) (t b : FunctionType Label) → IsAFirst before t → IsAFirst (before ++ b ∷ []) t
kept_first before t b e = find-append (erases_alike t) before (b ∷ []) ∙ ap (λ o. option_or o (find (erases_alike t) (b ∷ []))) e

-- it doesn't differ, and stays the first when it is used again
not_differing : (t : FunctionType Label) → differing t (Some t) ≡ None
not_differing t = ap (λ b. if b then None else Some (t, t)) (same_function_type_refl t)

missing : (test other : FunctionType Label → Bool) (before : List (FunctionType Label)) (t : FunctionType Label) → find test before ≡ Some t → find other before ≡ None → other t ≡ false
missing test other [] t e f = absurd (none-some t e)
missing test other (x ∷ before) t e f = go (test x) (other x) refl (missing test other before t) e f
  where
    go : (b c : Bool) → other x ≡ c → (find test before ≡ Some t → find other before ≡ None → other t ≡ false) → cond b (Some x) (find test before) ≡ Some t → cond c (Some x) (find other before) ≡ None → other t ≡ false
    go b true q again e f = absurd (none-some x (sym f))
    go true false q again e f = ap other (sym (same_Some x t e)) ∙ q
    go false false q again e f = again e f

again : (before : List (FunctionType Label)) (b : FunctionType Label) → IsAFirst before b → HaveSameFirsts (before ++ b ∷ []) before
again before b e t = find-append (erases_alike t) before (b ∷ []) ∙ go (find (erases_alike t) before) refl
  where
    go : (o : Option (FunctionType Label)) → find (erases_alike t) before ≡ o → option_or o (find (erases_alike t) (b ∷ [])) ≡ o
    go (Some a) q = refl
    go None q = ap (λ c. cond c (Some b) None) (missing (erases_alike b) (erases_alike t) before b e q)

pub used_again : (before users : List (FunctionType Label)) (b : FunctionType Label) → IsAFirst before b → mix_behind before (b ∷ users) ≡ mix_behind before users
used_again before users b e =
    ap (λ o. or_later (differing b o) (mix_behind (before ++ b ∷ []) users)) e
    ∙ ap (λ o. or_later o (mix_behind (before ++ b ∷ []) users)) (not_differing b)
    ∙ same_mix (before ++ b ∷ []) before users (again before b e)

-- a user that passes is then the first of those that erase like it
passed_first : (before : List (FunctionType Label)) (b : FunctionType Label) → differing b (find (erases_alike b) before) ≡ None → IsAFirst (before ++ b ∷ []) b
passed_first before b e = find-append (erases_alike b) before (b ∷ []) ∙ go (find (erases_alike b) before) e
  where
    go : (o : Option (FunctionType Label)) → differing b o ≡ None → option_or o (find (erases_alike b) (b ∷ [])) ≡ Some b
    go None q = ap (λ c. cond c (Some b) None) (alike_refl b)
    go (Some a) q = same (same_function_type a b) refl q
      where
        same : (c : Bool) → same_function_type a b ≡ c → ◌≡◌ {A = Option (FunctionType Label × FunctionType Label)} (if c then None else Some (a, b)) None → Some a ≡ Some b
        same true s q = ap Some (same_function_type_is a b s)
        same false s q = absurd (none-some (a, b) (sym q))

-- ---- entries with repeats

-- the types of the entries that are found are first ones
abbrev AreFirsts : (ℕ → FunctionType Label) → List (FunctionType Label) → List ℕ → Type 0
AreFirsts type before found = (e : ℕ) → list_any (nat_eq e) found ≡ true → IsAFirst before (type e)

firsts_push : (type : ℕ → FunctionType Label) (before : List (FunctionType Label)) (found : List ℕ) (x : ℕ) → IsAFirst (before ++ type x ∷ []) (type x) → AreFirsts type before found → AreFirsts type (before ++ type x ∷ []) (found ++ x ∷ [])
firsts_push type before found x here h e q = go (list_any (nat_eq e) found) (nat_eq e x) refl refl (sym (list_any-append (nat_eq e) found (x ∷ [])) ∙ q)
  where
    go : (a b : Bool) → list_any (nat_eq e) found ≡ a → nat_eq e x ≡ b → (a || (b || false)) ≡ true → IsAFirst (before ++ type x ∷ []) (type e)
    go true b p r q = kept_first before (type e) (type x) (h e p)
    go false true p r q = subst (λ n. IsAFirst (before ++ type x ∷ []) (type n)) (sym (eqb-true e x r)) here
    go false false p r q = absurd (false≢true q)

or_later_same : {A : Type 0} (o : Option A) (l k : Option A) → (o ≡ None → l ≡ k) → or_later o l ≡ or_later o k
or_later_same None l k h = h refl
or_later_same (Some a) l k h = refl

repeats : (type : ℕ → FunctionType Label) (before : List (FunctionType Label)) (found entries : List ℕ) (others : List (FunctionType Label)) → AreFirsts type before found
    → mix_behind before (map type entries ++ others) ≡ mix_behind before (map type (new_ones found entries) ++ others)
repeats type before found [] others h = refl
repeats type before found (e ∷ entries) others h = go (list_any (nat_eq e) found) refl (repeats type before found entries others h) (repeats type (before ++ type e ∷ []) (found ++ e ∷ []) entries others)
  where
    go : (b : Bool) → list_any (nat_eq e) found ≡ b → mix_behind before (map type entries ++ others) ≡ mix_behind before (map type (new_ones found entries) ++ others)
        → (AreFirsts type (before ++ type e ∷ []) (found ++ e ∷ []) → mix_behind (before ++ type e ∷ []) (map type entries ++ others) ≡ mix_behind (before ++ type e ∷ []) (map type (new_ones (found ++ e ∷ []) entries) ++ others))
        → mix_behind before (type e ∷ (map type entries ++ others)) ≡ mix_behind before (map type (if b then new_ones found entries else e ∷ new_ones (found ++ e ∷ []) entries) ++ others)
    go true q same more = used_again before (map type entries ++ others) (type e) (h e q) ∙ same
    go false q same more = or_later_same (differing (type e) (find (erases_alike (type e)) before)) _ _ (λ none. more (firsts_push type before found e (passed_first before (type e) none) h))

pub mix_of_uses : (type : ℕ → FunctionType Label) (before : List (FunctionType Label)) (entries : List ℕ) (others : List (FunctionType Label)) → mix_behind before (map type entries ++ others) ≡ mix_behind before (map type (first_uses entries) ++ others)
mix_of_uses type before entries others =
    repeats type before [] entries others (λ e q. absurd (false≢true q)) ∙ ap (λ l. mix_behind before (map type l ++ others)) (sym (first_new entries))
