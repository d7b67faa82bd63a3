-- What the calls do to the open blocks that the fields stand for.
use Rattle.std.proofs.Common.{◌≡◌, ℕ, suc, ◌+◌, ◌-◌, ◌<◌, ◌≤◌, ◌^◌, List, [], ◌∷◌, ◌++◌, Option, Some, None, length, reverse, take, drop, map, set, true, refl, sym, ◌∙◌, ap, subst, arith, get_or}
use Rattle.std.specs.Prelude.{slice_get, option_map}
use Rattle.std.proofs.lemmas.List.{drop-append-le, take-append-le, reverse-append, length-append, get_or-reverse, length-reverse, length-take-le, length-drop, take-take, drop_all}
use Rattle.std.proofs.lemmas.List.Sums.{sum_by-cons}
use Rattle.std.proofs.Math.Seq.{set-append_seam, get_or-append_seam}
use Rattle.std.proofs.lemmas.Option.{slice_get-get_or, slice_get_past, slice_get-map}
use Rattle.ctw_ops.specs.Types.{ValueType}
use Rattle.ctw_stack.specs.declared.slot.Slot.{Slot}
use Rattle.ctw_stack.specs.declared.stack.Block.{Block}
use Rattle.ctw_stack.specs.Opens.{Open, type_of, slot_count, after_push, after_kill, label_from, label_of, target_of}
use Rattle.ctw_stack.specs.View.{open_from, blocks_from, blocks_of, Rises, IsSound}

-- ---- counts

count_from : {S : Type 0} (bs : List (Block S)) (xs : List (Slot S)) → Rises bs (length xs) → slot_count (blocks_from bs xs) ≡ length xs
count_from [] xs s = sym s
count_from (b ∷ bs) xs s =
    let low : length (take b.height xs) ≡ b.height = length-take-le b.height xs s.0 in
    let rest = count_from bs (take b.height xs) (subst (Rises bs) (sym low) s.1) in
    let own : length (reverse (drop b.height xs)) ≡ length xs - b.height = length-reverse (drop b.height xs) ∙ length-drop b.height xs in
    let whole : slot_count (blocks_from (b ∷ bs) xs) ≡ length (reverse (drop b.height xs)) + slot_count (blocks_from bs (take b.height xs)) =
    sum_by-cons (λ (o : Open _). length o.operands.slots) (open_from b xs) (blocks_from bs (take b.height xs)) in
    omega (arith, whole, rest, own, low, s.0)

-- the blocks hold all slots
pub count_of_blocks : {S : Type 0} {bs : List (Block S)} {xs : List (Slot S)} → IsSound bs xs → slot_count (blocks_of bs xs) ≡ length xs
count_of_blocks {S} {bs} {xs} s = count_from (reverse bs) xs s.rising

length_from : {S : Type 0} (bs : List (Block S)) (xs : List (Slot S)) → length (blocks_from bs xs) ≡ length bs
length_from [] xs = refl
length_from (b ∷ bs) xs = ap suc (length_from bs (take b.height xs))

pub length_of_blocks : {S : Type 0} {bs : List (Block S)} {xs : List (Slot S)} → IsSound bs xs → length (blocks_of bs xs) ≡ length bs
length_of_blocks {S} {bs} {xs} s = length_from (reverse bs) xs ∙ length-reverse bs

-- ---- push

rises_more : {S : Type 0} (bs : List (Block S)) (m n : ℕ) → 0 < length bs → m ≤ n → Rises bs m → Rises bs n
rises_more [] m n p h s = absurd (omega arith)
rises_more (b ∷ bs) m n p h s = (omega arith, s.1)

pub sound_push : {S : Type 0} {bs : List (Block S)} {xs : List (Slot S)} (x : Slot S) → IsSound bs xs → 0 < length (blocks_of bs xs) → slot_count (blocks_of bs xs) < 2 ^ 32 - 1 → IsSound bs (xs ++ x ∷ [])
sound_push {S} {bs} {xs} x s p few =
    let n : length (xs ++ x ∷ []) ≡ length xs + 1 = length-append xs (x ∷ []) in
    record {
      rising = rises_more (reverse bs) (length xs) (length (xs ++ x ∷ [])) (omega (arith, p, length_of_blocks s, length-reverse bs)) (omega (arith, n)) s.rising;
      few = omega (arith, n, few, count_of_blocks s);
    }

push_from : {S : Type 0} (bs : List (Block S)) (xs : List (Slot S)) (x : Slot S) → 0 < length bs → Rises bs (length xs) → blocks_from bs (xs ++ x ∷ []) ≡ after_push x (blocks_from bs xs)
push_from [] xs x p s = absurd (omega arith)
push_from (b ∷ bs) xs x p s =
    let d : reverse (drop b.height (xs ++ x ∷ [])) ≡ x ∷ reverse (drop b.height xs) = ap reverse (drop-append-le b.height xs (x ∷ []) s.0) ∙ reverse-append (drop b.height xs) (x ∷ []) in
    let t : take b.height (xs ++ x ∷ []) ≡ take b.height xs = take-append-le b.height xs (x ∷ []) s.0 in
    λ i. record { operands = record { dead = b.dead; slots = d i }; loops = b.loops; yields = option_map type_of b.yields } ∷ blocks_from bs (t i)

pub push_view : {S : Type 0} {bs : List (Block S)} {xs : List (Slot S)} (x : Slot S) → IsSound bs xs → 0 < length (blocks_of bs xs) → blocks_of bs (xs ++ x ∷ []) ≡ after_push x (blocks_of bs xs)
push_view {S} {bs} {xs} x s p = push_from (reverse bs) xs x (omega (arith, p, length_of_blocks s, length-reverse bs)) s.rising

-- ---- kill

-- a list that isn't empty, by its last element
split_last : {A : Type 0} (xs : List A) → 0 < length xs → (ys : List A) × (y : A) × (xs ≡ ys ++ y ∷ []) × (length xs ≡ length ys + 1)
split_last [] h = absurd (omega arith)
split_last (x ∷ []) h = ([], x, refl, refl)
split_last (x ∷ y ∷ xs) h =
    let r = split_last (y ∷ xs) (omega arith) in
    (x ∷ r.0, r.1, ap (λ z. x ∷ z) r.2, omega (arith, r.3))

abbrev pub dead_block : {S : Type 0} → Block S → Block S
dead_block b = record { height = b.height; dead = true; loops = b.loops; yields = b.yields }

-- the two facts of a kill
pub record Kills {S : Type 0} (bs : List (Block S)) (xs : List (Slot S)) (cs : List (Block S)) (ys : List (Slot S)) : Type 0 where
  pub view : blocks_of cs ys ≡ after_kill (blocks_of bs xs)
  pub sound : IsSound cs ys

kills_seam : {S : Type 0} (bs : List (Block S)) (b : Block S) (xs : List (Slot S)) → IsSound (bs ++ b ∷ []) xs → Kills (bs ++ b ∷ []) xs (bs ++ dead_block b ∷ []) (take b.height xs)
kills_seam {S} bs b xs s =
    let low : Rises (b ∷ reverse bs) (length xs) = subst (λ z. Rises z (length xs)) (reverse-append bs (b ∷ [])) s.rising in
    let len : length (take b.height xs) ≡ b.height = length-take-le b.height xs low.0 in
    record {
      view = ap (λ z. blocks_from z (take b.height xs)) (reverse-append bs (dead_block b ∷ [])) ∙ inside low len ∙ sym (ap (λ z. after_kill (blocks_from z xs)) (reverse-append bs (b ∷ [])));
      sound = record { rising = subst (λ z. Rises z (length (take b.height xs))) (sym (reverse-append bs (dead_block b ∷ []))) (omega arith, low.1); few = omega (arith, len, low.0, s.few) };
    }
  where
    inside : Rises (b ∷ reverse bs) (length xs) → length (take b.height xs) ≡ b.height → blocks_from (dead_block b ∷ reverse bs) (take b.height xs) ≡ after_kill (blocks_from (b ∷ reverse bs) xs)
    inside low len =
        let d : reverse (drop b.height (take b.height xs)) ≡ [] = ap reverse (drop_all b.height (take b.height xs) (omega arith)) in
        λ i. record { operands = record { dead = true; slots = d i }; loops = b.loops; yields = option_map type_of b.yields } ∷ blocks_from (reverse bs) (take-take b.height b.height xs (omega arith) i)

pub kill_law : {S : Type 0} {bs : List (Block S)} {xs : List (Slot S)} (i : ℕ) (b : Block S) → IsSound bs xs → 0 < length bs → i + 1 ≡ length bs → b ≡ get_or bs i b → Kills bs xs (set bs i (dead_block b)) (take b.height xs)
kill_law {S} {bs} {xs} i b s h e is =
    let r = split_last bs h in
    by_seam r.0 r.1 r.2 (omega (arith, r.3))
  where
    by_seam : (ys : List (Block S)) (y : Block S) → bs ≡ ys ++ y ∷ [] → length ys ≡ i → Kills bs xs (set bs i (dead_block b)) (take b.height xs)
    by_seam ys y q n =
        let same : b ≡ y = is ∙ (λ j. get_or (q j) (sym n j) b) ∙ get_or-append_seam ys y [] b in
        let k : Kills (ys ++ b ∷ []) xs (ys ++ dead_block b ∷ []) (take b.height xs) = kills_seam ys b xs (subst (λ z. IsSound z xs) (q ∙ ap (λ z. ys ++ z ∷ []) (sym same)) s) in
        let whole : ys ++ b ∷ [] ≡ bs = ap (λ z. ys ++ z ∷ []) same ∙ sym q in
        let written : ys ++ dead_block b ∷ [] ≡ set bs i (dead_block b) = sym (set-append_seam ys b [] (dead_block b)) ∙ (λ j. set (whole j) (n j) (dead_block b)) in
        subst (λ z. Kills bs xs z (take b.height xs)) written (subst (λ z. Kills z xs (ys ++ dead_block b ∷ []) (take b.height xs)) whole k)

-- ---- target

abbrev pub label_of_block : {S : Type 0} → Block S → Option (ValueType S)
label_of_block b = label_from b.loops (option_map type_of b.yields)

labels_from : {S : Type 0} (bs : List (Block S)) (xs : List (Slot S)) → map label_of (blocks_from bs xs) ≡ map label_of_block bs
labels_from [] xs = refl
labels_from (b ∷ bs) xs = ap (λ z. label_of_block b ∷ z) (labels_from bs (take b.height xs))

target_is : {S : Type 0} (bs : List (Block S)) (xs : List (Slot S)) (d : ℕ) → target_of d (blocks_of bs xs) ≡ option_map label_of_block (slice_get (reverse bs) d)
target_is bs xs d = ap (λ z. slice_get z d) (labels_from (reverse bs) xs) ∙ slice_get-map label_of_block (reverse bs) d

pub target_in : {S : Type 0} {bs : List (Block S)} {xs : List (Slot S)} (d i : ℕ) (b : Block S) → IsSound bs xs → i + d + 1 ≡ length bs → b ≡ get_or bs i b → target_of d (blocks_of bs xs) ≡ Some (label_of_block b)
target_in {S} {bs} {xs} d i b s h e =
    let at : i ≡ length bs - 1 - d = omega arith in
    target_is bs xs d ∙ ap (option_map label_of_block) (slice_get-get_or (reverse bs) d b (omega (arith, length-reverse bs)) ∙ ap Some (get_or-reverse bs d b (omega arith) ∙ ap (λ z. get_or bs z b) (sym at) ∙ sym e))

pub target_out : {S : Type 0} {bs : List (Block S)} {xs : List (Slot S)} (d : ℕ) → IsSound bs xs → length bs ≤ d → target_of d (blocks_of bs xs) ≡ None
target_out {S} {bs} {xs} d s h = target_is bs xs d ∙ ap (option_map label_of_block) (slice_get_past (reverse bs) d (omega (arith, length-reverse bs)))
