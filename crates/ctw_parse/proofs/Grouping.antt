-- The groups of the locals of a list, one local after another.
use Rattle.std.proofs.Common.{◌≡◌, ℕ, zero, suc, ◌+◌, ◌<◌, ◌≤◌, List, [], ◌∷◌, ◌++◌, length, drop, replicate, Some, ap, sym, subst, ◌∙◌, append-nil, arith}
use Rattle.std.specs.Prelude.{slice_get}
use Rattle.std.proofs.lemmas.List.{drop_all}
use Rattle.ctw_ops.specs.ValueType.{ValueType}
use Rattle.ctw_ops.specs.declared.types.Label.{Label}
use Rattle.ctw_form.specs.Sections.{Group}
use Rattle.ctw_form.specs.Spelled.{group_of}
use Rattle.ctw_write.specs.declared.entry.Run.{Run}
use Rattle.ctw_write.specs.Canon.{all_texts, groups_of, group_text}
use Rattle.ctw_write.specs.Runs.{Ahead}
use Rattle.ctw_write.proofs.GroupTexts.{grown_is}

-- the first locals are in groups and a run
pub record RunsTo (locals : List (ValueType Label)) (i : ℕ) (written : List ℕ) (run : Run) : Type 0 where
  pub ahead : Ahead (groups_of locals) written run (drop i locals)
  pub some : 0 < run.count
  pub room : run.groups + run.count ≤ i

some_is : {A : Type 0} (x y : A) → Some x ≡ Some y → x ≡ y
some_is x y e = cc

drop_next : {A : Type 0} (l : List A) (i : ℕ) (a : A) → slice_get l i ≡ Some a → drop i l ≡ a ∷ drop (suc i) l
drop_next [] i a e = absurd cc
drop_next (b ∷ l) zero a e = ap (λ x. x ∷ l) (some_is b a e)
drop_next (b ∷ l) (suc i) a e = drop_next l i a e

pub runs_next : (locals : List (ValueType Label)) (i : ℕ) (written then : List ℕ) (run next : Run) (t : ValueType Label) → slice_get locals i ≡ Some t → RunsTo locals i written run
    → ((whole : List Group) (types : List (ValueType Label)) → Ahead whole written run (t ∷ types) → Ahead whole then next types) → 0 < next.count → next.groups + next.count ≤ run.groups + run.count + 1 → RunsTo locals (i + 1) then next
runs_next locals i written then run next t e h step some room =
    let more : suc i ≡ i + 1 = omega arith in
    let list : drop i locals ≡ t ∷ drop (i + 1) locals = drop_next locals i t e ∙ ap (λ (k : ℕ). t ∷ drop k locals) more in
    record {
      ahead = step (groups_of locals) (drop (i + 1) locals) (subst (λ l. Ahead (groups_of locals) written run l) list h.ahead);
      some = some;
      room = omega (arith, h.room, room);
    }

-- the last run makes the last group
pub record RunsEnd (locals : List (ValueType Label)) (written : List ℕ) (count : ℕ) : Type 0 where
  pub texts : written ≡ all_texts group_text (groups_of locals)
  pub counted : count ≡ length (groups_of locals)

last_group : (n : ℕ) (t : ValueType Label) (types : List (ValueType Label)) → 0 < n → types ≡ [] → groups_of (replicate n t ++ types) ≡ group_of n t ∷ []
last_group zero t types some e = absurd (omega arith)
last_group (suc n) t types some e = ap (λ l. groups_of (replicate (suc n) t ++ l)) e ∙ grown_is n t []

pub runs_end : (locals : List (ValueType Label)) (i : ℕ) (written then : List ℕ) (run : Run) → length locals ≤ i → RunsTo locals i written run → then ≡ written ++ group_text (group_of run.count run.ty) → RunsEnd locals then (run.groups + 1)
runs_end locals i written then run le h w =
    let none : drop i locals ≡ [] = drop_all i locals le in
    let last = last_group run.count run.ty (drop i locals) h.some none in
    let text = group_text (group_of run.count run.ty) in
    record {
      texts = w ∙ ap (λ (l : List ℕ). written ++ l) (sym (append-nil text)) ∙ ap (λ l. written ++ all_texts group_text l) (sym last) ∙ h.ahead.texts;
      counted = omega (arith, ap length last, h.ahead.counted);
    }
