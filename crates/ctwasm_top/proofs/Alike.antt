-- Two files that differ in the vault's bytes alone give the same answer, as long as the same is released.
use Rattle.std.proofs.Common.{◌≡◌, ◌-◌, ℕ, Bool, true, false, ◌||◌, List, [], ◌∷◌, length, map, Option, Some, None, Result, Ok, Err, option_map, refl, sym, ap, subst, nat_le, cond, codes}
use Rattle.std.specs.List.{list_any}
use Rattle.std.specs.FinMap.{get}
use Rattle.std.specs.Str.{is_utf8, bytes_eq}
use Rattle.ctw_io.specs.Files.{Files}
use Rattle.ctw_ops.specs.declared.types.Label.{Label}
use Rattle.ctw_ops.specs.declared.numeric.Profile.{Profile}
use Rattle.ctw_ops.specs.Tree.{Module}
use Rattle.ctw_form.specs.declared.fault.FormFault.{FormFault}
use Rattle.ctw_script.specs.declared.moves.Move.{Move}
use Rattle.ctw_script.specs.declared.script.ScriptFault.{ScriptFault}
use Rattle.ctw_modcheck.specs.declared.fault.Invalid.{Invalid}
use Rattle.ctw_modcheck.specs.Check.{fault_of}
use Rattle.ctw_link.specs.declared.fault.LinkFault.{LinkFault}
use Rattle.ctw_link.specs.Sets.{ModuleSet}
use Rattle.ctw_link.specs.Faults.{set_fault}
use Rattle.ctw_launch.specs.Launched.{Started, Stands, Fails}
use Rattle.ctw_launch.specs.Launched as Launched
use Rattle.ctw_moves.specs.States.{State}
use Rattle.ctw_moves.specs.Runs.{Run, plays}
use Rattle.ctw_moves.specs.SeenStates.{Agree, seen_run}
use Rattle.ctw_moves.specs.LaunchedStates.{first_state, with_vault}
use Rattle.ctw_moves.proofs.AlikeMoves.{agree, hidden_length, plays_same}
use Rattle.ctw_semantics.proofs.AlikeSteps.{same_ends}
use Rattle.ctw_inputs.specs.Outcome.{Outcome}
use Rattle.ctw_inputs.specs.Inputs.{NamedFile, at_most, module_limit, modules_limit, script_limit, vault_limit, refuses, on_file, load_modules, on_text, on_moves, on_form, on_fault, module_under, read_parts, on_set, linked}
use Rattle.ctwasm_top.specs.Lines.{told_lines}
use Rattle.ctw_words.specs.SessionWords.{OnceWords, RunWords, same_file, same_in_once, same_in_run}
use Rattle.ctwasm_top.specs.Inference.{Found}
use Rattle.ctw_words.specs.Words.{Command, Check, Canon, Assemble, Text, Infer, Strip, Link, Run as Runs, Once, Work, command_of, vault_in, vault_word}
use Rattle.ctwasm_top.specs.Launching.{on_launch}
use Rattle.ctwasm_top.specs.Answer.{ran, launched, unless_same, once_part, once_moves, once_answer, run_answer, on_words, answer, released_in, releases}
use Rattle.ctwasm_top.specs.Headline.{OtherVault, SameOutcome}

-- the same is seen of both, where the same was released
record Alike (a b : Outcome) : Type 0 where
  by : released_in a.execution ≡ released_in b.execution → SameOutcome a b

both : (a : Outcome) → Alike a a
both a = record { by = λ e. record { out = refl; status = refl; saves = refl } }

-- ---- steps of the order of work

tests_alike : (b : Bool) (p q p' q' : Outcome) → Alike p p' → Alike q q' → Alike (cond b p q) (cond b p' q')
tests_alike true p q p' q' h i = h
tests_alike false p q p' q' h i = i

-- a file that both tell alike
file_alike : (name : List ℕ) (limit : ℕ) (o p : Option (List ℕ)) (go go' : List ℕ → Outcome) → o ≡ p → ((x : List ℕ) → Alike (go x) (go' x)) → Alike (on_file name limit o go) (on_file name limit p go')
file_alike name limit o p go go' e h = subst (λ p. Alike (on_file name limit o go) (on_file name limit p go')) e (at o)
  where
    at : (o : Option (List ℕ)) → Alike (on_file name limit o go) (on_file name limit o go')
    at None = both _
    at (Some bytes) = tests_alike (nat_le (length bytes) limit) _ _ _ _ (h bytes) (both _)

-- a file of which they tell the same length
vault_alike : (name : List ℕ) (limit : ℕ) (o p : Option (List ℕ)) (go go' : List ℕ → Outcome) → option_map (λ (bytes : List ℕ). length bytes) o ≡ option_map (λ (bytes : List ℕ). length bytes) p
    → ((x y : List ℕ) → length x ≡ length y → Alike (go x) (go' y)) → Alike (on_file name limit o go) (on_file name limit p go')
vault_alike name limit None None go go' e h = both _
vault_alike name limit (Some x) (Some y) go go' e h =
    let n : Some (length x) ≡ Some (length y) = e in
    let q : length x ≡ length y = cc in
    subst (λ (b : Bool). Alike (cond (nat_le (length x) limit) (go x) (refuses (codes "TooLarge") name)) (cond b (go' y) (refuses (codes "TooLarge") name))) (ap (λ n. nat_le n limit) q)
    (tests_alike (nat_le (length x) limit) _ _ _ _ (h x y q) (both _))
vault_alike name limit None (Some y) go go' e h = let d : None ≡ Some (length y) = e in absurd cc
vault_alike name limit (Some x) None go go' e h = let d : Some (length x) ≡ None = e in absurd cc

form_alike : (name : List ℕ) (r : Result (Module Label) FormFault) (go go' : Module Label → Outcome) → ((m : Module Label) → Alike (go m) (go' m)) → Alike (on_form name r go) (on_form name r go')
form_alike name (Err fault) go go' h = both _
form_alike name (Ok m) go go' h = h m

fault_alike : (name : List ℕ) (o : Option Invalid) (p q : Outcome) → Alike p q → Alike (on_fault name o p) (on_fault name o q)
fault_alike name (Some fault) p q h = both _
fault_alike name None p q h = h

set_alike : (set : ModuleSet) (o : Option LinkFault) (p q : Outcome) → Alike p q → Alike (on_set set o p) (on_set set o q)
set_alike set (Some fault) p q h = both _
set_alike set None p q h = h

text_alike : (name bytes : List ℕ) (go go' : List ℕ → Outcome) → Alike (go bytes) (go' bytes) → Alike (on_text name bytes go) (on_text name bytes go')
text_alike name bytes go go' h = tests_alike (is_utf8 bytes) _ _ _ _ h (both _)

moves_alike : (r : Result (List Move) ScriptFault) (go go' : List Move → Outcome) → ((ms : List Move) → Alike (go ms) (go' ms)) → Alike (on_moves r go) (on_moves r go')
moves_alike (Ok ms) go go' h = h ms
moves_alike (Err fault) go go' h = both _

unless_alike : (o : Option (List ℕ)) (p q : Outcome) → (o ≡ None → Alike p q) → Alike (unless_same o p) (unless_same o q)
unless_alike None p q h = h refl
unless_alike (Some word) p q h = both _

read_alike : (profile : Profile) (parts : List NamedFile) (contents : List (List ℕ)) (go go' : ModuleSet → Outcome) → ((set : ModuleSet) → Alike (go set) (go' set)) → Alike (read_parts profile parts contents go) (read_parts profile parts contents go')
read_alike profile [] contents go go' h = h []
read_alike profile (part ∷ parts) [] go go' h = h []
read_alike profile (part ∷ parts) (bytes ∷ others) go go' h =
    form_alike part.file (module_under profile bytes) _ _ (λ m.
    fault_alike part.file (fault_of m) _ _ (read_alike profile parts others _ _ (λ set. h (record { name = part.name; tree = m } ∷ set))))

linked_alike : (profile : Profile) (parts : List NamedFile) (contents : List (List ℕ)) (go go' : ModuleSet → Outcome) → ((set : ModuleSet) → Alike (go set) (go' set)) → Alike (linked profile parts contents go) (linked profile parts contents go')
linked_alike profile parts contents go go' h = read_alike profile parts contents _ _ (λ set. set_alike set (set_fault set) _ _ (h set))

-- files that the words name, none of them the vault
abbrev AreOthers : List ℕ → List NamedFile → Type 0
AreOthers vault [] = Unit {0}
AreOthers vault (part ∷ parts) = (bytes_eq vault part.file ≡ false) × AreOthers vault parts

load_alike : (f g : Files) (vault : List ℕ) → OtherVault vault f g → (left : ℕ) (parts : List NamedFile) → AreOthers vault parts → (go go' : List (List ℕ) → Outcome) → ((x : List (List ℕ)) → Alike (go x) (go' x))
    → Alike (load_modules f left parts go) (load_modules g left parts go')
load_alike f g vault d left [] o go go' h = h []
load_alike f g vault d left (part ∷ parts) o go go' h =
    file_alike part.file (at_most module_limit left) (get f part.file) (get g part.file) _ _ (d.others part.file o.0) (λ bytes.
    load_alike f g vault d (left - length bytes) parts o.1 _ _ (λ others. h (bytes ∷ others)))

-- ---- runs

runs_alike : (sealed : List ℕ) (moves : List Move) (set : ModuleSet) (s t : State) → Agree s t → Alike (ran sealed moves set s) (ran sealed moves set t)
runs_alike sealed moves set s t e = record {
  by = λ q.
      let r : seen_run (plays set s moves) ≡ seen_run (plays set t moves) = same_ends _ _ _ _ (plays_same set moves s t e) q in
      record {
        out = ap (λ (r : Run). told_lines r.told) r;
        status = refl;
        saves = ap (λ (n : ℕ). (sealed, n) ∷ []) (hidden_length (plays set s moves).state.sealed (plays set t moves).state.sealed (ap (λ (r : Run). r.state.sealed) r));
      };
}

launch_alike : (sealed : List ℕ) (moves : List Move) (set : ModuleSet) (x : Started) (v w : List ℕ) → length v ≡ length w → Alike (on_launch (with_vault x v) (ran sealed moves set)) (on_launch (with_vault x w) (ran sealed moves set))
launch_alike sealed moves set (Stands s) v w e = runs_alike sealed moves set (first_state s v) (first_state s w) (agree (first_state s v) (first_state s w) (record { storage = refl; slots = refl; vault = e; sealed = refl }))
launch_alike sealed moves set (Fails fault) v w e = both _

launched_alike : (profile : Profile) (parts : List NamedFile) (contents : List (List ℕ)) (v w sealed : List ℕ) (moves : List Move) → length v ≡ length w
    → Alike (launched profile parts contents v (ran sealed moves)) (launched profile parts contents w (ran sealed moves))
launched_alike profile parts contents v w sealed moves e = linked_alike profile parts contents _ _ (λ set. launch_alike sealed moves set (Launched.launched set) v w e)

-- ---- the words

-- what a search that finds no same file tells
module _ (vault sealed : List ℕ) (others : List (List ℕ)) where
  no_same : same_file vault sealed others ≡ None → list_any (bytes_eq vault) others ≡ false
  no_same e = at (bytes_eq vault sealed) (list_any (bytes_eq vault) others) refl e
    where
      at : (b c : Bool) → list_any (bytes_eq vault) others ≡ c → cond (b || c) (Some vault) (cond (list_any (bytes_eq sealed) others) (Some sealed) None) ≡ None → list_any (bytes_eq vault) others ≡ false
      at true c q e = let d : Some vault ≡ None = e in cc
      at false true q e = let d : Some vault ≡ None = e in cc
      at false false q e = q

-- none of the others is it
abbrev NoneIs : List ℕ → List (List ℕ) → Type 0
NoneIs vault [] = Unit {0}
NoneIs vault (file ∷ others) = (bytes_eq vault file ≡ false) × NoneIs vault others

neither : (b c : Bool) → (b || c) ≡ false → (b ≡ false) × (c ≡ false)
neither true c e = let d : true ≡ false = e in absurd cc
neither false true e = let d : true ≡ false = e in absurd cc
neither false false e = (refl, refl)

none_is : (vault : List ℕ) (others : List (List ℕ)) → list_any (bytes_eq vault) others ≡ false → NoneIs vault others
none_is vault [] e = tt
none_is vault (file ∷ others) e =
    let n = neither (bytes_eq vault file) (list_any (bytes_eq vault) others) e in
    (n.0, none_is vault others n.1)

parts_are_others : (vault : List ℕ) (parts : List NamedFile) → NoneIs vault (map (λ (part : NamedFile). part.file) parts) → AreOthers vault parts
parts_are_others vault [] h = tt
parts_are_others vault (part ∷ parts) h = (h.0, parts_are_others vault parts h.1)

module _ (f g : Files) (profile : Profile) where
  once_alike : (w : OnceWords) → OtherVault w.vault f g → Alike (once_answer f profile w) (once_answer g profile w)
  once_alike w d = unless_alike (same_in_once w) _ _ (λ e.
      let o = none_is w.vault (w.module_file ∷ []) (no_same w.vault w.sealed (w.module_file ∷ []) e) in
      load_alike f g w.vault d modules_limit (once_part w ∷ []) (o.0, tt) _ _ (λ contents.
      vault_alike w.vault vault_limit (get f w.vault) (get g w.vault) _ _ d.long (λ v v' q.
      launched_alike profile (once_part w ∷ []) contents v v' w.sealed (once_moves w) q)))

  run_alike : (reading : Result (List Move) ScriptFault) (w : RunWords) → OtherVault w.vault f g → Alike (run_answer f profile reading w) (run_answer g profile reading w)
  run_alike reading w d = unless_alike (same_in_run w) _ _ (λ e.
      let o = none_is w.vault (w.script ∷ map (λ (part : NamedFile). part.file) w.parts) (no_same w.vault w.sealed (w.script ∷ map (λ (part : NamedFile). part.file) w.parts) e) in
      file_alike w.script script_limit (get f w.script) (get g w.script) _ _ (d.others w.script o.0) (λ script.
      vault_alike w.vault vault_limit (get f w.vault) (get g w.vault) _ _ d.long (λ v v' q.
      load_alike f g w.vault d modules_limit w.parts (parts_are_others w.vault w.parts o.1) _ _ (λ contents.
      text_alike w.script script (λ (text : List ℕ). on_moves reading (λ (moves : List Move). launched profile w.parts contents v (ran w.sealed moves))) (λ (text : List ℕ). on_moves reading (λ (moves : List Move). launched profile w.parts contents v' (ran w.sealed moves)))
      (moves_alike reading _ _ (λ moves. launched_alike profile w.parts contents v v' w.sealed moves q))))))

words_alike : (reading : Result (List Move) ScriptFault) (found : Found) (o : Option Command) (vault : List ℕ) (f g : Files) → vault_in o ≡ Some vault → OtherVault vault f g → Alike (on_words f reading found o) (on_words g reading found o)
words_alike reading found None vault f g e d = let n : None ≡ Some vault = e in absurd cc
words_alike reading found (Some (Check profile file)) vault f g e d = let n : None ≡ Some vault = e in absurd cc
words_alike reading found (Some (Canon file)) vault f g e d = let n : None ≡ Some vault = e in absurd cc
words_alike reading found (Some (Assemble file)) vault f g e d = let n : None ≡ Some vault = e in absurd cc
words_alike reading found (Some (Text profile file)) vault f g e d = let n : None ≡ Some vault = e in absurd cc
words_alike reading found (Some (Infer profile file marks)) vault f g e d = let n : None ≡ Some vault = e in absurd cc
words_alike reading found (Some (Strip profile file)) vault f g e d = let n : None ≡ Some vault = e in absurd cc
words_alike reading found (Some (Link profile parts)) vault f g e d = let n : None ≡ Some vault = e in absurd cc
words_alike reading found (Some (Work profile seed size)) vault f g e d = let n : None ≡ Some vault = e in absurd cc
words_alike reading found (Some (Runs profile w)) vault f g e d = let n : Some w.vault ≡ Some vault = e in let q : w.vault ≡ vault = cc in run_alike f g profile reading w (subst (λ (v : List ℕ). OtherVault v f g) (sym q) d)
words_alike reading found (Some (Once profile w)) vault f g e d = let n : Some w.vault ≡ Some vault = e in let q : w.vault ≡ vault = cc in once_alike f g profile w (subst (λ (v : List ℕ). OtherVault v f g) (sym q) d)

-- the two-vault theorem of the program
pub answer_alike : (words : List (List ℕ)) (reading : Result (List Move) ScriptFault) (found : Found) (vault : List ℕ) (f g : Files) → vault_word words ≡ Some vault → OtherVault vault f g → releases words g reading found ≡ releases words f reading found
    → SameOutcome (answer words g reading found) (answer words f reading found)
unfolding answer
answer_alike words reading found vault f g e d r =
    let same = (words_alike reading found (command_of words) vault f g e d).by (sym r) in
    record { out = sym same.out; status = sym same.status; saves = sym same.saves }
