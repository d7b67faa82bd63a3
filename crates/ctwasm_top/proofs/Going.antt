-- What holds where an answer isn't a refusal: each step of the order of work has gone on.
use Rattle.std.proofs.Common.{◌≡◌, ◌≤◌, ◌-◌, ℕ, Bool, true, false, List, [], ◌∷◌, length, Option, Some, None, Result, Ok, Err, refl, nat_le, cond, arith, codes}
use Rattle.std.proofs.lemmas.Bool.{leb-true, leb-false}
use Rattle.std.specs.Str.{is_utf8}
use Rattle.std.specs.Str.Lossy.{utf8_valid_len}
use Rattle.std.specs.FinMap.{get}
use Rattle.ctw_io.specs.Files.{Files}
use Rattle.ctw_ops.specs.declared.types.Label.{Label}
use Rattle.ctw_ops.specs.declared.numeric.Profile.{Profile}
use Rattle.ctw_ops.specs.Tree.{Module}
use Rattle.ctw_form.specs.declared.fault.FormFault.{FormFault}
use Rattle.ctw_script.specs.declared.moves.Move.{Move}
use Rattle.ctw_script.specs.declared.script.ScriptFault.{ScriptFault}
use Rattle.ctw_modcheck.specs.declared.fault.Invalid.{Invalid}
use Rattle.ctw_modcheck.specs.Check.{fault_of}
use Rattle.ctw_link.specs.declared.fault.LinkFault.{LinkFault}
use Rattle.ctw_link.specs.Sets.{NamedModule, ModuleSet}
use Rattle.ctw_link.specs.Matching.{AreMatching}
use Rattle.ctw_link.specs.Faults.{set_fault}
use Rattle.ctw_link.proofs.Verdict.{no_fault_is_matching}
use Rattle.ctw_moves.specs.States.{State}
use Rattle.ctw_moves.specs.LaunchedStates.{Launch, Ready, Faulty}
use Rattle.ctw_lines.specs.Lines.{not_text_line}
use Rattle.ctw_inputs.specs.declared.said.Status.TheVariants.{Refused}
use Rattle.ctw_inputs.specs.Outcome.{Outcome, ends}
use Rattle.ctw_inputs.specs.Inputs.{NamedFile, at_most, module_limit, modules_limit, script_limit, vault_limit, refuses, on_file, load_modules, on_text, on_moves, on_form, on_fault, module_under, read_valid, read_parts, on_set, linked}
use Rattle.ctwasm_top.proofs.Profiles.{spelled_under, valid_under}
use Rattle.ctwasm_top.specs.ValidCalls.{HoldParts}
use Rattle.ctw_words.specs.SessionWords.{OnceWords, RunWords, same_in_once, same_in_run}
use Rattle.ctwasm_top.specs.Launching.{on_launch}
use Rattle.ctwasm_top.specs.Answer.{unless_same, ran, launched, once_part, once_moves, once_answer, run_answer}

-- ---- the limits on a file

first_limit : (n a b : ℕ) → n ≤ at_most a b → n ≤ a
first_limit n a b = at (nat_le a b) refl
  where
    at : (t : Bool) → nat_le a b ≡ t → n ≤ cond t a b → n ≤ a
    at true e h = h
    at false e h = let k = leb-false a b e in omega (arith, k, h)

second_limit : (n a b : ℕ) → n ≤ at_most a b → n ≤ b
second_limit n a b = at (nat_le a b) refl
  where
    at : (t : Bool) → nat_le a b ≡ t → n ≤ cond t a b → n ≤ b
    at true e h = let k = leb-true a b e in omega (arith, k, h)
    at false e h = h

-- the bytes of the files of parts
abbrev pub HoldBytes : Files → ℕ → List NamedFile → List (List ℕ) → Type 0
HoldBytes files left [] [] = Unit {0}
HoldBytes files left (part ∷ parts) (bytes ∷ others) = (get files part.file ≡ Some bytes) × (length bytes ≤ at_most module_limit left) × HoldBytes files (left - length bytes) parts others
HoldBytes files left parts others = ⊥

-- what `run` has come with to the launch of its parts: the script's text and moves, the vault's bytes, and those of the
-- modules' files
pub record RunComes (Q : Outcome → Type 0) (files : Files) (profile : Profile) (reading : Result (List Move) ScriptFault) (w : RunWords) : Type 0 where
  pub alone : same_in_run w ≡ None
  pub text : List ℕ
  pub script : get files w.script ≡ Some text
  pub text_short : length text ≤ script_limit
  pub is_text : is_utf8 text ≡ true
  pub moves : List Move
  pub read : reading ≡ Ok moves
  pub bytes : List ℕ
  pub vault : get files w.vault ≡ Some bytes
  pub vault_short : length bytes ≤ vault_limit
  pub contents : List (List ℕ)
  pub held : HoldBytes files modules_limit w.parts contents
  pub launches : Q (launched profile w.parts contents bytes (ran w.sealed moves))

-- and `once`
pub record OnceComes (Q : Outcome → Type 0) (files : Files) (profile : Profile) (w : OnceWords) : Type 0 where
  pub alone : same_in_once w ≡ None
  pub bytes : List ℕ
  pub vault : get files w.vault ≡ Some bytes
  pub vault_short : length bytes ≤ vault_limit
  pub contents : List (List ℕ)
  pub held : HoldBytes files modules_limit (once_part w ∷ []) contents
  pub launches : Q (launched profile (once_part w ∷ []) contents bytes (ran w.sealed (once_moves w)))

-- what no refusal has
module _ (Q : Outcome → Type 0) (never : (line : List ℕ) → Q (ends Refused line) → ⊥) where
  pub file_goes : (name : List ℕ) (limit : ℕ) (o : Option (List ℕ)) (go : List ℕ → Outcome) → Q (on_file name limit o go) → (bytes : List ℕ) × (o ≡ Some bytes) × (length bytes ≤ limit) × Q (go bytes)
  file_goes name limit None go q = absurd (never _ q)
  file_goes name limit (Some bytes) go q = within (nat_le (length bytes) limit) refl q
    where
      within : (b : Bool) → nat_le (length bytes) limit ≡ b → Q (cond b (go bytes) (refuses (codes "TooLarge") name)) → (found : List ℕ) × (Some bytes ≡ Some found) × (length found ≤ limit) × Q (go found)
      within true e q = (bytes, refl, leb-true (length bytes) limit e, q)
      within false e q = absurd (never _ q)

  pub form_goes : (name : List ℕ) (r : Result (Module Label) FormFault) (go : Module Label → Outcome) → Q (on_form name r go) → (m : Module Label) × (r ≡ Ok m) × Q (go m)
  form_goes name (Err fault) go q = absurd (never _ q)
  form_goes name (Ok m) go q = (m, refl, q)

  pub fault_goes : (name : List ℕ) (o : Option Invalid) (go : Outcome) → Q (on_fault name o go) → (o ≡ None) × Q go
  fault_goes name (Some fault) go q = absurd (never _ q)
  fault_goes name None go q = (refl, q)

  pub unless_goes : (o : Option (List ℕ)) (go : Outcome) → Q (unless_same o go) → (o ≡ None) × Q go
  unless_goes None go q = (refl, q)
  unless_goes (Some word) go q = absurd (never _ q)

  pub text_goes : (name bytes : List ℕ) (go : List ℕ → Outcome) → Q (on_text name bytes go) → (is_utf8 bytes ≡ true) × Q (go bytes)
  text_goes name bytes go q = at (is_utf8 bytes) refl q
    where
      at : (b : Bool) → is_utf8 bytes ≡ b → Q (cond b (go bytes) (ends Refused (not_text_line name (utf8_valid_len bytes)))) → (is_utf8 bytes ≡ true) × Q (go bytes)
      at true e q = (e, q)
      at false e q = absurd (never _ q)

  pub moves_go : (r : Result (List Move) ScriptFault) (go : List Move → Outcome) → Q (on_moves r go) → (moves : List Move) × (r ≡ Ok moves) × Q (go moves)
  moves_go (Ok moves) go q = (moves, refl, q)
  moves_go (Err fault) go q = absurd (never _ q)

  set_goes : (set : ModuleSet) (o : Option LinkFault) (go : Outcome) → Q (on_set set o go) → (o ≡ None) × Q go
  set_goes set (Some fault) go q = absurd (never _ q)
  set_goes set None go q = (refl, q)

  pub launch_goes : (x : Launch) (go : State → Outcome) → Q (on_launch x go) → (s : State) × (x ≡ Ready s) × Q (go s)
  launch_goes (Ready s) go q = (s, refl, q)
  launch_goes (Faulty fault) go q = absurd (never _ q)

  pub load_goes : (files : Files) (left : ℕ) (parts : List NamedFile) (go : List (List ℕ) → Outcome) → Q (load_modules files left parts go)
      → (contents : List (List ℕ)) × HoldBytes files left parts contents × Q (go contents)
  load_goes files left [] go q = ([], tt, q)
  load_goes files left (part ∷ parts) go q =
      let f = file_goes part.file (at_most module_limit left) (get files part.file) (λ bytes. load_modules files (left - length bytes) parts (λ others. go (bytes ∷ others))) q in
      let o = load_goes files (left - length f.0) parts (λ others. go (f.0 ∷ others)) f.3 in
      (f.0 ∷ o.0, (f.1, f.2, o.1), o.2)

  read_goes : (profile : Profile) (files : Files) (left : ℕ) (parts : List NamedFile) (contents : List (List ℕ)) (go : ModuleSet → Outcome) → HoldBytes files left parts contents → Q (read_parts profile parts contents go)
      → (set : ModuleSet) × HoldParts files profile left parts set × Q (go set)
  read_goes profile files left [] [] go h q = ([], tt, q)
  read_goes profile files left (part ∷ parts) (bytes ∷ others) go h q =
      let f = form_goes part.file (module_under profile bytes) _ q in
      let v = fault_goes part.file (fault_of f.0) _ f.2 in
      let t = spelled_under profile bytes f.0 f.1 in
      let m : NamedModule = record { name = part.name; tree = f.0 } in
      let o = read_goes profile files (left - length bytes) parts others (λ set. go (m ∷ set)) h.2 v.1 in (
        m ∷ o.0,
        (refl, bytes, h.0, first_limit (length bytes) module_limit left h.1, second_limit (length bytes) module_limit left h.1, t.0, t.1, t.2, valid_under profile bytes f.0 f.1 v.0, o.1),
        o.2,
      )
  read_goes profile files left [] (bytes ∷ others) go h q = absurd h
  read_goes profile files left (part ∷ parts) [] go h q = absurd h

  -- the parts hold modules that match
  pub linked_goes : (profile : Profile) (files : Files) (left : ℕ) (parts : List NamedFile) (contents : List (List ℕ)) (go : ModuleSet → Outcome) → HoldBytes files left parts contents → Q (linked profile parts contents go)
      → (set : ModuleSet) × HoldParts files profile left parts set × AreMatching set × Q (go set)
  linked_goes profile files left parts contents go h q =
      let r = read_goes profile files left parts contents _ h q in
      let s = set_goes r.0 (set_fault r.0) (go r.0) r.2 in
      (r.0, r.1, no_fault_is_matching r.0 s.0, s.1)

  pub valid_goes : (profile : Profile) (name bytes : List ℕ) (go : Module Label → Outcome) → Q (read_valid profile name bytes go) → (m : Module Label) × Q (go m)
  valid_goes profile name bytes go q =
      let f = form_goes name (module_under profile bytes) (λ (m : Module Label). on_fault name (fault_of m) (go m)) q in
      let v = fault_goes name (fault_of f.0) (go f.0) f.2 in
      (f.0, v.1)

  -- `run` and `once` come to the launch of their parts
  pub run_goes : (files : Files) (profile : Profile) (reading : Result (List Move) ScriptFault) (w : RunWords) → Q (run_answer files profile reading w) → RunComes Q files profile reading w
  run_goes files profile reading w q =
      let last = λ (contents : List (List ℕ)) (vault : List ℕ) (moves : List Move). launched profile w.parts contents vault (ran w.sealed moves) in
      let read = λ (script vault : List ℕ) (contents : List (List ℕ)). on_text w.script script (λ (text : List ℕ). on_moves reading (last contents vault)) in
      let opened = λ (script : List ℕ). on_file w.vault vault_limit (get files w.vault) (λ (vault : List ℕ). load_modules files modules_limit w.parts (read script vault)) in
      let u = unless_goes (same_in_run w) (on_file w.script script_limit (get files w.script) opened) q in
      let s = file_goes w.script script_limit (get files w.script) opened u.1 in
      let v = file_goes w.vault vault_limit (get files w.vault) (λ (vault : List ℕ). load_modules files modules_limit w.parts (read s.0 vault)) s.3 in
      let c = load_goes files modules_limit w.parts (read s.0 v.0) v.3 in
      let t = text_goes w.script s.0 (λ (text : List ℕ). on_moves reading (last c.0 v.0)) c.2 in
      let m = moves_go reading (last c.0 v.0) t.1 in
      record {
        alone = u.0;
        text = s.0;
        script = s.1;
        text_short = s.2;
        is_text = t.0;
        moves = m.0;
        read = m.1;
        bytes = v.0;
        vault = v.1;
        vault_short = v.2;
        contents = c.0;
        held = c.1;
        launches = m.2;
      }

  pub once_goes : (files : Files) (profile : Profile) (w : OnceWords) → Q (once_answer files profile w) → OnceComes Q files profile w
  once_goes files profile w q =
      let last = λ (contents : List (List ℕ)) (vault : List ℕ). launched profile (once_part w ∷ []) contents vault (ran w.sealed (once_moves w)) in
      let opened = λ (contents : List (List ℕ)). on_file w.vault vault_limit (get files w.vault) (last contents) in
      let u = unless_goes (same_in_once w) (load_modules files modules_limit (once_part w ∷ []) opened) q in
      let c = load_goes files modules_limit (once_part w ∷ []) opened u.1 in
      let v = file_goes w.vault vault_limit (get files w.vault) (last c.0) c.2 in
      record { alone = u.0; bytes = v.0; vault = v.1; vault_short = v.2; contents = c.0; held = c.1; launches = v.3 }
