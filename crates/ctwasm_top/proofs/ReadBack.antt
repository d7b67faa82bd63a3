-- The command that assembles a text: what holds of the text where the work is done.
use Rattle.std.proofs.Common.{◌≡◌, ℕ, List, [], Option, Some, Result, Ok, Err, refl, sym, ap, ◌∙◌, subst}
use Rattle.ctw_io.specs.Files.{Files}
use Rattle.ctw_inputs.specs.Saying.{Saying}
use Rattle.ctw_inputs.specs.declared.said.Stop.{Stop}
use Rattle.ctw_inputs.specs.declared.said.Stop.TheVariants as stop
use Rattle.ctw_inputs.specs.declared.said.Status.{Status}
use Rattle.ctw_inputs.specs.declared.said.Status.TheVariants.{Done, Refused}
use Rattle.ctw_inputs.specs.Outcome.{Outcome, ends}
use Rattle.ctw_inputs.specs.Inputs.{on_file}
use Rattle.ctw_inputs.specs.Settling.{IsStop, IsRefusal, SaysSo}
use Rattle.ctwasm_top.specs.Findings.{OnSaid}
use Rattle.ctwasm_top.specs.Headline.{Did, WroteNothing, SaysNothing}
use Rattle.ctwasm_top.proofs.Going.{file_goes}

-- this holds where what was said is of work that is done
abbrev pub WhereDone : Result Saying Stop → Type 0 → Type 0
WhereDone said P = OnSaid said (λ s. s.status ≡ Done → P)

refused_not_done : (line : List ℕ) → Refused ≡ Done → ⊥
refused_not_done line e = cc

-- a refusal isn't done
pub refusal_back : (why : Stop) (P : Type 0) → IsRefusal why → WhereDone (Err why) P
refusal_back (stop.Says said) P h = λ e. absurd (refused_not_done [] (sym h ∙ e))
refusal_back stop.ReadFault P h = tt
refusal_back stop.NoMemory P h = tt

module _ (name : List ℕ) (limit : ℕ) (o : Option (List ℕ)) (text : List ℕ) (there : o ≡ Some text) where
  -- the bytes with which a command goes on behind a file are the file's
  pub loaded_are : (bytes : List ℕ) → ((go : List ℕ → Outcome) → on_file name limit o go ≡ go bytes) → bytes ≡ text
  loaded_are bytes loads =
      let f = file_goes (λ (x : Outcome). x ≡ ends Done bytes) (λ line e. refused_not_done line (ap (λ (x : Outcome). x.status) e)) name limit o (λ b. ends Done b) (loads (λ b. ends Done b)) in
      let same : f.0 ≡ text = let g = f.1 in cc in
      sym (ap (λ (x : Outcome). x.out) f.3) ∙ same

  -- a command that stops at a file that is there isn't done
  pub stopped_back : (why : Stop) (P : Type 0) → ((go : List ℕ → Outcome) → IsStop why (on_file name limit o go)) → WhereDone (Err why) P
  stopped_back (stop.Says said) P stops = λ e.
      let s = ap (λ (x : Outcome). x.status) (stops (λ b. ends Refused [])) in
      let f = file_goes (λ (x : Outcome). x.status ≡ Done) (λ line. refused_not_done line) name limit o (λ b. ends Refused []) (s ∙ e) in
      absurd (refused_not_done [] f.3)
  stopped_back stop.ReadFault P stops = tt
  stopped_back stop.NoMemory P stops = tt

-- where a command ends with Done, what it said was of work that is done
module _ (result : Status) (files : Files) (taken took : Option (List ℕ)) (P : Type 0) (e : result ≡ Done) where
  says_back : (s : Saying) → Did result (ends s.status s.text) files files taken took → (s.status ≡ Done → P) → P
  says_back s did h = h (sym (subst (λ (r : Status). Did r (ends s.status s.text) files files taken took) e did).0)

  pub settled_back : (said : Result Saying Stop) → ((files : Files) (o : Outcome) → SaysSo said o → Did result o files files taken took) → (SaysNothing said → WroteNothing result taken took) → WhereDone said P → P
  settled_back (Ok s) did want h = says_back s (did files (ends s.status s.text) refl) h
  settled_back (Err (stop.Says s)) did want h = says_back s (did files (ends s.status s.text) refl) h
  settled_back (Err stop.ReadFault) did want h = absurd (subst (λ (r : Status). WroteNothing r taken took) e (want tt))
  settled_back (Err stop.NoMemory) did want h = absurd (subst (λ (r : Status). WroteNothing r taken took) e (want tt))
