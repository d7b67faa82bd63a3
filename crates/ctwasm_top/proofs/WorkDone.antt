-- What `work` did, by what its steps say.
use Rattle.std.proofs.Common.{◌≡◌, ℕ, List, Option, Vec, Global, Ok, Err, inl, inr, refl, sym, ap, ◌∙◌, subst}
use Rattle.ctw_ops.specs.declared.numeric.Profile.{Profile}
use Rattle.ctw_io.specs.Files.{Files}
use Rattle.ctw_io.specs.Taken.{grown, TookPrefix}
use Rattle.ctw_inputs.specs.declared.said.Stop.{Stop}
use Rattle.ctw_inputs.specs.declared.said.Stop.TheVariants as stop
use Rattle.ctw_inputs.specs.declared.said.Status.{Status}
use Rattle.ctw_inputs.specs.declared.said.Status.TheVariants.{Done, Refused, Usage, NoLabelling, ReadFault, WriteFault, NoMemory, SaveFault}
use Rattle.ctw_inputs.specs.Outcome.{Outcome, ends}
use Rattle.ctw_inputs.specs.Settling.{SaysSo}
use Rattle.ctwasm_top.specs.Works.{work_answer}
use Rattle.ctwasm_top.specs.WorkSteps.{IsText, TellsWork, DidWork}
use Rattle.ctwasm_top.specs.Headline.{Did, WroteNothing, SaysNothing, with_saves}
use Rattle.ctwasm_top.proofs.Dispatched.{nothing_found}

module _ (files : Files) (taken took : Option (List ℕ)) (o : Outcome) (line : List ℕ) (is : IsText o line) where
  prefix_did : TookPrefix taken took line → TookPrefix taken took o.out
  prefix_did h = subst (TookPrefix taken took) (sym is.out) h

  whole_did : (status : Status) → (status ≡ Done) × (files ≡ files) × (took ≡ grown taken line) → (status ≡ o.status) × (files ≡ with_saves files o.saves) × (took ≡ grown taken o.out)
  whole_did status h = (h.0 ∙ sym is.status, ap (with_saves files) (sym is.saves), h.2 ∙ ap (grown taken) (sym is.out))

  -- a line that was written is what an outcome asks for that is this line
  line_did : (status : Status) → Did status (ends Done line) files files taken took → Did status o files files taken took
  line_did ReadFault h = h
  line_did WriteFault h = (h.0, prefix_did h.1)
  line_did NoMemory h = (h.0, prefix_did h.1)
  line_did SaveFault h = absurd h.0
  line_did Done h = whole_did Done h
  line_did Refused h = whole_did Refused h
  line_did Usage h = whole_did Usage h
  line_did NoLabelling h = whole_did NoLabelling h

module _ (profile : Profile) (seed size : ℕ) (status : Status) (taken took : Option (List ℕ)) where
  pub text_did : (line : Vec ℕ Global) (bytes : List ℕ) → bytes ≡ line.items → TellsWork profile seed size (Ok line) → (files : Files) → Did status (ends Done bytes) files files taken took → DidWork profile seed size status files taken took
  text_did line bytes same h files d = record {
    found = h.found;
    is_so = inl h.is_so;
    did = record { files = files; told = refl; did = line_did files taken took (work_answer h.found profile seed size) line.items h.is status (subst (λ (b : List ℕ). Did status (ends Done b) files files taken took) same d) };
  }

  abbrev Does : Stop → Type 0
  Does why = (files : Files) (o : Outcome) → SaysSo (Err why) o → Did status o files files taken took

  quiet_did : (why : Stop) → WroteNothing status taken took → (files : Files) → Did status (work_answer nothing_found profile seed size) files files taken took → DidWork profile seed size status files taken took
  quiet_did why want files d = record { found = nothing_found; is_so = inr want; did = record { files = files; told = refl; did = d } }

  pub stop_did : (why : Stop) → TellsWork profile seed size (Err why) → (SaysNothing (Err why) → WroteNothing status taken took) → Does why → (files : Files) → DidWork profile seed size status files taken took
  stop_did (stop.Says said) h want did files =
      record { found = h.found; is_so = inl h.is_so; did = record { files = files; told = refl; did = did files (work_answer h.found profile seed size) h.is } }
  stop_did stop.ReadFault h want did files = quiet_did stop.ReadFault (want tt) files (did files (work_answer nothing_found profile seed size) tt)
  stop_did stop.NoMemory h want did files = quiet_did stop.NoMemory (want tt) files (did files (work_answer nothing_found profile seed size) tt)
