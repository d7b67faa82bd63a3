use Rattle.std.proofs.Common.{◌≡◌, ◌≢◌, ◌∙◌, ℕ, List, Option, Some, None, Ok, Err, refl, sym, ap, subst, rules, arith}
use Rattle.std.specs.Prelude.{IfSome}
use Rattle.std.proofs.lemmas.Grind.{common_steps}
use Rattle.ctw_text.specs.Denotes.{Fault}
use Rattle.ctw_parse.specs.declared.fault.TextFault.{TextFault}
use Rattle.ctw_parse.specs.declared.fault.TextFault.TheVariants.{NoMemory}
use Rattle.ctw_parse.specs.declared.fault.TextFault.TheVariants as fault
use Rattle.ctw_parse.specs.Told.{fault_of}
use Rattle.ctw_parse.specs.Assembled.{assembled}
use Rattle.ctw_inputs.specs.declared.said.Stop.{Stop}
use Rattle.ctw_inputs.specs.declared.said.Status.TheVariants.{Done, Refused}
use Rattle.ctw_inputs.specs.Outcome.{ends}
use Rattle.ctw_inputs.specs.Settling.{IsStop}
use Rattle.ctwasm_top.specs.Texts.{on_assembled, text_line}
use Rattle.ctw_form.specs.Spelled.{Spells}
use Rattle.ctwasm_top.proofs.Labelling.{says}
use Rattle.ctwasm_top.proofs.ReadBack.{refusal_back}
use Rattle.ctwasm_top.proofs.texts.assembled.Goals as goal

-- the line is that of the text's first fault
module _ (text : List ℕ) (why : Stop) where
  on_fault : (o : Option Fault) → (o ≡ None → ⊥) → IfSome o (λ f. assembled text ≡ Err f) → ((f : Fault) → o ≡ Some f → IsStop why (ends Refused (text_line f))) → IsStop why (on_assembled (assembled text))
  on_fault None never h is = absurd (never refl)
  on_fault (Some f) never h is = subst (λ r. IsStop why (on_assembled r)) (sym h) (is f refl)

-- no other fault is without words
none_wants : (f : TextFault) → f ≢ NoMemory → fault_of f ≡ None → ⊥
none_wants (fault.Lex place) n e = cc
none_wants (fault.Unexpected start end) n e = cc
none_wants (fault.UnknownName start end) n e = cc
none_wants (fault.DoubleName start end) n e = cc
none_wants (fault.NumberRange start end) n e = cc
none_wants (fault.Floats start end) n e = cc
none_wants (fault.TooMany what limit) n e = cc
none_wants fault.NoMemory n e = n refl

some_of : (P : Fault → Type 0) (o : Option Fault) (f : Fault) → o ≡ Some f → IfSome o P → P f
some_of P (Some g) f e h = let same : g ≡ f = cc in subst P same h
some_of P None f e h = cc

pub returns-in-Err-clause-told : goal.returns-in-Err-clause-told
returns-in-Err-clause-told c = c.in-Err.ensures.told (λ text. on_assembled (assembled text))

pub returns-in-Ok-assemble-clause-told : goal.returns-in-Ok-assemble-clause-told
returns-in-Ok-assemble-clause-told c =
    let is = c.in-Ok-assemble.ensures.bytes in
    c.in-Ok.ensures.told (λ text. on_assembled (assembled text)) ∙ ap on_assembled is.computed ∙ says Done c.done.result _ _ c.done.ensures is.spelled

pub returns-in-Err-clause-back : goal.returns-in-Err-clause-back
returns-in-Err-clause-back c = refusal_back _ _ c.in-Err.ensures.refuses

pub returns-in-Ok-assemble-clause-back : goal.returns-in-Ok-assemble-clause-back
returns-in-Ok-assemble-clause-back c =
    let is = c.in-Ok-assemble.ensures.bytes in λ done.
    record { m = is.m; denotes = subst (λ text. assembled text ≡ Ok is.m) c.in-Ok.ensures.same is.computed; read = subst (λ bytes. Spells bytes is.m) is.spelled is.read }

pub returns-in-Err-assemble : goal.returns-in-Err-assemble
returns-in-Err-assemble c =
    let some : c.in-Err-assemble.fault ≢ NoMemory = first_of (search rules, grind (arith, common_steps)) in
    record {
      told =
          subst (IsStop c.refuse.result) (sym (c.in-Ok.ensures.told (λ text. on_assembled (assembled text))))
          (on_fault c.in-Ok.text.now c.refuse.result (fault_of c.in-Err-assemble.fault) (none_wants c.in-Err-assemble.fault some) c.in-Err-assemble.ensures.fault
          (λ f e. c.refuse.ensures.told (text_line f) (some_of _ (fault_of c.in-Err-assemble.fault) f e c.text_line.ensures)));
      back = refusal_back _ _ c.refuse.ensures.refuses;
      quiet = λ e. c.refuse.ensures.quiet cc;
    }
