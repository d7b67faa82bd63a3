-- The command that assembles a text, and the texts for which its work is done.
use Rattle.std.proofs.Common.{◌≡◌, ℕ, List, Result, Ok, Err, refl, ap, ◌∙◌}
use Rattle.std.specs.FinMap.{get}
use Rattle.ctw_io.specs.Files.{Files}
use Rattle.ctw_ops.specs.declared.types.Label.{Label}
use Rattle.ctw_ops.specs.Tree.{Module}
use Rattle.ctw_write.specs.Canon.{canon}
use Rattle.ctw_text.specs.Denotes.{Fault}
use Rattle.ctw_parse.specs.Assembled.{assembled}
use Rattle.ctw_inputs.specs.declared.said.Status.TheVariants.{Done, Refused}
use Rattle.ctw_inputs.specs.Outcome.{Outcome, ends}
use Rattle.ctwasm_top.specs.Texts.{text_limit, on_assembled, text_answer, assemble_answer}
use Rattle.ctwasm_top.specs.ValidCalls.{HoldsText, IsAssembledText}
use Rattle.ctwasm_top.proofs.There.{there, text_there}
use Rattle.ctwasm_top.proofs.Going.{file_goes, text_goes}

abbrev is_done : Outcome → Type 0
is_done o = o.status ≡ Done

refused_not_done : (line : List ℕ) → is_done (ends Refused line) → ⊥
refused_not_done line e = let d : Refused ≡ Done = e in cc

assembled_goes : (r : Result (Module Label) Fault) → is_done (on_assembled r) → (m : Module Label) × (r ≡ Ok m)
assembled_goes (Ok m) e = (m, refl)
assembled_goes (Err fault) e = let d : Refused ≡ Done = e in absurd cc

module _ (files : Files) (name : List ℕ) where
  pub text_done : is_done (assemble_answer files name) → HoldsText files name
  text_done e =
      let f = file_goes is_done refused_not_done name text_limit (get files name) (text_answer name) e in
      let t = text_goes is_done refused_not_done name f.0 (λ text. on_assembled (assembled text)) f.3 in
      let m = assembled_goes (assembled f.0) t.1 in
      record { bytes = f.0; told = f.1; short = f.2; is_text = t.0; tree = m.0; denotes = m.1 }

  text_given : (h : HoldsText files name) → assemble_answer files name ≡ ends Done (canon h.tree)
  text_given h =
      there name text_limit (get files name) h.bytes (text_answer name) h.told h.short
      ∙ text_there name h.bytes (λ text. on_assembled (assembled text)) h.is_text
      ∙ ap on_assembled h.denotes

  pub text_holds : HoldsText files name → is_done (assemble_answer files name)
  text_holds h = ap (λ (a : Outcome). a.status) (text_given h)

  pub text_written : is_done (assemble_answer files name) → IsAssembledText files name (assemble_answer files name).out
  text_written e =
      let h = text_done e in
      record { bytes = h.bytes; told = h.told; tree = h.tree; denotes = h.denotes; spelled = ap (λ (a : Outcome). a.out) (text_given h) }
