-- Files and texts that are there: a command goes on with them.
use Rattle.std.proofs.Common.{◌≡◌, ◌≤◌, ℕ, Bool, true, List, length, Option, Some, ap, ◌∙◌, cond, codes}
use Rattle.std.proofs.lemmas.Bool.{le-leb}
use Rattle.std.specs.Str.{is_utf8}
use Rattle.std.specs.Str.Lossy.{utf8_valid_len}
use Rattle.ctw_lines.specs.Lines.{not_text_line}
use Rattle.ctw_inputs.specs.declared.said.Status.TheVariants.{Refused}
use Rattle.ctw_inputs.specs.Outcome.{Outcome, ends}
use Rattle.ctw_inputs.specs.Inputs.{refuses, on_file, on_text}

pub there : (name : List ℕ) (limit : ℕ) (o : Option (List ℕ)) (bytes : List ℕ) (go : List ℕ → Outcome) → o ≡ Some bytes → length bytes ≤ limit → on_file name limit o go ≡ go bytes
there name limit o bytes go e h =
    ap (λ (o : Option (List ℕ)). on_file name limit o go) e
    ∙ ap (λ (b : Bool). cond b (go bytes) (refuses (codes "TooLarge") name)) (le-leb (length bytes) limit h)

pub text_there : (name bytes : List ℕ) (go : List ℕ → Outcome) → is_utf8 bytes ≡ true → on_text name bytes go ≡ go bytes
text_there name bytes go e = ap (λ (b : Bool). cond b (go bytes) (ends Refused (not_text_line name (utf8_valid_len bytes)))) e
