use Rattle.std.proofs.Common.{◌≡◌, ◌-◌, List, Option, Some, None, ℕ, Ok, length, refl, subst}
use Rattle.std.proofs.lemmas.Result.{IfOk-weaker}
use Rattle.std.specs.Prelude.{IsSome, slice_range}
use Rattle.ctw_lex.specs.Grammar.{IsString}
use Rattle.ctw_lex.specs.Strings.{contents, string_value}
use Rattle.ctw_lex.proofs.Spelling.{inside_string, string-string_value}
use Rattle.ctw_lex.proofs.unescape.Goals as goal

has_value : (o : Option (List ℕ)) → IsSome o → (value : List ℕ) × (o ≡ Some value)
has_value None h = absurd (cc)
has_value (Some value) h = (value, refl)

pub returns-clause-spelled : goal.returns-clause-spelled
returns-clause-spelled c =
    let text = c.args.t.text.now in
    let v = has_value (string_value text) c.requires.whole in
    let s = string-string_value text v.0 v.1 in
    IfOk-weaker c.unescaped.result (λ x. contents 0 1 (slice_range c.as_bytes-bytes.result.now 1 (length c.as_bytes-bytes.result.now - 1)) ≡ Ok x.items) (λ x. IsString text x.items)
    (λ x e. inside_string text v.0 x.items s (subst (λ (t : List ℕ). contents 0 1 (slice_range t 1 (length t - 1)) ≡ Ok x.items) c.as_bytes-bytes.ensures.value e)) c.unescaped.ensures
