use Rattle.std.proofs.Common.{sym, ap, ◌∙◌, IsUtf8, Some}
use Rattle.std.proofs.lemmas.Str.{IsUtf8-string_bytes}
use Rattle.ctw_lex.specs.Told.{lexeme_of}
use Rattle.ctw_script.specs.MoveValues.{bytes_value}
use Rattle.ctw_script.proofs.TokenShapes.{is_name, is_no_name}
use Rattle.ctw_marks.proofs.line.name.Goals as goal

pub returns-in-Ok : goal.returns-in-Ok
returns-in-Ok c =
    let e = ap (λ v. v.items) c.in-Ok.ensures.ok in
    let utf8 : IsUtf8 c.new.result = rw c.new.ensures (IsUtf8-string_bytes c.in-Ok.text) in
    is_name (bytes_value (lexeme_of c.args.t)) c.new.result (c.in_ok-bytes.ensures ∙ ap Some (sym e) ∙ ap Some (sym c.new.ensures)) utf8

pub returns : goal.returns
returns c =
    let bad : ¬ (IsUtf8 c.in_ok-bytes.bytes.items) = λ h. let e = c.in-Err.ensures.succeeds h in cc in
    is_no_name (bytes_value (lexeme_of c.args.t)) c.in_ok-bytes.bytes.items c.in_ok-bytes.ensures bad
