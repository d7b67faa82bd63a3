use Rattle.std.proofs.Common.{◌≡◌, None, sym, ◌∙◌}
use Rattle.std.specs.Prelude.{slice_index}
use Rattle.ctw_text.specs.Words.{key_of}
use Rattle.ctw_pieces.proofs.AtomTexts.{by_numeral}
use Rattle.ctw_pieces.proofs.atoms.atom.Goals as goal

pub returns-in-Some-numeral : goal.returns-in-Some-numeral
returns-in-Some-numeral c =
    let b : c.first_byte.result ≡ slice_index c.args.text.now 0 = cc in
    let e : None ≡ key_of c.args.text.now = cc in
    by_numeral c.args.place c.args.text.now _ (λ q. c.if-first_byte-eq36.false (b ∙ q)) e
    (sym c.in-Some-numeral.is ∙ c.numeral.ensures)
