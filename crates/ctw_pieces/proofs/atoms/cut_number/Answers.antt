use Rattle.std.proofs.Common.{◌≡◌, Some, sym, ◌∙◌}
use Rattle.std.specs.Prelude.{option_map}
use Rattle.ctw_lex.specs.declared.numbers.Magnitude.TheVariants.{Small, Large}
use Rattle.ctw_lex.specs.NumberValues.{number_value, number_of_value}
use Rattle.ctw_pieces.proofs.NumberValues.{small_number, large_number, no_number}
use Rattle.ctw_pieces.proofs.atoms.cut_number.Goals as goal

pub returns-in-Some-Small : goal.returns-in-Some-Small
returns-in-Some-Small c =
    let e : Some (Small c.in-Some-Small.n) ≡ option_map number_of_value (number_value c.args.text.now) = cc in
    let f : Some c.from.result ≡ Some c.in-Some-Small.n = cc in
    f ∙ small_number c.args.text.now _ e

pub returns-in-Some-Large : goal.returns-in-Some-Large
returns-in-Some-Large c =
    let e : Some Large ≡ option_map number_of_value (number_value c.args.text.now) = cc in
    large_number c.args.text.now e

pub returns-in-None : goal.returns-in-None
returns-in-None c = no_number c.args.text.now (sym c.in-None.is ∙ c.number.ensures.value)
