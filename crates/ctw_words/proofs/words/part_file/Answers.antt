use Rattle.std.proofs.Common.{◌≡◌, true, false, None, Some, option_map, length, sym, ap, ◌∙◌, arith}
use Rattle.std.proofs.lemmas.Bool.{eq-eqb}
use Rattle.std.proofs.lemmas.Str.Pattern.{split_parts}
use Rattle.ctw_inputs.specs.Parts.{part_named}
use Rattle.ctw_words.proofs.WordsCut.{not_cut, cut_named}
use Rattle.ctw_words.proofs.words.part_file.Goals as goal

pub returns-in_err-name : goal.returns-in_err-name
returns-in_err-name c = ap (option_map part_named) c.from_residual.ensures ∙ sym (not_cut c.args.word.now (split_parts 61 c.args.word.now None c.in_err-name.ensures.cases (omega arith)))

pub returns : goal.returns
returns c =
    let p = split_parts 61 c.args.word.now (Some (c.in_ok-name.name, c.in_ok-name.file)) c.in_ok-name.ensures.cases (omega arith) in
    sym (cut_named c.args.word.now c.in_ok-name.name.now c.in_ok-name.file.now p.0 p.1 (λ e. let t : false ≡ true = c.if-is_empty.ensures ∙ eq-eqb (length c.in_ok-name.name.now) 0 e in cc))
