use Rattle.std.proofs.Common.{[], ◌∷◌, refl, decimal, codes}
use Rattle.ctw_lines.specs.Types.{function_text}
use Rattle.ctw_lines.proofs.WordsText.{more_words, words_added}
use Rattle.ctw_inputs.proofs.set_lines.add_mix.Goals as goal

pub returns : goal.returns
returns c =
    let a = function_text c.args.a.now in
    let b = function_text c.args.b.now in
    more_words c.add_function_word-2.result c.args.line.now.items c.add_function_word-2.new.line.items c.add_function_word.new.line.items
    (codes "TableMix" ∷ decimal c.args.table ∷ a ∷ []) (b ∷ []) (codes "TableMix" ∷ decimal c.args.table ∷ a ∷ b ∷ [])
    (words_added c.args.line.now.items c.add_function_word.new.line.items c.add_numbered.new.line.items (codes "TableMix" ∷ decimal c.args.table ∷ []) (a ∷ []) (codes "TableMix" ∷ decimal c.args.table ∷ a ∷ []) c.in_ok-add_numbered.ensures c.in_ok-add_function_word.ensures refl)
    c.add_function_word-2.ensures refl
