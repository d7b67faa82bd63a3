use Rattle.std.proofs.Common.{ℕ, List, [], ◌∷◌, ◌∙◌, sym, ap, codes}
use Rattle.ctw_lines.specs.Lines.{invalid_words}
use Rattle.ctw_lines.proofs.WordsText.{more_words}
use Rattle.ctw_lines.proofs.lines.add_invalid.Goals as goal

pub returns-in_ok-add_word-in-LimitsOrder : goal.returns-in_ok-add_word-in-LimitsOrder
returns-in_ok-add_word-in-LimitsOrder c =
    more_words c.add_word-in-LimitsOrder.result c.args.line.now.items c.add_word-in-LimitsOrder.new.line.items c.add_word.new.line.items
    (codes "LimitsOrder" ∷ []) (c.space_word.result.now ∷ []) (invalid_words c.args.fault) c.in_ok-add_word-in-LimitsOrder.ensures c.add_word-in-LimitsOrder.ensures
    (ap (λ (w : List ℕ). codes "LimitsOrder" ∷ w ∷ []) c.space_word.ensures ∙ ap invalid_words (sym c.in-LimitsOrder.is))
