use Rattle.std.proofs.Common.{ℕ, List, [], ◌∷◌, ◌∙◌, ap, decimal, codes}
use Rattle.ctw_lines.proofs.WordsText.{more_words}
use Rattle.ctw_inputs.proofs.set_lines.add_entries.Goals as goal

pub returns : goal.returns
returns c =
    more_words c.add_word-2.result c.args.line.now.items c.add_word-2.new.line.items c.add_word.new.line.items (codes "TooManyEntries" ∷ []) (c.as_bytes.result.now ∷ []) (codes "TooManyEntries" ∷ decimal c.args.entries ∷ [])
    c.in_ok-add_word.ensures c.add_word-2.ensures (ap (λ (w : List ℕ). codes "TooManyEntries" ∷ w ∷ []) (c.as_bytes.ensures.value ∙ c.format.ensures.text))
