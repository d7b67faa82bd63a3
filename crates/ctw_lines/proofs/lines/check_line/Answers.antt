use Rattle.std.proofs.Common.{List, ℕ, [], ◌∷◌, ◌++◌, ◌∙◌, ap, codes}
use Rattle.ctw_script.specs.Lines.{blank_before_each}
use Rattle.ctw_lines.specs.Lines.{invalid_words}
use Rattle.ctw_lines.proofs.WordsText.{line_is}
use Rattle.ctw_lines.proofs.lines.check_line.Goals as goal

pub returns : goal.returns
returns c =
    line_is (codes "refused check") c.args.word.now (invalid_words c.args.fault) c.in_ok-line.line.items c.add_word.new.line.items c.add_invalid.new.line.items c.push.new.self.items
    c.in_ok-line.ensures.items (c.in_ok-add_word.ensures ∙ ap (λ (w : List ℕ). c.in_ok-line.line.items ++ blank_before_each (w ∷ [])) c.as_bytes.ensures.value) c.in_ok-add_invalid.ensures c.in_ok-push.ensures.items
