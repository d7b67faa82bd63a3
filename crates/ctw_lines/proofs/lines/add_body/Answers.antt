use Rattle.std.proofs.Common.{ℕ, List, [], ◌∷◌, ◌∙◌, sym, ap, decimal, codes}
use Rattle.ctw_lines.specs.Lines.{body_words}
use Rattle.ctw_lines.proofs.WordsText.{more_words, first_words}
use Rattle.ctw_lines.proofs.lines.add_body.Goals as goal

pub returns-in_ok-add_at-in-SecretPlace : goal.returns-in_ok-add_at-in-SecretPlace
returns-in_ok-add_at-in-SecretPlace c =
    more_words c.add_word.result c.args.line.now.items c.add_word.new.line.items c.add_at-in-SecretPlace.new.line.items
    (decimal c.in-SecretPlace.at ∷ codes "SecretPlace" ∷ []) (c.rule_word.result.now ∷ []) (body_words c.args.fault) c.in_ok-add_at-in-SecretPlace.ensures c.add_word.ensures
    (ap (λ (w : List ℕ). decimal c.in-SecretPlace.at ∷ codes "SecretPlace" ∷ w ∷ []) c.rule_word.ensures ∙ ap body_words (sym c.in-SecretPlace.is))

pub returns-in-WrongType : goal.returns-in-WrongType
returns-in-WrongType c =
    first_words c.add_at-in-WrongType.result c.args.line.now.items c.add_at-in-WrongType.new.line.items (decimal c.in-WrongType.at ∷ codes "WrongType" ∷ []) (body_words c.args.fault)
    c.add_at-in-WrongType.ensures (ap body_words (sym c.in-WrongType.is))
