use Rattle.std.proofs.Common.{[], ◌∷◌, refl, decimal, codes}
use Rattle.ctw_lines.specs.Types.{external_text}
use Rattle.ctw_lines.proofs.WordsText.{more_words, words_added}
use Rattle.ctw_inputs.proofs.set_lines.add_import_type.Goals as goal

pub returns : goal.returns
returns c =
    let first = codes "ImportType" ∷ c.args.part.now ∷ decimal c.args.import ∷ [] in
    let want = external_text c.args.want.now in
    let got = external_text c.args.got.now in
    more_words c.add_external_word-2.result c.args.line.now.items c.add_external_word-2.new.line.items c.add_external_word.new.line.items
    (codes "ImportType" ∷ c.args.part.now ∷ decimal c.args.import ∷ want ∷ []) (got ∷ []) (codes "ImportType" ∷ c.args.part.now ∷ decimal c.args.import ∷ want ∷ got ∷ [])
    (words_added c.args.line.now.items c.add_external_word.new.line.items c.add_import.new.line.items first (want ∷ []) (codes "ImportType" ∷ c.args.part.now ∷ decimal c.args.import ∷ want ∷ []) c.in_ok-add_import.ensures c.in_ok-add_external_word.ensures refl)
    c.add_external_word-2.ensures refl
