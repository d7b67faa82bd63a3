use Rattle.std.proofs.Common.{map, string_bytes, Some, None, append-nil, sym, ap, ◌∙◌, ◌∷◌, []}
use Rattle.std.proofs.lemmas.List.{map-append}
use Rattle.ctw_inputs.specs.Parts.{part_named}
use Rattle.ctw_words.specs.NamedFiles.{named_file}
use Rattle.ctw_words.proofs.WordsRead.{found_more, found_all}
use Rattle.ctw_words.proofs.words.part_files.Goals as goal

pub words-preserved-in_default : goal.words-preserved-in_default
words-preserved-in_default c =
    found_more named_file string_bytes c.args.words.now c.words.word-index c.word-item.result None (map part_named c.words.parts.items) (map part_named c.words.parts.items) c.words-test.true c.word-item.is
    (ap named_file (sym c.as_str.ensures.value) ∙ sym c.in_default.ensures) c.words.invariant (sym (append-nil (map part_named c.words.parts.items)))

pub words-preserved : goal.words-preserved
words-preserved c =
    found_more named_file string_bytes c.args.words.now c.words.word-index c.word-item.result (Some (part_named c.in-Some.part)) (map part_named c.words.parts.items) (map part_named c.push.new.self.items) c.words-test.true c.word-item.is
    (ap named_file (sym c.as_str.ensures.value) ∙ sym c.in-Some.ensures) c.words.invariant (ap (map part_named) c.in_ok-push.ensures.items ∙ map-append part_named c.words.parts.items (c.in-Some.part ∷ []))

pub returns : goal.returns
returns c = found_all named_file string_bytes c.args.words.now c.words.word-index (map part_named c.words.parts.items) c.words-test.false c.words.invariant
