use Rattle.std.proofs.Common.{◌≡◌, ◌++◌, take, drop, length}
use Rattle.ctw_script.specs.Lines.{blank_before_each}
use Rattle.ctw_script.specs.WordTexts.{words_texts}
use Rattle.ctw_script.proofs.lines.add_words.Given as goal

abbrev pub invariant-loop-word : goal.invariant-loop-word
invariant-loop-word l = record {
  appended : l.out.items ++ blank_before_each (words_texts (drop l.word-index l.words)) ≡ l.initial.out.items ++ blank_before_each (words_texts l.words);
  kept : take (length l.initial.out.items) l.out.items ≡ l.initial.out.items;
}
