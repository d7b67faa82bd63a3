use Rattle.std.proofs.Common.{◌≡◌, drop, map, length}
use Rattle.ctw_text.specs.Words.{look_up}
use Rattle.ctw_text.specs.Buckets.{told}
use Rattle.ctw_text.proofs.words.find.Given as goal

abbrev pub invariant-loop-entry : goal.invariant-loop-entry
invariant-loop-entry l =
    look_up (map (told (length l.word)) (drop l.entry-index l.entries)) l.word
    ≡ look_up (map (told (length l.word)) l.entries) l.word
