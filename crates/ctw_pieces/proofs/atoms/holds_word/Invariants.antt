use Rattle.std.proofs.Common.{◌≡◌, drop}
use Rattle.ctw_text.specs.Toks.{holds_word}
use Rattle.ctw_pieces.proofs.atoms.holds_word.Given as goal

abbrev pub invariant-loop-i : goal.invariant-loop-i
invariant-loop-i l = holds_word l.inner (drop l.i l.word) ≡ holds_word l.inner l.word
