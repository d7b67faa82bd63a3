use Rattle.std.proofs.Common.{◌<◌, length, sym, ◌∙◌, arith}
use Rattle.ctw_pieces.proofs.AtomTexts.{holds_later}
use Rattle.ctw_pieces.proofs.atoms.holds_word.Goals as goal

pub loop-i-preserved : goal.loop-i-preserved
loop-i-preserved c =
    let h : c.loop-i.i < length c.args.word.now = omega arith in
    holds_later c.args.inner.now c.args.word.now c.loop-i.i h (sym c.begins_with.ensures ∙ c.if-begins_with.false)
    ∙ c.loop-i.invariant
