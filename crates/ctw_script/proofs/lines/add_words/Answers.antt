use Rattle.ctw_script.proofs.Kept.{kept_append, kept_then}
use Rattle.ctw_script.proofs.lines.add_words.Goals as goal

pub returns-in_err-add_word-clause-kept : goal.returns-in_err-add_word-clause-kept
returns-in_err-add_word-clause-kept c =
    kept_then _ _ _ c.loop-word.invariant.kept (kept_then _ _ _ (kept_append _ _ _ c.in_ok-push.ensures.items) c.add_word.ensures.kept)
