use Rattle.std.proofs.Common.{sym, ap, ◌∙◌}
use Rattle.std.specs.Prelude.{option_map}
use Rattle.ctw_text.specs.declared.sorts.Sort.TheVariants.{Fields}
use Rattle.ctw_text.specs.Grammar.{Move, before_sort, defining}
use Rattle.ctw_pieces.proofs.Inline.{other}
use Rattle.ctw_pieces.proofs.pairs.extern_word.Goals as goal

pub returns : goal.returns
returns c =
    c.before-2.ensures
    ∙ (ap (λ o. option_map (λ (m : Move). before_sort m (Fields (defining c.args.fields))) o) c.body_word.ensures
    ∙ other c.args.ct c.args.tag c.args.fields c.args.at c.args.key.now (sym c.is_inline_word.ensures ∙ c.if-is_inline_word.false))
