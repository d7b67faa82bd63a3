use Rattle.std.proofs.Common.{ℕ, List, ap, ◌∙◌}
use Rattle.std.specs.Prelude.{position}
use Rattle.std.specs.Str.{bytes_eq}
use Rattle.indexmap.specs.IndexMap.{get_by}
use Rattle.ctw_text.specs.Names.{same_spelled}
use Rattle.ctw_names.proofs.types.EntryTable.position.Goals as goal

pub returns : goal.returns
returns c =
    c.copied.ensures ∙ c.get.ensures.value ∙ ap (λ (v : List ℕ). get_by (λ k. bytes_eq v k.items) c.self.inside.firsts) c.in_ok-key.ensures
    ∙ c.self.invariant.firsts c.args.t.now ∙ ap (position (same_spelled c.args.t.now)) c.self.view_is
