use Rattle.std.proofs.Common.{ap, ◌∙◌}
use Rattle.std.specs.Prelude.{position}
use Rattle.std.specs.Str.{bytes_eq}
use Rattle.indexmap.specs.IndexMap.{get_by}
use Rattle.ctw_text.specs.Written.{Name}
use Rattle.ctw_text.specs.Names.{is_named}
use Rattle.ctw_names.proofs.table.NameTable.position.Goals as goal

pub returns : goal.returns
returns c =
    c.copied.ensures ∙ c.get.ensures.value ∙ ap (λ (v : Name). get_by (λ k. bytes_eq v.word k.now) c.self.inside.firsts) c.name.view_is
    ∙ c.self.invariant.firsts c.args.name.now ∙ ap (position (is_named c.args.name.now)) c.self.view_is
