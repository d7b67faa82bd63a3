use Rattle.std.proofs.Common.{◌∙◌, sym, ap}
use Rattle.std.specs.Prelude.{option_map, unwrap_or}
use Rattle.ctw_module.specs.Trees.{view_module}
use Rattle.ctw_labels.specs.declared.tag.Tag.TheVariants.{At, Fixed}
use Rattle.ctw_labels.specs.Fits.{label_at}
use Rattle.ctw_labels.specs.Links.{at_tag}
use Rattle.ctw_labels.specs.SitedModule.{memory_site}
use Rattle.ctw_place.proofs.setting.memory_label.Goals as goal

pub returns-in-Some : goal.returns-in-Some
returns-in-Some c =
    c.at.ensures ∙ ap (label_at c.args.labels.now) c.requires
    ∙ ap (λ z. at_tag (label_at c.args.labels.now) (unwrap_or (option_map (λ t. At (memory_site (view_module c.args.m.now))) z) Fixed)) (sym c.in-Some.is ∙ c.memory.ensures)

pub returns-in-None : goal.returns-in-None
returns-in-None c =
    ap (λ z. at_tag (label_at c.args.labels.now) (unwrap_or (option_map (λ t. At (memory_site (view_module c.args.m.now))) z) Fixed)) (sym c.in-None.is ∙ c.memory.ensures)
