use Rattle.std.proofs.Common.{◌∙◌, ap}
use Rattle.ctw_module.specs.Trees.{view_module}
use Rattle.ctw_labels.specs.SitedModule.{sites}
use Rattle.ctw_sites.specs.Packed.{after}
use Rattle.ctw_sites.proofs.NumberedLaws.{Held, plain_fit, held}
use Rattle.ctw_sites.proofs.sites.Sites.of.Goals as goal

pub gather-requires-clause-room : goal.gather-requires-clause-room
gather-requires-clause-room c =
    plain_fit c.args.m.now (record { spelled = c.bytes.ensures.spelled; limits = c.bytes.ensures.limits; plain = c.requires.plain })

-- what is kept holds the module's sites
all_held : (c : goal.After-imported_count) → Held c.args.m.now (record { heads = c.gather.new.heads.items; starts = c.gather.new.starts.items; imported = c.imported_count.result }) c.packer.inside.words.items
all_held c =
    held c.args.m.now (record { spelled = c.bytes.ensures.spelled; limits = c.bytes.ensures.limits; plain = c.requires.plain })
    c.gather.new.heads.items c.gather.new.starts.items c.packer.inside.words.items c.imported_count.result c.packer.inside.count c.packer.inside.most
    (c.packer.view_is ∙ c.in_ok-gather.ensures.sites ∙ ap (λ z. after z (sites (view_module c.args.m.now))) c.new-packer.ensures)
    c.if-packer-gt-MOST_SITES.false c.in_ok-gather.ensures.heads c.in_ok-gather.ensures.starts c.imported_count.ensures

pub invariant_of-result : goal.invariant_of-result
invariant_of-result c = let d = all_held c in record { table = d.table; sites = d.kept }

pub returns-clause-sites : goal.returns-clause-sites
returns-clause-sites c = (all_held c).back
