use Rattle.std.proofs.Common.{arith}
use Rattle.ctw_ops.specs.Tree.{global_types}
use Rattle.ctw_module.specs.Trees.{view_module}
use Rattle.ctw_links.proofs.GlobalNotes.{site_found, site_none}
use Rattle.ctw_links.proofs.globals.site_of.Goals as goal

pub returns-then-g-global_count : goal.returns-then-g-global_count
returns-then-g-global_count c = site_none (view_module c.args.m.now) c.args.g (omega (arith, c.if-g-global_count.true, c.global_count.ensures))

pub returns : goal.returns
returns c = site_found (view_module c.args.m.now) c.args.globals c.args.g c.requires.globals (omega (arith, c.if-g-global_count.false, c.global_count.ensures))
