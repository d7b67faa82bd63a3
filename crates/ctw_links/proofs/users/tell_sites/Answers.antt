use Rattle.std.proofs.Common.{arith}
use Rattle.ctw_links.proofs.UserNotes.{site_begins, site_on, site_done}
use Rattle.ctw_links.proofs.users.tell_sites.Goals as goal

pub sites-init : goal.sites-init
sites-init c = site_begins c.args.a c.args.b c.args.count c.args.told.now.items

pub sites-preserved : goal.sites-preserved
sites-preserved c = site_on c.args.a c.args.b c.args.count c.sites.i c.sites.told.items c.push.new.self.items _ c.sites-test.true c.in_ok-push.ensures.items c.sites.invariant

pub returns : goal.returns
returns c = site_done c.args.a c.args.b c.args.count c.sites.i c.sites.told.items _ c.sites-test.false c.sites.invariant
