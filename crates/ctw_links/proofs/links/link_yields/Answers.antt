use Rattle.std.proofs.Common.{arith}
use Rattle.ctw_links.proofs.LinkNotes.{yields_on, yields_done, site_at}
use Rattle.ctw_links.proofs.links.link_yields.Goals as goal

pub sites-preserved : goal.sites-preserved
sites-preserved c =
    let x = site_at c.args.s.now c.sites.n (omega (arith, c.sites-test.true, c.count-n-end.ensures.count)) in
    yields_on c.args.p.now c.args.s.now c.sites.n x.0 c.sites.links.items _ _ x.1 (c.in_ok-link_yield.ensures x.0 x.1) c.sites.invariant

pub returns : goal.returns
returns c = yields_done c.args.p.now c.args.s.now c.sites.n c.sites.links.items _ (omega (arith, c.sites-test.false, c.count-n-end.ensures.count)) c.sites.invariant
