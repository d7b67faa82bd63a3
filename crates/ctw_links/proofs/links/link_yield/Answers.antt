use Rattle.std.proofs.Common.{◌∙◌, ◌++◌, sym, ap}
use Rattle.std.specs.Prelude.{Some}
use Rattle.ctw_sites.proofs.Answered.{ok_then}
use Rattle.ctw_links.specs.Collected.{push_of, triples}
use Rattle.ctw_links.proofs.LinkNotes.{nothing_yielded, by_reading, read_name, read_yields, unreleased}
use Rattle.ctw_links.proofs.links.link_yield.Goals as goal

pub returns-in-None : goal.returns-in-None
returns-in-None c = λ site e. nothing_yielded c.args.p.now c.args.s.now c.args.n site c.args.links.now.items e c.in-None.ensures.yields

pub returns-then-releases_none : goal.returns-then-releases_none
returns-then-releases_none c = λ site e.
    let push = c.in-Some.ensures.push in
    ok_then c.link_from.result c.link_from.ensures
    (λ h. unreleased c.args.p.now c.args.s.now c.args.n site c.args.links.now.items e push.0 push.1 c.in-Some.from push.2 c.in-Some.ensures.yields (c.releases_none.ensures.0 c.if-releases_none.true) c.link_from.new.links.items h)

pub returns-else-releases_none : goal.returns-else-releases_none
returns-else-releases_none c = λ site e.
    let named = ap push_of (read_name c.args.s.now c.args.n site c.name.result e c.name.ensures) in
    let from = read_yields c.args.s.now c.args.n site (Some c.in-Some.from) e c.in-Some.ensures.yields in
    ok_then c.link_push.result c.link_push.ensures (λ h. h
    ∙ ap (λ z. c.args.links.now.items ++ triples z) (sym (by_reading c.args.p.now c.args.s.now c.args.n site c.args.links.now.items e (push_of c.name.result) (Some c.in-Some.from) named from)))
