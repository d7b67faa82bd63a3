use Rattle.std.proofs.Common.{ℕ, length, sym, subst}
use Rattle.ctw_ops.specs.declared.types.Label.{Label}
use Rattle.ctw_module.specs.Trees.{view_module}
use Rattle.ctw_labels.specs.Points.{AreReleases}
use Rattle.ctw_labels.specs.Fits.{Fits, IsLabelling, IsBelowAll, label_at}
use Rattle.ctw_labels.specs.SitedModule.{sites}
use Rattle.ctw_infer.specs.Answers.{IsRefusedPlain}
use Rattle.ctw_least.specs.Marked.{marks_on}
use Rattle.ctw_infer.specs.Searched.{IsReachedLabelling, IsFound}
use Rattle.ctw_infer.proofs.Fitting.{search_of, found_sized, found_fits, found_least, found_refused, misuse_refused, misuse_within, if_ok, if_err}
use Rattle.ctw_infer.proofs.inference.infer_sites.Goals as goal

pub returns-in-Err-clause-refused : goal.returns-in-Err-clause-refused
returns-in-Err-clause-refused c =
    let m = view_module c.args.m.now in
    let named = marks_on (sites m) c.args.marks.now.labels in
    subst (λ p. IsRefusedPlain m p named c.in-Err.fault) c.points-points.ensures (misuse_refused m c.points-points.result.now named c.in-Err.fault c.in-Err.ensures.misused)

pub returns-in-Err-clause-within : goal.returns-in-Err-clause-within
returns-in-Err-clause-within c = misuse_within (view_module c.args.m.now) c.points-points.result.now (length c.args.s.now) c.in-Err.fault c.in-Err.ensures.misused

pub returns-clause-labelling : goal.returns-clause-labelling
returns-clause-labelling c =
    let m = view_module c.args.m.now in
    let p = c.points-points.result.now in
    let named = marks_on (sites m) c.args.marks.now.labels in
    let g = c.in_ok-links.links.graph in
    if_ok (IsReachedLabelling g c.deref.result.now c.deref-2.result.now) (IsLabelling m) c.search.result
    (found_sized m c.requires.valid c.requires.plain p (subst AreReleases (sym c.points-points.ensures) c.requires.points) c.in_default.ensures.kept named g c.in_ok-links.links.musts c.deref.result.now c.deref-2.result.now (search_of m p c.args.marks.now.labels c.args.s.now g c.in_ok-links.links.musts c.deref.result.now c.deref-2.result.now c.in_ok-starts.starts.items c.in_ok-goals.goals.items
    c.requires.sites c.deref.ensures.value c.deref-2.ensures.value c.in_ok-links.ensures.graph c.in_ok-links.ensures.nodes c.in_ok-links.ensures.musts c.in_ok-starts.ensures.marked c.in_ok-goals.ensures.ends))
    c.search.ensures.reached

pub returns-clause-fits : goal.returns-clause-fits
returns-clause-fits c =
    let m = view_module c.args.m.now in
    let p = c.points-points.result.now in
    let named = marks_on (sites m) c.args.marks.now.labels in
    let g = c.in_ok-links.links.graph in
    if_ok (IsReachedLabelling g c.deref.result.now c.deref-2.result.now) (λ l. Fits m c.args.marks.now.points named (label_at l)) c.search.result
    (λ l r. subst (λ p. Fits m p named (label_at l)) c.points-points.ensures
    (found_fits m c.requires.valid c.requires.plain p (subst AreReleases (sym c.points-points.ensures) c.requires.points) c.in_default.ensures.kept named g c.in_ok-links.links.musts c.deref.result.now c.deref-2.result.now (search_of m p c.args.marks.now.labels c.args.s.now g c.in_ok-links.links.musts c.deref.result.now c.deref-2.result.now c.in_ok-starts.starts.items c.in_ok-goals.goals.items
    c.requires.sites c.deref.ensures.value c.deref-2.ensures.value c.in_ok-links.ensures.graph c.in_ok-links.ensures.nodes c.in_ok-links.ensures.musts c.in_ok-starts.ensures.marked c.in_ok-goals.ensures.ends) l r))
    c.search.ensures.reached

pub returns-clause-least : goal.returns-clause-least
returns-clause-least c =
    let m = view_module c.args.m.now in
    let p = c.points-points.result.now in
    let named = marks_on (sites m) c.args.marks.now.labels in
    let g = c.in_ok-links.links.graph in
    if_ok (IsReachedLabelling g c.deref.result.now c.deref-2.result.now) (λ l. (k : ℕ → Label) → Fits m c.args.marks.now.points named k → IsBelowAll (length (sites m)) (label_at l) k) c.search.result
    (λ l r. λ k f.
    found_least m c.requires.valid c.requires.plain p (subst AreReleases (sym c.points-points.ensures) c.requires.points) c.in_default.ensures.kept named g c.in_ok-links.links.musts c.deref.result.now c.deref-2.result.now (search_of m p c.args.marks.now.labels c.args.s.now g c.in_ok-links.links.musts c.deref.result.now c.deref-2.result.now c.in_ok-starts.starts.items c.in_ok-goals.goals.items
    c.requires.sites c.deref.ensures.value c.deref-2.ensures.value c.in_ok-links.ensures.graph c.in_ok-links.ensures.nodes c.in_ok-links.ensures.musts c.in_ok-starts.ensures.marked c.in_ok-goals.ensures.ends) l r k
    (subst (λ p. Fits m p named k) (sym c.points-points.ensures) f))
    c.search.ensures.reached

pub returns-clause-refused : goal.returns-clause-refused
returns-clause-refused c =
    let m = view_module c.args.m.now in
    let p = c.points-points.result.now in
    let named = marks_on (sites m) c.args.marks.now.labels in
    let g = c.in_ok-links.links.graph in
    if_err (IsFound g c.in_ok-links.links.musts c.deref.result.now c.deref-2.result.now) (IsRefusedPlain m c.args.marks.now.points named) c.search.result
    (λ e r. subst (λ p. IsRefusedPlain m p named e) c.points-points.ensures
    (found_refused m c.requires.valid c.requires.plain p (subst AreReleases (sym c.points-points.ensures) c.requires.points) c.in_default.ensures.kept named g c.in_ok-links.links.musts c.deref.result.now c.deref-2.result.now (search_of m p c.args.marks.now.labels c.args.s.now g c.in_ok-links.links.musts c.deref.result.now c.deref-2.result.now c.in_ok-starts.starts.items c.in_ok-goals.goals.items
    c.requires.sites c.deref.ensures.value c.deref-2.ensures.value c.in_ok-links.ensures.graph c.in_ok-links.ensures.nodes c.in_ok-links.ensures.musts c.in_ok-starts.ensures.marked c.in_ok-goals.ensures.ends) e r))
    c.search.ensures.found
