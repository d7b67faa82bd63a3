use Rattle.std.proofs.Common.{◌≡◌, ◌+◌, length, sym, ap, subst, ◌∙◌, arith}
use Rattle.std.specs.Prelude.{IfOk}
use Rattle.ctw_flat.specs.Instructions.{op_of}
use Rattle.ctw_labels.specs.FlatSites.{among}
use Rattle.ctw_labels.specs.Points.{trust_at, is_released}
use Rattle.ctw_sites.specs.Leaves.{IsRowOf, own_of}
use Rattle.ctw_sites.specs.Scope.{scope, place}
use Rattle.ctw_sites.proofs.Answered.{ok_then}
use Rattle.ctw_sites.proofs.LeafLaws.{own_length}
use Rattle.ctw_sites.proofs.PassLaws.{chosen_law, own_within}
use Rattle.ctw_place.specs.Walks.{place_under, scope_under, next_site}
use Rattle.ctw_place.proofs.LiftLaws.{select_at, select_next, others_lift, others_next, others_behind, is_row_under}
use Rattle.ctw_place.proofs.pass.pass_leaf.Goals as goal

pub overflow_add-site : goal.overflow_add-site
overflow_add-site c =
    let P = place_under c.args.points.now c.args.around.now in
    let h = own_within P (scope_under c.args.points.now c.args.around.now) c.args.n c.args.at (op_of c.args.instr.now) c.args.stack.now c.requires.leaf c.requires.goes in
    omega (arith, h, c.own_sites.ensures c.args.points.now, c.requires.room)

pub pass_select-requires : goal.pass_select-requires
pass_select-requires c =
    let P = place_under c.args.points.now c.args.around.now in
    let C = scope_under c.args.points.now c.args.around.now in
    let q = sym c.is_select.ensures ∙ c.if-is_select.true in
    let h = select_next P C c.args.n c.args.at (op_of c.args.instr.now) c.args.stack.now c.releases-free.result c.requires.leaf c.requires.goes q c.releases-free.ensures in
    record { «open» = c.requires.«open»; few = c.requires.few; room = omega (arith, h, c.requires.room) }

pub returns-then-is_select : goal.returns-then-is_select
returns-then-is_select c =
    let P = place_under c.args.points.now c.args.around.now in
    let C = scope_under c.args.points.now c.args.around.now in
    let op = op_of c.args.instr.now in
    let b = c.args.stack.now in
    let q = sym c.is_select.ensures ∙ c.if-is_select.true in
    let h = chosen_law P C c.args.n c.args.at op b c.requires.leaf c.requires.goes q in
    let k = select_next P C c.args.n c.args.at op b c.releases-free.result c.requires.leaf c.requires.goes q c.releases-free.ensures in
    let l = select_at P C c.args.n c.args.at op b c.releases-free.result c.requires.leaf c.requires.goes q c.releases-free.ensures in
    record {
      stack = ok_then c.pass_select.result c.pass_select.ensures.stack (λ e. e ∙ h.0);
      next = subst (λ z. IfOk c.pass_select.result (λ r. r.0 ≡ z)) k c.pass_select.ensures.next;
      lift = subst (λ z. IfOk c.pass_select.result (λ r. r.1 ≡ z)) l c.pass_select.ensures.lift;
    }

pub row_of-row-requires : goal.row_of-row-requires
row_of-row-requires c =
    let P = place_under c.args.points.now c.args.around.now in
    let h = own_within P (scope_under c.args.points.now c.args.around.now) c.args.n c.args.at (op_of c.args.instr.now) c.args.stack.now c.requires.leaf c.requires.goes in
    record { exactly = c.requires.exactly; room = omega (arith, h, c.requires.room) }

pub behind-next-requires : goal.behind-next-requires
behind-next-requires c =
    let P = place_under c.args.points.now c.args.around.now in
    let C = scope_under c.args.points.now c.args.around.now in
    let op = op_of c.args.instr.now in
    let b = c.args.stack.now in
    let q = sym c.is_select.ensures ∙ c.if-is_select.false in
    let o = own_length P c.args.at op in
    let site : c.args.n + c.own_sites.result ≡ c.args.n + length (own_of P c.args.at op) = omega (arith, o, c.own_sites.ensures c.args.points.now) in
    let under : IsRowOf P (among C b) c.args.n op c.row_of-row.result =
    is_row_under (place c.args.around.now) (among (scope c.args.around.now) c.args.stack.now) (λ at. is_released c.args.points.now c.args.around.now.f at) (trust_at c.args.points.now c.args.around.now.f) c.args.n op c.row_of-row.result c.row_of-row.ensures in
    let l = c.lift_of-lift.ensures ∙ others_lift P C c.args.n c.args.at op b c.row_of-row.result c.requires.leaf c.requires.goes q under (c.args.n + c.own_sites.result) site c.releases-free.result c.releases-free.ensures in
    let k = ap (next_site (c.args.n + c.own_sites.result)) l ∙ others_next P C c.args.n c.args.at op b c.row_of-row.result c.requires.leaf c.requires.goes q under (c.args.n + c.own_sites.result) site in
    omega (arith, k, c.requires.room)

pub returns : goal.returns
returns c =
    let P = place_under c.args.points.now c.args.around.now in
    let C = scope_under c.args.points.now c.args.around.now in
    let op = op_of c.args.instr.now in
    let b = c.args.stack.now in
    let q = sym c.is_select.ensures ∙ c.if-is_select.false in
    let o = own_length P c.args.at op in
    let site : c.args.n + c.own_sites.result ≡ c.args.n + length (own_of P c.args.at op) = omega (arith, o, c.own_sites.ensures c.args.points.now) in
    let under : IsRowOf P (among C b) c.args.n op c.row_of-row.result =
    is_row_under (place c.args.around.now) (among (scope c.args.around.now) c.args.stack.now) (λ at. is_released c.args.points.now c.args.around.now.f at) (trust_at c.args.points.now c.args.around.now.f) c.args.n op c.row_of-row.result c.row_of-row.ensures in
    let l = c.lift_of-lift.ensures ∙ others_lift P C c.args.n c.args.at op b c.row_of-row.result c.requires.leaf c.requires.goes q under (c.args.n + c.own_sites.result) site c.releases-free.result c.releases-free.ensures in
    record {
      stack = c.in_ok-apply.ensures ∙ others_behind P C c.args.n c.args.at op b c.row_of-row.result c.requires.leaf c.requires.goes q under (c.args.n + c.own_sites.result) site;
      next = c.behind-next.ensures ∙ ap (next_site (c.args.n + c.own_sites.result)) l ∙ others_next P C c.args.n c.args.at op b c.row_of-row.result c.requires.leaf c.requires.goes q under (c.args.n + c.own_sites.result) site;
      lift = l;
    }
