use Rattle.std.proofs.Common.{◌∙◌, ◌++◌, length, sym, ap, subst, arith, length-append}
use Rattle.ctw_flat.specs.Instructions.{op_of}
use Rattle.ctw_labels.specs.declared.name.SiteName.TheVariants.{Push}
use Rattle.ctw_labels.specs.FlatSites.{among}
use Rattle.ctw_sites.specs.Leaves.{IsRowOf, own_of, selected, chosen_push, chosen_width}
use Rattle.ctw_sites.specs.Packed.{after}
use Rattle.ctw_sites.specs.Rows.{done, push_by}
use Rattle.ctw_sites.specs.Scope.{scope, place}
use Rattle.ctw_sites.specs.Stacks.{on_innermost, of_innermost}
use Rattle.ctw_sites.proofs.Answered.{ok_then, ok_here}
use Rattle.ctw_sites.proofs.PackedLaws.{after_both}
use Rattle.ctw_sites.proofs.PassLaws.{row_behind, row_sites, chosen_law, chosen_own, own_within}
use Rattle.ctw_sites.proofs.pass.pass_leaf.Goals as goal

pub push_own-requires : goal.push_own-requires
push_own-requires c =
    let P = place c.args.around.now in
    let h = own_within P (scope c.args.around.now) c.args.packer.now.count c.args.at (op_of c.args.instr.now) c.args.stack.now c.requires.leaf c.requires.goes in
    record { room = omega (arith, h, c.requires.room) }

pub select-requires : goal.select-requires
select-requires c =
    let P = place c.args.around.now in
    let C = scope c.args.around.now in
    let b = c.args.stack.now in
    let op = op_of c.args.instr.now in
    let N = c.args.packer.now.count in
    let k = ap (λ z. z.count) c.packer.view_is in
    let q = sym c.is_select.ensures ∙ c.if-is_select.true in
    let h = chosen_law P C N c.args.at op b c.requires.leaf c.requires.goes q in
    let e = ap (λ z. z.count) c.in_ok-push_own.ensures in
    let o = chosen_own P c.args.at op q in
    let s = ap length h.1 in
    let l = length-append (own_of P c.args.at op) (chosen_push N (Push c.args.around.now.f c.args.at) (of_innermost chosen_width b)) in
    let t = ap (λ z. length (chosen_push z (Push c.args.around.now.f c.args.at) (of_innermost chosen_width b))) k in
    record {
      «open» = c.requires.«open»;
      few = c.requires.few;
      room = omega (arith, e, s, l, t, c.requires.room);
      own = omega (arith, e, o, k);
    }

pub returns-then-is_select : goal.returns-then-is_select
returns-then-is_select c =
    let P = place c.args.around.now in
    let C = scope c.args.around.now in
    let b = c.args.stack.now in
    let op = op_of c.args.instr.now in
    let N = c.args.packer.now.count in
    let n = c.packer.inside.count in
    let k = ap (λ z. z.count) c.packer.view_is in
    let q = sym c.is_select.ensures ∙ c.if-is_select.true in
    let h = chosen_law P C N c.args.at op b c.requires.leaf c.requires.goes q in
    let name = Push c.args.around.now.f c.args.at in
    let w = of_innermost chosen_width b in
    record {
      stack = ok_then c.select.result c.select.ensures.stack (λ e. e ∙ ap (λ z. on_innermost (selected z) b) k ∙ h.0);
      sites = ok_then c.select.result c.select.ensures.sites (λ e.
          e ∙ ap (λ z. after z (chosen_push n name w)) c.in_ok-push_own.ensures ∙ after_both c.args.packer.now (own_of P c.args.at op) (chosen_push n name w)
          ∙ ap (λ z. after c.args.packer.now (own_of P c.args.at op ++ chosen_push z name w)) k ∙ ap (after c.args.packer.now) h.1);
    }

pub row_of-row-requires : goal.row_of-row-requires
row_of-row-requires c =
    let k = ap (λ z. z.count) c.packer.view_is in
    let h = own_within (place c.args.around.now) (scope c.args.around.now) c.args.packer.now.count c.args.at (op_of c.args.instr.now) c.args.stack.now c.requires.leaf c.requires.goes in
    record { exactly = c.requires.exactly; room = omega (arith, h, k, c.requires.room) }

pub push_row-requires : goal.push_row-requires
push_row-requires c =
    let P = place c.args.around.now in
    let C = scope c.args.around.now in
    let b = c.args.stack.now in
    let op = op_of c.args.instr.now in
    let N = c.args.packer.now.count in
    let r = c.row_of-row.result in
    let k = ap (λ z. z.count) c.packer.view_is in
    let q = sym c.is_select.ensures ∙ c.if-is_select.false in
    let h = row_sites P C N c.args.at op b r c.requires.leaf c.requires.goes q (subst (λ z. IsRowOf P (among C b) z op r) k c.row_of-row.ensures) in
    let e = ap (λ z. z.count) c.in_ok-push_own.ensures in
    let s = ap length h in
    let l = length-append (own_of P c.args.at op) (push_by (Push c.args.around.now.f c.args.at) r) in
    omega (arith, e, s, l, c.requires.room)

pub returns : goal.returns
returns c =
    let P = place c.args.around.now in
    let C = scope c.args.around.now in
    let b = c.args.stack.now in
    let op = op_of c.args.instr.now in
    let N = c.args.packer.now.count in
    let r = c.row_of-row.result in
    let k = ap (λ z. z.count) c.packer.view_is in
    let q = sym c.is_select.ensures ∙ c.if-is_select.false in
    let is = subst (λ z. IsRowOf P (among C b) z op r) k c.row_of-row.ensures in
    let h = row_sites P C N c.args.at op b r c.requires.leaf c.requires.goes q is in
    let g = row_behind P C N c.args.at op b r c.requires.leaf c.requires.goes q is in
    let site = ap (λ z. z.count) c.packer-2.view_is ∙ ap (λ z. z.count) c.in_ok-push_own.ensures in
    let name = Push c.args.around.now.f c.args.at in
    record {
      stack = ok_then c.apply.result c.apply.ensures (λ e. e ∙ ap (λ z. on_innermost (done z r) b) site ∙ g);
      sites = ok_here c.apply.result (c.in_ok-push_row.ensures ∙ ap (λ z. after z (push_by name r)) c.in_ok-push_own.ensures
          ∙ after_both c.args.packer.now (own_of P c.args.at op) (push_by name r) ∙ ap (after c.args.packer.now) h);
    }
