use Rattle.std.proofs.Common.{◌≡◌, ◌∙◌, ◌++◌, ◌∷◌, [], true, length, sym, ap, subst, arith, length-append}
use Rattle.ctw_flat.specs.Instructions.{op_of}
use Rattle.ctw_labels.specs.declared.name.SiteName.TheVariants.{Op, Push}
use Rattle.ctw_labels.specs.Names.{site}
use Rattle.ctw_sites.specs.Leaves.{IsLeaf, is_select_op, own_of, chosen_push, chosen_width}
use Rattle.ctw_sites.specs.Packed.{after}
use Rattle.ctw_sites.specs.Scope.{scope, place}
use Rattle.ctw_sites.specs.Stacks.{of_innermost}
use Rattle.ctw_sites.proofs.Answered.{ok_then}
use Rattle.ctw_sites.proofs.PackedLaws.{after_both}
use Rattle.ctw_sites.proofs.PassLaws.{chosen_law, chosen_own}
use Rattle.ctw_links.proofs.RowFacts.{select_op, opens_some}
use Rattle.ctw_links.proofs.pass.step.Goals as goal

pub pass_select-requires : goal.pass_select-requires
pass_select-requires c =
    let P = place c.args.around.now in
    let C = scope c.args.around.now in
    let b = c.args.stack.now in
    let op = op_of c.args.instr.now in
    let N = c.args.packer.now.count in
    let leaf = subst (λ z. IsLeaf (op_of z)) (sym c.in-Select.is) tt in
    let q : is_select_op op ≡ true = ap (λ z. is_select_op (op_of z)) c.in-Select.is in
    let h = chosen_law P C N c.args.at op b leaf c.requires.goes q in
    let o = chosen_own P c.args.at op q in
    let s = ap length h.1 in
    let l = length-append (own_of P c.args.at op) (chosen_push N (Push c.args.around.now.f c.args.at) (of_innermost chosen_width b)) in
    record { «open» = opens_some P C N op b c.requires.goes; few = c.requires.few; room = omega (arith, o, s, l, c.requires.room) }

pub returns-in-Select : goal.returns-in-Select
returns-in-Select c =
    let P = place c.args.around.now in
    let C = scope c.args.around.now in
    let b = c.args.stack.now in
    let op = op_of c.args.instr.now in
    let N = c.args.packer.now.count in
    let leaf = subst (λ z. IsLeaf (op_of z)) (sym c.in-Select.is) tt in
    let q : is_select_op op ≡ true = ap (λ z. is_select_op (op_of z)) c.in-Select.is in
    let h = chosen_law P C N c.args.at op b leaf c.requires.goes q in
    let f = c.args.around.now.f in
    let own : own_of P c.args.at op ≡ site (Op f c.args.at) ∷ [] = ap (λ z. own_of P c.args.at (op_of z)) c.in-Select.is in
    let cp = chosen_push N (Push f c.args.at) (of_innermost chosen_width b) in
    record {
      told = ok_then c.pass_select.result c.pass_select.ensures.told (λ e. e ∙ ap (λ z. c.args.told.now.items ++ z) (sym (select_op P C N op b leaf c.requires.goes q)));
      stack = ok_then c.pass_select.result c.pass_select.ensures.stack (λ e. e ∙ h.0);
      sites = ok_then c.pass_select.result c.pass_select.ensures.sites (λ e. e ∙ after_both c.args.packer.now (site (Op f c.args.at) ∷ []) cp ∙ ap (λ z. after c.args.packer.now (z ++ cp)) (sym own) ∙ ap (after c.args.packer.now) h.1);
    }
