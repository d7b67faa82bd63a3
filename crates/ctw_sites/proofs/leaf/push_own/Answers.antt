use Rattle.std.proofs.Common.{◌≡◌, ◌∙◌, length, sym, ap, subst, arith}
use Rattle.std.specs.Prelude.{OnOk}
use Rattle.ctw_flat.specs.Instructions.{op_of}
use Rattle.ctw_ops.specs.Code.{Plain, CallIndirect}
use Rattle.ctw_sites.specs.Packed.{after}
use Rattle.ctw_sites.specs.Leaves.{own_count, own_of}
use Rattle.ctw_sites.specs.Scope.{place}
use Rattle.ctw_sites.proofs.LeafLaws.{user_is, own_length}
use Rattle.ctw_sites.proofs.leaf.push_own.Goals as goal

pub push_user-requires : goal.push_user-requires
push_user-requires c =
    let P = place c.args.around.now in
    let e = ap (λ z. own_count P (op_of z)) c.in-CallIndirect.is in
    let u = ap length (user_is P c.args.at c.in-CallIndirect.index c.signature-params.result.0 c.signature-params.result.1 c.signature-params.ensures.params c.signature-params.ensures.width) in
    let l = own_length P c.args.at (Plain (CallIndirect c.in-CallIndirect.index)) in
    omega (arith, e, u, l, c.requires.room)

pub returns-in-CallIndirect : goal.returns-in-CallIndirect
returns-in-CallIndirect c =
    let P = place c.args.around.now in
    let u = user_is P c.args.at c.in-CallIndirect.index c.signature-params.result.0 c.signature-params.result.1 c.signature-params.ensures.params c.signature-params.ensures.width in
    subst (λ z. OnOk c.push_user.result (c.push_user.new.packer ≡ after c.args.packer.now z)) (u ∙ ap (λ z. own_of P c.args.at (op_of z)) (sym c.in-CallIndirect.is)) c.push_user.ensures
