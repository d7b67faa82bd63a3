use Rattle.std.proofs.Common.{ap, arith}
use Rattle.ctw_flat.specs.Instructions.{op_of}
use Rattle.ctw_sites.specs.Leaves.{own_count}
use Rattle.ctw_sites.specs.Scope.{place}
use Rattle.ctw_sites.proofs.LeafLaws.{user_params}
use Rattle.ctw_sites.proofs.leaf.row_of.Goals as goal

pub user_row-requires : goal.user_row-requires
user_row-requires c =
    let e = ap (λ z. own_count (place c.args.around.now) (op_of z)) c.in-CallIndirect.is in
    let l = user_params (place c.args.around.now) c.in-CallIndirect.index in
    omega (arith, e, l, c.requires.room)
