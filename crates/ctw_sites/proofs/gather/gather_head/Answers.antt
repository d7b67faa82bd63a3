use Rattle.std.proofs.Common.{◌∙◌, ap, arith}
use Rattle.ctw_sites.proofs.gather.gather_head.Goals as goal

pub overflow_sub-result : goal.overflow_sub-result
overflow_sub-result c =
    let a = ap (λ z. z.count) (c.packer.view_is ∙ c.in_ok-add_head.ensures.sites) in
    let b = c.behind_functions.ensures in
    omega (arith, a, b)
