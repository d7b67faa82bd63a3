-- Instructions with numbers in place of names.
use Rattle.ctw_ops.specs.declared.types.Label.{Label}
use Rattle.ctw_ops.specs.Code as ops
use Rattle.ctw_text.specs.Names.{branches, leaf_of}
use Rattle.ctw_names.specs.declared.op.OpKind.{OpKind}
use Rattle.ctw_names.specs.declared.op.OpKind.TheVariants as kind

abbrev pub op_in : OpKind → ops.Op Label
op_in (kind.Single leaf) = ops.Plain leaf
op_in (kind.Uses op n) = ops.Plain (leaf_of op n)
op_in (kind.Targets ns) = ops.Plain (branches ns.items)
op_in (kind.Indirect n) = ops.Plain (ops.CallIndirect n)
op_in (kind.Opens shape t) = ops.Opens shape t
op_in kind.Else = ops.Closes ops.ByElse
op_in kind.End = ops.Closes ops.ByEnd
