use Rattle.std.proofs.Common.{◌≡◌, ◌≤◌, ◌*◌, ◌^◌, take}
use Rattle.std.specs.List.{sum_by, count_by}
use Rattle.ctw_ops.specs.Code.{opcodes}
use Rattle.ctw_module.specs.Trees.{view_module}
use Rattle.ctwasm_top.specs.Works.{is_classify}
use Rattle.ctwasm_top.proofs.counting.count_classifies.Given as goal

-- those of the first functions are counted
abbrev pub invariant-functions : goal.invariant-functions
invariant-functions l = record {
  counted : l.count ≡ sum_by (λ f. count_by is_classify (opcodes f.body)) (take l.i (view_module l.m).functions);
  few : l.count ≤ l.i * 2 ^ 32;
}
