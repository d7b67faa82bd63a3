use Rattle.std.proofs.Common.{◌≡◌, ◌∙◌, ◌++◌, ℕ, List, length, sym, ap}
use Rattle.ctw_leb.specs.Spelling.{u32_text}
use Rattle.ctw_flat.specs.Instructions.{targets_in}
use Rattle.ctw_write.specs.Canon.{all_texts}
use Rattle.ctw_write.proofs.Walked.{on_ok, table_joined}
use Rattle.ctw_write.proofs.code.put_branch_table.Goals as goal

pub returns : goal.returns
returns c =
    let targets = targets_in c.args.count c.args.targets.now in
    let same : c.new.result ≡ targets = c.new.ensures.targets in
    let e : length targets ≡ c.args.count = ap length (sym same) ∙ c.new.ensures.count in
    on_ok c.put_u32-2.result
    (table_joined c.args.out.now.items c.put_opcode.new.out.items c.put_u32.new.out.items c.put_targets.new.out.items c.put_u32-2.new.out.items c.args.count c.args.otherwise targets e
    c.in_ok-put_opcode.ensures c.in_ok-put_u32.ensures.put (c.in_ok-put_targets.ensures ∙ ap (λ (l : List ℕ). c.put_u32.new.out.items ++ all_texts u32_text l) same)) c.put_u32-2.ensures.put
