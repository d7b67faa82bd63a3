use Rattle.std.proofs.Common.{◌++◌, ℕ, List, length, ap, sym, ◌∙◌, arith}
use Rattle.ctw_write.specs.Canon.{sized_text}
use Rattle.ctw_write.proofs.Walked.{on_ok}
use Rattle.ctw_gen.specs.Workload.{leaves}
use Rattle.ctw_gen.proofs.Texts.{entry_joined, code_is, made_few}
use Rattle.ctw_gen.proofs.code.put_made.Goals as goal

pub put_sized-requires : goal.put_sized-requires
put_sized-requires c =
    let seen = entry_joined (leaves c.args.a c.args.c c.args.b) c.new-entry.result.items c.put_u32.new.out.items c.put_leaves.new.out.items c.put_instr.new.out.items c.deref.result.now c.new-entry.ensures.items
    c.in_ok-put_u32.ensures.put c.in_ok-put_leaves.ensures c.in_ok-put_instr.ensures c.deref.ensures.value in
    omega (arith, ap length seen, made_few c.args.a c.args.c c.args.b c.requires)

pub returns : goal.returns
returns c =
    let seen = entry_joined (leaves c.args.a c.args.c c.args.b) c.new-entry.result.items c.put_u32.new.out.items c.put_leaves.new.out.items c.put_instr.new.out.items c.deref.result.now c.new-entry.ensures.items
    c.in_ok-put_u32.ensures.put c.in_ok-put_leaves.ensures c.in_ok-put_instr.ensures c.deref.ensures.value in
    let whole = ap sized_text seen ∙ sym (code_is 0 (leaves c.args.a c.args.c c.args.b)) in
    on_ok c.put_sized.result (λ e. e ∙ ap (λ (l : List ℕ). c.args.out.now.items ++ l) whole) c.put_sized.ensures.put
