use Rattle.std.proofs.Common.{◌++◌, sym, ap, ◌∙◌, append_assoc, codes, decimal}
use Rattle.ctw_ops.specs.declared.types.Label.TheVariants.{Secret}
use Rattle.ctw_ops.specs.Types.{value_type}
use Rattle.ctw_print.specs.Words.{value_word}
use Rattle.std.specs.String.{string_bytes}
use Rattle.ctw_flat.specs.declared.instr.Instr.{Instr}
use Rattle.ctw_flat.specs.Instructions.{op_of}
use Rattle.ctw_print.specs.Texts.{op_text}
use Rattle.ctw_print.proofs.Walked.{on_ok, pushed_on}
use Rattle.ctw_print.proofs.code.put_op.Goals as goal

pub returns-in-GlobalGet : goal.returns-in-GlobalGet
returns-in-GlobalGet c = on_ok c.put_indexed-in-GlobalGet.result (λ q. q ∙ append_assoc (string_bytes c.args.out.now) (codes "global.get ") (decimal c.in-GlobalGet.index) ∙ ap (λ (i : Instr). string_bytes c.args.out.now ++ op_text (op_of i)) (sym c.in-GlobalGet.is)) c.put_indexed-in-GlobalGet.ensures

pub returns-in-GlobalSet : goal.returns-in-GlobalSet
returns-in-GlobalSet c = on_ok c.put_indexed-in-GlobalSet.result (λ q. q ∙ append_assoc (string_bytes c.args.out.now) (codes "global.set ") (decimal c.in-GlobalSet.index) ∙ ap (λ (i : Instr). string_bytes c.args.out.now ++ op_text (op_of i)) (sym c.in-GlobalSet.is)) c.put_indexed-in-GlobalSet.ensures

pub returns-in-MemoryGrow : goal.returns-in-MemoryGrow
returns-in-MemoryGrow c =
    pushed_on c.push_str-in-MemoryGrow.result (string_bytes c.push_str-in-MemoryGrow.new.self) (string_bytes c.args.out.now) (codes "memory.grow") (op_text (op_of c.args.instr.now)) c.push_str-in-MemoryGrow.ensures.bytes
    (ap (λ (i : Instr). op_text (op_of i)) (sym c.in-MemoryGrow.is))

pub returns-in-Declassify : goal.returns-in-Declassify
returns-in-Declassify c = on_ok c.put_typed-in-Declassify.result (λ q. q ∙ append_assoc (string_bytes c.args.out.now) (value_word (value_type c.in-Declassify.width Secret)) (codes ".declassify") ∙ ap (λ (i : Instr). string_bytes c.args.out.now ++ op_text (op_of i)) (sym c.in-Declassify.is)) c.put_typed-in-Declassify.ensures
