use Rattle.std.proofs.Common.{◌≡◌, ◌++◌, ℕ, List, [], ◌∷◌, ap, sym, ◌∙◌, append_assoc}
use Rattle.ctw_ops.specs.declared.types.Label.{Label}
use Rattle.ctw_ops.specs.Code.{Leaf, Call}
use Rattle.ctw_flat.specs.declared.instr.Instr.{Instr}
use Rattle.ctw_flat.specs.declared.instr.Instr.TheVariants as instr
use Rattle.ctw_flat.specs.Instructions.{op_of}
use Rattle.ctw_write.specs.Canon.{all_texts, leaf_text, op_text}
use Rattle.ctw_write.proofs.Pieces.{all_texts-append}
use Rattle.ctw_gen.specs.Workload.{number, calls}
use Rattle.ctw_gen.proofs.Counting.{calls_more}
use Rattle.ctw_gen.proofs.code.put_calls.Goals as goal

pub loop-k-preserved : goal.loop-k-preserved
loop-k-preserved c =
    let k = c.loop-k.k in
    let start = c.args.out.now.items in
    let one = number k ∷ Call k ∷ [] in
    let put : c.put_all.new.out.items ≡ c.loop-k.out.items ++ all_texts leaf_text one =
    c.in_ok-put_all.ensures ∙ ap (λ (i : Instr). c.loop-k.out.items ++ all_texts (λ (j : Instr). op_text (op_of j)) (i ∷ instr.Call k ∷ [])) c.number.ensures in
    put ∙ ap (λ (l : List ℕ). l ++ all_texts leaf_text one) c.loop-k.invariant ∙ append_assoc start (all_texts leaf_text (calls k)) (all_texts leaf_text one)
    ∙ ap (λ (l : List ℕ). start ++ l) (sym (all_texts-append leaf_text (calls k) one) ∙ ap (λ (l : List (Leaf Label)). all_texts leaf_text l) (sym (calls_more k)))
