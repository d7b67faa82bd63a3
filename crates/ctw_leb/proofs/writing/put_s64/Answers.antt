use Rattle.std.proofs.Common.{◌≡◌, ◌++◌, List, ℕ, subst}
use Rattle.std.specs.Prelude.{OnOk}
use Rattle.ctw_leb.proofs.Spelling.{s64_minimal, s32_minimal, text_below, text_not_below}
use Rattle.ctw_leb.proofs.writing.put_s64.Goals as goal

pub returns-then-n-lt0-clause-put : goal.returns-then-n-lt0-clause-put
returns-then-n-lt0-clause-put c =
    let text = text_below c.args.n c.cast_unsigned-bits.result c.ranges.n c.cast_unsigned-bits.ensures c.if-n-lt0.true in
    subst (λ (l : List ℕ). OnOk c.put_bytes.result (c.put_bytes.new.out.items ≡ c.args.out.now.items ++ l)) text c.put_bytes.ensures.put

pub returns-then-n-lt0-clause-minimal : goal.returns-then-n-lt0-clause-minimal
returns-then-n-lt0-clause-minimal c = s64_minimal c.args.n c.ranges.n

pub returns-then-n-lt0-clause-narrow : goal.returns-then-n-lt0-clause-narrow
returns-then-n-lt0-clause-narrow c = s32_minimal c.args.n

pub returns-else-n-lt0-clause-put : goal.returns-else-n-lt0-clause-put
returns-else-n-lt0-clause-put c =
    let text = text_not_below c.args.n c.cast_unsigned-bits.result c.ranges.n c.cast_unsigned-bits.ensures c.if-n-lt0.false in
    subst (λ (l : List ℕ). OnOk c.put_bytes-else-n-lt0.result (c.put_bytes-else-n-lt0.new.out.items ≡ c.args.out.now.items ++ l)) text c.put_bytes-else-n-lt0.ensures.put

pub returns-else-n-lt0-clause-minimal : goal.returns-else-n-lt0-clause-minimal
returns-else-n-lt0-clause-minimal c = s64_minimal c.args.n c.ranges.n

pub returns-else-n-lt0-clause-narrow : goal.returns-else-n-lt0-clause-narrow
returns-else-n-lt0-clause-narrow c = s32_minimal c.args.n
