use Rattle.std.proofs.Common.{ap, sym, subst, ◌∙◌}
use Rattle.std.proofs.lemmas.Result.{err_from_is_err_and}
use Rattle.ctw_ops.specs.Limits.{most_plain_bytes}
use Rattle.ctw_form.specs.Read.{header_at, file_at}
use Rattle.ctw_read.specs.declared.fault.ReadFault.{ReadFault}
use Rattle.ctw_read.specs.Calls.{FailsWith}
use Rattle.ctw_read.proofs.WholeFiles.{input_is, file_header, file_big, file_fails, file_open, file_done}
use Rattle.ctw_read.proofs.file.check.Goals as goal

pub returns-in_err-ct : goal.returns-in_err-ct
returns-in_err-ct c =
    let p = err_from_is_err_and c.from_residual.result c.from_residual.ensures.1 in
    let start = input_is c.new-cursor.result c.args.bytes.now c.new-cursor.ensures.at c.new-cursor.ensures.rest in
    rw (p.1, p.2) (file_header c.args.bytes.now c.in_err-ct.field-0.0 (ap header_at (sym start) ∙ c.in_err-ct.ensures))

pub returns-then-not-is_small : goal.returns-then-not-is_small
unfolding most_plain_bytes
returns-then-not-is_small c =
    let start = input_is c.new-cursor.result c.args.bytes.now c.new-cursor.ensures.at c.new-cursor.ensures.rest in
    file_big c.args.bytes.now c.in_ok-ct.ct c.header.new.cursor (ap header_at (sym start) ∙ c.in_ok-ct.ensures) (sym c.if-not-is_small.ensures)

pub returns-in_err-seen : goal.returns-in_err-seen
returns-in_err-seen c =
    let p = err_from_is_err_and c.from_residual-in_err-seen.result c.from_residual-in_err-seen.ensures.1 in
    let start = input_is c.new-cursor.result c.args.bytes.now c.new-cursor.ensures.at c.new-cursor.ensures.rest in
    let h = file_fails c.args.bytes.now c.in_ok-ct.ct c.header.new.cursor c.in_err-seen.field-0.0 (ap header_at (sym start) ∙ c.in_ok-ct.ensures) (sym c.if-not-is_small.ensures) c.in_err-seen.ensures in
    rw p.1 (subst (λ (e : ReadFault). FailsWith e (file_at c.args.bytes.now)) (sym p.2) h)

pub returns-then-seen-gt0 : goal.returns-then-seen-gt0
returns-then-seen-gt0 c =
    let start = input_is c.new-cursor.result c.args.bytes.now c.new-cursor.ensures.at c.new-cursor.ensures.rest in
    let s = c.in_ok-seen.ensures in
    file_open c.args.bytes.now c.in_ok-ct.ct c.header.new.cursor c.in_ok-seen.seen s.0
    (record { header = ap header_at (sym start) ∙ c.in_ok-ct.ensures; small = sym c.if-not-is_small.ensures; read = s.1; seen = s.2 }) c.if-seen-gt0.true

pub returns : goal.returns
returns c =
    let start = input_is c.new-cursor.result c.args.bytes.now c.new-cursor.ensures.at c.new-cursor.ensures.rest in
    let s = c.in_ok-seen.ensures in
    file_done c.args.bytes.now c.in_ok-ct.ct c.header.new.cursor c.in_ok-seen.seen s.0
    (record { header = ap header_at (sym start) ∙ c.in_ok-ct.ensures; small = sym c.if-not-is_small.ensures; read = s.1; seen = s.2 }) c.if-seen-gt0.false
