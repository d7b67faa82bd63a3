use Rattle.std.proofs.Common.{◌≡◌, ℕ, ◌+◌, ◌-◌, ◌<◌, ◌≤◌, List, length, Some, get_or, slice_get, sym, ap, ◌∙◌, subst, arith}
use Rattle.std.specs.Prelude.{if◌then◌else◌}
use Rattle.std.proofs.lemmas.Option.{slice_get-get_or}
use Rattle.ctw_step.specs.declared.running.Opened.{Opened}
use Rattle.ctw_step.specs.Shown.{shown}
use Rattle.ctw_step.specs.Leaving.{Left}
use Rattle.ctw_step.proofs.Room.{leaves_room}
use Rattle.ctw_step.proofs.leaving.leave_innermost.Goals as goal

read : (l : List Opened) (i : ℕ) (x : Opened) → i < length l → x ≡ get_or l i x → slice_get l i ≡ Some x
read l i x h e = slice_get-get_or l i x h ∙ ap (λ (x : Opened). Some x) (sym e)

pub leave-requires-clause-room : goal.leave-requires-clause-room
leave-requires-clause-room c =
    let act = c.args.act.now in
    let n : c.len-index.result ≡ length act.labels.items = c.len-index.ensures ∙ act.labels.ok.0 in
    let some = c.requires.some in
    let e : c.len-index.result - 1 + 1 ≡ length act.labels.items = omega arith in
    let l = c.requires.there (c.len-index.result - 1) e in
    let g = read act.labels.items (c.len-index.result - 1) c.index-label.result.now (omega arith) c.index-label.ensures in
    let w = l.is in
    let same : l.label ≡ c.index-label.result.now = cc in
    subst (λ (o : Opened). o.height + (if o.has_result then 1 else 0) ≤ length act.operands.items) same (leaves_room (shown act) (c.len-index.result - 1) l)

pub returns : goal.returns
returns c = λ index e label carried below g some operands high.
    let act = c.args.act.now in
    let n : c.len-index.result ≡ length act.labels.items = c.len-index.ensures ∙ act.labels.ok.0 in
    let i : index ≡ c.len-index.result - 1 = omega arith in
    let w = read act.labels.items (c.len-index.result - 1) c.index-label.result.now (omega arith) c.index-label.ensures in
    let g' : slice_get act.labels.items (c.len-index.result - 1) ≡ Some label = ap (slice_get act.labels.items) (sym i) ∙ g in
    let same : label ≡ c.index-label.result.now = cc in
    let x = c.leave.ensures carried below (some ∙ ap (λ (o : Opened). o.has_result) same) operands (subst (λ (o : Opened). o.height ≤ length below) same high) in
    subst (λ (o : Opened). Left (shown act) o index carried c.args.event c.leave.result (shown c.leave.new.act)) (sym same)
    (subst (λ i. Left (shown act) c.index-label.result.now i carried c.args.event c.leave.result (shown c.leave.new.act)) (sym i) x)
