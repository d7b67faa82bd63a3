use Rattle.std.proofs.Common.{◌≡◌, ℕ, ◌+◌, ◌<◌, ◌≤◌, List, length, None, Some, get_or, slice_get, sym, ap, ◌∙◌, subst}
use Rattle.std.specs.Prelude.{if◌then◌else◌}
use Rattle.std.proofs.lemmas.Option.{slice_get-get_or, slice_get_within}
use Rattle.ctw_step.specs.declared.running.Opened.{Opened}
use Rattle.ctw_step.specs.Shown.{shown}
use Rattle.ctw_step.specs.Leaving.{Left}
use Rattle.ctw_step.proofs.Room.{leaves_room, last_of}
use Rattle.ctw_step.proofs.leaving.leave_function.Goals as goal

read : (l : List Opened) (i : ℕ) (x : Opened) → i < length l → x ≡ get_or l i x → slice_get l i ≡ Some x
read l i x h e = slice_get-get_or l i x h ∙ ap (λ (x : Opened). Some x) (sym e)

pub index-label-requires : goal.index-label-requires
index-label-requires c =
    let act = c.args.act.now in
    let f = last_of act.frames.items c.requires.some in
    let l = c.requires.there f.0 f.1 f.2 in
    subst (λ n. c.own_label-index.result < n) (sym act.labels.ok.0) (subst (λ i. i < length act.labels.items) (sym (c.own_label-index.ensures f.0 f.1 f.2)) (slice_get_within act.labels.items f.1.labels l.label l.is))

pub leave-requires-clause-room : goal.leave-requires-clause-room
leave-requires-clause-room c =
    let act = c.args.act.now in
    let f = last_of act.frames.items c.requires.some in
    let l = c.requires.there f.0 f.1 f.2 in
    let i = c.own_label-index.ensures f.0 f.1 f.2 in
    let g = read act.labels.items c.own_label-index.result c.index-label.result.now (subst (λ i. i < length act.labels.items) (sym i) (slice_get_within act.labels.items f.1.labels l.label l.is)) c.index-label.ensures in
    let w = l.is in
    let g' : slice_get act.labels.items f.1.labels ≡ Some c.index-label.result.now = ap (slice_get act.labels.items) (sym i) ∙ g in
    let same : l.label ≡ c.index-label.result.now = cc in
    subst (λ (o : Opened). o.height + (if o.has_result then 1 else 0) ≤ length act.operands.items) same (leaves_room (shown act) f.1.labels l)

pub returns : goal.returns
returns c = λ front f e label carried below g some operands high.
    let act = c.args.act.now in
    let i = c.own_label-index.ensures front f e in
    let w = read act.labels.items c.own_label-index.result c.index-label.result.now (subst (λ i. i < length act.labels.items) (sym i) (slice_get_within act.labels.items f.labels label g)) c.index-label.ensures in
    let w' : slice_get act.labels.items f.labels ≡ Some c.index-label.result.now = ap (slice_get act.labels.items) (sym i) ∙ w in
    let same : label ≡ c.index-label.result.now = cc in
    let x = c.leave.ensures carried below (some ∙ ap (λ (o : Opened). o.has_result) same) operands (subst (λ (o : Opened). o.height ≤ length below) same high) in
    subst (λ (o : Opened). Left (shown act) o f.labels carried None c.leave.result (shown c.leave.new.act)) (sym same)
    (subst (λ i. Left (shown act) c.index-label.result.now i carried None c.leave.result (shown c.leave.new.act)) i x)
