use Rattle.std.proofs.Common.{◌≡◌, ℕ, ◌+◌, ◌-◌, ◌<◌, ◌≤◌, List, length, take, Some, get_or, slice_get, refl, sym, ap, ◌∙◌, subst, arith, true, false}
use Rattle.std.specs.Prelude.{if◌then◌else◌}
use Rattle.std.proofs.lemmas.Option.{slice_get-get_or}
use Rattle.ctw_step.specs.declared.running.Opened.{Opened}
use Rattle.ctw_step.specs.Shown.{shown}
use Rattle.ctw_step.specs.Leaving.{Left, without_labels}
use Rattle.ctw_step.proofs.Room.{leaves_room}
use Rattle.ctw_step.proofs.leaving.branch_out.Goals as goal

read : (l : List Opened) (i : ℕ) (x : Opened) → i < length l → x ≡ get_or l i x → slice_get l i ≡ Some x
read l i x h e = slice_get-get_or l i x h ∙ ap (λ (x : Opened). Some x) (sym e)

pub leave-requires-clause-room : goal.leave-requires-clause-room
leave-requires-clause-room c =
    let act = c.args.act.now in
    let k = c.args.depth in
    let n : c.len.result ≡ length act.labels.items = c.len.ensures ∙ act.labels.ok.0 in
    let some = c.requires.some in
    let index : ℕ = c.len.result - 1 - k in
    let e : index + 1 + k ≡ length act.labels.items = omega arith in
    let g = read act.labels.items index c.index-label.result.now (omega arith) c.index-label.ensures in
    let l = c.requires.there index e c.index-label.result.now g c.if-label.false in
    let w = l.is in
    let same : l.label ≡ c.index-label.result.now = cc in
    subst (λ (o : Opened). o.height + (if o.has_result then 1 else 0) ≤ length act.operands.items) same (leaves_room (shown act) index l)

pub returns-then-label : goal.returns-then-label
returns-then-label c = λ index e.
    let act = c.args.act.now in
    let n : c.len.result ≡ length act.labels.items = c.len.ensures ∙ act.labels.ok.0 in
    let i : index ≡ c.len.result - 1 - c.args.depth = omega arith in
    let w = read act.labels.items (c.len.result - 1 - c.args.depth) c.index-label.result.now (omega arith) c.index-label.ensures in
    let known : slice_get act.labels.items index ≡ Some c.index-label.result.now = ap (slice_get act.labels.items) i ∙ w in
    record {
      loops = λ label g l.
          let same : c.index-label.result.now ≡ label = cc in (
            refl,
            c.rerun.ensures ∙ ap (λ n. without_labels (shown act) (take c.index-label.result.now.height act.operands.items) n c.index-label.result.now.start) (sym i)
                ∙ ap (λ (o : Opened). without_labels (shown act) (take o.height act.operands.items) index o.start) same,
          );
      leaves = λ label carried below g l some operands high.
          let same : c.index-label.result.now ≡ label = cc in
          let t : label.is_loop ≡ true = ap (λ (o : Opened). o.is_loop) (sym same) ∙ c.if-label.true in
          absurd cc;
    }

pub returns : goal.returns
returns c = λ index e.
    let act = c.args.act.now in
    let n : c.len.result ≡ length act.labels.items = c.len.ensures ∙ act.labels.ok.0 in
    let i : index ≡ c.len.result - 1 - c.args.depth = omega arith in
    let w = read act.labels.items (c.len.result - 1 - c.args.depth) c.index-label.result.now (omega arith) c.index-label.ensures in
    let known : slice_get act.labels.items index ≡ Some c.index-label.result.now = ap (slice_get act.labels.items) i ∙ w in
    record {
      loops = λ label g l.
          let same : c.index-label.result.now ≡ label = cc in
          let t : label.is_loop ≡ false = ap (λ (o : Opened). o.is_loop) (sym same) ∙ c.if-label.false in
          absurd cc;
      leaves = λ label carried below g l some operands high.
          let same : label ≡ c.index-label.result.now = cc in
          let x = c.leave.ensures carried below (some ∙ ap (λ (o : Opened). o.has_result) same) operands (subst (λ (o : Opened). o.height ≤ length below) same high) in
          subst (λ (o : Opened). Left (shown act) o index carried c.args.event c.leave.result (shown c.leave.new.act)) (sym same)
          (subst (λ i. Left (shown act) c.index-label.result.now i carried c.args.event c.leave.result (shown c.leave.new.act)) (sym i) x);
    }
