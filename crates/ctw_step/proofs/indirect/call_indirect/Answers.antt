use Rattle.std.proofs.Common.{◌≡◌, ◌++◌, ◌∷◌, [], Some, slice_get, refl, sym, ap, ◌∙◌}
use Rattle.std.proofs.lemmas.Option.{slice_get_within}
use Rattle.ctw_step.specs.Shown.{shown}
use Rattle.ctw_link.specs.Linked.{code_in}
use Rattle.ctw_step.specs.SetInstances.{instances}
use Rattle.ctw_step.specs.Stands.{numbers}
use Rattle.ctw_step.proofs.Inside.{under}
use Rattle.ctw_step.proofs.Homes.{one_some, func_below}
use Rattle.ctw_step.proofs.Dispatch.{table_known, table_number}
use Rattle.ctw_step.proofs.IndirectLaws.{through, target, past_end, empty_entry, other_type, passes, passes_room, passed}
use Rattle.ctw_step.proofs.indirect.call_indirect.Goals as goal

pub top_small-index-requires : goal.top_small-index-requires
top_small-index-requires c =
    let q = c.requires in
    let r = q.1 in
    let x = through (code_in c.args.set.now) q.0 (shown c.args.act.now) c.args.next (instances c.args.set.now) r.fn c.args.store.now.storage r.place r.code r.values c.args.entry r.meets in
    (under r.place ++ numbers x.below, x.v.number, x.are, x.small)

pub table_in-requires : goal.table_in-requires
table_in-requires c =
    let q = c.requires in
    let r = q.1 in
    let x = through (code_in c.args.set.now) q.0 (shown c.args.act.now) c.args.next (instances c.args.set.now) r.fn c.args.store.now.storage r.place r.code r.values c.args.entry r.meets in
    (x.t, table_number c.args.set.now c.args.part r.place.func r.fn r.inside x.t x.table_is)

pub entry-requires : goal.entry-requires
entry-requires c =
    let q = c.requires in
    let r = q.1 in
    let x = through (code_in c.args.set.now) q.0 (shown c.args.act.now) c.args.next (instances c.args.set.now) r.fn c.args.store.now.storage r.place r.code r.values c.args.entry r.meets in
    let tab : x.t ≡ c.table_in.result = one_some r.fn.part.table x.t c.table_in.result x.table_is (table_known c.args.set.now c.args.part r.place.func r.fn r.inside c.table_in.result c.table_in.ensures) in
    let fnd : slice_get c.args.store.now.storage.tables c.table_in.result ≡ Some x.table = ap (slice_get c.args.store.now.storage.tables) (sym tab) ∙ x.found in
    slice_get_within c.args.store.now.storage.tables c.table_in.result x.table fnd

pub has_type-requires-clause-func : goal.has_type-requires-clause-func
has_type-requires-clause-func c =
    let q = c.requires in
    let r = q.1 in
    let x = through (code_in c.args.set.now) q.0 (shown c.args.act.now) c.args.next (instances c.args.set.now) r.fn c.args.store.now.storage r.place r.code r.values c.args.entry r.meets in
    let tab : x.t ≡ c.table_in.result = one_some r.fn.part.table x.t c.table_in.result x.table_is (table_known c.args.set.now c.args.part r.place.func r.fn r.inside c.table_in.result c.table_in.ensures) in
    let fnd : slice_get c.args.store.now.storage.tables c.table_in.result ≡ Some x.table = ap (slice_get c.args.store.now.storage.tables) (sym tab) ∙ x.found in
    let n : c.top_small-index.result ≡ x.v.number = c.top_small-index.ensures (under r.place ++ numbers x.below) x.v.number x.are in
    let ent : slice_get x.table.entries x.v.number ≡ c.entry.result = ap (slice_get x.table.entries) (sym n) ∙ sym (c.entry.ensures x.table fnd) in
    let f = ent ∙ c.in-Some-Some.is ∙ ap Some c.in-Some-Some.field-0-is in
    let t = target (code_in c.args.set.now) q.0 (shown c.args.act.now) c.args.next (instances c.args.set.now) r.fn c.args.store.now.storage r.place r.code r.values c.args.entry x c.in-Some-Some.func f in
    func_below c.args.set.now c.in-Some-Some.func t.fn' t.is

pub has_type-requires-clause-part : goal.has_type-requires-clause-part
has_type-requires-clause-part c =
    let q = c.requires in
    let r = q.1 in
    let x = through (code_in c.args.set.now) q.0 (shown c.args.act.now) c.args.next (instances c.args.set.now) r.fn c.args.store.now.storage r.place r.code r.values c.args.entry r.meets in
    (r.place.func, r.fn, r.inside, slice_get_within r.fn.part.types c.args.entry x.entry x.typed)

pub callee_of-requires : goal.callee_of-requires
callee_of-requires c =
    let q = c.requires in
    let r = q.1 in
    let x = through (code_in c.args.set.now) q.0 (shown c.args.act.now) c.args.next (instances c.args.set.now) r.fn c.args.store.now.storage r.place r.code r.values c.args.entry r.meets in
    let tab : x.t ≡ c.table_in.result = one_some r.fn.part.table x.t c.table_in.result x.table_is (table_known c.args.set.now c.args.part r.place.func r.fn r.inside c.table_in.result c.table_in.ensures) in
    let fnd : slice_get c.args.store.now.storage.tables c.table_in.result ≡ Some x.table = ap (slice_get c.args.store.now.storage.tables) (sym tab) ∙ x.found in
    let n : c.top_small-index.result ≡ x.v.number = c.top_small-index.ensures (under r.place ++ numbers x.below) x.v.number x.are in
    let ent : slice_get x.table.entries x.v.number ≡ c.entry.result = ap (slice_get x.table.entries) (sym n) ∙ sym (c.entry.ensures x.table fnd) in
    let f = ent ∙ c.in-Some-Some.is ∙ ap Some c.in-Some-Some.field-0-is in
    let t = target (code_in c.args.set.now) q.0 (shown c.args.act.now) c.args.next (instances c.args.set.now) r.fn c.args.store.now.storage r.place r.code r.values c.args.entry x c.in-Some-Some.func f in
    func_below c.args.set.now c.in-Some-Some.func t.fn' t.is

pub enter_frame-requires : goal.enter_frame-requires
enter_frame-requires c =
    let q = c.requires in
    let r = q.1 in
    let x = through (code_in c.args.set.now) q.0 (shown c.args.act.now) c.args.next (instances c.args.set.now) r.fn c.args.store.now.storage r.place r.code r.values c.args.entry r.meets in
    let tab : x.t ≡ c.table_in.result = one_some r.fn.part.table x.t c.table_in.result x.table_is (table_known c.args.set.now c.args.part r.place.func r.fn r.inside c.table_in.result c.table_in.ensures) in
    let fnd : slice_get c.args.store.now.storage.tables c.table_in.result ≡ Some x.table = ap (slice_get c.args.store.now.storage.tables) (sym tab) ∙ x.found in
    let n : c.top_small-index.result ≡ x.v.number = c.top_small-index.ensures (under r.place ++ numbers x.below) x.v.number x.are in
    let ent : slice_get x.table.entries x.v.number ≡ c.entry.result = ap (slice_get x.table.entries) (sym n) ∙ sym (c.entry.ensures x.table fnd) in
    let f = ent ∙ c.in-Some-Some.is ∙ ap Some c.in-Some-Some.field-0-is in
    let t = target (code_in c.args.set.now) q.0 (shown c.args.act.now) c.args.next (instances c.args.set.now) r.fn c.args.store.now.storage r.place r.code r.values c.args.entry x c.in-Some-Some.func f in
    let e = c.callee_of.ensures.number in
    let t'' = target (code_in c.args.set.now) q.0 (shown c.args.act.now) c.args.next (instances c.args.set.now) r.fn c.args.store.now.storage r.place r.code r.values c.args.entry x c.callee_of.result.func (f ∙ ap (λ f. Some (Some f)) (sym e)) in
    let is : slice_get (instances c.args.set.now) c.in-Some-Some.func ≡ Some t''.fn' = ap (slice_get (instances c.args.set.now)) (sym e) ∙ t''.is in
    let ty = sym (c.has_type.ensures r.place.func r.fn t''.fn' x.entry r.inside x.typed is) ∙ c.if-not-has_type.false in
    let p = passes (code_in c.args.set.now) q.0 (shown c.args.act.now) c.args.next (instances c.args.set.now) r.fn c.args.store.now.storage r.place r.code r.values c.args.entry x c.callee_of.result t'' (c.callee_of.ensures.known t''.fn' is) ty in
    passes_room (code_in c.args.set.now) q.0 (shown c.args.act.now) c.args.next (instances c.args.set.now) r.fn c.args.store.now.storage r.place r.code r.values c.args.entry x c.callee_of.result t'' p

pub returns-in-None-clause-does : goal.returns-in-None-clause-does
returns-in-None-clause-does c = λ code fn h cd vs p m.
    let x = through (code_in c.args.set.now) code (shown c.args.act.now) c.args.next (instances c.args.set.now) fn c.args.store.now.storage h cd vs c.args.entry m in
    let tab : x.t ≡ c.table_in.result = one_some fn.part.table x.t c.table_in.result x.table_is (table_known c.args.set.now c.args.part h.func fn p c.table_in.result c.table_in.ensures) in
    let fnd : slice_get c.args.store.now.storage.tables c.table_in.result ≡ Some x.table = ap (slice_get c.args.store.now.storage.tables) (sym tab) ∙ x.found in
    let n : c.top_small-index.result ≡ x.v.number = c.top_small-index.ensures (under h ++ numbers x.below) x.v.number x.are in
    let ent : slice_get x.table.entries x.v.number ≡ c.entry.result = ap (slice_get x.table.entries) (sym n) ∙ sym (c.entry.ensures x.table fnd) in
    past_end (code_in c.args.set.now) code (shown c.args.act.now) c.args.next (instances c.args.set.now) fn c.args.store.now.storage h cd vs c.args.entry x c.top_small-index.result n (ent ∙ c.in-None.is) (shown c.args.act.now)

pub returns-in-Some-None-clause-does : goal.returns-in-Some-None-clause-does
returns-in-Some-None-clause-does c = λ code fn h cd vs p m.
    let x = through (code_in c.args.set.now) code (shown c.args.act.now) c.args.next (instances c.args.set.now) fn c.args.store.now.storage h cd vs c.args.entry m in
    let tab : x.t ≡ c.table_in.result = one_some fn.part.table x.t c.table_in.result x.table_is (table_known c.args.set.now c.args.part h.func fn p c.table_in.result c.table_in.ensures) in
    let fnd : slice_get c.args.store.now.storage.tables c.table_in.result ≡ Some x.table = ap (slice_get c.args.store.now.storage.tables) (sym tab) ∙ x.found in
    let n : c.top_small-index.result ≡ x.v.number = c.top_small-index.ensures (under h ++ numbers x.below) x.v.number x.are in
    let ent : slice_get x.table.entries x.v.number ≡ c.entry.result = ap (slice_get x.table.entries) (sym n) ∙ sym (c.entry.ensures x.table fnd) in
    empty_entry (code_in c.args.set.now) code (shown c.args.act.now) c.args.next (instances c.args.set.now) fn c.args.store.now.storage h cd vs c.args.entry x c.top_small-index.result n (ent ∙ c.in-Some-None.is ∙ ap Some c.in-Some-None.field-0-is) (shown c.args.act.now)

pub returns-then-not-has_type-clause-does : goal.returns-then-not-has_type-clause-does
returns-then-not-has_type-clause-does c = λ code fn h cd vs p m.
    let x = through (code_in c.args.set.now) code (shown c.args.act.now) c.args.next (instances c.args.set.now) fn c.args.store.now.storage h cd vs c.args.entry m in
    let tab : x.t ≡ c.table_in.result = one_some fn.part.table x.t c.table_in.result x.table_is (table_known c.args.set.now c.args.part h.func fn p c.table_in.result c.table_in.ensures) in
    let fnd : slice_get c.args.store.now.storage.tables c.table_in.result ≡ Some x.table = ap (slice_get c.args.store.now.storage.tables) (sym tab) ∙ x.found in
    let n : c.top_small-index.result ≡ x.v.number = c.top_small-index.ensures (under h ++ numbers x.below) x.v.number x.are in
    let ent : slice_get x.table.entries x.v.number ≡ c.entry.result = ap (slice_get x.table.entries) (sym n) ∙ sym (c.entry.ensures x.table fnd) in
    let f = ent ∙ c.in-Some-Some.is ∙ ap Some c.in-Some-Some.field-0-is in
    let t = target (code_in c.args.set.now) code (shown c.args.act.now) c.args.next (instances c.args.set.now) fn c.args.store.now.storage h cd vs c.args.entry x c.in-Some-Some.func f in
    let ty = sym (c.has_type.ensures h.func fn t.fn' x.entry p x.typed t.is) ∙ c.if-not-has_type.true in
    other_type (code_in c.args.set.now) code (shown c.args.act.now) c.args.next (instances c.args.set.now) fn c.args.store.now.storage h cd vs c.args.entry x c.in-Some-Some.func t c.top_small-index.result n ty (shown c.args.act.now)

pub returns-in_ok-enter_frame-in-Some-Some-clause-does : goal.returns-in_ok-enter_frame-in-Some-Some-clause-does
returns-in_ok-enter_frame-in-Some-Some-clause-does c = λ code fn h cd vs p m.
    let x = through (code_in c.args.set.now) code (shown c.args.act.now) c.args.next (instances c.args.set.now) fn c.args.store.now.storage h cd vs c.args.entry m in
    let tab : x.t ≡ c.table_in.result = one_some fn.part.table x.t c.table_in.result x.table_is (table_known c.args.set.now c.args.part h.func fn p c.table_in.result c.table_in.ensures) in
    let fnd : slice_get c.args.store.now.storage.tables c.table_in.result ≡ Some x.table = ap (slice_get c.args.store.now.storage.tables) (sym tab) ∙ x.found in
    let n : c.top_small-index.result ≡ x.v.number = c.top_small-index.ensures (under h ++ numbers x.below) x.v.number x.are in
    let ent : slice_get x.table.entries x.v.number ≡ c.entry.result = ap (slice_get x.table.entries) (sym n) ∙ sym (c.entry.ensures x.table fnd) in
    let f = ent ∙ c.in-Some-Some.is ∙ ap Some c.in-Some-Some.field-0-is in
    let e = c.callee_of.ensures.number in
    let t = target (code_in c.args.set.now) code (shown c.args.act.now) c.args.next (instances c.args.set.now) fn c.args.store.now.storage h cd vs c.args.entry x c.callee_of.result.func (f ∙ ap (λ f. Some (Some f)) (sym e)) in
    let is : slice_get (instances c.args.set.now) c.in-Some-Some.func ≡ Some t.fn' = ap (slice_get (instances c.args.set.now)) (sym e) ∙ t.is in
    let ty = sym (c.has_type.ensures h.func fn t.fn' x.entry p x.typed is) ∙ c.if-not-has_type.false in
    let k = c.callee_of.ensures.known t.fn' is in
    let z = passes (code_in c.args.set.now) code (shown c.args.act.now) c.args.next (instances c.args.set.now) fn c.args.store.now.storage h cd vs c.args.entry x c.callee_of.result t k ty in
    passed (code_in c.args.set.now) code (shown c.args.act.now) c.args.next (instances c.args.set.now) fn c.args.store.now.storage h cd vs c.args.entry x c.callee_of.result t z k c.top_small-index.result c.in-Some-Some.func n (sym e) (shown c.enter_frame.new.act)
    (c.in_ok-enter_frame-in-Some-Some.ensures z.invoked_is.front z.invoked_is.args (x.v.number ∷ []) z.operands z.invoked_is.count refl)
