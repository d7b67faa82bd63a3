use Rattle.std.proofs.Common.{ap, ◌∙◌}
use Rattle.std.specs.Prelude.{Option}
use Rattle.ctw_ops.specs.declared.types.ExternTag.{ExternTag}
use Rattle.ctw_text.specs.Names.{counted, exports_in, in_order, none_yet}
use Rattle.ctw_names.specs.Spaces.{space_in}
use Rattle.ctw_names.proofs.Walks.{order_ends, order_starts, order_then}
use Rattle.ctw_names.proofs.exports.exports.Goals as goal

pub fields-init : goal.fields-init
fields-init c = order_starts (exports_in (space_in c.args.space.now)) c.args.fields.now c.new-exports.result.items c.none-before.result c.new-exports.ensures.items c.none-before.ensures

pub fields-preserved : goal.fields-preserved
fields-preserved c =
    let give = exports_in (space_in c.args.space.now) in
    order_then give c.args.fields.now c.fields.i c.at-field.result.now c.fields.exports.items c.add_exports.new.exports.items c.fields.before c.count.new.self (in_order give none_yet c.args.fields.now) c.at-field.ensures
    c.in_ok-add_exports.ensures (c.in_ok-count.ensures ∙ ap (λ (t : Option ExternTag). counted t c.fields.before) c.tag_of.ensures) c.fields.invariant

pub returns : goal.returns
returns c =
    let give = exports_in (space_in c.args.space.now) in
    order_ends give c.args.fields.now c.fields.i c.fields.exports.items c.fields.before (in_order give none_yet c.args.fields.now) c.len-i-end.ensures c.fields-test.false c.fields.invariant
