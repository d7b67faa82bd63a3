use Rattle.std.proofs.Common.{◌∙◌, sym, refl, inr}
use Rattle.ctw_module.specs.Trees.{tree}
use Rattle.ctw_modcheck.proofs.ExportNames.{named_more, named_missing, named_double}
use Rattle.ctw_modcheck.proofs.exports.check_exports.Goals as goal

pub returns-then-not-is_named : goal.returns-then-not-is_named
returns-then-not-is_named c =
    let m = tree c.args.m.now in
    inr (named_missing m c.exports.names.keys c.exports.index _ c.exports.invariant c.export-kind.ensures (sym c.if-not-is_named.ensures))

pub returns-then-not-branch : goal.returns-then-not-branch
returns-then-not-branch c =
    let m = tree c.args.m.now in
    let old = sym c.if-not-branch.true ∙ c.in_ok-insert.ensures.added in
    inr (named_double m c.exports.names.keys c.exports.index _ c.exports.invariant c.export-kind.ensures (sym c.if-not-is_named.ensures) old)

pub exports-preserved : goal.exports-preserved
exports-preserved c =
    let m = tree c.args.m.now in
    let new = sym c.if-not-branch.false ∙ c.in_ok-insert.ensures.added in
    named_more m c.exports.names.keys c.insert.new.self.keys c.exports.index _ c.export-kind.result.0 c.exports.invariant c.export-kind.ensures (sym c.if-not-is_named.ensures) refl new c.in_ok-insert.ensures.keys
