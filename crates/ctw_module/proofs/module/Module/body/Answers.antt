use Rattle.std.proofs.Common.{◌≡◌, List, ℕ, length, sym, ap, subst, ◌∙◌, arith}
use Rattle.ctw_flat.specs.Spelled.{IsLimitedBody}
use Rattle.ctw_ops.specs.declared.types.Label.{Label}
use Rattle.ctw_ops.specs.Code.{Code}
use Rattle.ctw_module.proofs.Functions.{view_at, defined, slot_there, slot_code}
use Rattle.ctw_module.proofs.module.Module.body.Goals as goal

pub index-slot-requires : goal.index-slot-requires
index-slot-requires c =
    let h = view_at c.self.inside c.args.self.now c.self.invariant c.self.view_is in
    let d = defined c.args.self.now c.args.f h.spelled (omega (arith, h.imported, c.if-f-self.false)) c.requires in
    omega (arith, slot_there c.self.inside c.args.self.now c.args.f h d)

pub new-requires : goal.new-requires
new-requires c =
    let h = view_at c.self.inside c.args.self.now c.self.invariant c.self.view_is in
    let d = defined c.args.self.now c.args.f h.spelled (omega (arith, h.imported, c.if-f-self.false)) c.requires in
    let code = slot_code c.self.inside c.args.self.now c.args.f c.index-slot.result.now h d c.index-slot.ensures in
    omega (arith, ap (λ s. length s.code) c.slot.view_is, ap length code, d.short, h.short)

pub returns-clause-bytes : goal.returns-clause-bytes
returns-clause-bytes c =
    let h = view_at c.self.inside c.args.self.now c.self.invariant c.self.view_is in
    let d = defined c.args.self.now c.args.f h.spelled (omega (arith, h.imported, c.if-f-self.false)) c.requires in
    let code = slot_code c.self.inside c.args.self.now c.args.f c.index-slot.result.now h d c.index-slot.ensures in
    c.new.ensures ∙ ap (λ s. s.code) c.slot.view_is ∙ code ∙ sym d.code

pub returns-clause-spelled : goal.returns-clause-spelled
returns-clause-spelled c =
    let h = view_at c.self.inside c.args.self.now c.self.invariant c.self.view_is in
    let d = defined c.args.self.now c.args.f h.spelled (omega (arith, h.imported, c.if-f-self.false)) c.requires in
    let code = slot_code c.self.inside c.args.self.now c.args.f c.index-slot.result.now h d c.index-slot.ensures in
    let bytes : c.new.result ≡ d.entry.code = c.new.ensures ∙ ap (λ s. s.code) c.slot.view_is ∙ code in
    (d.function, d.named, subst (λ (t : List ℕ). IsLimitedBody t d.function.body) (sym bytes) (subst (λ (b : Code Label). IsLimitedBody d.entry.code b) (sym d.body) d.coded.spelled))
