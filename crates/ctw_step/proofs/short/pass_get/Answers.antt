use Rattle.std.proofs.Common.{◌++◌, ◌∷◌, [], ap, ◌∙◌, length-append, arith}
use Rattle.ctw_flat.specs.declared.instr.Instr.TheVariants as instr
use Rattle.ctw_step.specs.Shown.{shown}
use Rattle.ctw_step.specs.Told.{with_operands}
use Rattle.ctw_step.proofs.Moves.{some_frame}
use Rattle.ctw_step.proofs.OperandLaws.{local_there, local_got}
use Rattle.ctw_step.proofs.ShortForms.{passes_with}
use Rattle.ctw_step.proofs.short.pass_get.Goals as goal

pub local-number-requires-clause-some : goal.local-number-requires-clause-some
local-number-requires-clause-some c = let r = c.requires.2 in some_frame r.codes (shown c.args.act.now) r.place r.code r.values r.meets.stands

pub local-number-requires-clause-there : goal.local-number-requires-clause-there
local-number-requires-clause-there c = let r = c.requires.2 in local_there r.codes c.requires.0 (shown c.args.act.now) c.args.next r.fns r.fn c.requires.1 r.place r.code r.values c.args.index r.meets

pub returns-in-Ok-clause-passes : goal.returns-in-Ok-clause-passes
returns-in-Ok-clause-passes c = λ e.
    passes_with (shown c.args.act.now) (shown c.push.new.act) (instr.LocalGet c.args.index) c.args.next (c.args.act.now.operands.items ++ c.local-number.result ∷ []) c.in-Ok.ensures (omega (arith, length-append c.args.act.now.operands.items (c.local-number.result ∷ [])))
    (λ bytes s codes fns fn h code vs k m. local_got codes bytes (shown c.args.act.now) c.args.next fns fn s h code vs c.args.index m (shown c.push.new.act)
    (λ front f n e g. c.in-Ok.ensures ∙ ap (λ n. with_operands (shown c.args.act.now) (c.args.act.now.operands.items ++ n ∷ []) c.args.next) (c.local-number.ensures front f n e g)))
