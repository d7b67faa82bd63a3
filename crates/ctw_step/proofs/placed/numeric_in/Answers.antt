use Rattle.std.proofs.Common.{Ok, refl}
use Rattle.ctw_flat.specs.declared.instr.Instr.TheVariants as instr
use Rattle.ctw_step.specs.Shown.{shown}
use Rattle.ctw_step.specs.Told.{HasProfile}
use Rattle.ctw_step.proofs.Dispatch.{runs_as, done_as, part_within}
use Rattle.ctw_step.proofs.placed.numeric_in.Goals as goal

pub profile_in-requires : goal.profile_in-requires
profile_in-requires c = let q = c.requires.runs in let r = q.3 in part_within c.args.set.now c.args.part r.place.func r.fn r.inside

pub numeric-requires : goal.numeric-requires
numeric-requires c = let q = c.requires.runs in let r = q.3 in
    (q.0, q.1, q.2, runs_as c.args.set.now c.args.part q.1 (shown c.args.act.now) (instr.Numeric c.args.op q.0) (instr.Numeric c.args.op q.0) c.args.next q.2 refl (HasProfile c.profile_in.result) r (c.profile_in.ensures r.place.func r.inside.index r.fn r.inside.owner r.inside.found))

pub returns : goal.returns
returns c = λ l code s. done_as c.args.set.now c.args.part code (shown c.args.act.now) (instr.Numeric c.args.op l) (instr.Numeric c.args.op l) c.args.next s refl (HasProfile c.profile_in.result) (Ok c.numeric.result) (shown c.numeric.new.act) s
    (λ fn h cd vs p m. c.profile_in.ensures h.func p.index fn p.owner p.found) (c.numeric.ensures l code s)
