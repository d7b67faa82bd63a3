use Rattle.std.proofs.Common.{ℕ, ◌++◌, ◌∷◌, [], List, refl, sym, ap, ◌∙◌, subst, Some, slice_get}
use Rattle.ctw_script.specs.declared.event.Event.TheVariants as Events
use Rattle.ctw_ops.specs.Code as ops
use Rattle.ctw_flat.specs.declared.instr.Instr.TheVariants as instr
use Rattle.ctw_flat.specs.Instructions.{targets_in}
use Rattle.ctw_semantics.specs.Machine.{table_place}
use Rattle.ctw_step.specs.Shown.{shown}
use Rattle.ctw_step.specs.Stands.{numbers}
use Rattle.ctw_step.proofs.Moves.{some_frame}
use Rattle.ctw_step.proofs.Inside.{under}
use Rattle.ctw_step.proofs.BranchLaws.{Branches, took_there, took_small, br_table_way, way_ready, way_done}
use Rattle.ctw_step.proofs.control.branch_table.Goals as goal

pub top_small-index-requires : goal.top_small-index-requires
top_small-index-requires c =
    let q = c.requires.runs in
    let r = q.2 in
    let x = br_table_way r.codes q.0 (shown c.args.act.now) c.args.next r.fns r.fn q.1 r.place r.code r.values (instr.BrTable c.args.targets c.args.count c.args.otherwise) (targets_in c.args.count c.args.targets.now) c.args.otherwise refl r.meets in
    (_, x.0.v.number, x.0.operands, took_small r.codes q.0 (shown c.args.act.now) c.args.next r.fns r.fn q.1 r.place r.code r.values (ops.BrTable (targets_in c.args.count c.args.targets.now) c.args.otherwise) x.0 r.meets.fits)

pub shrink-requires : goal.shrink-requires
shrink-requires c =
    let q = c.requires.runs in
    let r = q.2 in
    took_there r.codes q.0 (shown c.args.act.now) c.args.next r.fns r.fn q.1 r.place r.code r.values (ops.BrTable (targets_in c.args.count c.args.targets.now) c.args.otherwise) (br_table_way r.codes q.0 (shown c.args.act.now) c.args.next r.fns r.fn q.1 r.place r.code r.values (instr.BrTable c.args.targets c.args.count c.args.otherwise) (targets_in c.args.count c.args.targets.now) c.args.otherwise refl r.meets).0

pub branch_out-requires-clause-some : goal.branch_out-requires-clause-some
branch_out-requires-clause-some c =
    let q = c.requires.runs in
    let r = q.2 in
    let x = br_table_way r.codes q.0 (shown c.args.act.now) c.args.next r.fns r.fn q.1 r.place r.code r.values (instr.BrTable c.args.targets c.args.count c.args.otherwise) (targets_in c.args.count c.args.targets.now) c.args.otherwise refl r.meets in
    let front : List ℕ = under r.place ++ numbers x.0.below in
    let e = c.shrink.ensures.cut front (x.0.v.number ∷ []) x.0.operands refl in
    let n = c.top_small-index.ensures front x.0.v.number x.0.operands in
    let t = c.target_of-depth.ensures x.1.k (ap (λ n. slice_get (targets_in c.args.count c.args.targets.now ++ c.args.otherwise ∷ []) (table_place n (targets_in c.args.count c.args.targets.now))) n ∙ x.1.is) in
    let w = x.1.takes (shown c.shrink.new.act) e in
    let w' : Branches r.codes q.0 (shown c.args.act.now) c.args.next r.fns r.fn q.1 r.place r.code r.values (shown c.shrink.new.act) c.target_of-depth.result (Some (Events.Table c.top_small-index.result)) =
    subst (λ k. Branches r.codes q.0 (shown c.args.act.now) c.args.next r.fns r.fn q.1 r.place r.code r.values (shown c.shrink.new.act) k (Some (Events.Table c.top_small-index.result))) (sym t) (subst (λ n. Branches r.codes q.0 (shown c.args.act.now) c.args.next r.fns r.fn q.1 r.place r.code r.values (shown c.shrink.new.act) x.1.k (Some (Events.Table n))) (sym n) w) in
    (way_ready r.codes q.0 (shown c.args.act.now) c.args.next r.fns r.fn q.1 r.place r.code r.values (shown c.shrink.new.act) c.target_of-depth.result (Some (Events.Table c.top_small-index.result)) w').0

pub branch_out-requires-clause-there : goal.branch_out-requires-clause-there
branch_out-requires-clause-there c =
    let q = c.requires.runs in
    let r = q.2 in
    let x = br_table_way r.codes q.0 (shown c.args.act.now) c.args.next r.fns r.fn q.1 r.place r.code r.values (instr.BrTable c.args.targets c.args.count c.args.otherwise) (targets_in c.args.count c.args.targets.now) c.args.otherwise refl r.meets in
    let front : List ℕ = under r.place ++ numbers x.0.below in
    let e = c.shrink.ensures.cut front (x.0.v.number ∷ []) x.0.operands refl in
    let n = c.top_small-index.ensures front x.0.v.number x.0.operands in
    let t = c.target_of-depth.ensures x.1.k (ap (λ n. slice_get (targets_in c.args.count c.args.targets.now ++ c.args.otherwise ∷ []) (table_place n (targets_in c.args.count c.args.targets.now))) n ∙ x.1.is) in
    let w = x.1.takes (shown c.shrink.new.act) e in
    let w' : Branches r.codes q.0 (shown c.args.act.now) c.args.next r.fns r.fn q.1 r.place r.code r.values (shown c.shrink.new.act) c.target_of-depth.result (Some (Events.Table c.top_small-index.result)) =
    subst (λ k. Branches r.codes q.0 (shown c.args.act.now) c.args.next r.fns r.fn q.1 r.place r.code r.values (shown c.shrink.new.act) k (Some (Events.Table c.top_small-index.result))) (sym t) (subst (λ n. Branches r.codes q.0 (shown c.args.act.now) c.args.next r.fns r.fn q.1 r.place r.code r.values (shown c.shrink.new.act) x.1.k (Some (Events.Table n))) (sym n) w) in
    (way_ready r.codes q.0 (shown c.args.act.now) c.args.next r.fns r.fn q.1 r.place r.code r.values (shown c.shrink.new.act) c.target_of-depth.result (Some (Events.Table c.top_small-index.result)) w').1

pub branch_out-requires-clause-frames : goal.branch_out-requires-clause-frames
branch_out-requires-clause-frames c =
    let q = c.requires.runs in
    let r = q.2 in
    let x = br_table_way r.codes q.0 (shown c.args.act.now) c.args.next r.fns r.fn q.1 r.place r.code r.values (instr.BrTable c.args.targets c.args.count c.args.otherwise) (targets_in c.args.count c.args.targets.now) c.args.otherwise refl r.meets in
    let front : List ℕ = under r.place ++ numbers x.0.below in
    let e = c.shrink.ensures.cut front (x.0.v.number ∷ []) x.0.operands refl in
    let n = c.top_small-index.ensures front x.0.v.number x.0.operands in
    let t = c.target_of-depth.ensures x.1.k (ap (λ n. slice_get (targets_in c.args.count c.args.targets.now ++ c.args.otherwise ∷ []) (table_place n (targets_in c.args.count c.args.targets.now))) n ∙ x.1.is) in
    let w = x.1.takes (shown c.shrink.new.act) e in
    let w' : Branches r.codes q.0 (shown c.args.act.now) c.args.next r.fns r.fn q.1 r.place r.code r.values (shown c.shrink.new.act) c.target_of-depth.result (Some (Events.Table c.top_small-index.result)) =
    subst (λ k. Branches r.codes q.0 (shown c.args.act.now) c.args.next r.fns r.fn q.1 r.place r.code r.values (shown c.shrink.new.act) k (Some (Events.Table c.top_small-index.result))) (sym t) (subst (λ n. Branches r.codes q.0 (shown c.args.act.now) c.args.next r.fns r.fn q.1 r.place r.code r.values (shown c.shrink.new.act) x.1.k (Some (Events.Table n))) (sym n) w) in
    some_frame r.codes (shown c.shrink.new.act) r.place w'.rest w'.ws w'.stands

pub returns : goal.returns
returns c = λ bytes s codes fns fn h code vs k m.
    let x = br_table_way codes bytes (shown c.args.act.now) c.args.next fns fn s h code vs (instr.BrTable c.args.targets c.args.count c.args.otherwise) (targets_in c.args.count c.args.targets.now) c.args.otherwise refl m in
    let front : List ℕ = under h ++ numbers x.0.below in
    let e = c.shrink.ensures.cut front (x.0.v.number ∷ []) x.0.operands refl in
    let n = c.top_small-index.ensures front x.0.v.number x.0.operands in
    let t = c.target_of-depth.ensures x.1.k (ap (λ n. slice_get (targets_in c.args.count c.args.targets.now ++ c.args.otherwise ∷ []) (table_place n (targets_in c.args.count c.args.targets.now))) n ∙ x.1.is) in
    let w = x.1.takes (shown c.shrink.new.act) e in
    let w' : Branches codes bytes (shown c.args.act.now) c.args.next fns fn s h code vs (shown c.shrink.new.act) c.target_of-depth.result (Some (Events.Table c.top_small-index.result)) =
    subst (λ k. Branches codes bytes (shown c.args.act.now) c.args.next fns fn s h code vs (shown c.shrink.new.act) k (Some (Events.Table c.top_small-index.result))) (sym t) (subst (λ n. Branches codes bytes (shown c.args.act.now) c.args.next fns fn s h code vs (shown c.shrink.new.act) x.1.k (Some (Events.Table n))) (sym n) w) in
    way_done codes bytes (shown c.args.act.now) c.args.next fns fn s h code vs (shown c.shrink.new.act) c.target_of-depth.result (Some (Events.Table c.top_small-index.result)) w' c.branch_out.result (shown c.branch_out.new.act) c.branch_out.ensures
