use Rattle.std.proofs.Common.{◌≡◌, ◌∷◌, ◌++◌, [], ◌∙◌, ℕ, List, Vec, Global, Result, ap, subst, refl, codes}
use Rattle.std.specs.Prelude.{IfOk}
use Rattle.ctw_ops.specs.Limits.{most_steps}
use Rattle.ctw_script.specs.declared.moves.Arg.{Arg}
use Rattle.ctw_script.specs.declared.moves.Arg.TheVariants.{Vault}
use Rattle.ctw_script.specs.declared.moves.Move.{Move}
use Rattle.ctw_link.specs.Sets.{set_of}
use Rattle.ctw_moves.specs.Runs.{plays}
use Rattle.ctw_gen.specs.Workload.{moves}
use Rattle.ctwasm_top.specs.Answer.{call_of}
use Rattle.ctwasm_top.specs.Works.{work_line, all_steps, all_events}
use Rattle.ctwasm_top.proofs.working.sum_up.Goals as goal

-- the moves of a workload
called : call_of (codes "main") (Vault ∷ []) ≡ moves
unfolding most_steps
called = refl

module _ (sites secret classify : ℕ) where
  counted : {E : Type 0} (r : Result (Vec ℕ Global) E) (a b x y : ℕ) → a ≡ x → b ≡ y → IfOk r (λ line. line.items ≡ work_line sites secret classify a b) → IfOk r (λ line. line.items ≡ work_line sites secret classify x y)
  counted r a b x y e f h =
      subst (λ (n : ℕ). IfOk r (λ line. line.items ≡ work_line sites secret classify x n)) f (subst (λ (n : ℕ). IfOk r (λ line. line.items ≡ work_line sites secret classify n b)) e h)

pub returns : goal.returns
returns c s st =
    let set = set_of c.args.session.now.set in
    let args : c.push.new.self.items ≡ Vault ∷ [] = c.in_ok-push.ensures.items ∙ ap (λ (l : List Arg). l ++ Vault ∷ []) c.new-arguments.ensures.items in
    let same = c.in_ok-moves.ensures ∙ ap (call_of (codes "main")) args ∙ called in
    let steps = c.in_ok-tally.ensures.steps s st ∙ ap (λ (l : List Move). all_steps (plays set s l).told) same in
    let events = c.in_ok-tally.ensures.events s st ∙ ap (λ (l : List Move). all_events (plays set s l).told) same in
    counted c.args.l.sites c.args.l.secret c.args.l.classify c.summary_line.result _ _ _ _ steps events c.summary_line.ensures
