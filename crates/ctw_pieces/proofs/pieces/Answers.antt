use Rattle.std.proofs.Common.{◌≡◌, ℕ, Err, length, reverse, subst, ap, ◌∙◌, arith}
use Rattle.ctw_lex.specs.Told.{lexeme_of}
use Rattle.ctw_text.specs.Machine.{stop}
use Rattle.ctw_pieces.specs.declared.machine.Progress.{Progress}
use Rattle.ctw_pieces.specs.Reasons.{why_of}
use Rattle.ctw_pieces.specs.States.{Advanced, Ended}
use Rattle.ctw_pieces.proofs.Claims.{stepped, stuck, stuck_before, end_stuck, end_before, fault_told, none_told, none_by}
use Rattle.ctw_pieces.proofs.pieces.Goals as goal

pub returns-in-Stuck-clause-fault : goal.returns-in-Stuck-clause-fault
returns-in-Stuck-clause-fault c =
    let was = c.loop-at.machine in
    let now = c.advance.new.self in
    let a =
    subst
    (λ (p : Progress). Advanced p c.in_ok-ct.ct c.in_ok-tok.tok was.held (reverse was.stack.items) was.out.items now.held (reverse now.stack.items) now.out.items)
    c.in-Stuck.is c.in_ok-advance.ensures in
    let s =
    stuck c.args.tokens.now c.in_ok-ct.ct c.loop-at.at was.held now.held (reverse was.stack.items) (reverse now.stack.items) was.out.items now.out.items
    (lexeme_of c.at.result) c.in_ok-tok.tok c.in-Stuck.kind c.in_ok-ct.ensures c.loop-at.invariant c.at.ensures.token c.in_ok-tok.ensures a in
    fault_told c.args.size c.args.tokens.now c.fault_at.result (stop c.loop-at.at (why_of c.in-Stuck.kind)) s c.fault_at.ensures

pub returns-in-StuckBefore-clause-fault : goal.returns-in-StuckBefore-clause-fault
returns-in-StuckBefore-clause-fault c =
    let was = c.loop-at.machine in
    let now = c.advance.new.self in
    let a =
    subst
    (λ (p : Progress). Advanced p c.in_ok-ct.ct c.in_ok-tok.tok was.held (reverse was.stack.items) was.out.items now.held (reverse now.stack.items) now.out.items)
    c.in-StuckBefore.is c.in_ok-advance.ensures in
    let s =
    stuck_before c.args.tokens.now c.in_ok-ct.ct c.loop-at.at was.held now.held (reverse was.stack.items) (reverse now.stack.items) was.out.items now.out.items
    (lexeme_of c.at.result) c.in_ok-tok.tok c.in_ok-ct.ensures c.loop-at.invariant c.at.ensures.token c.in_ok-tok.ensures a in
    fault_told c.args.size c.args.tokens.now c.fault_at-in-StuckBefore.result _ s.stops c.fault_at-in-StuckBefore.ensures

pub loop-at-preserved : goal.loop-at-preserved
loop-at-preserved c =
    let was = c.loop-at.machine in
    let now = c.advance.new.self in
    let a =
    subst
    (λ (p : Progress). Advanced p c.in_ok-ct.ct c.in_ok-tok.tok was.held (reverse was.stack.items) was.out.items now.held (reverse now.stack.items) now.out.items)
    c.in-Ahead.is c.in_ok-advance.ensures in
    stepped c.args.tokens.now c.in_ok-ct.ct c.loop-at.at was.held now.held (reverse was.stack.items) (reverse now.stack.items) was.out.items now.out.items
    (lexeme_of c.at.result) c.in_ok-tok.tok c.loop-at.invariant c.at.ensures.token c.in_ok-tok.ensures a

pub returns-in-Stuck-ending-clause-fault : goal.returns-in-Stuck-ending-clause-fault
returns-in-Stuck-ending-clause-fault c =
    let was = c.loop-at.machine in
    let a =
    subst (λ (p : Progress). Ended p c.in_ok-ct.ct was.held (reverse was.stack.items)) c.in-Stuck-ending.is c.ending.ensures in
    let e : c.loop-at.at ≡ length c.args.tokens.now = omega arith in
    let n : c.loop-at.at ≡ c.count-count.result = omega arith in
    let s =
    end_stuck c.args.tokens.now c.in_ok-ct.ct c.loop-at.at was.held (reverse was.stack.items) was.out.items
    c.in-Stuck-ending.kind c.in_ok-ct.ensures c.loop-at.invariant e a in
    fault_told c.args.size c.args.tokens.now c.fault_at-in-Stuck-ending.result (stop c.count-count.result (why_of c.in-Stuck-ending.kind))
    (s ∙ ap (λ (n : ℕ). Err (stop n (why_of c.in-Stuck-ending.kind))) n) c.fault_at-in-Stuck-ending.ensures

pub returns-in-Stuck-clause-none : goal.returns-in-Stuck-clause-none
returns-in-Stuck-clause-none c =
    none_by c.args.size c.args.tokens.now c.fault_at.result (returns-in-Stuck-clause-fault c)

pub returns-in-StuckBefore-clause-none : goal.returns-in-StuckBefore-clause-none
returns-in-StuckBefore-clause-none c =
    none_by c.args.size c.args.tokens.now c.fault_at-in-StuckBefore.result (returns-in-StuckBefore-clause-fault c)

pub returns-in-Stuck-ending-clause-none : goal.returns-in-Stuck-ending-clause-none
returns-in-Stuck-ending-clause-none c =
    none_by c.args.size c.args.tokens.now c.fault_at-in-Stuck-ending.result (returns-in-Stuck-ending-clause-fault c)

pub returns-clause-none : goal.returns-clause-none
returns-clause-none c =
    let was = c.loop-at.machine in
    let a =
    subst (λ (p : Progress). Ended p c.in_ok-ct.ct was.held (reverse was.stack.items)) c.in-StuckBefore-ending.is c.ending.ensures in
    let e : c.loop-at.at ≡ length c.args.tokens.now = omega arith in
    let s =
    end_before c.args.tokens.now c.in_ok-ct.ct c.loop-at.at was.held (reverse was.stack.items) was.out.items
    c.in_ok-ct.ensures c.loop-at.invariant e a in
    none_told c.args.tokens.now c.fault_at-in-StuckBefore-ending.result _ s.stops
