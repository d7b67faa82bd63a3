-- Each mark is the next bit.
use Rattle.std.proofs.Common.{◌≡◌, ◌+◌, ◌++◌, ◌∷◌, [], ℕ, false, List, length, get_or, refl, sym, ◌∙◌, ap, subst, arith, length-append}
use Rattle.ctw_flow.specs.Bits.{is_set}
use Rattle.ctw_flow.proofs.Bits.{Holds, with_mark, goes_on, begins_anew, power_fits, power_is, marks_are}
use Rattle.ctw_flow.proofs.path.packed.Goals as goal
use Rattle.ctw_flow.proofs.path.packed.Goals.{then-marked, else-marked, then-i-eq63+in_ok-push, else-i-eq63}

pub overflow_add-word : goal.overflow_add-word
overflow_add-word c = let p = power_is c.marks.i in let f = power_fits c.marks.word c.marks.i c.marks.invariant.low in omega (arith, p, f)

holds : (c : goal.Joined-i-eq63) → Holds c.marks.words.items c.marks.word c.marks.i c.args.marks.now
holds c = record { full = c.marks.invariant.full; low = c.marks.invariant.low; same = c.marks.invariant.same }

word_is : (c : goal.Joined-i-eq63) → c.if-marked.word ≡ with_mark (get_or c.args.marks.now c.marks.i false) c.marks.word c.marks.i
word_is c = elim c.if-marked.branch [
  | then-marked w ↦ w.word-is ∙ ap (λ n. c.marks.word + n) (power_is c.marks.i) ∙ ap (λ m. with_mark m c.marks.word c.marks.i) (sym w.if-marked.true)
  | else-marked w ↦ w.word-is ∙ ap (λ m. with_mark m c.marks.word c.marks.i) (sym w.if-marked.false)
]

after : (c : goal.Joined-i-eq63) → Holds c.if-i-eq63.words.items c.if-i-eq63.word (c.marks.i + 1) c.args.marks.now
after c = elim c.if-i-eq63.branch [
  | then-i-eq63+in_ok-push w ↦
      let h = begins_anew (get_or c.args.marks.now c.marks.i false) c.marks.words.items c.marks.word c.marks.i c.args.marks.now (holds c) refl w.if-i-eq63.true in
      let a : c.if-i-eq63.words.items ≡ c.marks.words.items ++ with_mark (get_or c.args.marks.now c.marks.i false) c.marks.word c.marks.i ∷ [] = ap (λ v. v.items) w.words-is ∙ w.in_ok-push.ensures.items ∙ ap (λ n. c.marks.words.items ++ n ∷ []) (word_is c) in
      subst (λ (v : List ℕ). Holds v c.if-i-eq63.word (c.marks.i + 1) c.args.marks.now) (sym a) (subst (λ n. Holds (c.marks.words.items ++ with_mark (get_or c.args.marks.now c.marks.i false) c.marks.word c.marks.i ∷ []) n (c.marks.i + 1) c.args.marks.now) (sym w.word-is) h)
  | else-i-eq63 w ↦
      let h = goes_on (get_or c.args.marks.now c.marks.i false) c.marks.words.items c.marks.word c.marks.i c.args.marks.now (holds c) refl w.if-i-eq63.false in
      subst (λ (v : List ℕ). Holds v c.if-i-eq63.word (c.marks.i + 1) c.args.marks.now) (sym (ap (λ v. v.items) w.words-is)) (subst (λ n. Holds c.marks.words.items n (c.marks.i + 1) c.args.marks.now) (sym (w.word-is ∙ word_is c)) h)
]

pub marks-preserved : goal.marks-preserved
marks-preserved c = record { full = (after c).full; low = (after c).low; same = (after c).same }

pub returns-clause-bits : goal.returns-clause-bits
returns-clause-bits c =
    let e : c.marks.i ≡ length c.args.marks.now = omega arith in
    marks_are c.push-2.new.self.items c.args.marks.now (λ k l. ap (λ (w : List ℕ). is_set w k) c.in_ok-push-2.ensures.items ∙ c.marks.invariant.same k (omega (arith, e, l)))

pub returns-clause-room : goal.returns-clause-room
returns-clause-room c =
    let e : c.marks.i ≡ length c.args.marks.now = omega arith in
    let n = ap length c.in_ok-push-2.ensures.items ∙ length-append c.marks.words.items (c.marks.word ∷ []) in
    let f = c.marks.invariant.full in
    omega (arith, e, n, f)
