use Rattle.std.proofs.Common.{◌≡◌, ◌+◌, ◌++◌, ◌∷◌, [], List, ℕ, ◌∙◌, refl, sym, ap, append-nil, append_assoc}
use Rattle.ctw_leb.specs.Spelling.{shortest}
use Rattle.ctw_leb.proofs.Spelling.{step, last_one, ten_bytes}
use Rattle.ctw_leb.proofs.writing.push_bytes.Goals as goal

pub loop-rest-init : goal.loop-rest-init
loop-rest-init c = (9, [], ten_bytes c.args.limit c.args.n c.requires.some c.ranges.n.fits, sym (append-nil c.args.out.now.items), refl)

pub loop-rest-preserved : goal.loop-rest-preserved
loop-rest-preserved c =
    let h = c.loop-rest.invariant in
    let whole : List ℕ = shortest c.args.limit c.args.below 10 c.args.n in
    let s = step c.args.limit c.args.below h.0 c.loop-rest.rest c.loop-rest.out.items c.args.out.now.items whole c.loop-rest-test.true h.2 h.4 in
    let byte : ℕ = c.seven_bits.result + 128 in
    let pushed : c.push.new.self.items ≡ c.loop-rest.out.items ++ byte ∷ [] = c.in_ok-push.ensures.items in
    let more : c.push.new.self.items ≡ c.args.out.now.items ++ (h.1 ++ byte ∷ []) = pushed ∙ ap (λ (l : List ℕ). l ++ byte ∷ []) h.3 ∙ append_assoc c.args.out.now.items h.1 (byte ∷ []) in
    (s.0, h.1 ++ byte ∷ [], s.1, more, rw (pushed, c.seven_bits.ensures.value) s.2)

pub returns-clause-put : goal.returns-clause-put
returns-clause-put c =
    let h = c.loop-rest.invariant in
    let whole : List ℕ = c.args.out.now.items ++ shortest c.args.limit c.args.below 10 c.args.n in
    let byte : ℕ = c.seven_bits-2.result in
    let pushed : c.push-2.new.self.items ≡ c.loop-rest.out.items ++ byte ∷ [] = c.in_ok-push-2.ensures.items in
    let last = last_one c.args.limit c.args.below h.0 c.loop-rest.rest c.loop-rest-test.false in
    let ends : c.loop-rest.out.items ++ byte ∷ [] ≡ whole = rw c.seven_bits-2.ensures.value (ap (λ (l : List ℕ). c.loop-rest.out.items ++ l) (sym last) ∙ h.4) in
    pushed ∙ ends
