use Rattle.std.proofs.Common.{◌≡◌, ◌<◌, ℕ, ◌-◌, length, ap, sym, ◌∙◌, arith}
use Rattle.std.specs.Prelude.{Some, position, reverse}
use Rattle.std.proofs.lemmas.List.{length-reverse}
use Rattle.ctw_text.specs.Written.{Name}
use Rattle.ctw_text.specs.Names.{is_named}
use Rattle.ctw_names.specs.Open.{flat, top}
use Rattle.ctw_names.proofs.Opening.{below_top, position_found, position_lost}
use Rattle.ctw_names.proofs.labels.Labels.position.Goals as goal

pub returns-in_default : goal.returns-in_default
returns-in_default c =
    let bs = reverse c.self.inside.open.items in
    let w = c.args.name.now in
    let found =
    c.flatten.ensures ∙ ap flat (c.copied.ensures ∙ c.get.ensures.value) ∙ c.self.invariant.tops c.name.inside.word.now ∙ ap (λ (v : Name). top v.word bs) c.name.view_is in
    sym (position_lost w bs (sym found ∙ c.in_default.is)) ∙ ap (position (is_named w)) c.self.view_is

pub overflow_sub-result : goal.overflow_sub-result
overflow_sub-result c =
    let bs = reverse c.self.inside.open.items in
    let w = c.args.name.now in
    let found =
    c.flatten.ensures ∙ ap flat (c.copied.ensures ∙ c.get.ensures.value) ∙ c.self.invariant.tops c.name.inside.word.now ∙ ap (λ (v : Name). top v.word bs) c.name.view_is in
    let below : c.in-Some.top < length bs = below_top w bs c.in-Some.top (sym found ∙ c.in-Some.is) in
    omega (arith, below, c.len.ensures, length-reverse c.self.inside.open.items)

pub overflow_sub-result-2 : goal.overflow_sub-result-2
overflow_sub-result-2 c =
    let bs = reverse c.self.inside.open.items in
    let w = c.args.name.now in
    let found =
    c.flatten.ensures ∙ ap flat (c.copied.ensures ∙ c.get.ensures.value) ∙ c.self.invariant.tops c.name.inside.word.now ∙ ap (λ (v : Name). top v.word bs) c.name.view_is in
    let below : c.in-Some.top < length bs = below_top w bs c.in-Some.top (sym found ∙ c.in-Some.is) in
    omega (arith, below, c.len.ensures, length-reverse c.self.inside.open.items)

pub returns : goal.returns
returns c =
    let bs = reverse c.self.inside.open.items in
    let w = c.args.name.now in
    let found =
    c.flatten.ensures ∙ ap flat (c.copied.ensures ∙ c.get.ensures.value) ∙ c.self.invariant.tops c.name.inside.word.now ∙ ap (λ (v : Name). top v.word bs) c.name.view_is in
    let size : c.len.result ≡ length bs = omega (arith, c.len.ensures, length-reverse c.self.inside.open.items) in
    ap (λ (n : ℕ). Some (n - 1 - c.in-Some.top)) size ∙ sym (position_found w bs c.in-Some.top (sym found ∙ c.in-Some.is)) ∙ ap (position (is_named w)) c.self.view_is
