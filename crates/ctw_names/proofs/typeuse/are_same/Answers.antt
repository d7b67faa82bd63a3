use Rattle.std.proofs.Common.{◌≡◌, ℕ, List, ◌++◌, map, ap, ◌∙◌}
use Rattle.std.specs.Str.{bytes_eq}
use Rattle.ctw_ops.specs.Types.{type_byte}
use Rattle.ctw_names.proofs.TypeLaws.{other_length, same_ends}
use Rattle.ctw_names.proofs.typeuse.are_same.Goals as goal

pub returns : goal.returns
returns c =
    let ts = map type_byte c.args.ts.now in
    let us = map type_byte c.args.us.now in
    let left : c.as_slice.result.now ≡ ts = c.as_slice.ensures.value ∙ c.in_ok-push_bytes.ensures ∙ ap (λ (l : List ℕ). l ++ ts) c.new-left.ensures.items in
    let right : c.as_slice-2.result.now ≡ us = c.as_slice-2.ensures.value ∙ c.in_ok-push_bytes-2.ensures ∙ ap (λ (l : List ℕ). l ++ us) c.new-right.ensures.items in
    c.eq.ensures ∙ ap (λ (k : List ℕ). bytes_eq k c.as_slice-2.result.now) left ∙ ap (bytes_eq ts) right ∙ same_ends c.args.ts.now c.args.us.now

pub returns-then-ts-us : goal.returns-then-ts-us
returns-then-ts-us c = other_length c.args.ts.now c.args.us.now c.if-ts-us.true
