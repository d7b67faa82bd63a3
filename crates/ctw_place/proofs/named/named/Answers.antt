use Rattle.std.proofs.Common.{◌≡◌, ◌+◌, false, sym, ap, ◌∙◌, arith, length}
use Rattle.ctw_ops.specs.WithinLimits.{IsWithinLimits}
use Rattle.ctw_labels.specs.Placed.{is_all_public}
use Rattle.ctw_place.specs.Settings.{module_of, use_at}
use Rattle.ctw_place.specs.Variants.{IsSmallUse}
use Rattle.ctw_place.proofs.NameLaws.{small_use, secret_name}
use Rattle.ctw_place.proofs.UseLaws.{place_most, one_most}
use Rattle.ctw_labels.specs.Placed.{with_use}
use Rattle.ctw_place.proofs.named.named.Goals as goal

pub overflow_add-result : goal.overflow_add-result
overflow_add-result c =
    let w : IsWithinLimits (module_of c.args.setting.now) = record { params = c.bytes.ensures.limits.params; locals = c.bytes.ensures.limits.locals; bytes = c.bytes.ensures.limits.bytes } in
    let small : IsSmallUse (use_at c.args.setting.now c.args.y c.args.first c.args.trust) = small_use c.args.setting.now c.args.y c.args.first c.args.trust w c.ranges.y.fits in
    let secret : is_all_public (use_at c.args.setting.now c.args.y c.args.first c.args.trust).type ≡ false = sym c.in_ok-text.ensures.public ∙ c.if-public.false in
    let u = use_at c.args.setting.now c.args.y c.args.first c.args.trust in
    let n = c.in_ok-number.ensures.number c.requires.few.0 u c.requires.few.1 c.in_ok-text.ensures.text small secret in
    omega (arith, n, place_most (with_use c.requires.few.0 u) u, one_most c.requires.few.0 u, c.requires.few.2, c.type_count.ensures)

pub returns-clause-held : goal.returns-clause-held
returns-clause-held c = λ vs h.
    let w : IsWithinLimits (module_of c.args.setting.now) = record { params = c.bytes.ensures.limits.params; locals = c.bytes.ensures.limits.locals; bytes = c.bytes.ensures.limits.bytes } in
    let small : IsSmallUse (use_at c.args.setting.now c.args.y c.args.first c.args.trust) = small_use c.args.setting.now c.args.y c.args.first c.args.trust w c.ranges.y.fits in
    let secret : is_all_public (use_at c.args.setting.now c.args.y c.args.first c.args.trust).type ≡ false = sym c.in_ok-text.ensures.public ∙ c.if-public.false in
    let u = use_at c.args.setting.now c.args.y c.args.first c.args.trust in
    c.in_ok-number.ensures.held vs u h c.in_ok-text.ensures.text small secret

pub returns-clause-name : goal.returns-clause-name
returns-clause-name c = λ vs later h.
    let w : IsWithinLimits (module_of c.args.setting.now) = record { params = c.bytes.ensures.limits.params; locals = c.bytes.ensures.limits.locals; bytes = c.bytes.ensures.limits.bytes } in
    let small : IsSmallUse (use_at c.args.setting.now c.args.y c.args.first c.args.trust) = small_use c.args.setting.now c.args.y c.args.first c.args.trust w c.ranges.y.fits in
    let secret : is_all_public (use_at c.args.setting.now c.args.y c.args.first c.args.trust).type ≡ false = sym c.in_ok-text.ensures.public ∙ c.if-public.false in
    let u = use_at c.args.setting.now c.args.y c.args.first c.args.trust in
    let n = c.in_ok-number.ensures.number vs u h c.in_ok-text.ensures.text small secret in
    ap (λ k. k + c.in_ok-number.number) c.type_count.ensures ∙ secret_name (length (module_of c.args.setting.now).types) c.in_ok-number.number vs later u secret n
