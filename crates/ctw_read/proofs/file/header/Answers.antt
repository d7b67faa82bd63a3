use Rattle.std.proofs.Common.{◌≡◌, ◌+◌, ℕ, Bool, true, false, not, Err, refl, sym, ap, ◌∙◌}
use Rattle.ctw_form.specs.Read.{fault}
use Rattle.ctw_read.proofs.Headers.{header_version}
use Rattle.ctw_read.proofs.file.header.Goals as goal

not_false : (b : Bool) → not b ≡ false → b ≡ true
not_false true e = refl
not_false false e = absurd cc

pub returns-in-Err-version_of : goal.returns-in-Err-version_of
returns-in-Err-version_of c =
    let same = rw (c.split_at.ensures.front, c.as_slice.ensures) at c.if-ne.ensures in
    let version = rw c.split_at.ensures.back at c.in-Err-version_of.ensures in
    header_version c.args.cursor.now c.take.new.self c.in-Ok.bytes.now c.in-Err-version_of.kind c.in-Ok.ensures.read (not_false _ (sym same)) (sym version)
    ∙ ap (λ (n : ℕ). Err (fault c.in-Err-version_of.kind (n + 4))) (sym c.place-place.ensures)
