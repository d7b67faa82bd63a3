-- The first eight bytes of a file.
use Rattle.std.proofs.Common.{◌≡◌, ℕ, ◌+◌, ◌≤◌, Bool, true, false, List, ◌++◌, length, take, drop, Ok, Err, refl, sym, ap, ◌∙◌, arith}
use Rattle.std.proofs.Math.Seq.{take-add}
use Rattle.std.proofs.lemmas.List.{length-take, take_at, drop_at}
use Rattle.std.specs.Str.{bytes_eq}
use Rattle.std.proofs.lemmas.Bool.{le-leb, lt-leb}
use Rattle.ctw_leb.specs.declared.fault.LebFault.{LebFault}
use Rattle.ctw_leb.specs.Input.{Input}
use Rattle.ctw_leb.specs.Readers.{bytes_at}
use Rattle.ctw_leb.proofs.Combinators.{bytes_ok, bytes_err}
use Rattle.ctw_form.specs.declared.fault.FormKind.{FormKind}
use Rattle.ctw_form.specs.declared.fault.FormKind.TheVariants.{Truncated, BadMagic}
use Rattle.ctw_form.specs.Spelled.{magic}
use Rattle.ctw_form.specs.Read.{fault, version_of, header_at}

-- the eight bytes, cut in two
record Cut (i o : Input) (t : List ℕ) : Type 0 where
  there : 8 ≤ length i.rest
  front : take 4 i.rest ≡ take 4 t
  back : take 4 (drop 4 i.rest) ≡ drop 4 t
  behind : record { at = i.at + 8; rest = drop 8 i.rest } ≡ o

cut : (i o : Input) (t : List ℕ) → bytes_at 8 i ≡ Ok (t, o) → Cut i o t
cut i o t e =
    let b = bytes_ok 8 i t o e in
    let parts : t ≡ take 4 i.rest ++ take 4 (drop 4 i.rest) = b.1 ∙ take-add 4 4 i.rest in
    let size : length (take 4 i.rest) ≡ 4 = omega (arith, length-take 4 i.rest, b.0) in
    record {
      there = b.0;
      front = sym (ap (take 4) parts ∙ take_at (take 4 i.rest) (take 4 (drop 4 i.rest)) 4 size);
      back = sym (ap (drop 4) parts ∙ drop_at (take 4 i.rest) (take 4 (drop 4 i.rest)) 4 size);
      behind = sym b.2;
    }

pub header_ok : (i o : Input) (t : List ℕ) (ct : Bool) → bytes_at 8 i ≡ Ok (t, o) → bytes_eq (take 4 t) magic ≡ true → version_of (drop 4 t) ≡ Ok ct → header_at i ≡ Ok (ct, o)
unfolding header_at
header_ok i o t ct e m v =
    let c = cut i o t e in
    rw (le-leb 8 (length i.rest) c.there, ap (λ (l : List ℕ). bytes_eq l magic) c.front ∙ m, ap version_of c.back ∙ v, c.behind) refl

pub header_version : (i o : Input) (t : List ℕ) (kind : FormKind) → bytes_at 8 i ≡ Ok (t, o) → bytes_eq (take 4 t) magic ≡ true → version_of (drop 4 t) ≡ Err kind → header_at i ≡ Err (fault kind (i.at + 4))
unfolding header_at
header_version i o t kind e m v =
    let c = cut i o t e in
    rw (le-leb 8 (length i.rest) c.there, ap (λ (l : List ℕ). bytes_eq l magic) c.front ∙ m, ap version_of c.back ∙ v) refl

pub header_magic : (i o : Input) (t : List ℕ) → bytes_at 8 i ≡ Ok (t, o) → bytes_eq (take 4 t) magic ≡ false → header_at i ≡ Err (fault BadMagic i.at)
unfolding header_at
header_magic i o t e m =
    let c = cut i o t e in
    rw (le-leb 8 (length i.rest) c.there, ap (λ (l : List ℕ). bytes_eq l magic) c.front ∙ m) refl

pub header_short : (i : Input) (d : LebFault) → bytes_at 8 i ≡ Err d → header_at i ≡ Err (fault Truncated (i.at + length i.rest))
unfolding header_at
header_short i d e = rw (lt-leb 8 (length i.rest) (bytes_err 8 i d e).0) refl
