-- A number at the front of bytes, wherever they stand.
use Rattle.std.proofs.Common.{◌≡◌, ℕ, ◌+◌, ◌-◌, ◌^◌, List, ◌++◌, length, Result, Ok, Err, sym, ap, ◌∙◌}
use Rattle.ctw_leb.specs.declared.fault.Cause.{Cause}
use Rattle.ctw_leb.specs.declared.fault.Cause.TheVariants.{Short, Illegal}
use Rattle.ctw_leb.specs.declared.fault.LebFault.{LebFault}
use Rattle.ctw_leb.specs.Input.{Input, behind}
use Rattle.ctw_leb.specs.Numbers.{IsU32}
use Rattle.ctw_leb.specs.Readers.{unsigned_end, number_at, placed}
use Rattle.ctw_leb.proofs.Exact.{ok_is, err_ok}
use Rattle.ctw_leb.proofs.Widths.{u32_numbers}

placed_front : (i : Input) (r : Result (ℕ × List ℕ) Cause) (n : ℕ) (o : Input) → placed i r ≡ Ok (n, o) → r ≡ Ok (n, o.rest)
placed_front i (Ok x) n o e = ap (λ (z : ℕ × Input). Ok (z.0, z.1.rest)) (ok_is {F = LebFault} (x.0, record { at = i.at + (length i.rest - length x.1); rest = x.1 }) (n, o) e)
placed_front i (Err Short) n o e = absurd cc
placed_front i (Err Illegal) n o e = absurd cc

pub front_spelled : (bytes : List ℕ) (n : ℕ) (rest : List ℕ) → number_at unsigned_end (2 ^ 31) bytes ≡ Ok (n, rest) → (text : List ℕ) × IsU32 text n × (bytes ≡ text ++ rest)
front_spelled bytes n rest e =
    let i : Input = record { at = 0; rest = bytes } in
    let s = u32_numbers.exact.sound i n (record { at = 0 + (length bytes - length rest); rest = rest }) (ap (placed i) e) in
    (s.0, s.1, s.2)

pub front_found : (bytes text after : List ℕ) (n : ℕ) → IsU32 text n → bytes ≡ text ++ after → number_at unsigned_end (2 ^ 31) bytes ≡ Ok (n, after)
front_found bytes text after n m e =
    ap (number_at unsigned_end (2 ^ 31)) e
    ∙ placed_front (record { at = 0; rest = text ++ after }) (number_at unsigned_end (2 ^ 31) (text ++ after)) n (behind 0 text after) (u32_numbers.exact.complete text after 0 n m)

-- the number that was read is the one that is spelled
pub front_is : (bytes text after rest : List ℕ) (n m : ℕ) → number_at unsigned_end (2 ^ 31) bytes ≡ Ok (m, rest) → IsU32 text n → bytes ≡ text ++ after → (m ≡ n) × (rest ≡ after)
front_is bytes text after rest n m r s e =
    let p = ok_is {F = Cause} (m, rest) (n, after) (sym r ∙ front_found bytes text after n s e) in
    (ap (λ (z : ℕ × List ℕ). z.0) p, ap (λ (z : ℕ × List ℕ). z.1) p)

pub front_missing : (bytes text after : List ℕ) (n : ℕ) (cause : Cause) → number_at unsigned_end (2 ^ 31) bytes ≡ Err cause → IsU32 text n → bytes ≡ text ++ after → ⊥
front_missing bytes text after n cause r s e = err_ok cause (n, after) (sym r ∙ front_found bytes text after n s e)
