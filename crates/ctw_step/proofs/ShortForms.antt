-- Reductions of short instructions.
use Rattle.std.proofs.Common.{◌≡◌, ℕ, ◌+◌, ◌≤◌, List, ◌∷◌, length, drop, Ok, None, Bool, true, false, ap, ap₂, ◌∙◌, refl, sym, arith}
use Rattle.std.specs.Prelude.{◌||◌, Some, if◌then◌else◌}
use Rattle.ctw_ops.specs.declared.numeric.Profile.{Profile}
use Rattle.ctw_ops.specs.declared.numeric.Profile.TheVariants.{Divide, Multiply}
use Rattle.ctw_ops.specs.Numeric.{is_numeric, is_timed, is_product, leaks}
use Rattle.ctw_flat.specs.declared.instr.Instr.{Instr}
use Rattle.ctw_step.specs.declared.running.Stepped.TheVariants as Steppeds
use Rattle.ctw_step.specs.Shown.{Shown}
use Rattle.ctw_step.specs.Told.{DoesAlone, with_operands, with_locals, words}
use Rattle.ctw_step.specs.Short.{Passes}

-- other operands, one more at most
pub passes_with : (c c' : Shown) (i : Instr) (next : ℕ) (operands : List ℕ) → c' ≡ with_operands c operands next → length operands ≤ length c.operands + 1 → DoesAlone c i next (Ok (Steppeds.Went None)) c' → Passes c i next c'
passes_with c c' i next operands e l d = record { does = d; frames = ap (λ (c : Shown). c.frames) e; words = (let w = ap words e in omega (arith, w, l)) }

-- other locals, as many, and no more operands
pub passes_locals : (c w c' : Shown) (i : Instr) (next : ℕ) (operands : List ℕ) → w ≡ with_locals c w.locals → length w.locals ≡ length c.locals → c' ≡ with_operands w operands next → length operands ≤ length c.operands
    → DoesAlone c i next (Ok (Steppeds.Went None)) c' → Passes c i next c'
passes_locals c w c' i next operands e q f l d = record {
  does = d;
  frames = ap (λ (c : Shown). c.frames) f ∙ ap (λ (c : Shown). c.frames) e;
  words = (let a = ap words f in let b = ap (λ (c : Shown). length c.labels) e in omega (arith, a, b, q, l));
}

-- an operation that leaks under no profile
pub silent : (op : ℕ) → leaks op Multiply ≡ false → (p : Profile) → leaks op p ≡ false
unfolding leaks
silent op e Multiply = e
silent op e Divide = go (is_timed op) (is_product op) e
  where
    go : (a b : Bool) → (a || b) ≡ false → (a || false) ≡ false
    go false b e = refl
    go true b e = absurd cc

-- two bytes at a place
pub two_bytes : (bytes tail rest : List ℕ) (at b k n : ℕ) → drop at bytes ≡ b ∷ tail → b ≡ k → tail ≡ n ∷ rest → drop at bytes ≡ k ∷ n ∷ rest
two_bytes bytes tail rest at b k n e q t = e ∙ ap₂ (λ (b : ℕ) (l : List ℕ). b ∷ l) q t

-- the operation of a byte
pub operation : (byte op : ℕ) → Some op ≡ (if is_numeric byte then Some byte else None) → (is_numeric op ≡ true) × (byte ≡ op)
operation byte op e = go (is_numeric byte) refl e
  where
    go : (b : Bool) → is_numeric byte ≡ b → Some op ≡ (if b then Some byte else None) → (is_numeric op ≡ true) × (byte ≡ op)
    go true q e = let same : byte ≡ op = cc in (ap is_numeric (sym same) ∙ q, same)
    go false q e = absurd cc
