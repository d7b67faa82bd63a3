-- Finding a block among blocks in the order of their places.
use Rattle.std.proofs.Common.{◌≡◌, ℕ, zero, suc, ◌+◌, ◌<◌, ◌≤◌, List, [], ◌∷◌, length, get_or, Some, None, ◌⊎◌, inl, inr, refl, arith}
use Rattle.std.proofs.lemmas.Bool.{eq-eqb, ne_eqb, cases_lt}
use Rattle.ctw_ops.specs.declared.types.Label.{Label}
use Rattle.ctw_ops.specs.Code.{Op, Plain, Opens, Closes}
use Rattle.ctw_flat.specs.declared.blocks.Block.{Block}
use Rattle.ctw_flat.specs.declared.blocks.Closing.{Closing}
use Rattle.ctw_flat.specs.Places.{Placed, Stand}
use Rattle.ctw_flat.specs.Blocks.{closings_of, with_opened, blocks_of, ends_in}
use Rattle.ctw_flat.specs.Rising.{RisesFrom}
use Rattle.ctw_flat.proofs.Places.{instr_behind}

-- ---- blocks rise

rises_less : (a b : ℕ) (bs : List Block) → a ≤ b → RisesFrom b bs → RisesFrom a bs
rises_less a b [] le h = tt
rises_less a b (x ∷ bs) le h = (omega (arith, h.0), h.1)

rises_opened : (op : Op Label) (at next : ℕ) (cs : List Closing) (bs : List Block) → at < next → RisesFrom next bs → RisesFrom at (with_opened op at cs bs)
rises_opened (Plain l) at next cs bs lt h = rises_less at next bs (omega arith) h
rises_opened (Closes k) at next cs bs lt h = rises_less at next bs (omega arith) h
rises_opened (Opens s t) at next [] bs lt h = rises_less at next bs (omega arith) h
rises_opened (Opens s t) at next (c ∷ cs) bs lt h = (omega arith, rises_less (suc at) next bs (omega arith) h)

rises_from : (code : List ℕ) (at : ℕ) (ps : List Placed) → at ≤ length code → Stand code at ps → RisesFrom at (blocks_of ps)
rises_from code at [] le s = tt
rises_from code at (p ∷ ps) le s =
    let b = instr_behind code at p.op s.0 le s.2 in
    rw s.1 (rises_opened p.op at s.0 (closings_of ps) (blocks_of ps) b.0 (rises_from code s.0 ps b.1 s.3))

pub rises : (code : List ℕ) (ps : List Placed) → Stand code 0 ps → RisesFrom 0 (blocks_of ps)
rises code ps s = rises_from code 0 ps (omega arith) s

-- ---- by index

above : (place : ℕ) (bs : List Block) (k : ℕ) (d : Block) → RisesFrom place bs → k < length bs → place ≤ (get_or bs k d).at
above place [] k d h lt = absurd (omega arith)
above place (b ∷ bs) zero d h lt = h.0
above place (b ∷ bs) (suc k) d h lt = omega (arith, h.0, above (suc b.at) bs k d h.1 (omega arith))

rising : (place : ℕ) (bs : List Block) (i k : ℕ) (d : Block) → RisesFrom place bs → i < k → k < length bs → (get_or bs i d).at < (get_or bs k d).at
rising place [] i k d h lt in_it = absurd (omega arith)
rising place (b ∷ bs) i zero d h lt in_it = absurd (omega arith)
rising place (b ∷ bs) zero (suc k) d h lt in_it = omega (arith, above (suc b.at) bs k d h.1 (omega arith))
rising place (b ∷ bs) (suc i) (suc k) d h lt in_it = rising (suc b.at) bs i k d h.1 (omega arith) (omega arith)

abbrev pub no_block : Block
no_block = record { at = 0; end = 0; other = None }

ends_at : (place : ℕ) (bs : List Block) (k : ℕ) (at : ℕ) (d : Block) → RisesFrom place bs → k < length bs → (get_or bs k d).at ≡ at → ends_in bs at ≡ Some ((get_or bs k d).end, (get_or bs k d).other)
ends_at place [] k at d h lt e = absurd (omega arith)
ends_at place (b ∷ bs) zero at d h lt e = rw (eq-eqb b.at at e) refl
ends_at place (b ∷ bs) (suc k) at d h lt e =
    let far = above (suc b.at) bs k d h.1 (omega arith) in
    rw (ne_eqb b.at at (λ q. omega (arith, far, e, q))) (ends_at (suc b.at) bs k at d h.1 (omega arith) e)

ends_nowhere : (bs : List Block) (at : ℕ) (d : Block) → ((k : ℕ) → k < length bs → (get_or bs k d).at ≡ at → ⊥) → ends_in bs at ≡ None
ends_nowhere [] at d none = refl
ends_nowhere (b ∷ bs) at d none = rw (ne_eqb b.at at (none 0 (omega arith))) (ends_nowhere bs at d (λ k lt. none (suc k) (omega arith)))

cases_le : (a b : ℕ) → a ≤ b → (a < b) ⊎ (a ≡ b)
cases_le a b le = elim (cases_lt a b) [ inl lt ↦ inl lt | inr ge ↦ inr (omega arith) ]

-- ---- halving

-- the block that begins at a place, if any, has an index from low on, below high
pub record Halved (bs : List Block) (at low high : ℕ) : Type 0 where
  pub order : low ≤ high
  pub inside : high ≤ length bs
  pub below : (k : ℕ) → k < low → (get_or bs k no_block).at < at
  pub beyond : (k : ℕ) → high ≤ k → k < length bs → at < (get_or bs k no_block).at

pub halves_begin : (bs : List Block) (at high : ℕ) → high ≡ length bs → Halved bs at 0 high
halves_begin bs at high e = record { order = omega arith; inside = omega (arith, e); below = λ k lt. absurd (omega arith); beyond = λ k le lt. absurd (omega (arith, e)) }

pub upper_half : (bs : List Block) (at low high middle : ℕ) → RisesFrom 0 bs → Halved bs at low high → low ≤ middle → middle < high → (get_or bs middle no_block).at < at → Halved bs at (middle + 1) high
upper_half bs at low high middle rise h le lt less = record {
  order = omega arith;
  inside = h.inside;
  below = λ k q. upto k (omega arith);
  beyond = h.beyond;
}
  where
    here : (get_or bs middle no_block).at < at
    here = less

    upto : (k : ℕ) → k ≤ middle → (get_or bs k no_block).at < at
    upto k q = elim (cases_le k middle q) [
      | inl w ↦ omega (arith, rising 0 bs k middle no_block rise w (omega (arith, h.inside)), here)
      | inr w ↦ rw w here
    ]

pub lower_half : (bs : List Block) (at low high middle : ℕ) → RisesFrom 0 bs → Halved bs at low high → low ≤ middle → middle < high → at ≤ (get_or bs middle no_block).at → ((get_or bs middle no_block).at ≡ at → ⊥) → Halved bs at low middle
lower_half bs at low high middle rise h le lt more ne = record {
  order = le;
  inside = omega (arith, h.inside);
  below = h.below;
  beyond = λ k q w. from k q w;
}
  where
    here : at < (get_or bs middle no_block).at
    here = omega (arith, more, ne)

    from : (k : ℕ) → middle ≤ k → k < length bs → at < (get_or bs k no_block).at
    from k q w = elim (cases_le middle k q) [
      | inl v ↦ omega (arith, rising 0 bs middle k no_block rise v w, here)
      | inr v ↦ rw (← v) here
    ]

pub halves_found : (bs : List Block) (at low high middle : ℕ) → RisesFrom 0 bs → Halved bs at low high → middle < high → (get_or bs middle no_block).at ≡ at
    → ends_in bs at ≡ Some ((get_or bs middle no_block).end, (get_or bs middle no_block).other)
halves_found bs at low high middle rise h lt here = ends_at 0 bs middle at no_block rise (omega (arith, h.inside)) here

pub halves_none : (bs : List Block) (at low high : ℕ) → Halved bs at low high → high ≤ low → ends_in bs at ≡ None
halves_none bs at low high h le = ends_nowhere bs at no_block (λ k lt q. apart k lt q)
  where
    apart : (k : ℕ) → k < length bs → (get_or bs k no_block).at ≡ at → ⊥
    apart k lt q = elim (cases_lt k low) [
      | inl w ↦ omega (arith, h.below k w, q)
      | inr w ↦ omega (arith, h.beyond k (omega arith) lt, q)
    ]
