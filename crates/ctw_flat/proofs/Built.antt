-- What is said of the answer of `build`.
use Rattle.std.proofs.Common.{◌≡◌, ℕ, List, Ok, refl, sym, ap, subst, ◌∙◌}
use Rattle.ctw_ops.specs.declared.types.Label.{Label}
use Rattle.ctw_ops.specs.Code.{Code}
use Rattle.ctw_leb.proofs.Exact.{err_ok}
use Rattle.ctw_flat.specs.declared.fault.BuildFault.{BuildFault}
use Rattle.ctw_flat.specs.declared.fault.BuildFault.TheVariants.{Bad, NoMemory}
use Rattle.ctw_flat.specs.declared.blocks.Block.{Block}
use Rattle.ctw_flat.specs.declared.blocks.Mark.{Mark}
use Rattle.ctw_flat.specs.Spelled.{IsLimitedBody}
use Rattle.ctw_flat.specs.Places.{Placed, Stand}
use Rattle.ctw_flat.specs.Bodies.{body_at}
use Rattle.ctw_flat.specs.Blocks.{blocks_of, ends_in}
use Rattle.ctw_flat.specs.Marks.{marks_of, blocks_in}
use Rattle.ctw_flat.specs.Rising.{RisesFrom}
use Rattle.ctw_flat.specs.Positions.{TellsEnds}
use Rattle.ctw_flat.specs.Calls.{FailsWith}
use Rattle.ctw_flat.proofs.Bodies.{whole_body}
use Rattle.ctw_flat.proofs.Balance.{start}
use Rattle.ctw_flat.proofs.Marks.{blocks_marks}
use Rattle.ctw_flat.proofs.Positions.{tells}
use Rattle.ctw_flat.proofs.Halves.{rises}

-- where the bytes spell a body, only memory can have run out
pub not_bad : (code : List ℕ) (c : Code Label) (e : BuildFault) → IsLimitedBody code c → FailsWith e (body_at (start code)) → e ≡ NoMemory
not_bad code c NoMemory m h = refl
not_bad code c (Bad f) m h = absurd (err_ok f c (sym h ∙ whole_body.complete (start code) c m))

pub is_body : (code : List ℕ) → (c : Code Label) × (body_at (start code) ≡ Ok c) → (c : Code Label) × IsLimitedBody code c
is_body code h = (h.0, whole_body.sound (start code) h.0 h.1)

pub found_blocks : (code : List ℕ) (marks : List Mark) (found : List Block) → ((ps : List Placed) × Stand code 0 ps × (marks ≡ marks_of ps)) → found ≡ blocks_in marks → (ps : List Placed) × Stand code 0 ps × (found ≡ blocks_of ps)
found_blocks code marks found h e = (h.0, h.1, e ∙ ap blocks_in h.2 ∙ sym (blocks_marks h.0))

pub found_rise : (code : List ℕ) (marks : List Mark) (found : List Block) → ((ps : List Placed) × Stand code 0 ps × (marks ≡ marks_of ps)) → found ≡ blocks_in marks → RisesFrom 0 found
found_rise code marks found h e =
    let f = found_blocks code marks found h e in
    rw f.2 (rises code f.0 f.1)

pub found_tell : (code : List ℕ) (marks : List Mark) (found : List Block) → ((c : Code Label) × (body_at (start code) ≡ Ok c)) → ((ps : List Placed) × Stand code 0 ps × (marks ≡ marks_of ps)) → found ≡ blocks_in marks → TellsEnds code (ends_in found)
found_tell code marks found b h e =
    let f = found_blocks code marks found h e in
    let m = is_body code b in
    subst (λ (l : List Block). TellsEnds code (ends_in l)) (sym f.2) (tells code f.0 m.0 f.1 m.1.0)
