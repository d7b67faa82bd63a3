-- The walk over a body's bytes, opcode by opcode.
use Rattle.std.proofs.Common.{◌≡◌, ℕ, ◌+◌, ◌<◌, ◌≤◌, ◌^◌, List, ◌∷◌, length, Ok, Err, sym, ◌∙◌, ap, subst, arith, length-append}
use Rattle.ctw_ops.specs.declared.types.Label.{Label}
use Rattle.ctw_ops.specs.Code.{Code, Op, opcodes}
use Rattle.ctw_ops.specs.Typing.{Context}
use Rattle.ctw_stack.specs.Opens.{Open, slot_count}
use Rattle.ctw_flat.specs.declared.fault.CodeFault.{CodeFault}
use Rattle.ctw_flat.specs.Spelled.{IsBody}
use Rattle.ctw_flat.specs.Places.{Placed, Stand, ops_of, instr_in}
use Rattle.ctw_flat.proofs.Places.{stands, step, ended, no_fault, instr_behind}
use Rattle.ctw_labels.specs.declared.tag.Tag.{Tag}
use Rattle.ctw_labels.specs.Numbering.{BodyPlace}
use Rattle.ctw_labels.specs.FlatSites.{GoesBy, Goes, opens_behind, op_sites, flat_sites}
use Rattle.ctw_sites.specs.Controls.{AreSmall}
use Rattle.ctw_sites.specs.Packed.{Kept, after}
use Rattle.ctw_sites.specs.Bodies.{outermost, code_sites, IsReady}
use Rattle.ctw_sites.proofs.PackedLaws.{after_both, after_none}
use Rattle.ctw_sites.proofs.StepLaws.{behind_short, behind_small}

-- of the body's opcodes those from a place on are left, the pass gets past them, and with their sites all are there
pub record Going (P : BodyPlace Label) (C : Context Tag) (code : Code Label) (bytes : List ℕ) (place at : ℕ) (b : List (Open Tag)) (k first : Kept) : Type 0 where
  pub left : List Placed
  pub stand : Stand bytes place left
  pub inside : place ≤ length bytes
  pub few : at ≤ place
  pub slots : slot_count b ≤ at
  pub small : AreSmall b
  pub goes : Goes P C (ops_of left) b k.count at
  pub room : k.count + length (flat_sites P C (ops_of left) b k.count at) < 2 ^ 32
  pub all : after k (flat_sites P C (ops_of left) b k.count at) ≡ after first (code_sites P C code first.count)

module _ (P : BodyPlace Label) (C : Context Tag) (code : Code Label) (bytes : List ℕ) (first : Kept) where
  pub going_begins : (b : List (Open Tag)) → IsBody bytes code → IsReady P C code first.count → b ≡ outermost C → Going P C code bytes 0 0 b first first
  going_begins b m r e = subst (λ z. Going P C code bytes 0 0 z first first) (sym e) begun
    where
      begun : Going P C code bytes 0 0 (outermost C) first first
      begun =
          let s = stands bytes 0 (opcodes code) (omega arith) m in
          record {
            left = s.0;
            stand = s.1;
            inside = omega arith;
            few = omega arith;
            slots = omega arith;
            small = (r.small, tt);
            goes = subst (λ z. Goes P C z (outermost C) first.count 0) (sym s.2) r.goes;
            room = subst (λ z. first.count + length (flat_sites P C z (outermost C) first.count 0) < 2 ^ 32) (sym s.2) r.room;
            all = ap (λ z. after first (flat_sites P C z (outermost C) first.count 0)) s.2;
          }

  module _ (place at : ℕ) (b : List (Open Tag)) (k : Kept) (op : Op Label) (next : ℕ) (h : Going P C code bytes place at b k first) (lt : place < length bytes) (e : instr_in bytes place ≡ Ok (op, next)) where
    others : (rest : List Placed) × Stand bytes next rest × (ops_of h.left ≡ op ∷ ops_of rest)
    others = let s = step bytes place h.left op next lt h.stand e in (s.0, s.1, ap ops_of s.2)

    all_goes : Goes P C (op ∷ ops_of others.0) b k.count at
    all_goes = subst (λ z. Goes P C z b k.count at) others.2 h.goes

    pub first_goes : GoesBy P C k.count op b
    first_goes = all_goes.0

    all_length : length (flat_sites P C (ops_of h.left) b k.count at) ≡ length (op_sites P C k.count at op b) + length (flat_sites P C (ops_of others.0) (opens_behind P C k.count at op b) (k.count + length (op_sites P C k.count at op b)) (at + 1))
    all_length = ap (λ z. length (flat_sites P C z b k.count at)) others.2 ∙ length-append (op_sites P C k.count at op b) (flat_sites P C (ops_of others.0) (opens_behind P C k.count at op b) (k.count + length (op_sites P C k.count at op b)) (at + 1))

    pub first_room : k.count + length (op_sites P C k.count at op b) < 2 ^ 32
    first_room = let l = all_length in omega (arith, l, h.room)

    pub first_few : slot_count b < 2 ^ 32 → slot_count b ≤ place
    first_few q = omega (arith, h.slots, h.few)

    pub going_on : (b' : List (Open Tag)) (k' : Kept) → b' ≡ opens_behind P C k.count at op b → k' ≡ after k (op_sites P C k.count at op b) → Going P C code bytes next (at + 1) b' k' first
    going_on b' k' eb ek = subst (λ z. Going P C code bytes next (at + 1) z k' first) (sym eb) (subst (λ z. Going P C code bytes next (at + 1) (opens_behind P C k.count at op b) z first) (sym ek) gone)
      where
        gone : Going P C code bytes next (at + 1) (opens_behind P C k.count at op b) (after k (op_sites P C k.count at op b)) first
        gone =
            let i = instr_behind bytes place op next h.inside e in
            let s = behind_short P C k.count at op b first_goes in
            let l = all_length in
            record {
              left = others.0;
              stand = others.1;
              inside = i.1;
              few = omega (arith, i.0, h.few);
              slots = omega (arith, s, h.slots);
              small = behind_small P C k.count at op b h.small first_room;
              goes = all_goes.1;
              room = omega (arith, l, h.room);
              all = after_both k (op_sites P C k.count at op b) (flat_sites P C (ops_of others.0) (opens_behind P C k.count at op b) (k.count + length (op_sites P C k.count at op b)) (at + 1))
                  ∙ ap (λ z. after k (flat_sites P C z b k.count at)) (sym others.2) ∙ h.all;
            }

  pub going_done : (place at : ℕ) (b : List (Open Tag)) (k : Kept) → Going P C code bytes place at b k first → length bytes ≤ place → k ≡ after first (code_sites P C code first.count)
  going_done place at b k h ge = sym (after_none k) ∙ ap (λ z. after k (flat_sites P C (ops_of z) b k.count at)) (sym (ended bytes place h.left h.inside ge h.stand)) ∙ h.all

  pub going_reads : (place at : ℕ) (b : List (Open Tag)) (k : Kept) (f : CodeFault) → Going P C code bytes place at b k first → place < length bytes → instr_in bytes place ≡ Err f → ⊥
  going_reads place at b k f h lt e = no_fault bytes place h.left f lt h.stand e
