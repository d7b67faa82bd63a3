-- The walk over a body's bytes, opcode by opcode, that appends what each becomes.
use Rattle.std.proofs.Common.{◌≡◌, ℕ, ◌+◌, ◌<◌, ◌≤◌, ◌^◌, List, [], ◌∷◌, ◌++◌, length, map, flat_map, Option, None, Ok, Err, sym, ◌∙◌, ap, subst, arith, length-append, append-nil}
use Rattle.std.specs.Prelude.{unwrap_or}
use Rattle.ctw_ops.specs.declared.types.Label.{Label}
use Rattle.ctw_ops.specs.Types.{FunctionType}
use Rattle.ctw_ops.specs.Code.{Code, Op, opcodes}
use Rattle.ctw_ops.specs.Typing.{Context}
use Rattle.ctw_stack.specs.Operands.{fresh}
use Rattle.ctw_stack.specs.Opens.{Open, slot_count}
use Rattle.ctw_flat.specs.declared.fault.CodeFault.{CodeFault}
use Rattle.ctw_flat.specs.Spelled.{IsBody}
use Rattle.ctw_flat.specs.Places.{Placed, Stand, ops_of, instr_in}
use Rattle.ctw_flat.proofs.Places.{stands, step, ended, no_fault, instr_behind}
use Rattle.ctw_labels.specs.declared.tag.Tag.{Tag}
use Rattle.ctw_labels.specs.declared.tag.Tag.TheVariants.{Fixed}
use Rattle.ctw_labels.specs.Points.{Points}
use Rattle.ctw_labels.specs.Sited.{Lift, Sited, placed_code}
use Rattle.ctw_labels.specs.Numbering.{number}
use Rattle.ctw_labels.specs.SitedModule.{place_of}
use Rattle.ctw_labels.specs.FlatSites.{GoesBy, Goes, opens_behind, op_sites, flat_sites}
use Rattle.ctw_labels.specs.Placed.{TypeUse, code_uses, use_to, with_uses}
use Rattle.ctw_sites.specs.Controls.{AreSmall}
use Rattle.ctw_sites.specs.Bodies.{outermost, code_sites, IsReady}
use Rattle.ctw_sites.proofs.StepLaws.{behind_short, behind_small}
use Rattle.ctw_write.specs.Canon.{all_texts, op_text, body_text}
use Rattle.ctw_place.specs.declared.variants.Variants.{Variants}
use Rattle.ctw_place.specs.declared.setting.Setting.{Setting}
use Rattle.ctw_place.specs.Flat.{SitedOp, Ending, sited_onto, sited_op, sited_ops, ends_behind, lift_ops, placed_ops, op_uses}
use Rattle.ctw_place.specs.Ops.{first_op, uses_at}
use Rattle.ctw_place.specs.Settings.{module_of, labels_of}
use Rattle.ctw_place.specs.Variants.{name_in, Holds}
use Rattle.ctw_place.specs.Walks.{lift_behind}
use Rattle.ctw_place.proofs.FlatLaws.{body_sited, placed_onto, uses_onto}
use Rattle.ctw_place.proofs.OpLaws.{text_first, op_used}
use Rattle.ctw_place.proofs.UseLaws.{uses_append, all_grow}
use Rattle.std.proofs.lemmas.List.{map-append}

abbrev Uses : Type 0
Uses = List (TypeUse Label)

module _ (s : Setting) (p : Points) (k : ℕ) (C : Context Tag) (code : Code Label) (first : ℕ) (before : Uses) where
  abbrev pub sited : Sited Tag
  sited = (number (place_of (module_of s) p k) C code first 0 fresh).code

  abbrev pub all_uses : Uses
  all_uses = map (use_to (labels_of s)) (code_uses (number (place_of (module_of s) p k) C code first 0 fresh).code)

  abbrev name : Uses → ℕ → FunctionType Label → ℕ
  name later = name_in (length (module_of s).types) (with_uses (with_uses before (map (use_to (labels_of s)) (code_uses (number (place_of (module_of s) p k) C code first 0 fresh).code))) later)

  -- what the opcodes that are left become
  abbrev rest_text : Uses → List (SitedOp Tag) → List ℕ
  rest_text later ops = all_texts op_text (flat_map (placed_ops (labels_of s) (name later)) ops)

  abbrev rest_uses : List (SitedOp Tag) → Uses
  rest_uses ops = map (use_to (labels_of s)) (flat_map op_uses ops)

  -- of the body's opcodes those from a place on are left, the pass gets past them, and what they become and use is left
  pub record Walking (bytes : List ℕ) (place at n : ℕ) (b : List (Open Tag)) (es : List (Option (Lift Tag))) (start out : List ℕ) (v : Variants) : Type 0 where
    pub left : List Placed
    pub stand : Stand bytes place left
    pub inside : place ≤ length bytes
    pub few : at ≤ place
    pub slots : slot_count b ≤ at
    pub small : AreSmall b
    pub goes : Goes (place_of (module_of s) p k) C (ops_of left) b n at
    pub last : n + length (flat_sites (place_of (module_of s) p k) C (ops_of left) b n at) ≡ first + length (code_sites (place_of (module_of s) p k) C code first)
    pub room : first + length (code_sites (place_of (module_of s) p k) C code first) < 2 ^ 32
    pub vs : Uses
    pub held : Holds v vs
    pub uses : with_uses vs (rest_uses (sited_ops (place_of (module_of s) p k) C (ops_of left) b es n at)) ≡ with_uses before all_uses
    pub texts : (later : Uses) → out ++ rest_text later (sited_ops (place_of (module_of s) p k) C (ops_of left) b es n at) ≡ start ++ body_text (placed_code (labels_of s) (name later) sited)

  whole_text : (later : Uses) (ops : List (SitedOp Tag)) → ops ≡ sited_onto sited (Ending None ∷ []) → rest_text later ops ≡ body_text (placed_code (labels_of s) (name later) sited)
  whole_text later ops e = ap (rest_text later) e ∙ ap (all_texts op_text) (placed_onto (labels_of s) (name later) sited (Ending None ∷ []))

  whole_uses : (ops : List (SitedOp Tag)) → ops ≡ sited_onto sited (Ending None ∷ []) → rest_uses ops ≡ all_uses
  whole_uses ops e = ap rest_uses e ∙ ap (map (use_to (labels_of s))) (uses_onto sited (Ending None ∷ []) ∙ append-nil (code_uses sited))

  pub walking_begins : (bytes : List ℕ) (place : ℕ) (b : List (Open Tag)) (es : List (Option (Lift Tag))) (start : List ℕ) (v : Variants) → place ≡ 0 → C.labels ≡ C.result ∷ [] → IsBody bytes code → IsReady (place_of (module_of s) p k) C code first
      → b ≡ outermost C → es ≡ None ∷ [] → Holds v before → Walking bytes place 0 first b es start start v
  walking_begins bytes place b es start v ep own m r eb ee h = subst (λ z. Walking bytes z 0 first b es start start v) (sym ep) (subst (λ z. Walking bytes 0 0 first z es start start v) (sym eb) (subst (λ z. Walking bytes 0 0 first (outermost C) z start start v) (sym ee) begun))
    where
      begun : Walking bytes 0 0 first (outermost C) (None ∷ []) start start v
      begun =
          let w = stands bytes 0 (opcodes code) (omega arith) m in
          let ops : sited_ops (place_of (module_of s) p k) C (ops_of w.0) (outermost C) (None ∷ []) first 0 ≡ sited_onto sited (Ending None ∷ []) =
          ap (λ z. sited_ops (place_of (module_of s) p k) C z (outermost C) (None ∷ []) first 0) w.2 ∙ body_sited (place_of (module_of s) p k) C own code first in
          record {
            left = w.0;
            stand = w.1;
            inside = omega arith;
            few = omega arith;
            slots = omega arith;
            small = (r.small, tt);
            goes = subst (λ z. Goes (place_of (module_of s) p k) C z (outermost C) first 0) (sym w.2) r.goes;
            last = ap (λ z. first + length (flat_sites (place_of (module_of s) p k) C z (outermost C) first 0)) w.2;
            room = r.room;
            vs = before;
            held = h;
            uses = ap (with_uses before) (whole_uses (sited_ops (place_of (module_of s) p k) C (ops_of w.0) (outermost C) (None ∷ []) first 0) ops);
            texts = λ later. ap (λ (l : List ℕ). start ++ l) (whole_text later (sited_ops (place_of (module_of s) p k) C (ops_of w.0) (outermost C) (None ∷ []) first 0) ops);
          }

  module _ (bytes : List ℕ) (place at n : ℕ) (b : List (Open Tag)) (es : List (Option (Lift Tag))) (start out : List ℕ) (v : Variants) (op : Op Label) (next : ℕ) (h : Walking bytes place at n b es start out v) (lt : place < length bytes) (e : instr_in bytes place ≡ Ok (op, next)) where
    pub others : (rest : List Placed) × Stand bytes next rest × (ops_of h.left ≡ op ∷ ops_of rest)
    others = let w = step bytes place h.left op next lt h.stand e in (w.0, w.1, ap ops_of w.2)

    all_goes : Goes (place_of (module_of s) p k) C (op ∷ ops_of others.0) b n at
    all_goes = subst (λ z. Goes (place_of (module_of s) p k) C z b n at) others.2 h.goes

    pub first_goes : GoesBy (place_of (module_of s) p k) C n op b
    first_goes = all_goes.0

    pub first_open : 0 < length b
    first_open = nonempty b first_goes
      where
        nonempty : (b : List (Open Tag)) → GoesBy (place_of (module_of s) p k) C n op b → 0 < length b
        nonempty [] g = absurd g
        nonempty (x ∷ xs) g = omega arith

    all_length : length (flat_sites (place_of (module_of s) p k) C (ops_of h.left) b n at) ≡ length (op_sites (place_of (module_of s) p k) C n at op b) + length (flat_sites (place_of (module_of s) p k) C (ops_of others.0) (opens_behind (place_of (module_of s) p k) C n at op b) (n + length (op_sites (place_of (module_of s) p k) C n at op b)) (at + 1))
    all_length = ap (λ z. length (flat_sites (place_of (module_of s) p k) C z b n at)) others.2 ∙ length-append (op_sites (place_of (module_of s) p k) C n at op b) (flat_sites (place_of (module_of s) p k) C (ops_of others.0) (opens_behind (place_of (module_of s) p k) C n at op b) (n + length (op_sites (place_of (module_of s) p k) C n at op b)) (at + 1))

    pub first_room : n + length (op_sites (place_of (module_of s) p k) C n at op b) < 2 ^ 32
    first_room = let l = all_length in omega (arith, l, h.last, h.room)

    abbrev behind : List (SitedOp Tag)
    behind = sited_ops (place_of (module_of s) p k) C (ops_of others.0) (opens_behind (place_of (module_of s) p k) C n at op b) (ends_behind (place_of (module_of s) p k) n at op es) (n + length (op_sites (place_of (module_of s) p k) C n at op b)) (at + 1)

    left_ops : sited_ops (place_of (module_of s) p k) C (ops_of h.left) b es n at ≡ sited_op (place_of (module_of s) p k) C n at op b es ∷ behind
    left_ops = ap (λ z. sited_ops (place_of (module_of s) p k) C z b es n at) others.2

    -- the uses so far and those to come
    pub used : with_uses (with_uses h.vs (uses_at s n op)) (rest_uses behind) ≡ with_uses before all_uses
    used =
        sym (uses_append h.vs (uses_at s n op) (rest_uses behind))
        ∙ ap (λ z. with_uses h.vs (z ++ rest_uses behind)) (sym (op_used s p k C n at op b es first_goes))
        ∙ ap (with_uses h.vs) (sym (map-append (use_to (labels_of s)) (op_uses (sited_op (place_of (module_of s) p k) C n at op b es)) (flat_map op_uses behind)))
        ∙ ap (λ z. with_uses h.vs (rest_uses z)) (sym left_ops) ∙ h.uses

    pub walking_on : (b' : List (Open Tag)) (es' : List (Option (Lift Tag))) (n' : ℕ) (one two : List ℕ) (w : Variants) → b' ≡ opens_behind (place_of (module_of s) p k) C n at op b → es' ≡ ends_behind (place_of (module_of s) p k) n at op es
        → n' ≡ n + length (op_sites (place_of (module_of s) p k) C n at op b) → Holds w (with_uses h.vs (uses_at s n op)) → s.memory ≡ labels_of s (unwrap_or C.memory Fixed)
        → ((later : Uses) → one ≡ out ++ op_text (first_op (labels_of s) (name_in (length (module_of s).types) (with_uses (with_uses h.vs (uses_at s n op)) later)) (module_of s) s.memory n op))
        → two ≡ one ++ all_texts op_text (lift_ops (labels_of s) (lift_behind (place_of (module_of s) p k) C n at op b es)) → Walking bytes next (at + 1) n' b' es' start two w
    walking_on b' es' n' one two w eb ee en held memory put raised =
        subst (λ z. Walking bytes next (at + 1) n' z es' start two w) (sym eb)
        (subst (λ z. Walking bytes next (at + 1) n' (opens_behind (place_of (module_of s) p k) C n at op b) z start two w) (sym ee)
        (subst (λ z. Walking bytes next (at + 1) z (opens_behind (place_of (module_of s) p k) C n at op b) (ends_behind (place_of (module_of s) p k) n at op es) start two w) (sym en) gone))
      where
        gone : Walking bytes next (at + 1) (n + length (op_sites (place_of (module_of s) p k) C n at op b)) (opens_behind (place_of (module_of s) p k) C n at op b) (ends_behind (place_of (module_of s) p k) n at op es) start two w
        gone =
            let i = instr_behind bytes place op next h.inside e in
            let q = behind_short (place_of (module_of s) p k) C n at op b first_goes in
            let l = all_length in
            record {
              left = others.0;
              stand = others.1;
              inside = i.1;
              few = omega (arith, i.0, h.few);
              slots = omega (arith, q, h.slots);
              small = behind_small (place_of (module_of s) p k) C n at op b h.small first_room;
              goes = all_goes.1;
              last = omega (arith, l, h.last);
              room = h.room;
              vs = with_uses h.vs (uses_at s n op);
              held = held;
              uses = used;
              texts = λ later.
                  let f : with_uses (with_uses h.vs (uses_at s n op)) (rest_uses behind ++ later) ≡ with_uses (with_uses before all_uses) later = uses_append (with_uses h.vs (uses_at s n op)) (rest_uses behind) later ∙ ap (λ z. with_uses z later) used in
                  let o : one ≡ out ++ op_text (first_op (labels_of s) (name later) (module_of s) s.memory n op) = put (rest_uses behind ++ later) ∙ ap (λ z. out ++ op_text (first_op (labels_of s) (name_in (length (module_of s).types) z) (module_of s) s.memory n op)) f in
                  text_first (labels_of s) (name later) (module_of s) p k C s.memory memory n at op b es first_goes out one two (flat_map (placed_ops (labels_of s) (name later)) behind) o raised
                  ∙ ap (λ z. out ++ rest_text later z) (sym left_ops) ∙ h.texts later;
            }

  -- the uses so far are not more than all
  pub walking_few : (bytes : List ℕ) (place at n : ℕ) (b : List (Open Tag)) (es : List (Option (Lift Tag))) (start out : List ℕ) (v : Variants) (h : Walking bytes place at n b es start out v) (t : ℕ) → t + length (with_uses before all_uses) + 1 < 2 ^ 32 → t + length h.vs + 1 < 2 ^ 32
  walking_few bytes place at n b es start out v h t lt =
      let a = all_grow h.vs (rest_uses (sited_ops (place_of (module_of s) p k) C (ops_of h.left) b es n at)) in
      let e = ap length h.uses in
      omega (arith, a, e, lt)

  -- nothing is left
  none_left : (bytes : List ℕ) (place at n : ℕ) (b : List (Open Tag)) (es : List (Option (Lift Tag))) (start out : List ℕ) (v : Variants) → (h : Walking bytes place at n b es start out v) → length bytes ≤ place → h.left ≡ []
  none_left bytes place at n b es start out v h ge = ended bytes place h.left h.inside ge h.stand

  module _ (bytes : List ℕ) (place at n : ℕ) (b : List (Open Tag)) (es : List (Option (Lift Tag))) (start out : List ℕ) (v : Variants) (h : Walking bytes place at n b es start out v) (ge : length bytes ≤ place) where
    pub walked_sites : n ≡ first + length (code_sites (place_of (module_of s) p k) C code first)
    walked_sites =
        let z = ap (λ z. length (flat_sites (place_of (module_of s) p k) C (ops_of z) b n at)) (none_left bytes place at n b es start out v h ge) in
        omega (arith, z, h.last)

    pub walked_held : Holds v (with_uses before all_uses)
    walked_held = subst (Holds v) (ap (λ z. with_uses h.vs (rest_uses (sited_ops (place_of (module_of s) p k) C (ops_of z) b es n at))) (sym (none_left bytes place at n b es start out v h ge)) ∙ h.uses) h.held

    pub walked_text : (later : Uses) → out ≡ start ++ body_text (placed_code (labels_of s) (name later) sited)
    walked_text later = sym (append-nil out) ∙ ap (λ z. out ++ rest_text later (sited_ops (place_of (module_of s) p k) C (ops_of z) b es n at)) (sym (none_left bytes place at n b es start out v h ge)) ∙ h.texts later

  pub walking_reads : (bytes : List ℕ) (place at n : ℕ) (b : List (Open Tag)) (es : List (Option (Lift Tag))) (start out : List ℕ) (v : Variants) (f : CodeFault) → Walking bytes place at n b es start out v → place < length bytes → instr_in bytes place ≡ Err f → ⊥
  walking_reads bytes place at n b es start out v f h lt e = no_fault bytes place h.left f lt h.stand e
