-- An opcode under labels, and what stands behind its push.
use Rattle.std.proofs.Common.{◌≡◌, ◌≤◌, ℕ, List, [], ◌∷◌, ◌++◌, length, map, Option, Some, None, refl, sym, ◌∙◌, ap, arith, append_assoc}
use Rattle.std.specs.Prelude.{option_map, unwrap_or}
use Rattle.ctw_ops.specs.declared.types.Label.{Label}
use Rattle.ctw_ops.specs.Types.{ValueType, FunctionType, value_type}
use Rattle.ctw_ops.specs.TagMaps.{type_to}
use Rattle.ctw_ops.specs.Code.{Leaf, CallIndirect, Load, Store, Op, Plain, Opens, Closes, ByEnd, ByElse}
use Rattle.ctw_ops.specs.Typing.{Context}
use Rattle.ctw_ops.specs.Tree.{Module, type_named}
use Rattle.ctw_stack.specs.Opens.{Open}
use Rattle.ctw_labels.specs.declared.tag.Tag.{Tag}
use Rattle.ctw_labels.specs.declared.tag.Tag.TheVariants.{At, Fixed}
use Rattle.ctw_labels.specs.declared.name.SiteName.TheVariants.{IParam, IResult}
use Rattle.ctw_labels.specs.Points.{Points}
use Rattle.ctw_labels.specs.Sited.{Lift}
use Rattle.ctw_labels.specs.Numbering.{result_from, leaf_lift}
use Rattle.ctw_labels.specs.SitedModule.{place_of}
use Rattle.ctw_labels.specs.FlatSites.{among, GoesBy, op_sites}
use Rattle.ctw_labels.specs.Placed.{use_to}
use Rattle.ctw_labels.proofs.Contexts.{type_length}
use Rattle.ctw_sites.specs.Leaves.{own_count}
use Rattle.ctw_sites.proofs.PassLaws.{own_within}
use Rattle.ctw_write.specs.Canon.{all_texts, op_text}
use Rattle.ctw_write.proofs.Pieces.{all_texts-append}
use Rattle.ctw_place.specs.Flat.{sited_leaf_op, sited_op, lift_ops, placed_ops, op_uses}
use Rattle.ctw_place.specs.Ops.{first_leaf, first_op, leaf_uses_at, uses_at, leaf_room, own_room}
use Rattle.ctw_place.specs.Walks.{lift_behind}
use Rattle.ctw_place.specs.declared.setting.Setting.{Setting}
use Rattle.ctw_place.specs.Settings.{module_of, labels_of}

module _ (L : Tag → Label) (name : ℕ → FunctionType Label → ℕ) (m : Module Label) (p : Points) (k : ℕ) (C : Context Tag) (memory : Label) (e : memory ≡ L (unwrap_or C.memory Fixed)) where
  leaf_first : (D : Context Tag) → D.memory ≡ C.memory → (n : ℕ) (i : Leaf Label) (l : Option (Lift Tag)) → placed_ops L name (sited_leaf_op (place_of m p k) D n i l) ≡ Plain (first_leaf L name m memory n i) ∷ lift_ops L l
  leaf_first D q n (CallIndirect y) l = refl
  leaf_first D q n (Load w t bytes signed align offset) l = λ j. Plain (Load w ((ap (λ z. L (unwrap_or z Fixed)) q ∙ sym e) j) bytes signed align offset) ∷ lift_ops L l
  leaf_first D q n (Store w t bytes align offset) l = λ j. Plain (Store w ((ap (λ z. L (unwrap_or z Fixed)) q ∙ sym e) j) bytes align offset) ∷ lift_ops L l
  leaf_first D q n i l = refl

  result_first : (n : ℕ) (t : Option (ValueType Label)) → option_map (type_to L) (result_from n t) ≡ option_map (λ u. value_type u.width (L (At n))) t
  result_first n None = refl
  result_first n (Some t) = refl

  pub ops_first : (n at : ℕ) (op : Op Label) (b : List (Open Tag)) (es : List (Option (Lift Tag))) → GoesBy (place_of m p k) C n op b
      → placed_ops L name (sited_op (place_of m p k) C n at op b es) ≡ first_op L name m memory n op ∷ lift_ops L (lift_behind (place_of m p k) C n at op b es)
  ops_first n at op [] es g = absurd g
  ops_first n at (Plain i) (v ∷ outer) es g = leaf_first (among C (v ∷ outer)) refl n i (leaf_lift (place_of m p k) (among C (v ∷ outer)) n at i v.operands)
  ops_first n at (Opens shape t) (v ∷ outer) es g = ap (λ z. Opens shape z ∷ []) (result_first n t)
  ops_first n at (Closes ByElse) (v ∷ outer) es g = refl
  ops_first n at (Closes ByEnd) (v ∷ outer) es g = refl

  -- its text, and the other opcodes' behind it
  pub text_first : (n at : ℕ) (op : Op Label) (b : List (Open Tag)) (es : List (Option (Lift Tag))) → GoesBy (place_of m p k) C n op b → (out one two : List ℕ) (others : List (Op Label))
      → one ≡ out ++ op_text (first_op L name m memory n op) → two ≡ one ++ all_texts op_text (lift_ops L (lift_behind (place_of m p k) C n at op b es))
      → two ++ all_texts op_text others ≡ out ++ all_texts op_text (placed_ops L name (sited_op (place_of m p k) C n at op b es) ++ others)
  text_first n at op b es g out one two others q r =
      let x : List ℕ = op_text (first_op L name m memory n op) in
      let y : List ℕ = all_texts op_text (lift_ops L (lift_behind (place_of m p k) C n at op b es)) in
      let z : List ℕ = all_texts op_text others in
      ap (λ (l : List ℕ). l ++ z) (r ∙ ap (λ (l : List ℕ). l ++ y) q)
      ∙ append_assoc (out ++ x) y z ∙ append_assoc out x (y ++ z)
      ∙ ap (λ (l : List ℕ). out ++ l) (sym (append_assoc x y z) ∙ ap (λ (l : List (Op Label)). all_texts op_text l ++ z) (sym (ops_first n at op b es g)) ∙ sym (all_texts-append op_text (placed_ops L name (sited_op (place_of m p k) C n at op b es)) others))

module _ (s : Setting) (p : Points) (k : ℕ) (C : Context Tag) where
  leaf_used : (D : Context Tag) (n : ℕ) (i : Leaf Label) (l : Option (Lift Tag)) → map (use_to (labels_of s)) (op_uses (sited_leaf_op (place_of (module_of s) p k) D n i l)) ≡ leaf_uses_at s n i
  leaf_used D n (CallIndirect y) l = refl
  leaf_used D n i l = refl

  pub op_used : (n at : ℕ) (op : Op Label) (b : List (Open Tag)) (es : List (Option (Lift Tag))) → GoesBy (place_of (module_of s) p k) C n op b → map (use_to (labels_of s)) (op_uses (sited_op (place_of (module_of s) p k) C n at op b es)) ≡ uses_at s n op
  op_used n at op [] es g = absurd g
  op_used n at (Plain i) (v ∷ outer) es g = leaf_used (among C (v ∷ outer)) n i (leaf_lift (place_of (module_of s) p k) (among C (v ∷ outer)) n at i v.operands)
  op_used n at (Opens shape t) (v ∷ outer) es g = refl
  op_used n at (Closes ByElse) (v ∷ outer) es g = refl
  op_used n at (Closes ByEnd) (v ∷ outer) es g = refl

-- ---- the sites of a use are among the opcode's

leaf_room_within : (m : Module Label) (p : Points) (k : ℕ) (i : Leaf Label) → leaf_room m i ≤ own_count (place_of m p k) (Plain i)
leaf_room_within m p k (CallIndirect y) = let l = type_length (IParam k 0) (IResult k 0) (type_named m y) in omega (arith, l)
leaf_room_within m p k i = omega arith

pub room_within : (m : Module Label) (p : Points) (k : ℕ) (C : Context Tag) (n at : ℕ) (op : Op Label) (b : List (Open Tag)) → GoesBy (place_of m p k) C n op b → own_room m op ≤ length (op_sites (place_of m p k) C n at op b)
room_within m p k C n at (Plain i) b g =
    let w = own_within (place_of m p k) C n at (Plain i) b tt g in
    let l = leaf_room_within m p k i in
    omega (arith, w, l)
room_within m p k C n at (Opens shape t) b g = omega arith
room_within m p k C n at (Closes closer) b g = omega arith
