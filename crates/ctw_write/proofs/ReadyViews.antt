-- A view is ready to be written canonically, and its sections together are the canonical spelling.
use Rattle.std.proofs.Common.{◌≡◌, ℕ, ◌<◌, ◌^◌, Bool, List, [], ◌++◌, length, sym, ap, subst, ◌∙◌, append_assoc}
use Rattle.ctw_ops.specs.declared.types.Label.{Label}
use Rattle.ctw_ops.specs.Tree.{Module}
use Rattle.ctw_ops.specs.Typing.{optional}
use Rattle.ctw_leb.specs.Spelling.{u32_text}
use Rattle.ctw_form.specs.Spelled.{magic, version, Spells}
use Rattle.ctw_module.specs.Trees.{Lent, tree}
use Rattle.ctw_module.proofs.SpelledTrees.{tree_is}
use Rattle.ctw_write.specs.Canon.{type_entry_text, import_text, table_text, memory_text, global_text, export_text, element_text, segment_text, code_text, items_text, start_text, customs_text, placed_text, sections_text, canon}
use Rattle.ctw_write.specs.Ready.{IsReady}
use Rattle.ctw_write.proofs.CanonicalText.{canonical_spelled}
use Rattle.ctw_form.proofs.Fitted.{constants_fit}
use Rattle.ctw_write.proofs.Shorter.{view_short}

pub ready : (lent : Lent) → Spells lent.bytes (tree lent) → length lent.bytes < 2 ^ 32 → IsReady lent
ready lent s lt =
    let c = constants_fit lent.bytes (tree lent) s in
    record {
      spelled = s;
      short = view_short lent.bytes (tree lent) s lt;
      global_constants = c.globals;
      element_offsets = c.elements;
      segment_offsets = c.segments;
    }

regrouped : (o a b c d e f g h i j k l : List ℕ) → o ++ a ++ b ++ c ++ d ++ e ++ f ++ g ++ h ++ i ++ j ++ k ++ l ≡ o ++ (a ++ b ++ c ++ d ++ e ++ f ++ g ++ h ++ i ++ j ++ k ++ l)
regrouped o a b c d e f g h i j k l = simp append_assoc

-- the sections one after another
pub sections_joined : (m : Module Label) (start one two three four : List ℕ)
    → one ≡ start ++ customs_text 0 m.customs ++ placed_text 1 (items_text 1 type_entry_text m.types) m.customs ++ placed_text 2 (items_text 2 import_text m.imports) m.customs ++ placed_text 3 (items_text 3 (λ f. u32_text f.type) m.functions) m.customs
    → two ≡ one ++ placed_text 4 (items_text 4 table_text (optional m.table)) m.customs ++ placed_text 5 (items_text 5 memory_text (optional m.memory)) m.customs ++ placed_text 6 (items_text 6 global_text m.globals) m.customs
    → three ≡ two ++ placed_text 7 (items_text 7 export_text m.exports) m.customs ++ placed_text 8 (start_text m.start) m.customs ++ placed_text 9 (items_text 9 element_text m.elements) m.customs
    → four ≡ three ++ placed_text 10 (items_text 10 code_text m.functions) m.customs ++ placed_text 11 (items_text 11 segment_text m.segments) m.customs
    → four ≡ start ++ sections_text m
unfolding sections_text
sections_joined m start one two three four p q r s =
    let p4 = placed_text 4 (items_text 4 table_text (optional m.table)) m.customs in
    let p5 = placed_text 5 (items_text 5 memory_text (optional m.memory)) m.customs in
    let p6 = placed_text 6 (items_text 6 global_text m.globals) m.customs in
    let p7 = placed_text 7 (items_text 7 export_text m.exports) m.customs in
    let p8 = placed_text 8 (start_text m.start) m.customs in
    let p9 = placed_text 9 (items_text 9 element_text m.elements) m.customs in
    let p10 = placed_text 10 (items_text 10 code_text m.functions) m.customs in
    let p11 = placed_text 11 (items_text 11 segment_text m.segments) m.customs in
    s ∙ ap (λ (l : List ℕ). l ++ p10 ++ p11) (r ∙ ap (λ (l : List ℕ). l ++ p7 ++ p8 ++ p9) (q ∙ ap (λ (l : List ℕ). l ++ p4 ++ p5 ++ p6) p))
    ∙ regrouped start (customs_text 0 m.customs) (placed_text 1 (items_text 1 type_entry_text m.types) m.customs) (placed_text 2 (items_text 2 import_text m.imports) m.customs) (placed_text 3 (items_text 3 (λ f. u32_text f.type) m.functions) m.customs) p4 p5 p6 p7 p8 p9 p10 p11

-- the whole file
pub canon_joined : (m : Module Label) (ct : Bool) (start header whole : List ℕ) → start ≡ [] → ct ≡ m.ct → header ≡ start ++ magic ++ version ct → whole ≡ header ++ sections_text m → whole ≡ canon m
unfolding canon
canon_joined m ct start header whole s c h w =
    w ∙ ap (λ (l : List ℕ). l ++ sections_text m) (h ∙ ap (λ (l : List ℕ). l ++ magic ++ version ct) s) ∙ ap (λ (b : Bool). magic ++ version b ++ sections_text m) c

-- canonical bytes are their own canonical spelling
pub canon_fixed : (bytes : List ℕ) (m : Module Label) (lent : Lent) → Spells bytes m → lent.bytes ≡ canon m → canon (tree lent) ≡ canon m
unfolding tree
canon_fixed bytes m lent s e =
    let t : Spells lent.bytes m = subst (λ (l : List ℕ). Spells l m) (sym e) (canonical_spelled bytes m s) in
    ap canon (tree_is lent.bytes m t)
