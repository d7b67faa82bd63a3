-- The labels of `br_table` as they are written: their count but for the last, and then all of them.
use Rattle.std.proofs.Common.{◌≡◌, ℕ, suc, List, [], ◌∷◌, ◌++◌, length, refl, sym, ap, ◌∙◌, append_assoc, append-nil, arith}
use Rattle.std.specs.List.{All}
use Rattle.std.proofs.lemmas.List.Elements.{All-nil, All-cons, All-head, All-tail}
use Rattle.ctw_ops.specs.declared.types.Label.{Label}
use Rattle.ctw_ops.specs.Code.{Leaf, BrTable, Plain}
use Rattle.ctw_leb.specs.Spelling.{u32_text}
use Rattle.ctw_text.specs.Names.{branches}
use Rattle.ctw_write.specs.KeepsLimits.{Is32, IsLimitedLeaf}
use Rattle.ctw_write.specs.Canon.{all_texts, vector_text, op_text}

abbrev front : Leaf Label → List ℕ
front (BrTable ns n) = ns
front _ = []

abbrev last : Leaf Label → ℕ
last (BrTable ns n) = n
last _ = 0

front_count : (n : ℕ) (ns : List ℕ) → length (front (branches (n ∷ ns))) ≡ length ns
front_count n [] = refl
front_count n (m ∷ ms) = ap suc (front_count m ms)

all_labels : (n : ℕ) (ns : List ℕ) → all_texts u32_text (front (branches (n ∷ ns))) ++ u32_text (last (branches (n ∷ ns))) ≡ all_texts u32_text (n ∷ ns)
all_labels n [] = sym (append-nil (u32_text n))
all_labels n (m ∷ ms) = append_assoc (u32_text n) (all_texts u32_text (front (branches (m ∷ ms)))) (u32_text (last (branches (m ∷ ms)))) ∙ ap (λ (l : List ℕ). u32_text n ++ l) (all_labels m ms)

text : (n : ℕ) (ns : List ℕ) → vector_text u32_text (front (branches (n ∷ ns))) ++ u32_text (last (branches (n ∷ ns))) ≡ u32_text (length ns) ++ all_texts u32_text (n ∷ ns)
text n ns =
    append_assoc (u32_text (length (front (branches (n ∷ ns))))) (all_texts u32_text (front (branches (n ∷ ns)))) (u32_text (last (branches (n ∷ ns))))
    ∙ ap (λ (k : ℕ). u32_text k ++ (all_texts u32_text (front (branches (n ∷ ns))) ++ u32_text (last (branches (n ∷ ns))))) (front_count n ns)
    ∙ ap (λ (l : List ℕ). u32_text (length ns) ++ l) (all_labels n ns)

pub labels_written : (labels start one two three : List ℕ) (count : ℕ) → length labels ≡ suc count → one ≡ start ++ 14 ∷ [] → two ≡ one ++ u32_text count → three ≡ two ++ all_texts u32_text labels → three ≡ start ++ op_text (Plain (branches labels))
labels_written [] start one two three count e p q r = absurd (omega (arith, e))
labels_written (n ∷ ns) start one two three count e p q r =
    let same : count ≡ length ns = omega (arith, e) in
    r ∙ ap (λ (l : List ℕ). l ++ all_texts u32_text (n ∷ ns)) (q ∙ ap (λ (l : List ℕ). l ++ u32_text count) p)
    ∙ append_assoc (start ++ 14 ∷ []) (u32_text count) (all_texts u32_text (n ∷ ns))
    ∙ append_assoc start (14 ∷ []) (u32_text count ++ all_texts u32_text (n ∷ ns))
    ∙ ap (λ (k : ℕ). start ++ 14 ∷ (u32_text k ++ all_texts u32_text (n ∷ ns))) same
    ∙ ap (λ (l : List ℕ). start ++ 14 ∷ l) (sym (text n ns))

-- labels that have 32 bits
front_limited : (n : ℕ) (ns : List ℕ) → All Is32 (n ∷ ns) → All Is32 (front (branches (n ∷ ns)))
front_limited n [] h = All-nil Is32
front_limited n (m ∷ ms) h = All-cons Is32 n (front (branches (m ∷ ms))) (All-head Is32 n (m ∷ ms) h) (front_limited m ms (All-tail Is32 n (m ∷ ms) h))

last_limited : (n : ℕ) (ns : List ℕ) → All Is32 (n ∷ ns) → Is32 (last (branches (n ∷ ns)))
last_limited n [] h = All-head Is32 n [] h
last_limited n (m ∷ ms) h = last_limited m ms (All-tail Is32 n (m ∷ ms) h)

pub labels_limited : (labels : List ℕ) → All Is32 labels → IsLimitedLeaf (branches labels)
labels_limited [] h = (All-nil Is32, omega arith)
labels_limited (n ∷ ns) h = (front_limited n ns h, last_limited n ns h)
