-- What agreeing says of values, memories and globals.
use Rattle.std.proofs.Common.{◌≡◌, ◌↔◌, ℕ, List, length, replicate, refl, sym, ap, ◌∙◌}
use Rattle.ctw_ops.specs.declared.types.Label.{Label}
use Rattle.ctw_ops.specs.declared.types.Label.TheVariants.{Public, Secret}
use Rattle.ctw_ops.specs.Types.{ValueType, MemoryType, value_type}
use Rattle.ctw_semantics.specs.Values.{Value, value}
use Rattle.ctw_semantics.specs.Stores.{Memory}
use Rattle.ctw_semantics.specs.Seen.{seen_number, seen_bytes, seen_value, seen_memory}
use Rattle.ctw_semantics.proofs.Alike.{number_alike}
use Rattle.ctw_semantics.proofs.AlikeStores.{same_length, same_bytes}

pub values_agree : (v w : Value) → (seen_value v ≡ seen_value w) ↔ ((v.type ≡ w.type) × (v.type.tag ≡ Public → v.number ≡ w.number))
values_agree v w = (there, back)
  where
    there : seen_value v ≡ seen_value w → (v.type ≡ w.type) × (v.type.tag ≡ Public → v.number ≡ w.number)
    there e = (ap (λ (x : Value). x.type) e, λ l. number_alike (value_type v.type.width Public) v w (ap (value_type v.type.width) (sym l)) e)

    same : (l : Label) (n m : ℕ) → (l ≡ Public → n ≡ m) → seen_number l n ≡ seen_number l m
    same Public n m h = h refl
    same Secret n m h = refl

    back : (v.type ≡ w.type) × (v.type.tag ≡ Public → v.number ≡ w.number) → seen_value v ≡ seen_value w
    back h = ap (value v.type) (same v.type.tag v.number w.number h.1) ∙ ap (λ (t : ValueType Label). seen_value (value t w.number)) h.0

pub memories_agree : (m q : Memory) → (seen_memory m ≡ seen_memory q) ↔ ((m.type ≡ q.type) × (length m.bytes ≡ length q.bytes) × (m.type.tag ≡ Public → m.bytes ≡ q.bytes))
memories_agree m q = (there, back)
  where
    there : seen_memory m ≡ seen_memory q → (m.type ≡ q.type) × (length m.bytes ≡ length q.bytes) × (m.type.tag ≡ Public → m.bytes ≡ q.bytes)
    there e = (ap (λ (x : Memory). x.type) e, same_length m q e, λ l. same_bytes Public m q (sym l) e)

    same : (l : Label) (xs ys : List ℕ) → length xs ≡ length ys → (l ≡ Public → xs ≡ ys) → seen_bytes l xs ≡ seen_bytes l ys
    same Public xs ys n h = h refl
    same Secret xs ys n h = ap (λ k. replicate k 0) n

    back : (m.type ≡ q.type) × (length m.bytes ≡ length q.bytes) × (m.type.tag ≡ Public → m.bytes ≡ q.bytes) → seen_memory m ≡ seen_memory q
    back h =
        let e : seen_bytes m.type.tag m.bytes ≡ seen_bytes q.type.tag q.bytes = same m.type.tag m.bytes q.bytes h.1 h.2 ∙ ap (λ (t : MemoryType Label). seen_bytes t.tag q.bytes) h.0 in
        let a = h.0 in
        cc
