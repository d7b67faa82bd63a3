-- Numbers in a row that are added one by one.
use Rattle.std.proofs.Common.{◌≡◌, ◌≤◌, ℕ, zero, suc, ◌+◌, ◌-◌, Bool, true, false, cond, List, [], ◌∷◌, ◌++◌, refl, sym, ap, ◌∙◌, append_assoc, append-nil, arith}
use Rattle.std.specs.List.{range_with_len}
use Rattle.ctw_ops.specs.declared.types.ExternTag.{ExternTag}
use Rattle.ctw_ops.specs.Equal.{same_tag}
use Rattle.ctw_link.specs.Numbers.{StoreNumbers, numbers_of}
use Rattle.ctw_link.specs.Resolving.{if_same}

pub range_more : (a n : ℕ) → range_with_len a (n + 1) ≡ range_with_len a n ++ (a + n) ∷ []
range_more a n = let e : n + 1 ≡ suc n = omega arith in ap (range_with_len a) e ∙ go a n
  where
    go : (a n : ℕ) → range_with_len a (suc n) ≡ range_with_len a n ++ (a + n) ∷ []
    go a zero = let e : a ≡ a + 0 = omega arith in ap (λ (m : ℕ). m ∷ []) e
    go a (suc n) = let e : a + 1 + n ≡ a + suc n = omega arith in ap (λ (l : List ℕ). a ∷ l) (go (a + 1) n ∙ ap (λ (m : ℕ). range_with_len (a + 1) n ++ m ∷ []) e)

pub if_same_append : (t tag : ExternTag) (xs ys : List ℕ) → if_same t tag xs ++ if_same t tag ys ≡ if_same t tag (xs ++ ys)
if_same_append t tag xs ys = go (same_tag t tag)
  where
    go : (b : Bool) → cond b xs [] ++ cond b ys [] ≡ cond b (xs ++ ys) []
    go true = refl
    go false = refl

-- from one number on up to another all were added
pub record Pushed (old new : StoreNumbers) (tag : ExternTag) (first next : ℕ) : Type 0 where
  pub after : first ≤ next
  pub all : (t : ExternTag) → numbers_of t new ≡ numbers_of t old ++ if_same t tag (range_with_len first (next - first))

pub pushed_none : (old : StoreNumbers) (tag : ExternTag) (first : ℕ) → Pushed old old tag first first
pushed_none old tag first = record {
  after = omega arith;
  all = λ t.
      let e : 0 ≡ first - first = omega arith in
      sym (append-nil (numbers_of t old)) ∙ ap (λ (l : List ℕ). numbers_of t old ++ l) (sym (nothing (same_tag t tag))) ∙ ap (λ (n : ℕ). numbers_of t old ++ if_same t tag (range_with_len first n)) e;
}
  where
    nothing : (b : Bool) → cond {A = List ℕ} b [] [] ≡ []
    nothing true = refl
    nothing false = refl

pub pushed_more : (old now new : StoreNumbers) (tag : ExternTag) (first next : ℕ) → ((t : ExternTag) → numbers_of t new ≡ numbers_of t now ++ if_same t tag (next ∷ [])) → Pushed old now tag first next → Pushed old new tag first (next + 1)
pushed_more old now new tag first next h p = record {
  after = let le = p.after in omega arith;
  all = λ t.
      let le = p.after in
      let here : first + (next - first) ≡ next = omega arith in
      let size : next - first + 1 ≡ next + 1 - first = omega arith in
      h t ∙ ap (λ (l : List ℕ). l ++ if_same t tag (next ∷ [])) (p.all t)
      ∙ append_assoc (numbers_of t old) (if_same t tag (range_with_len first (next - first))) (if_same t tag (next ∷ []))
      ∙ ap (λ (l : List ℕ). numbers_of t old ++ l) (if_same_append t tag (range_with_len first (next - first)) (next ∷ []))
      ∙ ap (λ (n : ℕ). numbers_of t old ++ if_same t tag (range_with_len first (next - first) ++ n ∷ [])) (sym here)
      ∙ ap (λ (l : List ℕ). numbers_of t old ++ if_same t tag l) (sym (range_more first (next - first)))
      ∙ ap (λ (n : ℕ). numbers_of t old ++ if_same t tag (range_with_len first n)) size;
}

pub pushed_all : (old new : StoreNumbers) (tag : ExternTag) (first next count : ℕ) → next ≡ first + count → Pushed old new tag first next → (t : ExternTag) → numbers_of t new ≡ numbers_of t old ++ if_same t tag (range_with_len first count)
pushed_all old new tag first next count e p t = let size : next - first ≡ count = omega (arith, e) in p.all t ∙ ap (λ (n : ℕ). numbers_of t old ++ if_same t tag (range_with_len first n)) size
