-- Numbers of 2 ^ 64 or more have no place, and so may be cut off there.
use Rattle.std.proofs.Common.{◌≡◌, ℕ, zero, suc, ◌+◌, ◌^◌, ◌<◌, ◌≤◌, Bool, true, false, List, [], ◌∷◌, None, map, ◌++◌, subst, nat_lt, nat_le, nat_eq, refl, ap, sym, arith}
use Rattle.std.proofs.Math.Nat.{min-eq_left, min-eq_right, pow-le-pow_right}
use Rattle.std.proofs.lemmas.Bool.{false_from_ne_true, ltb-true, eqb-true}
use Rattle.std.proofs.lemmas.Bool.Decides.{nat_tests}
use Rattle.ctw_ops.specs.declared.types.Width.{Width}
use Rattle.ctw_ops.specs.declared.types.Width.TheVariants.{W32, W64}
use Rattle.ctw_ops.specs.declared.types.ExternTag.TheVariants.{Func, Table, Memory, Global}
use Rattle.ctw_text.specs.declared.toks.Tok.{Tok}
use Rattle.ctw_text.specs.declared.toks.Tok.TheVariants.{Open, Close, Text, Id, Num, Signed, OffsetIs, AlignIs, Word, Floats, Other}
use Rattle.ctw_text.specs.declared.sorts.Sort.TheVariants as g
use Rattle.ctw_text.specs.declared.sorts.Tail.TheVariants as tail
use Rattle.ctw_text.specs.Grammar.{is_u32, fits, exponent_below, exponent}
use Rattle.ctw_text.specs.declared.sorts.Sort.{Sort}
use Rattle.ctw_text.specs.Machine.{Step, Stuck, StuckBehind, Takes1, Takes2, step, go, run, write, is_ct, spelled, move1, takes_value}
use Rattle.ctw_pieces.specs.Numbers.{cut, cut_tok}

pub record Large (n : ℕ) : Type 0 where
  pub u32 : is_u32 n ≡ false
  pub fit : (w : Width) (neg : Bool) → fits w neg n ≡ false
  pub exponent : exponent n ≡ None
  pub place : nat_le n 11 ≡ false

no_power : (k n : ℕ) → ((j : ℕ) → j ≤ k → nat_eq n (2 ^ j) ≡ false) → exponent_below k n ≡ None
no_power zero n h = rw (h 0 (omega arith)) refl
no_power (suc k) n h = rw (h (suc k) (omega arith)) (no_power k n (λ j l. h j (omega arith)))

above : (n j : ℕ) → 2 ^ 64 ≤ n → j ≤ 31 → nat_eq n (2 ^ j) ≡ false
above n j h l =
    false_from_ne_true (nat_eq n (2 ^ j))
    (λ q.
    let e : n ≡ 2 ^ j = eqb-true n (2 ^ j) q in
    let m : 2 ^ j ≤ 2 ^ 31 = pow-le-pow_right (omega arith) l in
    absurd (omega arith))

not_fitting : (w : Width) (neg : Bool) (n : ℕ) → 2 ^ 64 ≤ n → fits w neg n ≡ false
not_fitting W32 true n h = grind (arith, nat_tests)
not_fitting W32 false n h = grind (arith, nat_tests)
not_fitting W64 true n h = grind (arith, nat_tests)
not_fitting W64 false n h = grind (arith, nat_tests)

not_u32 : (n : ℕ) → 2 ^ 64 ≤ n → is_u32 n ≡ false
not_u32 n h = grind (arith, nat_tests)

not_place : (n : ℕ) → 2 ^ 64 ≤ n → nat_le n 11 ≡ false
not_place n h = grind (arith, nat_tests)

large : (n : ℕ) → 2 ^ 64 ≤ n → Large n
large n h = record {
  u32 = not_u32 n h;
  fit = λ w neg. not_fitting w neg n h;
  exponent = no_power 31 n (λ j l. above n j h l);
  place = not_place n h;
}

no_number : (ct : Bool) (n : ℕ) → Large n → (s : Sort) → move1 ct s (Num n) ≡ None
no_number ct n l g.Module = refl
no_number ct n l (g.Fields b) = refl
no_number ct n l g.Closing = refl
no_number ct n l g.FuncType = refl
no_number ct n l g.AfterThen = refl
no_number ct n l (g.Group part) = refl
no_number ct n l (g.Types part) = refl
no_number ct n l (g.OneType part) = refl
no_number ct n l g.YieldType = refl
no_number ct n l g.ValueType = refl
no_number ct n l (g.AnIndex role) = rw l.u32 refl
no_number ct n l (g.AConst w label) = rw (l.fit w false) refl
no_number ct n l (g.AString what) = refl
no_number ct n l g.TableBody = rw l.u32 refl
no_number ct n l g.GlobalBody = refl
no_number ct n l (g.MemoryBody inline) = rw l.u32 refl
no_number ct n l (g.Pages inline) = rw l.u32 refl
no_number ct n l g.TableType = rw l.u32 refl
no_number ct n l g.GlobalType = refl
no_number ct n l g.TableMax = rw l.u32 refl
no_number ct n l g.MemoryMax = rw l.u32 refl
no_number ct n l g.Funcref = refl
no_number ct n l g.InlineElem = refl
no_number ct n l g.Items = rw l.u32 refl
no_number ct n l g.Strings = refl
no_number ct n l g.Expr = refl
no_number ct n l g.Offset = refl
no_number ct n l (g.SegmentHead role rest) = rw l.u32 refl
no_number ct n l g.ImportKind = refl
no_number ct n l g.ExportKind = refl
no_number ct n l g.CustomPlace = rw l.place refl
no_number true n l (g.Head true) = refl
no_number true n l (g.Head false) = refl
no_number false n l (g.Head true) = refl
no_number false n l (g.Head false) = refl
no_number ct n l (g.TypeHead true) = refl
no_number ct n l (g.TypeHead false) = refl
no_number ct n l (g.After tail.NoTail p) = refl
no_number ct n l (g.After tail.MayRepeat p) = refl
no_number ct n l (g.After tail.MayLabel p) = refl
no_number ct n l (g.After tail.MayYield p) = refl
no_number ct n l (g.After tail.MayOffset p) = refl
no_number ct n l (g.After tail.MayAlign p) = refl
no_number ct n l (g.After tail.MayTarget p) = rw l.u32 refl
no_number ct n l (g.After (tail.InUse locals stage) p) = refl
no_number ct n l (g.ExternHead Func b true) = refl
no_number ct n l (g.ExternHead Func b false) = refl
no_number ct n l (g.NamedType Func) = refl
no_number ct n l (g.ExternHead Table b true) = rw l.u32 refl
no_number ct n l (g.ExternHead Table b false) = rw l.u32 refl
no_number ct n l (g.NamedType Table) = rw l.u32 refl
no_number ct n l (g.ExternHead Memory b true) = rw l.u32 refl
no_number ct n l (g.ExternHead Memory b false) = rw l.u32 refl
no_number ct n l (g.NamedType Memory) = rw l.u32 refl
no_number ct n l (g.ExternHead Global b true) = refl
no_number ct n l (g.ExternHead Global b false) = refl
no_number ct n l (g.NamedType Global) = refl

no_signed : (ct : Bool) (neg : Bool) (n : ℕ) → Large n → (s : Sort) → move1 ct s (Signed neg n) ≡ None
no_signed ct neg n l g.Module = refl
no_signed ct neg n l (g.Fields b) = refl
no_signed ct neg n l g.Closing = refl
no_signed ct neg n l g.FuncType = refl
no_signed ct neg n l g.AfterThen = refl
no_signed ct neg n l (g.Group part) = refl
no_signed ct neg n l (g.Types part) = refl
no_signed ct neg n l (g.OneType part) = refl
no_signed ct neg n l g.YieldType = refl
no_signed ct neg n l g.ValueType = refl
no_signed ct neg n l (g.AnIndex role) = refl
no_signed ct neg n l (g.AConst w label) = rw (l.fit w neg) refl
no_signed ct neg n l (g.AString what) = refl
no_signed ct neg n l g.TableBody = refl
no_signed ct neg n l g.GlobalBody = refl
no_signed ct neg n l (g.MemoryBody inline) = refl
no_signed ct neg n l (g.Pages inline) = refl
no_signed ct neg n l g.TableType = refl
no_signed ct neg n l g.GlobalType = refl
no_signed ct neg n l g.TableMax = refl
no_signed ct neg n l g.MemoryMax = refl
no_signed ct neg n l g.Funcref = refl
no_signed ct neg n l g.InlineElem = refl
no_signed ct neg n l g.Items = refl
no_signed ct neg n l g.Strings = refl
no_signed ct neg n l g.Expr = refl
no_signed ct neg n l g.Offset = refl
no_signed ct neg n l (g.SegmentHead role rest) = refl
no_signed ct neg n l g.ImportKind = refl
no_signed ct neg n l g.ExportKind = refl
no_signed ct neg n l g.CustomPlace = refl
no_signed true neg n l (g.Head true) = refl
no_signed true neg n l (g.Head false) = refl
no_signed false neg n l (g.Head true) = refl
no_signed false neg n l (g.Head false) = refl
no_signed ct neg n l (g.TypeHead true) = refl
no_signed ct neg n l (g.TypeHead false) = refl
no_signed ct neg n l (g.After tail.NoTail p) = refl
no_signed ct neg n l (g.After tail.MayRepeat p) = refl
no_signed ct neg n l (g.After tail.MayLabel p) = refl
no_signed ct neg n l (g.After tail.MayYield p) = refl
no_signed ct neg n l (g.After tail.MayOffset p) = refl
no_signed ct neg n l (g.After tail.MayAlign p) = refl
no_signed ct neg n l (g.After tail.MayTarget p) = refl
no_signed ct neg n l (g.After (tail.InUse locals stage) p) = refl
no_signed ct neg n l (g.ExternHead Func b true) = refl
no_signed ct neg n l (g.ExternHead Func b false) = refl
no_signed ct neg n l (g.NamedType Func) = refl
no_signed ct neg n l (g.ExternHead Table b true) = refl
no_signed ct neg n l (g.ExternHead Table b false) = refl
no_signed ct neg n l (g.NamedType Table) = refl
no_signed ct neg n l (g.ExternHead Memory b true) = refl
no_signed ct neg n l (g.ExternHead Memory b false) = refl
no_signed ct neg n l (g.NamedType Memory) = refl
no_signed ct neg n l (g.ExternHead Global b true) = refl
no_signed ct neg n l (g.ExternHead Global b false) = refl
no_signed ct neg n l (g.NamedType Global) = refl

no_offset : (ct : Bool) (n : ℕ) → Large n → (s : Sort) → move1 ct s (OffsetIs n) ≡ None
no_offset ct n l g.Module = refl
no_offset ct n l (g.Fields b) = refl
no_offset ct n l g.Closing = refl
no_offset ct n l g.FuncType = refl
no_offset ct n l g.AfterThen = refl
no_offset ct n l (g.Group part) = refl
no_offset ct n l (g.Types part) = refl
no_offset ct n l (g.OneType part) = refl
no_offset ct n l g.YieldType = refl
no_offset ct n l g.ValueType = refl
no_offset ct n l (g.AnIndex role) = refl
no_offset ct n l (g.AConst w label) = refl
no_offset ct n l (g.AString what) = refl
no_offset ct n l g.TableBody = refl
no_offset ct n l g.GlobalBody = refl
no_offset ct n l (g.MemoryBody inline) = refl
no_offset ct n l (g.Pages inline) = refl
no_offset ct n l g.TableType = refl
no_offset ct n l g.GlobalType = refl
no_offset ct n l g.TableMax = refl
no_offset ct n l g.MemoryMax = refl
no_offset ct n l g.Funcref = refl
no_offset ct n l g.InlineElem = refl
no_offset ct n l g.Items = refl
no_offset ct n l g.Strings = refl
no_offset ct n l g.Expr = refl
no_offset ct n l g.Offset = refl
no_offset ct n l (g.SegmentHead role rest) = refl
no_offset ct n l g.ImportKind = refl
no_offset ct n l g.ExportKind = refl
no_offset ct n l g.CustomPlace = refl
no_offset true n l (g.Head true) = refl
no_offset true n l (g.Head false) = refl
no_offset false n l (g.Head true) = refl
no_offset false n l (g.Head false) = refl
no_offset ct n l (g.TypeHead true) = refl
no_offset ct n l (g.TypeHead false) = refl
no_offset ct n l (g.After tail.NoTail p) = refl
no_offset ct n l (g.After tail.MayRepeat p) = refl
no_offset ct n l (g.After tail.MayLabel p) = refl
no_offset ct n l (g.After tail.MayYield p) = refl
no_offset ct n l (g.After tail.MayOffset p) = rw l.u32 refl
no_offset ct n l (g.After tail.MayAlign p) = refl
no_offset ct n l (g.After tail.MayTarget p) = refl
no_offset ct n l (g.After (tail.InUse locals stage) p) = refl
no_offset ct n l (g.ExternHead Func b true) = refl
no_offset ct n l (g.ExternHead Func b false) = refl
no_offset ct n l (g.NamedType Func) = refl
no_offset ct n l (g.ExternHead Table b true) = refl
no_offset ct n l (g.ExternHead Table b false) = refl
no_offset ct n l (g.NamedType Table) = refl
no_offset ct n l (g.ExternHead Memory b true) = refl
no_offset ct n l (g.ExternHead Memory b false) = refl
no_offset ct n l (g.NamedType Memory) = refl
no_offset ct n l (g.ExternHead Global b true) = refl
no_offset ct n l (g.ExternHead Global b false) = refl
no_offset ct n l (g.NamedType Global) = refl

no_align : (ct : Bool) (n : ℕ) → Large n → (s : Sort) → move1 ct s (AlignIs n) ≡ None
no_align ct n l g.Module = refl
no_align ct n l (g.Fields b) = refl
no_align ct n l g.Closing = refl
no_align ct n l g.FuncType = refl
no_align ct n l g.AfterThen = refl
no_align ct n l (g.Group part) = refl
no_align ct n l (g.Types part) = refl
no_align ct n l (g.OneType part) = refl
no_align ct n l g.YieldType = refl
no_align ct n l g.ValueType = refl
no_align ct n l (g.AnIndex role) = refl
no_align ct n l (g.AConst w label) = refl
no_align ct n l (g.AString what) = refl
no_align ct n l g.TableBody = refl
no_align ct n l g.GlobalBody = refl
no_align ct n l (g.MemoryBody inline) = refl
no_align ct n l (g.Pages inline) = refl
no_align ct n l g.TableType = refl
no_align ct n l g.GlobalType = refl
no_align ct n l g.TableMax = refl
no_align ct n l g.MemoryMax = refl
no_align ct n l g.Funcref = refl
no_align ct n l g.InlineElem = refl
no_align ct n l g.Items = refl
no_align ct n l g.Strings = refl
no_align ct n l g.Expr = refl
no_align ct n l g.Offset = refl
no_align ct n l (g.SegmentHead role rest) = refl
no_align ct n l g.ImportKind = refl
no_align ct n l g.ExportKind = refl
no_align ct n l g.CustomPlace = refl
no_align true n l (g.Head true) = refl
no_align true n l (g.Head false) = refl
no_align false n l (g.Head true) = refl
no_align false n l (g.Head false) = refl
no_align ct n l (g.TypeHead true) = refl
no_align ct n l (g.TypeHead false) = refl
no_align ct n l (g.After tail.NoTail p) = refl
no_align ct n l (g.After tail.MayRepeat p) = refl
no_align ct n l (g.After tail.MayLabel p) = refl
no_align ct n l (g.After tail.MayYield p) = refl
no_align ct n l (g.After tail.MayOffset p) = rw l.exponent refl
no_align ct n l (g.After tail.MayAlign p) = rw l.exponent refl
no_align ct n l (g.After tail.MayTarget p) = refl
no_align ct n l (g.After (tail.InUse locals stage) p) = refl
no_align ct n l (g.ExternHead Func b true) = refl
no_align ct n l (g.ExternHead Func b false) = refl
no_align ct n l (g.NamedType Func) = refl
no_align ct n l (g.ExternHead Table b true) = refl
no_align ct n l (g.ExternHead Table b false) = refl
no_align ct n l (g.NamedType Table) = refl
no_align ct n l (g.ExternHead Memory b true) = refl
no_align ct n l (g.ExternHead Memory b false) = refl
no_align ct n l (g.NamedType Memory) = refl
no_align ct n l (g.ExternHead Global b true) = refl
no_align ct n l (g.ExternHead Global b false) = refl
no_align ct n l (g.NamedType Global) = refl

value_signed : (s : Sort) (neg : Bool) (m n : ℕ) → takes_value s (Signed neg m) ≡ takes_value s (Signed neg n)
value_signed (g.AConst w l) neg m n = refl
value_signed _ neg m n = refl

value_offset : (s : Sort) (m n : ℕ) → takes_value s (OffsetIs m) ≡ takes_value s (OffsetIs n)
value_offset (g.After tail.MayOffset p) m n = refl
value_offset _ m n = refl

value_align : (s : Sort) (m n : ℕ) → takes_value s (AlignIs m) ≡ takes_value s (AlignIs n)
value_align (g.After tail.MayOffset p) m n = refl
value_align (g.After tail.MayAlign p) m n = refl
value_align _ m n = refl

-- a number as it is, or two that are too large
either_way : (P : ℕ → Type 0) (n : ℕ) → (nat_lt n (2 ^ 64) ≡ true → P n) → (2 ^ 64 ≤ n → P (2 ^ 64)) → P (cut n)
either_way P n small big = by (nat_lt n (2 ^ 64)) refl
  where
    ge : nat_lt n (2 ^ 64) ≡ false → 2 ^ 64 ≤ n
    ge q = grind (arith, nat_tests)

    by : (t : Bool) → nat_lt n (2 ^ 64) ≡ t → P (cut n)
    by true q =
        let l : n < 2 ^ 64 = ltb-true n (2 ^ 64) q in
        let e : cut n ≡ n = min-eq_left (omega arith) in
        subst P (sym e) (small q)
    by false q =
        let e : cut n ≡ 2 ^ 64 = min-eq_right (ge q) in
        subst P (sym e) (big (ge q))

most : Large (2 ^ 64)
most = large (2 ^ 64) (omega arith)

step_cut : (ct : Bool) (s : Sort) (t : Tok) (ts : List Tok) → step ct s (cut_tok t) (map cut_tok ts) ≡ step ct s t ts
step_cut ct s (Open at) ts = behind ts
  where
    behind : (ts : List Tok) → step ct s (Open at) (map cut_tok ts) ≡ step ct s (Open at) ts
    behind [] = refl
    behind (Open p ∷ ts) = refl
    behind (Close ∷ ts) = refl
    behind (Text b ∷ ts) = refl
    behind (Id w ∷ ts) = refl
    behind (Num n ∷ ts) = refl
    behind (Signed neg n ∷ ts) = refl
    behind (OffsetIs n ∷ ts) = refl
    behind (AlignIs n ∷ ts) = refl
    behind (Word key ∷ ts) = refl
    behind (Floats ∷ ts) = refl
    behind (Other ∷ ts) = refl
step_cut ct s Close ts = refl
step_cut ct s (Text b) ts = refl
step_cut ct s (Id w) ts = refl
step_cut ct s (Num n) ts =
    either_way (λ (m : ℕ). step ct s (Num m) (map cut_tok ts) ≡ step ct s (Num n) ts) n (λ q. refl)
    (λ h. rw (no_number ct (2 ^ 64) most s, no_number ct n (large n h) s) refl)
step_cut ct s (Signed neg n) ts =
    either_way (λ (m : ℕ). step ct s (Signed neg m) (map cut_tok ts) ≡ step ct s (Signed neg n) ts) n (λ q. refl)
    (λ h. rw (no_signed ct neg (2 ^ 64) most s, no_signed ct neg n (large n h) s, value_signed s neg (2 ^ 64) n) refl)
step_cut ct s (OffsetIs n) ts =
    either_way (λ (m : ℕ). step ct s (OffsetIs m) (map cut_tok ts) ≡ step ct s (OffsetIs n) ts) n (λ q. refl)
    (λ h. rw (no_offset ct (2 ^ 64) most s, no_offset ct n (large n h) s, value_offset s (2 ^ 64) n) refl)
step_cut ct s (AlignIs n) ts =
    either_way (λ (m : ℕ). step ct s (AlignIs m) (map cut_tok ts) ≡ step ct s (AlignIs n) ts) n (λ q. refl)
    (λ h. rw (no_align ct (2 ^ 64) most s, no_align ct n (large n h) s, value_align s (2 ^ 64) n) refl)
step_cut ct s (Word key) ts = refl
step_cut ct s Floats ts = refl
step_cut ct s Other ts = refl

gone : (ct : Bool) (at : ℕ) (st : List Sort) (ts : List Tok) → ((skip : ℕ) (st : List Sort) → run ct skip (at + 1) st (map cut_tok ts) ≡ run ct skip (at + 1) st ts)
    → (x : Step) → go x at st (λ n st. run ct n (at + 1) st (map cut_tok ts)) ≡ go x at st (λ n st. run ct n (at + 1) st ts)
gone ct at st ts rest (Stuck kind) = refl
gone ct at st ts rest (StuckBehind kind) = refl
gone ct at st ts rest (Takes1 m) = ap (λ r. write m.out r) (rest 0 (m.next ++ st))
gone ct at st ts rest (Takes2 m) = ap (λ r. write m.out r) (rest 1 (m.next ++ st))

run_cut : (ct : Bool) (ts : List Tok) (skip at : ℕ) (st : List Sort) → run ct skip at st (map cut_tok ts) ≡ run ct skip at st ts
run_cut ct [] skip at [] = refl
run_cut ct [] skip at (s ∷ st) = refl
run_cut ct (t ∷ ts) (suc n) at st = run_cut ct ts n (at + 1) st
run_cut ct (t ∷ ts) zero at [] = refl
run_cut ct (t ∷ ts) zero at (s ∷ st) =
    rw (step_cut ct s t ts) (gone ct at st ts (λ skip st. run_cut ct ts skip (at + 1) st) (step ct s t ts))

pub spelled_cut : (ts : List Tok) → run (is_ct ts) 0 0 (g.Module ∷ []) (map cut_tok ts) ≡ spelled ts
spelled_cut ts = run_cut (is_ct ts) ts 0 0 (g.Module ∷ [])
