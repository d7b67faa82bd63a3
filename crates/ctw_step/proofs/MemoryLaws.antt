-- Loads, stores, sizes and growth of memories, and globals.
use Rattle.std.specs.Prelude.{if◌then◌else◌}
use Rattle.std.proofs.Common.{◌≡◌, ◌≢◌, ℕ, ◌+◌, ◌<◌, ◌^◌, Bool, true, false, nat_le, List, [], ◌∷◌, ◌++◌, length, Option, Some, None, slice_get, refl, sym, ap, ◌∙◌, subst, arith}
use Rattle.std.proofs.lemmas.Bool.Decides.{nat_tests}
use Rattle.std.proofs.lemmas.Option.{slice_get_within}
use Rattle.ctw_ops.specs.declared.types.Label.{Label}
use Rattle.ctw_ops.specs.declared.types.Width.{Width}
use Rattle.ctw_ops.specs.Types.{ValueType, value_type, FitsWidth}
use Rattle.ctw_ops.specs.Equal.{same_label}
use Rattle.ctw_ops.specs.Code as ops
use Rattle.ctw_ops.specs.Code.{Code, Then, Leaf}
use Rattle.ctw_flat.specs.declared.instr.Instr.{Instr}
use Rattle.ctw_flat.specs.declared.instr.Instr.TheVariants as instr
use Rattle.ctw_script.specs.declared.trap.TrapCode.TheVariants.{MemoryBounds}
use Rattle.ctw_script.specs.declared.event.Event.{Event}
use Rattle.ctw_script.specs.declared.event.Event.TheVariants as Events
use Rattle.ctw_semantics.specs.Values.{Value, value, i32}
use Rattle.ctw_semantics.specs.Stores.{Global, Storage, Memory, number_at, bytes_of_number, written_at, with_bytes, with_number, pages, may_grow, grown}
use Rattle.ctw_semantics.specs.Instances.{FunctionInstance, Functions}
use Rattle.ctw_semantics.specs.Answers.{Answer, Goes, Trapped, Stuck, Reduced, given}
use Rattle.ctw_semantics.specs.Machine as Machine
use Rattle.ctw_semantics.specs.Machine.{Here, put, memory_of}
use Rattle.ctw_step.specs.declared.running.Stepped.{Stepped}
use Rattle.ctw_step.specs.declared.running.Stepped.TheVariants as Steppeds
use Rattle.ctw_step.specs.Shown.{Shown}
use Rattle.ctw_step.specs.Stands.{Codes, numbers}
use Rattle.ctw_step.specs.Told.{Tells, Meets, AllFit, Loaded, Stored, Grew, with_operands}
use Rattle.ctw_step.proofs.Inside.{under, operands_are}
use Rattle.ctw_step.proofs.Numbers.{numbers_push, numbers_top, numbers_two}
use Rattle.ctw_step.proofs.Views.{noted, given_is, provided_is, popped, AtLeaf, leaf_view, last_is, went_with, trapped}

-- ---- what is there

pub record AtMemory (fn : FunctionInstance) (s : Storage) (mem : ℕ) (go : ℕ → Memory → Reduced) : Type 0 where
  pub m : Memory
  pub is : slice_get s.memories mem ≡ Some m
  pub gives : memory_of fn s go ≡ go mem m
  pub going : (go mem m).answer ≢ Stuck

pub memory_at : (fn : FunctionInstance) (s : Storage) (mem : ℕ) (go : ℕ → Memory → Reduced) → fn.part.memory ≡ Some mem → (memory_of fn s go).answer ≢ Stuck → AtMemory fn s mem go
memory_at fn s mem go k n =
    let q : memory_of fn s go ≡ given (slice_get s.memories mem) (go mem) = ap (λ (o : Option ℕ). given o (λ i. given (slice_get s.memories i) (go i))) k in
    let g = given_is (slice_get s.memories mem) (go mem) (subst (λ (x : Reduced). x.answer ≢ Stuck) q n) in
    record { m = g.x; is = g.is; gives = q ∙ g.gives; going = g.going }

pub memory_within : (s : Storage) (mem : ℕ) (m : Memory) → slice_get s.memories mem ≡ Some m → mem < length s.memories
memory_within s mem m e = slice_get_within s.memories mem m e

module _ (codes : Codes) (bytes : List ℕ) (c : Shown) (next : ℕ) (fns : Functions) (fn : FunctionInstance) (s : Storage) (h : Here) (code : Code Label) (vs : List Value) where
  abbrev Told : Storage → Shown → Stepped → Type 0
  Told s' c' r = Tells codes s' c' r (Machine.next fns fn s h code vs).answer (Machine.next fns fn s h code vs).event

  abbrev Met' : Instr → Type 0
  Met' i = Meets codes bytes c i next fns fn s h code vs

  abbrev Here' : Leaf Label → Type 0
  Here' l = AtLeaf codes bytes c next fns fn s h code vs l

  abbrev small_i32 : (v : Value) → v.type ≡ i32 → FitsWidth v.type.width v.number → v.number < 2 ^ 32
  small_i32 v t f = subst (λ (u : ValueType Label). FitsWidth u.width v.number) t f

  -- an answer that a test decides
  abbrev decided : Bool → Answer → Answer
  decided b inside = if b then inside else Trapped MemoryBounds

  -- ---- loads

  pub record LoadMet (mem : ℕ) (w : Width) (l : Label) (count : ℕ) (signed : Bool) (align offset : ℕ) : Type 0 where
    pub at : Here' (ops.Load w l count signed align offset)
    pub m : Memory
    pub v : Value
    pub below : List Value
    pub found : slice_get s.memories mem ≡ Some m
    pub are : c.operands ≡ (under h ++ numbers below) ++ v.number ∷ []
    pub small : v.number < 2 ^ 32
    pub gives : Machine.next fns fn s h (Then (ops.Load w l count signed align offset) at.rest) vs ≡ noted (Some (Events.Load mem (v.number + offset) count))
        (decided (nat_le (v.number + offset + count) (length m.bytes)) (Goes s (put h at.rest (value (value_type w l) (number_at w signed count (v.number + offset) m.bytes) ∷ below))))

  pub load_met : (mem : ℕ) (w : Width) (l : Label) (count : ℕ) (signed : Bool) (align offset : ℕ) → fn.part.memory ≡ Some mem → Met' (instr.Load w l count signed align offset) → LoadMet mem w l count signed align offset
  load_met mem w l count signed align offset k m =
      let i = ops.Load w l count signed align offset in
      let a = leaf_view codes bytes c next fns fn s h code vs (instr.Load w l count signed align offset) i refl m in
      let g = memory_at fn s mem _ k a.going in
      let b = provided_is (same_label l g.m.type.tag) _ g.going in
      let p = popped i32 vs _ b.going in
      let f : AllFit (p.v ∷ p.below) = subst AllFit p.are m.fits in
      record {
        at = a;
        m = g.m;
        v = p.v;
        below = p.below;
        found = g.is;
        are = last_is codes bytes c next fns fn s h code vs i a p.v p.below p.are;
        small = small_i32 p.v p.typed f.0;
        gives = g.gives ∙ b.gives ∙ p.gives;
      }

  pub load_done : (mem : ℕ) (w : Width) (l : Label) (count : ℕ) (signed : Bool) (align offset : ℕ) (x : LoadMet mem w l count signed align offset) (r : Stepped) (c' : Shown)
      → Loaded c (under h ++ numbers x.below) w signed count (x.v.number + offset) x.m mem next r c' → Told s c' r
  load_done mem w l count signed align offset x r c' f = go (nat_le (x.v.number + offset + count) (length x.m.bytes)) refl
    where
      i : Leaf Label
      i = ops.Load w l count signed align offset

      e : Option Event
      e = Some (Events.Load mem (x.v.number + offset) count)

      n : ℕ
      n = number_at w signed count (x.v.number + offset) x.m.bytes

      u : Value
      u = value (value_type w l) n

      go : (b : Bool) → nat_le (x.v.number + offset + count) (length x.m.bytes) ≡ b → Told s c' r
      go true q =
          let y = f.inside (grind (arith, nat_tests, q)) in
          subst (λ r. Told s c' r) (sym y.0)
          (went_with codes bytes c next fns fn s h code vs i x.at c' e s (u ∷ x.below) ((under h ++ numbers x.below) ++ n ∷ [])
          (x.gives ∙ ap (λ b. noted e (decided b (Goes s (put h x.at.rest (u ∷ x.below))))) q) y.1 (numbers_push (under h) u x.below))
      go false q =
          subst (λ r. Told s c' r) (sym (f.outside (grind (arith, nat_tests, q))))
          (trapped codes bytes c next fns fn s h code vs i x.at c' e s MemoryBounds (x.gives ∙ ap (λ b. noted e (decided b (Goes s (put h x.at.rest (u ∷ x.below))))) q))

  -- ---- stores

  pub record StoreMet (mem : ℕ) (w : Width) (l : Label) (count align offset : ℕ) : Type 0 where
    pub at : Here' (ops.Store w l count align offset)
    pub m : Memory
    pub v : Value
    pub w' : Value
    pub below : List Value
    pub found : slice_get s.memories mem ≡ Some m
    pub are : c.operands ≡ (under h ++ numbers below) ++ v.number ∷ w'.number ∷ []
    pub small : v.number < 2 ^ 32
    pub gives : Machine.next fns fn s h (Then (ops.Store w l count align offset) at.rest) vs ≡ noted (Some (Events.Store mem (v.number + offset) count))
        (decided (nat_le (v.number + offset + count) (length m.bytes)) (Goes (with_bytes s mem m (written_at (v.number + offset) (bytes_of_number count w'.number) m.bytes)) (put h at.rest below)))

  pub store_met : (mem : ℕ) (w : Width) (l : Label) (count : ℕ) (signed : Bool) (align offset : ℕ) → fn.part.memory ≡ Some mem → Met' (instr.Store w l count signed align offset) → StoreMet mem w l count align offset
  store_met mem w l count signed align offset k m =
      let i = ops.Store w l count align offset in
      let a = leaf_view codes bytes c next fns fn s h code vs (instr.Store w l count signed align offset) i refl m in
      let g = memory_at fn s mem _ k a.going in
      let b = provided_is (same_label l g.m.type.tag) _ g.going in
      let p = popped (value_type w l) vs _ b.going in
      let r = popped i32 p.below _ p.going in
      let f : AllFit (p.v ∷ p.below) = subst AllFit p.are m.fits in
      let f' : AllFit (r.v ∷ r.below) = subst AllFit r.are f.1 in
      let t = last_is codes bytes c next fns fn s h code vs i a p.v p.below p.are in
      record {
        at = a;
        m = g.m;
        v = r.v;
        w' = p.v;
        below = r.below;
        found = g.is;
        are = t ∙ ap (λ vs. (under h ++ numbers vs) ++ p.v.number ∷ []) r.are ∙ sym (numbers_top (under h) p.v (r.v ∷ r.below)) ∙ numbers_two (under h) p.v r.v r.below;
        small = small_i32 r.v r.typed f'.0;
        gives = g.gives ∙ b.gives ∙ p.gives ∙ r.gives;
      }

  pub store_done : (mem : ℕ) (w : Width) (l : Label) (count align offset : ℕ) (x : StoreMet mem w l count align offset) (r : Stepped) (c' : Shown) (s' : Storage)
      → Stored c (under h ++ numbers x.below) count (x.v.number + offset) x.w'.number s x.m mem next r c' s' → Told s' c' r
  store_done mem w l count align offset x r c' s' f = go (nat_le (x.v.number + offset + count) (length x.m.bytes)) refl
    where
      i : Leaf Label
      i = ops.Store w l count align offset

      e : Option Event
      e = Some (Events.Store mem (x.v.number + offset) count)

      t : Storage
      t = with_bytes s mem x.m (written_at (x.v.number + offset) (bytes_of_number count x.w'.number) x.m.bytes)

      go : (b : Bool) → nat_le (x.v.number + offset + count) (length x.m.bytes) ≡ b → Told s' c' r
      go true q =
          let y = f.inside (grind (arith, nat_tests, q)) in
          subst (λ r. Told s' c' r) (sym y.0) (subst (λ s'. Told s' c' (Steppeds.Went e)) (sym y.2)
          (went_with codes bytes c next fns fn s h code vs i x.at c' e t x.below (under h ++ numbers x.below)
          (x.gives ∙ ap (λ b. noted e (decided b (Goes t (put h x.at.rest x.below)))) q) y.1 refl))
      go false q =
          subst (λ r. Told s' c' r) (sym (f.outside (grind (arith, nat_tests, q))))
          (trapped codes bytes c next fns fn s h code vs i x.at c' e s' MemoryBounds (x.gives ∙ ap (λ b. noted e (decided b (Goes t (put h x.at.rest x.below)))) q))

  -- ---- sizes

  pub record SizeMet (mem : ℕ) : Type 0 where
    pub at : Here' ops.MemorySize
    pub m : Memory
    pub found : slice_get s.memories mem ≡ Some m
    pub gives : Machine.next fns fn s h (Then ops.MemorySize at.rest) vs ≡ noted None (Goes s (put h at.rest (value i32 (pages m) ∷ vs)))

  pub size_met : (mem : ℕ) → fn.part.memory ≡ Some mem → Met' instr.MemorySize → SizeMet mem
  size_met mem k m =
      let a = leaf_view codes bytes c next fns fn s h code vs instr.MemorySize ops.MemorySize refl m in
      let g = memory_at fn s mem _ k a.going in
      record { at = a; m = g.m; found = g.is; gives = g.gives }

  pub size_done : (mem : ℕ) (x : SizeMet mem) (n : ℕ) → n ≡ pages x.m → (c' : Shown) → c' ≡ with_operands c (c.operands ++ n ∷ []) next → Told s c' (Steppeds.Went None)
  size_done mem x n en c' e =
      let u : Value = value i32 (pages x.m) in
      went_with codes bytes c next fns fn s h code vs ops.MemorySize x.at c' None s (u ∷ vs) (c.operands ++ n ∷ []) x.gives e
      (ap (λ n. c.operands ++ n ∷ []) en ∙ ap (λ l. l ++ u.number ∷ []) (operands_are codes c h (Then ops.MemorySize x.at.rest) vs x.at.inner) ∙ numbers_push (under h) u vs)

  pub record GrowMet (mem : ℕ) : Type 0 where
    pub at : Here' ops.MemoryGrow
    pub m : Memory
    pub v : Value
    pub below : List Value
    pub found : slice_get s.memories mem ≡ Some m
    pub are : c.operands ≡ (under h ++ numbers below) ++ v.number ∷ []
    pub small : v.number < 2 ^ 32
    pub gives : Machine.next fns fn s h (Then ops.MemoryGrow at.rest) vs ≡ noted (Some (Events.Grow v.number))
        (if may_grow s m v.number then Goes (with_bytes s mem m (grown m v.number)) (put h at.rest (value i32 (pages m) ∷ below)) else Goes s (put h at.rest (value i32 4294967295 ∷ below)))

  pub grow_met : (mem : ℕ) → fn.part.memory ≡ Some mem → Met' instr.MemoryGrow → GrowMet mem
  grow_met mem k m =
      let a = leaf_view codes bytes c next fns fn s h code vs instr.MemoryGrow ops.MemoryGrow refl m in
      let g = memory_at fn s mem _ k a.going in
      let p = popped i32 vs _ g.going in
      let f : AllFit (p.v ∷ p.below) = subst AllFit p.are m.fits in
      record { at = a; m = g.m; v = p.v; below = p.below; found = g.is; are = last_is codes bytes c next fns fn s h code vs ops.MemoryGrow a p.v p.below p.are; small = small_i32 p.v p.typed f.0; gives = g.gives ∙ p.gives }

  pub grow_done : (mem : ℕ) (x : GrowMet mem) (count n : ℕ) (c' : Shown) (s' : Storage) → count ≡ x.v.number → Grew s mem x.m count n s' → c' ≡ with_operands c ((under h ++ numbers x.below) ++ n ∷ []) next
      → Told s' c' (Steppeds.Went (Some (Events.Grow count)))
  grow_done mem x count n c' s' ec g e = subst (λ k. Told s' c' (Steppeds.Went (Some (Events.Grow k)))) (sym ec) (go (may_grow s x.m x.v.number) refl)
    where
      g' : Grew s mem x.m x.v.number n s'
      g' = subst (λ k. Grew s mem x.m k n s') ec g

      ev : Option Event
      ev = Some (Events.Grow x.v.number)

      larger : Answer
      larger = Goes (with_bytes s mem x.m (grown x.m x.v.number)) (put h x.at.rest (value i32 (pages x.m) ∷ x.below))

      other : Answer
      other = Goes s (put h x.at.rest (value i32 4294967295 ∷ x.below))

      went_to : (s1 : Storage) (k : ℕ) → s' ≡ s1 → n ≡ k → Machine.next fns fn s h (Then ops.MemoryGrow x.at.rest) vs ≡ noted ev (Goes s1 (put h x.at.rest (value i32 k ∷ x.below))) → Told s' c' (Steppeds.Went ev)
      went_to s1 k es en q =
          subst (λ s'. Told s' c' (Steppeds.Went ev)) (sym es)
          (went_with codes bytes c next fns fn s h code vs ops.MemoryGrow x.at c' ev s1 (value i32 k ∷ x.below) ((under h ++ numbers x.below) ++ n ∷ []) q e
          (ap (λ n. (under h ++ numbers x.below) ++ n ∷ []) en ∙ numbers_push (under h) (value i32 k) x.below))

      go : (b : Bool) → may_grow s x.m x.v.number ≡ b → Told s' c' (Steppeds.Went ev)
      go true q = went_to (with_bytes s mem x.m (grown x.m x.v.number)) (pages x.m) (g'.1 ∙ ap (λ (b : Bool). if b then with_bytes s mem x.m (grown x.m x.v.number) else s) q) (g'.0 ∙ ap (λ (b : Bool). if b then pages x.m else 4294967295) q)
          (x.gives ∙ ap (λ (b : Bool). noted ev (if b then larger else other)) q)
      go false q = went_to s 4294967295 (g'.1 ∙ ap (λ (b : Bool). if b then with_bytes s mem x.m (grown x.m x.v.number) else s) q) (g'.0 ∙ ap (λ (b : Bool). if b then pages x.m else 4294967295) q)
          (x.gives ∙ ap (λ (b : Bool). noted ev (if b then larger else other)) q)

  -- ---- globals

  pub record GetMet (x global : ℕ) : Type 0 where
    pub at : Here' (ops.GlobalGet x)
    pub g : Global
    pub found : slice_get s.globals global ≡ Some g
    pub gives : Machine.next fns fn s h (Then (ops.GlobalGet x) at.rest) vs ≡ noted None (Goes s (put h at.rest (g.value ∷ vs)))

  pub get_met : (x global : ℕ) → slice_get fn.part.globals x ≡ Some global → Met' (instr.GlobalGet x) → GetMet x global
  get_met x global k m =
      let a = leaf_view codes bytes c next fns fn s h code vs (instr.GlobalGet x) (ops.GlobalGet x) refl m in
      let q : Machine.next fns fn s h (Then (ops.GlobalGet x) a.rest) vs ≡ given (slice_get s.globals global) (λ g. noted None (Goes s (put h a.rest (g.value ∷ vs)))) = ap (λ (o : Option ℕ). given o (λ i. given (slice_get s.globals i) (λ g. noted None (Goes s (put h a.rest (g.value ∷ vs)))))) k in
      let g = given_is (slice_get s.globals global) _ (subst (λ (x : Reduced). x.answer ≢ Stuck) q a.going) in
      record { at = a; g = g.x; found = g.is; gives = q ∙ g.gives }

  pub get_done : (x global : ℕ) (y : GetMet x global) (n : ℕ) → n ≡ y.g.value.number → (c' : Shown) → c' ≡ with_operands c (c.operands ++ n ∷ []) next → Told s c' (Steppeds.Went None)
  get_done x global y n en c' e =
      let u : Value = y.g.value in
      went_with codes bytes c next fns fn s h code vs (ops.GlobalGet x) y.at c' None s (u ∷ vs) (c.operands ++ n ∷ []) y.gives e
      (ap (λ n. c.operands ++ n ∷ []) en ∙ ap (λ l. l ++ u.number ∷ []) (operands_are codes c h (Then (ops.GlobalGet x) y.at.rest) vs y.at.inner) ∙ numbers_push (under h) u vs)

  pub record SetMet (x global : ℕ) : Type 0 where
    pub at : Here' (ops.GlobalSet x)
    pub g : Global
    pub v : Value
    pub below : List Value
    pub found : slice_get s.globals global ≡ Some g
    pub are : c.operands ≡ (under h ++ numbers below) ++ v.number ∷ []
    pub gives : Machine.next fns fn s h (Then (ops.GlobalSet x) at.rest) vs ≡ noted None (Goes (with_number s global g v.number) (put h at.rest below))

  pub set_met : (x global : ℕ) → slice_get fn.part.globals x ≡ Some global → Met' (instr.GlobalSet x) → SetMet x global
  set_met x global k m =
      let a = leaf_view codes bytes c next fns fn s h code vs (instr.GlobalSet x) (ops.GlobalSet x) refl m in
      let p = given_is (slice_get fn.part.globals x) _ a.going in
      let g = given_is (slice_get s.globals p.x) _ p.going in
      let b = provided_is g.x.mutable _ g.going in
      let v = popped g.x.value.type vs _ b.going in
      let w : Some p.x ≡ Some global = sym p.is ∙ k in
      let same : p.x ≡ global = cc in
      record {
        at = a;
        g = g.x;
        v = v.v;
        below = v.below;
        found = ap (slice_get s.globals) (sym same) ∙ g.is;
        are = last_is codes bytes c next fns fn s h code vs (ops.GlobalSet x) a v.v v.below v.are;
        gives = p.gives ∙ g.gives ∙ b.gives ∙ v.gives ∙ ap (λ i. noted None (Goes (with_number s i g.x v.v.number) (put h a.rest v.below))) same;
      }

  pub set_done : (x global : ℕ) (y : SetMet x global) (c' : Shown) (s' : Storage) → s' ≡ with_number s global y.g y.v.number → c' ≡ with_operands c (under h ++ numbers y.below) next → Told s' c' (Steppeds.Went None)
  set_done x global y c' s' es e =
      subst (λ s'. Told s' c' (Steppeds.Went None)) (sym es)
      (went_with codes bytes c next fns fn s h code vs (ops.GlobalSet x) y.at c' None (with_number s global y.g y.v.number) y.below (under h ++ numbers y.below) y.gives e refl)
