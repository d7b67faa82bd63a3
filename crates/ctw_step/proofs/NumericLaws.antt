-- Numeric operations.
use Rattle.std.proofs.Common.{◌≡◌, ◌≢◌, ◌⊎◌, inl, inr, ℕ, zero, suc, ◌<◌, Bool, true, false, List, [], ◌∷◌, ◌++◌, length, Option, Some, None, Result, Ok, Err, refl, sym, ap, ◌∙◌, subst, arith, length-append}
use Rattle.ctw_ops.specs.declared.types.Label.{Label}
use Rattle.ctw_ops.specs.declared.types.Label.TheVariants.{Public}
use Rattle.ctw_ops.specs.declared.numeric.NumSig.{NumSig}
use Rattle.ctw_ops.specs.Types.{ValueType, value_type, FitsWidth}
use Rattle.ctw_ops.specs.Equal.{same_label}
use Rattle.ctw_ops.specs.Numeric.{num_sig_of, leaks}
use Rattle.ctw_ops.specs.Code as ops
use Rattle.ctw_ops.specs.Code.{Code, Then}
use Rattle.ctw_num.specs.declared.trap.NumTrap.{NumTrap}
use Rattle.ctw_num.specs.Values.{value1, value2}
use Rattle.ctw_flat.specs.declared.instr.Instr.TheVariants as instr
use Rattle.ctw_script.specs.declared.event.Event.{Event}
use Rattle.ctw_script.specs.declared.event.Event.TheVariants as Events
use Rattle.ctw_semantics.specs.Values.{Value, value}
use Rattle.ctw_semantics.specs.Stores.{Storage}
use Rattle.ctw_semantics.specs.Instances.{FunctionInstance, Functions}
use Rattle.ctw_semantics.specs.Answers.{Answer, Goes, Stuck, Reduced, quiet, noting}
use Rattle.ctw_semantics.specs.Machine as Machine
use Rattle.ctw_semantics.specs.Machine.{Here, put, numeric, showing, outcome, trap_of}
use Rattle.ctw_step.specs.declared.running.Stepped.{Stepped}
use Rattle.ctw_step.specs.declared.running.Stepped.TheVariants as Steppeds
use Rattle.ctw_step.specs.Shown.{Shown}
use Rattle.ctw_step.specs.Stands.{Codes, numbers}
use Rattle.ctw_step.specs.Told.{Tells, Meets, AllFit, Computed, shown_division, with_operands}
use Rattle.ctw_step.proofs.Inside.{under}
use Rattle.ctw_step.proofs.Numbers.{numbers_push, numbers_top, numbers_two}
use Rattle.ctw_step.proofs.Views.{noted, given_is, provided_is, popped, AtLeaf, leaf_view, last_is, went_with, trapped}

-- a value that fits, by the type that it has
fits_at : (v : Value) (t : ValueType Label) → v.type ≡ t → FitsWidth v.type.width v.number → FitsWidth t.width v.number
fits_at v t e f = subst (λ (t : ValueType Label). FitsWidth t.width v.number) e f

module _ (codes : Codes) (bytes : List ℕ) (c : Shown) (next : ℕ) (fns : Functions) (fn : FunctionInstance) (s : Storage) (h : Here) (code : Code Label) (vs : List Value) (op : ℕ) (l : Label) (m : Meets codes bytes c (instr.Numeric op l) next fns fn s h code vs) (sig : NumSig) (known : num_sig_of op ≡ Some sig) where
  abbrev Told : Shown → Stepped → Type 0
  Told c' r = Tells codes s c' r (Machine.next fns fn s h code vs).answer (Machine.next fns fn s h code vs).event

  abbrev Here' : Type 0
  Here' = AtLeaf codes bytes c next fns fn s h code vs (ops.Numeric op l)

  pub here : Here'
  here = leaf_view codes bytes c next fns fn s h code vs (instr.Numeric op l) (ops.Numeric op l) refl m

  -- the reduction, by the signature
  by_sig : Machine.next fns fn s h (Then (ops.Numeric op l) here.rest) vs ≡ numeric fn.part.profile s h here.rest op l sig sig.arity vs
  by_sig =
      let g = given_is (num_sig_of op) _ here.going in
      let q : Some g.x ≡ Some sig = sym g.is ∙ known in
      let same : g.x ≡ sig = cc in
      g.gives ∙ ap (λ (sig : NumSig). numeric fn.part.profile s h here.rest op l sig sig.arity vs) same

  going : (numeric fn.part.profile s h here.rest op l sig sig.arity vs).answer ≢ Stuck
  going = subst (λ (x : Reduced). x.answer ≢ Stuck) by_sig here.going

  -- it has one operand or two
  pub arity_is : (sig.arity ≡ 1) ⊎ (sig.arity ≡ 2)
  arity_is = go sig.arity refl going
    where
      go : (k : ℕ) → sig.arity ≡ k → (numeric fn.part.profile s h here.rest op l sig k vs).answer ≢ Stuck → (sig.arity ≡ 1) ⊎ (sig.arity ≡ 2)
      go zero e n = absurd (n refl)
      go (suc zero) e n = inl e
      go (suc (suc zero)) e n = inr e
      go (suc (suc (suc k))) e n = absurd (n refl)

  pub record One : Type 0 where
    pub v : Value
    pub below : List Value
    pub n : ℕ
    pub are : c.operands ≡ (under h ++ numbers below) ++ v.number ∷ []
    pub fits : FitsWidth sig.operand v.number
    pub is : value1 op v.number ≡ Some n
    pub gives : Machine.next fns fn s h (Then (ops.Numeric op l) here.rest) vs ≡ quiet (Goes s (put h here.rest (value (value_type sig.result l) n ∷ below)))

  pub one : sig.arity ≡ 1 → One
  one e =
      let q : numeric fn.part.profile s h here.rest op l sig sig.arity vs ≡ numeric fn.part.profile s h here.rest op l sig 1 vs = ap (λ k. numeric fn.part.profile s h here.rest op l sig k vs) e in
      let p = popped (value_type sig.operand l) vs _ (subst (λ (x : Reduced). x.answer ≢ Stuck) q going) in
      let g = given_is (value1 op p.v.number) _ p.going in
      let f : AllFit (p.v ∷ p.below) = subst AllFit p.are m.fits in
      record {
        v = p.v;
        below = p.below;
        n = g.x;
        are = last_is codes bytes c next fns fn s h code vs (ops.Numeric op l) here p.v p.below p.are;
        fits = fits_at p.v (value_type sig.operand l) p.typed f.0;
        is = g.is;
        gives = by_sig ∙ q ∙ p.gives ∙ g.gives;
      }

  pub one_there : (o : One) → 0 < length c.operands
  one_there o = omega (arith, ap length o.are, length-append (under h ++ numbers o.below) (o.v.number ∷ []))

  pub one_done : (o : One) (c' : Shown) → ((front : List ℕ) (x n : ℕ) → c.operands ≡ front ++ x ∷ [] → value1 op x ≡ Some n → c' ≡ with_operands c (front ++ n ∷ []) next) → Told c' (Steppeds.Went None)
  one_done o c' f =
      let u : Value = value (value_type sig.result l) o.n in
      went_with codes bytes c next fns fn s h code vs (ops.Numeric op l) here c' None s (u ∷ o.below) ((under h ++ numbers o.below) ++ o.n ∷ []) o.gives
      (f (under h ++ numbers o.below) o.v.number o.n o.are o.is) (numbers_push (under h) u o.below)

  pub record Two : Type 0 where
    pub v : Value
    pub w : Value
    pub below : List Value
    pub r : Result ℕ NumTrap
    pub are : c.operands ≡ (under h ++ numbers below) ++ v.number ∷ w.number ∷ []
    pub left : FitsWidth sig.operand v.number
    pub right : FitsWidth sig.operand w.number
    pub is : value2 op v.number w.number ≡ Some r
    pub gives : Machine.next fns fn s h (Then (ops.Numeric op l) here.rest) vs ≡ noted (shown_division (leaks op fn.part.profile) v.number w.number) (outcome s h here.rest (value_type sig.result l) below r)

  shows : (b : Bool) (x y : ℕ) (a : Answer) → (showing b l x y a).answer ≢ Stuck → showing b l x y a ≡ noted (shown_division b x y) a
  shows false x y a n = refl
  shows true x y a n = (provided_is (same_label l Public) (noting (Events.Divide x y) a) n).gives

  pub two : sig.arity ≡ 2 → Two
  two e =
      let q : numeric fn.part.profile s h here.rest op l sig sig.arity vs ≡ numeric fn.part.profile s h here.rest op l sig 2 vs = ap (λ k. numeric fn.part.profile s h here.rest op l sig k vs) e in
      let p = popped (value_type sig.operand l) vs _ (subst (λ (x : Reduced). x.answer ≢ Stuck) q going) in
      let r = popped (value_type sig.operand l) p.below _ p.going in
      let g = given_is (value2 op r.v.number p.v.number) _ r.going in
      let f : AllFit (p.v ∷ p.below) = subst AllFit p.are m.fits in
      let f' : AllFit (r.v ∷ r.below) = subst AllFit r.are f.1 in
      let t = last_is codes bytes c next fns fn s h code vs (ops.Numeric op l) here p.v p.below p.are in
      record {
        v = r.v;
        w = p.v;
        below = r.below;
        r = g.x;
        are = t ∙ ap (λ vs. (under h ++ numbers vs) ++ p.v.number ∷ []) r.are ∙ sym (numbers_top (under h) p.v (r.v ∷ r.below)) ∙ numbers_two (under h) p.v r.v r.below;
        left = fits_at r.v (value_type sig.operand l) r.typed f'.0;
        right = fits_at p.v (value_type sig.operand l) p.typed f.0;
        is = g.is;
        gives = by_sig ∙ q ∙ p.gives ∙ r.gives ∙ g.gives ∙ shows (leaks op fn.part.profile) r.v.number p.v.number (outcome s h here.rest (value_type sig.result l) r.below g.x) g.going;
      }

  pub two_done : (o : Two) (r : Stepped) (c' : Shown) → Computed c (under h ++ numbers o.below) (shown_division (leaks op fn.part.profile) o.v.number o.w.number) next o.r r c' → Told c' r
  two_done o r c' f = go o.r refl f
    where
      e : Option Event
      e = shown_division (leaks op fn.part.profile) o.v.number o.w.number

      go : (x : Result ℕ NumTrap) → o.r ≡ x → Computed c (under h ++ numbers o.below) e next x r c' → Told c' r
      go (Ok n) q f =
          let u : Value = value (value_type sig.result l) n in
          subst (λ r. Told c' r) (sym f.0)
          (went_with codes bytes c next fns fn s h code vs (ops.Numeric op l) here c' e s (u ∷ o.below) ((under h ++ numbers o.below) ++ n ∷ [])
          (o.gives ∙ ap (λ x. noted e (outcome s h here.rest (value_type sig.result l) o.below x)) q) f.1 (numbers_push (under h) u o.below))
      go (Err t) q f =
          subst (λ r. Told c' r) (sym f)
          (trapped codes bytes c next fns fn s h code vs (ops.Numeric op l) here c' e s (trap_of t)
          (o.gives ∙ ap (λ x. noted e (outcome s h here.rest (value_type sig.result l) o.below x)) q))
