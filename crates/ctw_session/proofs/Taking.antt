-- Parameters and arguments, side by side.
use Rattle.std.proofs.Common.{◌≡◌, ◌<◌, ◌≤◌, ℕ, suc, ◌+◌, ◌-◌, take, Bool, true, false, ◌&&◌, List, [], ◌∷◌, ◌++◌, length, map, drop, get_or, slice_get, Some, IsTrue, refl, sym, ap, ap₂, ◌∙◌, append_assoc, append-nil, arith}
use Rattle.std.specs.List.{list_all}
use Rattle.std.proofs.lemmas.Bool.{false≢true}
use Rattle.std.proofs.lemmas.List.{drop-drop, drop_all, take_all, length-drop}
use Rattle.ctw_ops.specs.declared.types.Label.{Label}
use Rattle.ctw_ops.specs.Types.{ValueType, byte_type, byte_types, is_type_byte}
use Rattle.ctw_script.specs.declared.moves.Arg.{Arg}
use Rattle.ctw_form.proofs.Params.{types_length, types_at}
use Rattle.ctw_link.proofs.Lists.{drop_next}
use Rattle.ctw_moves.specs.Arguments.{arg_fits, args_fit, arg_takes, args_take, arg_number, arg_values}
use Rattle.ctw_step.specs.Stands.{number_of}

both_true : (a b : Bool) → (a && b) ≡ true → (a ≡ true) × (b ≡ true)
both_true true b e = (refl, e)
both_true false b e = absurd (false≢true e)

-- as many arguments as parameters
pub fit_length : (ts : List (ValueType Label)) (args : List Arg) → args_fit ts args ≡ true → length ts ≡ length args
fit_length [] [] e = refl
fit_length [] (a ∷ args) e = absurd (false≢true e)
fit_length (t ∷ ts) [] e = absurd (false≢true e)
fit_length (t ∷ ts) (a ∷ args) e = ap suc (fit_length ts args (both_true (arg_fits t a) (args_fit ts args) e).1)

pub other_count : (ts : List (ValueType Label)) (args : List Arg) → (length ts ≡ length args → ⊥) → args_fit ts args ≡ false
other_count ts args h = go (args_fit ts args) refl
  where
    go : (b : Bool) → args_fit ts args ≡ b → args_fit ts args ≡ false
    go true e = absurd (h (fit_length ts args e))
    go false e = e

pub byte_count : (params : List ℕ) (args : List Arg) → IsTrue (list_all is_type_byte params) → args_fit (byte_types params) args ≡ true → length params ≡ length args
byte_count params args typed fit = sym (types_length params typed) ∙ fit_length (byte_types params) args fit

-- those from a place on
abbrev pub FitFrom : List ℕ → List Arg → ℕ → Type 0
FitFrom params args i = args_fit (byte_types params) args ≡ args_fit (drop i (byte_types params)) (drop i args)

abbrev pub TakenTo : List ℕ → List Arg → ℕ → ℕ → Type 0
TakenTo params args i used = used + args_take (drop i (byte_types params)) (drop i args) ≡ args_take (byte_types params) args

abbrev pub ReadTo : List ℕ → List Arg → List ℕ → ℕ → ℕ → List ℕ → Type 0
ReadTo params args vault i used numbers =
    numbers ++ map number_of (arg_values (drop i (byte_types params)) (drop i args) (drop used vault)) ≡ map number_of (arg_values (byte_types params) args vault)

module _ (params : List ℕ) (args : List Arg) (i : ℕ) (typed : IsTrue (list_all is_type_byte params)) (t : ValueType Label) (a : Arg) (d : ℕ) (lt : i < length params) (is : byte_type (get_or params i d) ≡ Some t) (at : slice_get args i ≡ Some a) where
  type_here : drop i (byte_types params) ≡ t ∷ drop (i + 1) (byte_types params)
  type_here = drop_next (byte_types params) i t (types_at params i d typed lt ∙ is)

  arg_here : drop i args ≡ a ∷ drop (i + 1) args
  arg_here = drop_next args i a at

  fit_here : args_fit (drop i (byte_types params)) (drop i args) ≡ (arg_fits t a && args_fit (drop (i + 1) (byte_types params)) (drop (i + 1) args))
  fit_here = ap₂ args_fit type_here arg_here

  take_here : args_take (drop i (byte_types params)) (drop i args) ≡ arg_takes t a + args_take (drop (i + 1) (byte_types params)) (drop (i + 1) args)
  take_here = ap₂ args_take type_here arg_here

  pub one_unfit : FitFrom params args i → arg_fits t a ≡ false → args_fit (byte_types params) args ≡ false
  one_unfit h e = h ∙ fit_here ∙ ap (λ (b : Bool). b && args_fit (drop (i + 1) (byte_types params)) (drop (i + 1) args)) e

  pub one_fits : FitFrom params args i → arg_fits t a ≡ true → FitFrom params args (i + 1)
  one_fits h e = h ∙ fit_here ∙ ap (λ (b : Bool). b && args_fit (drop (i + 1) (byte_types params)) (drop (i + 1) args)) e

  -- where all fit
  pub this_fits : FitFrom params args i → args_fit (byte_types params) args ≡ true → (arg_fits t a ≡ true) × FitFrom params args (i + 1)
  this_fits h all = let b = both_true _ _ (sym fit_here ∙ (sym h ∙ all)) in (b.0, all ∙ sym b.1)

  pub taken_more : (used : ℕ) → TakenTo params args i used → TakenTo params args (i + 1) (used + arg_takes t a)
  taken_more used h = omega (arith, h, take_here)

  pub enough_here : (used size : ℕ) → TakenTo params args i used → args_take (byte_types params) args ≤ size → used + arg_takes t a ≤ size
  enough_here used size h le = omega (arith, h, take_here, le)

  pub read_more : (vault numbers new : List ℕ) (used n : ℕ) → ReadTo params args vault i used numbers → n ≡ arg_number t a (drop used vault) → new ≡ numbers ++ n ∷ [] → ReadTo params args vault (i + 1) (used + arg_takes t a) new
  read_more vault numbers new used n h e w =
      let rest = map number_of (arg_values (drop (i + 1) (byte_types params)) (drop (i + 1) args) (drop (used + arg_takes t a) vault)) in
      let later : drop (arg_takes t a) (drop used vault) ≡ drop (used + arg_takes t a) vault = drop-drop (arg_takes t a) used vault in
      let now : map number_of (arg_values (drop i (byte_types params)) (drop i args) (drop used vault)) ≡ n ∷ rest =
      ap₂ (λ (ts : List (ValueType Label)) (l : List Arg). map number_of (arg_values ts l (drop used vault))) type_here arg_here
      ∙ ap₂ (λ (m : ℕ) (v : List ℕ). m ∷ map number_of (arg_values (drop (i + 1) (byte_types params)) (drop (i + 1) args) v)) (sym e) later in
      ap (λ (l : List ℕ). l ++ rest) w ∙ (append_assoc numbers (n ∷ []) rest ∙ (ap (λ (l : List ℕ). numbers ++ l) (sym now) ∙ h))

-- at the end
pub fit_end : (params : List ℕ) (args : List Arg) (i : ℕ) → length (byte_types params) ≤ i → length args ≤ i → FitFrom params args i → args_fit (byte_types params) args ≡ true
fit_end params args i p q h = h ∙ ap₂ args_fit (drop_all i (byte_types params) p) (drop_all i args q)

pub taken_end : (params : List ℕ) (args : List Arg) (i used : ℕ) → length args ≤ i → TakenTo params args i used → used ≡ args_take (byte_types params) args
taken_end params args i used q h =
    let none : args_take (drop i (byte_types params)) (drop i args) ≡ 0 = ap (args_take (drop i (byte_types params))) (drop_all i args q) ∙ nothing (drop i (byte_types params)) in
    omega (arith, h, none)
  where
    nothing : (ts : List (ValueType Label)) → args_take ts [] ≡ 0
    nothing [] = refl
    nothing (t ∷ ts) = refl

pub read_end : (params : List ℕ) (args : List Arg) (vault numbers : List ℕ) (i used : ℕ) → length args ≤ i → ReadTo params args vault i used numbers → numbers ≡ map number_of (arg_values (byte_types params) args vault)
read_end params args vault numbers i used q h =
    let none : arg_values (drop i (byte_types params)) (drop i args) (drop used vault) ≡ [] = ap (λ (l : List Arg). arg_values (drop i (byte_types params)) l (drop used vault)) (drop_all i args q) ∙ nothing (drop i (byte_types params)) in
    sym (append-nil numbers) ∙ (ap (λ l. numbers ++ map number_of l) (sym none) ∙ h)
  where
    nothing : (ts : List (ValueType Label)) → arg_values ts [] (drop used vault) ≡ []
    nothing [] = refl
    nothing (t ∷ ts) = refl

pub rest_whole : (xs : List ℕ) (u : ℕ) → take (length xs - u) (drop u xs) ≡ drop u xs
rest_whole xs u = take_all (length xs - u) (drop u xs) (omega (arith, length-drop u xs))
