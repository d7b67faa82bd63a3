-- The lent bytes of value types are those of the types that were read.
use Rattle.std.proofs.Common.{◌≡◌, ℕ, zero, suc, ◌-◌, ◌<◌, ◌≤◌, Bool, true, false, cond, ◌==◌, ◌||◌, List, ◌∷◌, ◌++◌, length, take, Some, None, Result, Ok, Err, refl, sym, ap, subst, ◌∙◌, arith}
use Rattle.std.specs.List.{list_all}
use Rattle.std.proofs.lemmas.List.{take_at, append-nil}
use Rattle.ctw_ops.specs.ValueType.{ValueType}
use Rattle.ctw_ops.specs.Types.{value_type as typed, byte_type, byte_types, is_type_byte}
use Rattle.ctw_ops.specs.declared.types.Label.{Label}
use Rattle.ctw_ops.specs.declared.types.Label.TheVariants.{Public, Secret}
use Rattle.ctw_ops.specs.declared.types.Width.TheVariants.{W32, W64}
use Rattle.ctw_leb.specs.Input.{Input}
use Rattle.ctw_leb.specs.Grammar.{OneOf, Times}
use Rattle.ctw_leb.specs.Reading.{Exact, times}
use Rattle.ctw_leb.proofs.Combinators.{exact_times, exact_one_of}
use Rattle.ctw_leb.proofs.Loops.{Left, left_none, left_fault}
use Rattle.ctw_form.specs.declared.fault.FormKind.{FormKind}
use Rattle.ctw_form.specs.declared.fault.FormKind.TheVariants.{Truncated, BadType, Floats}
use Rattle.ctw_form.specs.declared.fault.FormFault.{FormFault}
use Rattle.ctw_form.specs.Tables.{value_type, labelled}
use Rattle.ctw_form.specs.Spelled.{IsValueType}
use Rattle.ctw_form.specs.Read.{fault, value_type_at}

exact_types : (ct : Bool) → Exact (IsValueType ct) (value_type_at ct)
unfolding value_type_at
exact_types ct = exact_one_of (fault Truncated) fault (value_type ct)

abbrev known : ValueType Label → Result (ValueType Label) FormKind
known t = Ok t

-- a byte that is read as a type is the byte of that type
pub byte_of_type : (ct : Bool) (byte : ℕ) (t : ValueType Label) → value_type ct byte ≡ Ok t → byte_type byte ≡ Some t
unfolding value_type
byte_of_type ct byte t e = go (byte == 0x7F) (byte == 0x7E) (byte == 0x7A) (byte == 0x79) (byte == 0x7D || byte == 0x7C) ct e
  where
    no : (k : FormKind) → ◌≡◌ {A = Result (ValueType Label) FormKind} (Err k) (Ok t) → ⊥
    no k q = cc

    same : (s : ValueType Label) → known s ≡ known t → Some s ≡ Some t
    same s q = cc

    under : (c : Bool) (s : ValueType Label) → labelled c (known s) ≡ known t → Some s ≡ Some t
    under true s q = same s q
    under false s q = absurd (no _ q)

    go : (a b c d f ct : Bool)
        → cond a (known (typed W32 Public)) (cond b (known (typed W64 Public)) (cond c (labelled ct (known (typed W32 Secret))) (cond d (labelled ct (known (typed W64 Secret))) (cond f (Err Floats) (Err BadType))))) ≡ known t
        → cond a (Some (typed W32 Public)) (cond b (Some (typed W64 Public)) (cond c (Some (typed W32 Secret)) (cond d (Some (typed W64 Secret)) None))) ≡ Some t
    go true b c d f ct q = same _ q
    go false true c d f ct q = same _ q
    go false false true d f ct q = under ct _ q
    go false false false true f ct q = under ct _ q
    go false false false false true ct q = absurd (no _ q)
    go false false false false false ct q = absurd (no _ q)

-- a text of types is their bytes
pub record TypeBytes (n : ℕ) (text : List ℕ) (types : List (ValueType Label)) : Type 0 where
  pub count : length text ≡ n
  pub same : byte_types text ≡ types
  pub all : list_all is_type_byte text ≡ true

one_more : (byte : ℕ) (text : List ℕ) (t : ValueType Label) (types : List (ValueType Label)) (n : ℕ) → byte_type byte ≡ Some t → TypeBytes n text types → TypeBytes (suc n) (byte ∷ text) (t ∷ types)
one_more byte text t types n e h = record {
  count = ap suc h.count;
  same = rw (e, h.same) refl;
  all = rw (e, h.all) refl;
}

pub types_text : (ct : Bool) (n : ℕ) (text : List ℕ) (types : List (ValueType Label)) → Times (OneOf (value_type ct)) n text types → TypeBytes n text types
types_text ct zero text types m = rw (m.0, sym m.1) (record { count = refl; same = refl; all = refl })
types_text ct (suc n) text types m =
    let rest = m.4 in
    let below = types_text ct n rest.1 rest.0 rest.3 in
    let tail : m.2 ≡ rest.1 = rest.5 ∙ ap (λ (l : List ℕ). rest.1 ++ l) rest.4.0 ∙ append-nil rest.1 in
    let whole : text ≡ m.3.0 ∷ rest.1 = m.5 ∙ ap (λ (l : List ℕ). l ++ m.2) m.3.1 ∙ ap (λ (l : List ℕ). m.3.0 ∷ l) tail in
    let more = one_more m.3.0 rest.1 m.0 rest.0 n (byte_of_type ct m.3.0 m.0 m.3.2) below in
    subst (λ (l : List ℕ). TypeBytes (suc n) l types) (sym whole) (subst (λ (ts : List (ValueType Label)). TypeBytes (suc n) (m.3.0 ∷ rest.1) ts) rest.4.1 more)

-- the bytes in front of which so many types were read
pub record Lends (ct : Bool) (n : ℕ) (i o : Input) : Type 0 where
  pub types : List (ValueType Label)
  pub read : times (value_type_at ct) n i ≡ Ok (types, o)
  pub within : n ≡ length (take n i.rest)
  pub same : byte_types (take n i.rest) ≡ types
  pub all : list_all is_type_byte (take n i.rest) ≡ true

pub types_read : (ct : Bool) (n : ℕ) (i o : Input) (types : List (ValueType Label)) → times (value_type_at ct) n i ≡ Ok (types, o) → Lends ct n i o
types_read ct n i o types e =
    let s = (exact_times (OneOf (value_type ct)) (value_type_at ct) n (exact_types ct)).sound i types o e in
    let t = types_text ct n s.0 types s.1 in
    let front : take n i.rest ≡ s.0 = ap (take n) s.2 ∙ take_at s.0 o.rest n t.count in
    record {
      types = types;
      read = e;
      within = sym (ap length front ∙ t.count);
      same = ap byte_types front ∙ t.same;
      all = ap (list_all is_type_byte) front ∙ t.all;
    }

-- the loop over the types ends behind them
pub all_lent : (ct : Bool) (n : ℕ) (start : Input) (k : ℕ) (now : Input) → n ≤ k → Left (value_type_at ct) n start (n - k) now → Lends ct n start now
all_lent ct n start k now le h =
    let done = left_none (value_type_at ct) n start k now le h in
    types_read ct n start now done.0 done.1

pub types_fault : (ct : Bool) (n : ℕ) (start : Input) (k : ℕ) (now : Input) (f : FormFault) → k < n → Left (value_type_at ct) n start (n - k) now → value_type_at ct now ≡ Err f → times (value_type_at ct) n start ≡ Err f
types_fault ct n start k now f lt h e = left_fault (value_type_at ct) n start (n - k) now f (omega arith) h e
