-- The inks of types, numbers and strings are laid out as their texts.
use Rattle.std.proofs.Common.{◌≡◌, ◌^◌, ◌-◌, ◌==◌, ℕ, Bool, true, false, List, [], ◌∷◌, ◌++◌, Option, Some, None, cond, nat_lt, decimal, codes, refl, sym, ap, ◌∙◌, append_assoc}
use Rattle.ctw_ops.specs.declared.types.Label.{Label}
use Rattle.ctw_ops.specs.declared.types.Label.TheVariants.{Public, Secret}
use Rattle.ctw_ops.specs.declared.types.Width.{Width}
use Rattle.ctw_ops.specs.declared.types.Width.TheVariants.{W32, W64}
use Rattle.ctw_ops.specs.declared.types.Trust.{Trust}
use Rattle.ctw_ops.specs.declared.types.Trust.TheVariants.{Untrusted, Trusted}
use Rattle.ctw_ops.specs.declared.types.Limits.{Limits}
use Rattle.ctw_ops.specs.ValueType.{ValueType}
use Rattle.ctw_ops.specs.Types.{FunctionType, VariableType, MemoryType, value_type}
use Rattle.ctw_text.specs.Grammar.{bits_in}
use Rattle.ctw_text.specs.Print.{Ink, Mark, Negative, AtOffset, Aligned, blank, num, open_, close, key, ty, quoted, quoted_byte, text_of, print_types, print_group, print_result, print_bits, print_offset, print_align, print_indexes, print_use, print_trust, print_type, print_entry, print_max, print_limits, print_table, print_memory, print_global_type, print_string}
use Rattle.ctw_text.specs.declared.keys.Key.TheVariants.{Funcref as KFuncref, Mut as KMut, Secret as KSecret}
use Rattle.ctw_text.specs.declared.keys.Part.TheVariants as parts
use Rattle.ctw_text.specs.Words.{word_of}
use Rattle.ctw_print.specs.Words.{value_word}
use Rattle.ctw_print.specs.Texts.{all_texts, spaced_number, spaced_type, string_text, params_text, locals_text, result_text, bits_text, offset_text, align_text, use_text, trust_text, type_text, entry_text, max_text, limits_text, memory_label, variable_text}
use Rattle.ctw_print.proofs.Joined.{join5}
use Rattle.ctw_print.proofs.Keywords.{type_word, variant_word, trusted_word, func_word, param_word, local_word, mut_word, secret_word, funcref_word, value_is}

pub types_inked : (ts : List (ValueType Label)) (rest : List Ink) → text_of (print_types ts rest) ≡ all_texts spaced_type ts ++ text_of rest
types_inked [] rest = refl
types_inked (t ∷ ts) rest = let h = types_inked ts rest in simp (value_is t, h, append_assoc)

pub params_inked : (ts : List (ValueType Label)) (rest : List Ink) → text_of (print_group parts.Param ts rest) ≡ params_text ts ++ text_of rest
params_inked [] rest = refl
params_inked (t ∷ ts) rest = let h = types_inked ts (close ∷ rest) in simp (param_word, value_is t, h, append_assoc)

pub locals_inked : (ts : List (ValueType Label)) (rest : List Ink) → text_of (print_group parts.Local ts rest) ≡ locals_text ts ++ text_of rest
locals_inked [] rest = refl
locals_inked (t ∷ ts) rest = let h = types_inked ts (close ∷ rest) in simp (local_word, value_is t, h, append_assoc)

pub result_inked : (t : Option (ValueType Label)) (rest : List Ink) → text_of (print_result t rest) ≡ result_text t ++ text_of rest
unfolding word_of
result_inked None rest = refl
result_inked (Some t) rest = go t.width t.tag
  where
    go : (w : Width) (l : Label) → text_of (print_result (Some (value_type w l)) rest) ≡ result_text (Some (value_type w l)) ++ text_of rest
    go W32 Public = refl
    go W64 Public = refl
    go W32 Secret = refl
    go W64 Secret = refl

pub bits_inked : (w : Width) (bits : ℕ) (rest : List Ink) → text_of (print_bits w bits rest) ≡ bits_text w bits ++ text_of rest
bits_inked w bits rest = go (nat_lt bits (2 ^ (bits_in w - 1)))
  where
    go : (low : Bool) → text_of (cond low (num bits) (Mark (Negative (2 ^ bits_in w - bits))) ∷ rest) ≡ cond low (decimal bits) (45 ∷ decimal (2 ^ bits_in w - bits)) ++ text_of rest
    go true = refl
    go false = refl

pub offset_inked : (n : ℕ) (rest : List Ink) → text_of (print_offset n rest) ≡ offset_text n ++ text_of rest
offset_inked n rest = go (n == 0)
  where
    go : (none : Bool) → text_of (cond none rest (blank ∷ Mark (AtOffset n) ∷ rest)) ≡ cond none [] (codes " offset=" ++ decimal n) ++ text_of rest
    go true = refl
    go false = refl

pub align_inked : (n e : ℕ) (rest : List Ink) → text_of (print_align n e rest) ≡ align_text n e ++ text_of rest
align_inked n e rest = go (e == n)
  where
    go : (none : Bool) → text_of (cond none rest (blank ∷ Mark (Aligned (2 ^ e)) ∷ rest)) ≡ cond none [] (codes " align=" ++ decimal (2 ^ e)) ++ text_of rest
    go true = refl
    go false = refl

pub indexes_inked : (ns : List ℕ) (rest : List Ink) → text_of (print_indexes ns rest) ≡ all_texts spaced_number ns ++ text_of rest
indexes_inked [] rest = refl
indexes_inked (n ∷ ns) rest = let h = indexes_inked ns rest in simp (h, append_assoc)

pub use_inked : (n : ℕ) (rest : List Ink) → text_of (print_use n rest) ≡ use_text n ++ text_of rest
use_inked n rest = simp (type_word, append_assoc)

quoted_is : (bs : List ℕ) → quoted bs ≡ all_texts quoted_byte bs
quoted_is [] = refl
quoted_is (b ∷ bs) = ap (λ (l : List ℕ). quoted_byte b ++ l) (quoted_is bs)

pub string_inked : (bs : List ℕ) (rest : List Ink) → text_of (print_string bs rest) ≡ string_text bs ++ text_of rest
string_inked bs rest = ap (λ (q : List ℕ). (34 ∷ q ++ 34 ∷ []) ++ text_of rest) (quoted_is bs)

-- ---- types of things

pub trust_inked : (t : Trust) (rest : List Ink) → text_of (print_trust t rest) ≡ trust_text t ++ text_of rest
trust_inked Untrusted rest = refl
trust_inked Trusted rest = simp trusted_word

pub type_inked : (t : FunctionType Label) (rest : List Ink) → text_of (print_type t rest) ≡ type_text t ++ text_of rest
type_inked t rest =
    let results = print_result t.result (close ∷ rest) in
    let a = trust_inked t.trust (print_group parts.Param t.params results) in
    let b = params_inked t.params results in
    let c = result_inked t.result (close ∷ rest) in
    simp (func_word, a, b, c, append_assoc)

pub entry_inked : (base : Option ℕ) (t : FunctionType Label) (rest : List Ink) → text_of (print_entry base t rest) ≡ entry_text base t ++ text_of rest
entry_inked None t rest = type_inked t rest
entry_inked (Some n) t rest =
    let h = type_inked t (close ∷ rest) in
    rw variant_word (ap (λ (l : List ℕ). codes "(variant " ++ (decimal n ++ (codes " " ++ l))) h ∙ join5 (codes "(variant ") (decimal n) (codes " ") (type_text t) (codes ")") (text_of rest))

pub max_inked : (max : Option ℕ) (rest : List Ink) → text_of (print_max max rest) ≡ max_text max ++ text_of rest
max_inked None rest = refl
max_inked (Some n) rest = refl

pub limits_inked : (l : Limits) (rest : List Ink) → text_of (print_limits l rest) ≡ limits_text l ++ text_of rest
limits_inked l rest = ap (λ (t : List ℕ). decimal l.min ++ t) (max_inked l.max rest) ∙ sym (append_assoc (decimal l.min) (max_text l.max) (text_of rest))

pub table_inked : (l : Limits) (rest : List Ink) → text_of (print_table l (close ∷ rest)) ≡ limits_text l ++ (codes " funcref)" ++ text_of rest)
table_inked l rest = limits_inked l (blank ∷ key KFuncref ∷ close ∷ rest) ∙ ap (λ (w : List ℕ). limits_text l ++ (32 ∷ (w ++ (41 ∷ text_of rest)))) funcref_word

pub memory_inked : (m : MemoryType Label) (rest : List Ink) → text_of (print_memory m rest) ≡ memory_label m.tag ++ (limits_text m.limits ++ text_of rest)
memory_inked m rest = go m.tag
  where
    go : (l : Label) → text_of (print_memory (record { tag = l; limits = m.limits }) rest) ≡ memory_label l ++ (limits_text m.limits ++ text_of rest)
    go Public = limits_inked m.limits rest
    go Secret = rw secret_word (ap (λ (t : List ℕ). codes "secret " ++ t) (limits_inked m.limits rest))

pub variable_inked : (g : VariableType Label) (rest : List Ink) → text_of (print_global_type g rest) ≡ variable_text g ++ text_of rest
variable_inked g rest = go g.mutable
  where
    go : (b : Bool) → text_of (cond b (open_ ∷ key KMut ∷ blank ∷ ty g.value ∷ close ∷ rest) (ty g.value ∷ rest)) ≡ cond b (codes "(mut " ++ value_word g.value ++ codes ")") (value_word g.value) ++ text_of rest
    go true = simp (mut_word, value_is g.value, append_assoc)
    go false = ap (λ (l : List ℕ). l ++ text_of rest) (value_is g.value)
