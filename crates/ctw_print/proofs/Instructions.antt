-- The words of numeric operations, loads and stores.
use Rattle.std.proofs.Common.{◌≡◌, ◌<◌, ℕ, Bool, true, false, ◌||◌, not, List, ◌++◌, refl, arith}
use Rattle.std.specs.Prelude.{bytes_eq}
use Rattle.std.proofs.lemmas.Bool.{false≢true}
use Rattle.std.proofs.lemmas.Bool.Decides.{nat_tests}
use Rattle.std.proofs.lemmas.Slice.Eq.{bytes_eq-Decides}
use Rattle.ctw_ops.specs.declared.types.Label.{Label}
use Rattle.ctw_ops.specs.declared.types.Label.TheVariants.{Public, Secret}
use Rattle.ctw_ops.specs.declared.types.Width.{Width}
use Rattle.ctw_ops.specs.declared.types.Width.TheVariants.{W32, W64}
use Rattle.ctw_ops.specs.Types.{value_type}
use Rattle.ctw_ops.specs.Forms.{is_load, is_store}
use Rattle.ctw_ops.specs.Numeric.{is_numeric}
use Rattle.ctw_ops.specs.Code as ops
use Rattle.ctw_text.specs.declared.keys.Key.{Key}
use Rattle.ctw_text.specs.declared.keys.Key.TheVariants.{Op as KOp}
use Rattle.ctw_text.specs.declared.keys.Form.TheVariants as forms
use Rattle.ctw_text.specs.Words.{word_of}
use Rattle.ctw_text.specs.Print.{natural}
use Rattle.ctw_print.specs.Words.{value_word, load_end, store_end, front_width, numeric_end, numeric_word}
use Rattle.ctw_print.proofs.Finite.{below, below_is}

-- a word is as it should be, where a test holds
abbrev alike : Bool → List ℕ → List ℕ → Bool
alike test word other = not test || bytes_eq word other

alike_is : (test : Bool) (word other : List ℕ) → alike test word other ≡ true → test ≡ true → word ≡ other
alike_is true word other e h = (bytes_eq-Decides word other).0 e
alike_is false word other e h = absurd (false≢true h)

-- ---- numeric operations

abbrev numeric_alike : Label → ℕ → Bool
numeric_alike label op = alike (is_numeric op) (word_of (KOp (forms.Bare (ops.Numeric op label)))) (numeric_word op label)

public_numeric : below (numeric_alike Public) 0xC5 ≡ true
unfolding word_of is_numeric front_width numeric_end below
public_numeric = refl

secret_numeric : below (numeric_alike Secret) 0xC5 ≡ true
unfolding word_of is_numeric front_width numeric_end below
secret_numeric = refl

numeric_below : (op : ℕ) → is_numeric op ≡ true → op < 0xC5
unfolding is_numeric
numeric_below op e = grind (arith, nat_tests)

pub numeric_is : (op : ℕ) (label : Label) → is_numeric op ≡ true → word_of (KOp (forms.Bare (ops.Numeric op label))) ≡ numeric_word op label
numeric_is op Public e = alike_is (is_numeric op) _ _ (below_is (numeric_alike Public) 0xC5 public_numeric op (numeric_below op e)) e
numeric_is op Secret e = alike_is (is_numeric op) _ _ (below_is (numeric_alike Secret) 0xC5 secret_numeric op (numeric_below op e)) e

-- ---- loads and stores

abbrev load_alike : Width → Label → Bool → ℕ → Bool
load_alike w l signed bytes =
    alike (is_load w bytes signed) (word_of (KOp (forms.Access (ops.Load w l bytes signed (natural bytes) 0)))) (value_word (value_type w l) ++ load_end w bytes signed)

load_words : (w : Width) (l : Label) (signed : Bool) → below (load_alike w l signed) 9 ≡ true
unfolding word_of below
load_words W32 Public true = refl
load_words W32 Public false = refl
load_words W32 Secret true = refl
load_words W32 Secret false = refl
load_words W64 Public true = refl
load_words W64 Public false = refl
load_words W64 Secret true = refl
load_words W64 Secret false = refl

pub load_below : (w : Width) (bytes : ℕ) (signed : Bool) → is_load w bytes signed ≡ true → bytes < 9
load_below W32 bytes signed e = grind (arith, nat_tests)
load_below W64 bytes signed e = grind (arith, nat_tests)

pub load_is : (w : Width) (l : Label) (bytes : ℕ) (signed : Bool) → is_load w bytes signed ≡ true
    → word_of (KOp (forms.Access (ops.Load w l bytes signed (natural bytes) 0))) ≡ value_word (value_type w l) ++ load_end w bytes signed
load_is w l bytes signed e = alike_is (is_load w bytes signed) _ _ (below_is (load_alike w l signed) 9 (load_words w l signed) bytes (load_below w bytes signed e)) e

abbrev store_alike : Width → Label → ℕ → Bool
store_alike w l bytes =
    alike (is_store w bytes) (word_of (KOp (forms.Access (ops.Store w l bytes (natural bytes) 0)))) (value_word (value_type w l) ++ store_end w bytes)

store_words : (w : Width) (l : Label) → below (store_alike w l) 9 ≡ true
unfolding word_of below
store_words W32 Public = refl
store_words W32 Secret = refl
store_words W64 Public = refl
store_words W64 Secret = refl

pub store_below : (w : Width) (bytes : ℕ) → is_store w bytes ≡ true → bytes < 9
store_below W32 bytes e = grind (arith, nat_tests)
store_below W64 bytes e = grind (arith, nat_tests)

pub store_is : (w : Width) (l : Label) (bytes : ℕ) → is_store w bytes ≡ true
    → word_of (KOp (forms.Access (ops.Store w l bytes (natural bytes) 0))) ≡ value_word (value_type w l) ++ store_end w bytes
store_is w l bytes e = alike_is (is_store w bytes) _ _ (below_is (store_alike w l) 9 (store_words w l) bytes (store_below w bytes e)) e
