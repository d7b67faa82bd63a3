-- The test of UTF-8 that names are put to.
use Rattle.std.proofs.Common.{◌≡◌, ℕ, ◌<◌, Bool, true, false, List, [], ◌∷◌, nat_lt, sym, refl}
use Rattle.std.specs.Prelude.{◌||◌}
use Rattle.std.specs.List.{All, AllPass, list_all}
use Rattle.std.specs.Str.{IsUtf8, is_utf8}
use Rattle.std.proofs.lemmas.Bool.{ltb-true, or_right, false_from_ne_true}
use Rattle.std.proofs.lemmas.List.Sums.{AllPass-from_list_all}
use Rattle.std.proofs.lemmas.Str.{IsUtf8-from_ascii, IsUtf8-from_is_utf8, is_utf8-from_IsUtf8}
use Rattle.std.proofs.lemmas.Str.Ascii.{IsAscii-from_all}
use Rattle.ctw_text.specs.Written.{is_text}

pub text : (bs : List ℕ) → IsUtf8 bs → true ≡ is_text bs
text bs h = sym (or_right (list_all (λ b. nat_lt b 128) bs) (is_utf8 bs) (is_utf8-from_IsUtf8 bs h))

below : (bs : List ℕ) → list_all (λ b. nat_lt b 128) bs ≡ true → All (λ b. b < 128) bs
below bs e k d l = ltb-true _ _ (AllPass-from_list_all (λ b. nat_lt b 128) bs e k d l)

by_tests : (bs : List ℕ) (t : Bool) → list_all (λ b. nat_lt b 128) bs ≡ t → t || is_utf8 bs ≡ true → IsUtf8 bs
by_tests bs true e f = IsUtf8-from_ascii bs (IsAscii-from_all bs (below bs e))
by_tests bs false e f = IsUtf8-from_is_utf8 bs f

pub no_text : (bs : List ℕ) → (IsUtf8 bs → ⊥) → false ≡ is_text bs
no_text bs h = sym (false_from_ne_true (is_text bs) (λ e. h (by_tests bs (list_all (λ b. nat_lt b 128) bs) refl e)))
