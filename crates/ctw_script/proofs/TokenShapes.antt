-- Lines of another length than their form has.
use Rattle.std.proofs.Common.{◌≡◌, ℕ, ◌<◌, List, [], ◌∷◌, Option, Some, None, length, map, refl, arith, ◌⊎◌, inl, inr, IsUtf8, Bool, true, false}
use Rattle.std.specs.Str.{is_utf8}
use Rattle.std.proofs.lemmas.Str.{IsUtf8-from_is_utf8, is_utf8-from_IsUtf8}
use Rattle.ctw_lex.specs.declared.list.Token.{Token}
use Rattle.ctw_lex.specs.Told.{lexeme_of}
use Rattle.ctw_script.specs.MoveValues.{place_of, poke_of, tested}

pub place_none : (ts : List Token) → (length ts < 4) ⊎ (4 < length ts) → place_of (map lexeme_of ts) ≡ None
place_none [] h = refl
place_none (a ∷ []) h = refl
place_none (a ∷ b ∷ []) h = refl
place_none (a ∷ b ∷ c ∷ []) h = refl
place_none (a ∷ b ∷ c ∷ d ∷ []) (inl h) = absurd (omega (arith, h))
place_none (a ∷ b ∷ c ∷ d ∷ []) (inr h) = absurd (omega (arith, h))
place_none (a ∷ b ∷ c ∷ d ∷ e ∷ ts) h = refl

pub poke_none : (ts : List Token) → (length ts < 4) ⊎ (4 < length ts) → poke_of (map lexeme_of ts) ≡ None
poke_none [] h = refl
poke_none (a ∷ []) h = refl
poke_none (a ∷ b ∷ []) h = refl
poke_none (a ∷ b ∷ c ∷ []) h = refl
poke_none (a ∷ b ∷ c ∷ d ∷ []) (inl h) = absurd (omega (arith, h))
poke_none (a ∷ b ∷ c ∷ d ∷ []) (inr h) = absurd (omega (arith, h))
poke_none (a ∷ b ∷ c ∷ d ∷ e ∷ ts) h = refl

pub is_name : (o : Option (List ℕ)) (bytes : List ℕ) → o ≡ Some bytes → IsUtf8 bytes → tested is_utf8 o ≡ Some bytes
is_name o bytes e h = rw (e, is_utf8-from_IsUtf8 bytes h) refl

not_name : (bytes : List ℕ) (t : Bool) → is_utf8 bytes ≡ t → ¬ (IsUtf8 bytes) → is_utf8 bytes ≡ false
not_name bytes true e h = absurd (h (IsUtf8-from_is_utf8 bytes e))
not_name bytes false e h = e

pub is_no_name : (o : Option (List ℕ)) (bytes : List ℕ) → o ≡ Some bytes → ¬ (IsUtf8 bytes) → tested is_utf8 o ≡ None
is_no_name o bytes e h = rw (e, not_name bytes (is_utf8 bytes) refl h) refl
