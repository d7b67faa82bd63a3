-- Types are equal exactly where their keys are, and maps that hold least entries.
use Rattle.std.proofs.Common.{◌≡◌, ℕ, suc, ◌&&◌, Bool, true, false, cond, List, [], ◌∷◌, ◌++◌, length, map, refl, ap, sym, ◌∙◌}
use Rattle.std.specs.Prelude.{Option, Some, None, nat_eq, position}
use Rattle.std.specs.Option.{option_or}
use Rattle.std.specs.Str.{bytes_eq}
use Rattle.std.specs.Cmp.Lexicographic.{nat_list_eq_equiv}
use Rattle.std.specs.declared.vec.Vec.{Vec}
use Rattle.std.specs.Map.{KeepsOthers, IsKeyTest, AreApart, lookup}
use Rattle.std.specs.HashMap.{HashMap, UpdatesBy}
use Rattle.std.proofs.lemmas.Bool.{false≢true}
use Rattle.std.proofs.lemmas.Slice.Eq.{bytes_eq-Decides}
use Rattle.indexmap.specs.IndexMap.{get_by}
use Rattle.ctw_ops.specs.declared.types.Label.{Label}
use Rattle.ctw_ops.specs.declared.types.Label.TheVariants.{Public, Secret}
use Rattle.ctw_ops.specs.declared.types.Width.{Width}
use Rattle.ctw_ops.specs.declared.types.Width.TheVariants.{W32, W64}
use Rattle.ctw_ops.specs.declared.types.Trust.{Trust}
use Rattle.ctw_ops.specs.declared.types.Trust.TheVariants.{Untrusted, Trusted}
use Rattle.ctw_ops.specs.Types.{ValueType, type_byte, value_type}
use Rattle.ctw_ops.specs.Equal.{same_label, same_trust, same_type, same_types, same_width}
use Rattle.ctw_text.specs.Names.{Spelled, same_spelled}
use Rattle.ctw_names.specs.TypeKeys.{trust_code, type_key}
use Rattle.ctw_names.proofs.Positions.{position_push}

no_zero : (w : Width) (l : Label) → nat_eq 0 (type_byte (value_type w l)) ≡ false
no_zero W32 Public = refl
no_zero W32 Secret = refl
no_zero W64 Public = refl
no_zero W64 Secret = refl

zero_not : (w : Width) (l : Label) → nat_eq (type_byte (value_type w l)) 0 ≡ false
zero_not W32 Public = refl
zero_not W32 Secret = refl
zero_not W64 Public = refl
zero_not W64 Secret = refl

same_byte : (w : Width) (l : Label) (v : Width) (k : Label) → nat_eq (type_byte (value_type w l)) (type_byte (value_type v k)) ≡ (same_width w v && same_label l k)
same_byte W32 Public W32 Public = refl
same_byte W32 Public W32 Secret = refl
same_byte W32 Public W64 Public = refl
same_byte W32 Public W64 Secret = refl
same_byte W32 Secret W32 Public = refl
same_byte W32 Secret W32 Secret = refl
same_byte W32 Secret W64 Public = refl
same_byte W32 Secret W64 Secret = refl
same_byte W64 Public W32 Public = refl
same_byte W64 Public W32 Secret = refl
same_byte W64 Public W64 Public = refl
same_byte W64 Public W64 Secret = refl
same_byte W64 Secret W32 Public = refl
same_byte W64 Secret W32 Secret = refl
same_byte W64 Secret W64 Public = refl
same_byte W64 Secret W64 Secret = refl

and_regroup : (a b c : Bool) → (a && (b && c)) ≡ ((a && b) && c)
and_regroup true b c = refl
and_regroup false b c = refl

pub same_ends : (ts us : List (ValueType Label)) → bytes_eq (map type_byte ts) (map type_byte us) ≡ same_types ts us
same_ends [] [] = refl
same_ends [] (u ∷ us) = refl
same_ends (t ∷ ts) [] = refl
same_ends (t ∷ ts) (u ∷ us) =
    ap (λ (b : Bool). b && bytes_eq (map type_byte ts) (map type_byte us)) (same_byte t.width t.tag u.width u.tag) ∙ ap (λ (b : Bool). same_type t u && b) (same_ends ts us)

same_length : (ts us : List (ValueType Label)) → same_types ts us ≡ true → length ts ≡ length us
same_length [] [] e = refl
same_length [] (u ∷ us) e = absurd (false≢true e)
same_length (t ∷ ts) [] e = absurd (false≢true e)
same_length (t ∷ ts) (u ∷ us) e = ap (λ (n : ℕ). suc n) (same_length ts us (rest (same_type t u) (same_types ts us) e))
  where
    rest : (a b : Bool) → (a && b) ≡ true → b ≡ true
    rest true b both = both
    rest false b both = absurd (false≢true both)

-- lists of other lengths differ
pub other_length : (ts us : List (ValueType Label)) → (length ts ≡ length us → ⊥) → false ≡ same_types ts us
other_length ts us other = go (same_types ts us) refl
  where
    go : (b : Bool) → same_types ts us ≡ b → false ≡ same_types ts us
    go true e = absurd (other (same_length ts us e))
    go false e = sym e

same_parts : (ps qs ts us : List (ValueType Label)) → bytes_eq (map type_byte ps ++ 0 ∷ map type_byte ts) (map type_byte qs ++ 0 ∷ map type_byte us) ≡ (same_types ps qs && same_types ts us)
same_parts [] [] ts us = same_ends ts us
same_parts [] (q ∷ qs) ts us = ap (λ (b : Bool). b && bytes_eq (map type_byte ts) (map type_byte qs ++ 0 ∷ map type_byte us)) (no_zero q.width q.tag)
same_parts (p ∷ ps) [] ts us = ap (λ (b : Bool). b && bytes_eq (map type_byte ps ++ 0 ∷ map type_byte ts) (map type_byte us)) (zero_not p.width p.tag)
same_parts (p ∷ ps) (q ∷ qs) ts us =
    ap (λ (b : Bool). b && bytes_eq (map type_byte ps ++ 0 ∷ map type_byte ts) (map type_byte qs ++ 0 ∷ map type_byte us)) (same_byte p.width p.tag q.width q.tag)
    ∙ ap (λ (b : Bool). same_type p q && b) (same_parts ps qs ts us) ∙ and_regroup (same_type p q) (same_types ps qs) (same_types ts us)

same_code : (a b : Trust) → nat_eq (trust_code a) (trust_code b) ≡ same_trust a b
same_code Untrusted Untrusted = refl
same_code Untrusted Trusted = refl
same_code Trusted Untrusted = refl
same_code Trusted Trusted = refl

-- keys are equal where types are
pub same_key : (s t : Spelled) → bytes_eq (type_key s) (type_key t) ≡ same_spelled s t
same_key s t =
    ap (λ (b : Bool). b && bytes_eq (map type_byte s.params ++ 0 ∷ map type_byte s.results) (map type_byte t.params ++ 0 ∷ map type_byte t.results)) (same_code s.trust t.trust)
    ∙ ap (λ (b : Bool). same_trust s.trust t.trust && b) (same_parts s.params t.params s.results t.results)

-- a map that holds the least entry of each type does so with one more entry
pub entries_more : (g h : List ℕ → Option ℕ) (es : List Spelled) (t : Spelled) (key : List ℕ) (at : ℕ) → ((s : Spelled) → g (type_key s) ≡ position (same_spelled s) es)
    → ((w : List ℕ) → h w ≡ option_or (g w) (cond (bytes_eq w key) (Some at) None)) → key ≡ type_key t → at ≡ length es → (s : Spelled) → h (type_key s) ≡ position (same_spelled s) (es ++ t ∷ [])
entries_more g h es t key at are after same size s =
    let found : Option ℕ = position (same_spelled s) es in
    after (type_key s) ∙ ap (λ (o : Option ℕ). option_or o (cond (bytes_eq (type_key s) key) (Some at) None)) (are s)
    ∙ ap (λ (v : List ℕ). option_or found (cond (bytes_eq (type_key s) v) (Some at) None)) same
    ∙ ap (λ (b : Bool). option_or found (cond b (Some at) None)) (same_key s t)
    ∙ ap (λ (k : ℕ). option_or found (cond {A = Option ℕ} (same_spelled s t) (Some k) None)) size
    ∙ sym (position_push (same_spelled s) es t)

-- a map with vectors for keys, at any bytes after a change

apart : (bs cs ks : List ℕ) → bytes_eq bs cs ≡ false → bytes_eq bs ks ≡ true → bytes_eq cs ks ≡ false
apart bs cs ks n y = nat_list_eq_equiv.symm cs ks ∙ sym (nat_list_eq_equiv.congr bs ks cs y) ∙ n

others : {K X : Type 0} (eq : K → K → Bool) (test : K → Bool) (old new : List (K × X)) → KeepsOthers eq test old new → (other : K → Bool) → IsKeyTest eq other → AreApart test other → lookup other new ≡ lookup other old
unfolding KeepsOthers
others eq test old new h = h

pub updates_items : {X Y S : Type 0} (bs : List ℕ) (m n : HashMap (Vec ℕ Y) X S) (w : Option X) → UpdatesBy (λ x y. bytes_eq x.items y.items) (λ k. bytes_eq bs k.items) m n w
    → (cs : List ℕ) → get_by (λ k. bytes_eq cs k.items) n ≡ cond (bytes_eq bs cs) w (get_by (λ k. bytes_eq cs k.items) m)
updates_items bs m n w h cs = go (bytes_eq bs cs) refl
  where
    go : (b : Bool) → bytes_eq bs cs ≡ b → get_by (λ k. bytes_eq cs k.items) n ≡ cond b w (get_by (λ k. bytes_eq cs k.items) m)
    go true t = ap (λ (v : List ℕ). get_by (λ k. bytes_eq v k.items) n) (sym ((bytes_eq-Decides bs cs).0 t)) ∙ h.1
    go false f = others _ _ _ _ h.3 _ (λ x y. nat_list_eq_equiv.congr cs x.items y.items) (λ k. apart bs cs k.items f)
