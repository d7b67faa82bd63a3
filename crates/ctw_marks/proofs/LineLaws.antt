-- Lines, by the grammar and by a function.
use Rattle.std.proofs.Common.{◌≡◌, ℕ, ◌^◌, Bool, true, false, List, [], ◌∷◌, Option, Some, None, option_map, refl, sym, ap, subst, ◌∙◌, codes, if◌then◌else◌}
use Rattle.std.specs.Str.{is_utf8, bytes_eq}
use Rattle.std.proofs.lemmas.Str.{IsUtf8-from_is_utf8, is_utf8-from_IsUtf8}
use Rattle.ctw_ops.specs.declared.types.Label.{Label}
use Rattle.ctw_ops.specs.declared.types.Label.TheVariants.{Public, Secret}
use Rattle.ctw_ops.specs.Segments.{and_then}
use Rattle.ctw_lex.specs.declared.TokenKind.{TokenKind}
use Rattle.ctw_lex.specs.declared.TokenKind.TheVariants.{Left, Right, Atom, Text}
use Rattle.ctw_lex.specs.Lexeme.{Lexeme}
use Rattle.ctw_lex.specs.Strings.{string_value}
use Rattle.ctw_lex.specs.NumberForms.{IsNumber}
use Rattle.ctw_lex.specs.NumberValues.{number_value}
use Rattle.ctw_lex.proofs.NumberLaws.{number_told, number_spelled}
use Rattle.ctw_lex.proofs.Spelling.{string_value-string, string-string_value}
use Rattle.ctw_lex.proofs.Facts.{some_same, none_some, mapped_some}
use Rattle.ctw_script.specs.Grammar.{IsWord, IsName}
use Rattle.ctw_script.specs.MoveValues.{atom_of_kind, atom_text, bytes_of_kind, bytes_value, name_value}
use Rattle.ctw_script.proofs.Facts.{and_then_found, tested_found, eq_bytes}
use Rattle.ctw_marks.specs.declared.line.Verb.{Verb}
use Rattle.ctw_marks.specs.declared.line.Verb.TheVariants as verb
use Rattle.ctw_marks.specs.declared.line.Kind.{Kind}
use Rattle.ctw_marks.specs.declared.line.Kind.TheVariants as kind
use Rattle.ctw_marks.specs.declared.order.Subject.{Subject}
use Rattle.ctw_marks.specs.declared.order.Subject.TheVariants.{Number, Export}
use Rattle.ctw_marks.specs.declared.order.Spot.{Spot}
use Rattle.ctw_marks.specs.declared.order.Spot.TheVariants as spot
use Rattle.ctw_marks.specs.declared.order.Order.{Order}
use Rattle.ctw_marks.specs.declared.order.Order.TheVariants as order
use Rattle.ctw_marks.specs.Grammar.{index_of, IsIndex, IsSubject, number, export, IsSpot, param, result, local, global, memory, IsOrder, secret, public, trust, release}
use Rattle.ctw_marks.specs.Orders.{index_value, subject_of_kind, subject_value, numbered_of, named_of, alone, kind_of, of_kind, spot_of, verb_of, of_verb, order_of}

-- ---- tokens

atom_found : (k : TokenKind) (text word : List ℕ) → atom_of_kind k text ≡ Some word → (k ≡ Atom) × (text ≡ word)
atom_found Left text word h = absurd (none_some h)
atom_found Right text word h = absurd (none_some h)
atom_found Text text word h = absurd (none_some h)
atom_found Atom text word h = (refl, some_same h)

atom_told : (t : Lexeme) → t.kind ≡ Atom → atom_text t ≡ Some t.text
atom_told t e = rw e refl

text_found : (k : TokenKind) (text bytes : List ℕ) → bytes_of_kind k text ≡ Some bytes → (k ≡ Text) × (string_value text ≡ Some bytes)
text_found Left text bytes h = absurd (none_some h)
text_found Right text bytes h = absurd (none_some h)
text_found Atom text bytes h = absurd (none_some h)
text_found Text text bytes h = (refl, h)

name_told : {t : Lexeme} {name : List ℕ} → IsName t name → name_value t ≡ Some name
name_told {t} {name} h = rw (h.bytes.kind, string_value-string t.text name h.bytes.spelled, is_utf8-from_IsUtf8 name h.utf8) refl

name_spelled : (t : Lexeme) (name : List ℕ) → name_value t ≡ Some name → IsName t name
name_spelled t name h =
    let passed = tested_found is_utf8 (bytes_value t) name h in
    let found = text_found t.kind t.text name passed.0 in
    record {
      bytes = record { kind = found.0; spelled = string-string_value t.text name found.1 };
      utf8 = IsUtf8-from_is_utf8 name passed.1;
    }

index_told : {t : Lexeme} {i : Option ℕ} → IsIndex t i → index_value t ≡ Some i
index_told {t} {i} h = rw (atom_told t h.kind, number_told h.spelled) (ap (λ z. Some z) h.index)

index_spelled : (t : Lexeme) (i : Option ℕ) → index_value t ≡ Some i → IsIndex t i
index_spelled t i h =
    let a = mapped_some (and_then (atom_text t) number_value) h in
    let b = and_then_found (atom_text t) number_value a.0 a.1 in
    let atom = atom_found t.kind t.text b.0 b.1 in
    record {
      kind = atom.0;
      value = a.0;
      spelled = subst (λ w. IsNumber w a.0) (sym atom.1) (number_spelled b.0 a.0 b.2);
      index = a.2;
    }

subject_told : {t : Lexeme} {s : Subject} → IsSubject t s → subject_value t ≡ Some s
subject_told (number {t = t} h) = ap (λ k. subject_of_kind k t) h.kind ∙ ap (option_map (λ i. Number i)) (index_told h)
subject_told (export {t = t} h) = ap (λ k. subject_of_kind k t) h.bytes.kind ∙ ap (option_map (λ name. Export name)) (name_told h)

subject_found : (k : TokenKind) (t : Lexeme) (s : Subject) → t.kind ≡ k → subject_of_kind k t ≡ Some s → IsSubject t s
subject_found Left t s e h = absurd (none_some h)
subject_found Right t s e h = absurd (none_some h)
subject_found Atom t s e h =
    let a = mapped_some (index_value t) h in
    subst (IsSubject t) a.2 (number (index_spelled t a.0 a.1))
subject_found Text t s e h =
    let a = mapped_some (name_value t) h in
    subst (IsSubject t) a.2 (export (name_spelled t a.0 a.1))

subject_spelled : (t : Lexeme) (s : Subject) → subject_value t ≡ Some s → IsSubject t s
subject_spelled t s h = subject_found t.kind t s refl h

-- ---- what stands behind a first word

pub record Numbered (ts : List Lexeme) (s : Subject) (i : Option ℕ) : Type 0 where
  pub first : Lexeme
  pub second : Lexeme
  pub list : ts ≡ first ∷ second ∷ []
  pub subject : IsSubject first s
  pub index : IsIndex second i

numbered_told : {f k : Lexeme} {s : Subject} {i : Option ℕ} → IsSubject f s → IsIndex k i → numbered_of (f ∷ k ∷ []) ≡ Some (s, i)
numbered_told a b = rw (subject_told a, index_told b) refl

numbered_found : (ts : List Lexeme) (p : Subject × Option ℕ) → numbered_of ts ≡ Some p → Numbered ts p.0 p.1
numbered_found [] p h = absurd (none_some h)
numbered_found (f ∷ []) p h = absurd (none_some h)
numbered_found (f ∷ k ∷ t ∷ ts) p h = absurd (none_some h)
numbered_found (f ∷ k ∷ []) p h =
    let a = and_then_found (subject_value f) _ p h in
    let b = mapped_some (index_value k) a.2 in
    subst (λ (z : Subject × Option ℕ). Numbered (f ∷ k ∷ []) z.0 z.1) b.2
    (record { first = f; second = k; list = refl; subject = subject_spelled f a.0 a.1; index = index_spelled k b.0 b.1 })

pub record Named (ts : List Lexeme) (s : Subject) : Type 0 where
  pub first : Lexeme
  pub list : ts ≡ first ∷ []
  pub subject : IsSubject first s

named_told : {f : Lexeme} {s : Subject} → IsSubject f s → named_of (f ∷ []) ≡ Some s
named_told a = subject_told a

named_found : (ts : List Lexeme) (s : Subject) → named_of ts ≡ Some s → Named ts s
named_found [] s h = absurd (none_some h)
named_found (f ∷ t ∷ ts) s h = absurd (none_some h)
named_found (f ∷ []) s h = record { first = f; list = refl; subject = subject_spelled f s h }

alone_found : {A : Type 0} (a b : A) (ts : List Lexeme) → alone a ts ≡ Some b → (ts ≡ []) × (a ≡ b)
alone_found a b [] h = (refl, some_same h)
alone_found a b (t ∷ ts) h = absurd (none_some h)

-- ---- first words of places

abbrev kind_word : Kind → List ℕ
kind_word kind.Param = codes "param"
kind_word kind.Result = codes "result"
kind_word kind.Local = codes "local"
kind_word kind.Global = codes "global"
kind_word kind.Memory = codes "memory"

module _ {K : Type 0} (word : K → List ℕ) (text : List ℕ) (x v : K) (rest : Option K) where
  pick_by : (t : Bool) → bytes_eq text (word x) ≡ t → (rest ≡ Some v → text ≡ word v)
      → (if bytes_eq text (word x) then Some x else rest) ≡ Some v → text ≡ word v
  pick_by true e more h =
      let f : Some x ≡ Some v = rw e at h in
      eq_bytes text (word x) e ∙ ap word (some_same f)
  pick_by false e more h = more (rw e at h)

  pick : (rest ≡ Some v → text ≡ word v) → (if bytes_eq text (word x) then Some x else rest) ≡ Some v → text ≡ word v
  pick more h = pick_by (bytes_eq text (word x)) refl more h

kind_spelled : (text : List ℕ) (v : Kind) → kind_of text ≡ Some v → text ≡ kind_word v
kind_spelled text v h =
    pick kind_word text kind.Param v _ (λ h1.
    pick kind_word text kind.Result v _ (λ h2.
    pick kind_word text kind.Local v _ (λ h3.
    pick kind_word text kind.Global v _ (λ h4.
    pick kind_word text kind.Memory v _ (λ h5. absurd (none_some h5)) h4) h3) h2) h1) h

kind_told : (v : Kind) → kind_of (kind_word v) ≡ Some v
kind_told kind.Param = refl
kind_told kind.Result = refl
kind_told kind.Local = refl
kind_told kind.Global = refl
kind_told kind.Memory = refl

kind_first : (v : Kind) {w : Lexeme} → IsWord (kind_word v) w → and_then (atom_text w) kind_of ≡ Some v
kind_first v {w} h = rw (atom_told w h.kind, h.text) (kind_told v)

spot_told : {ts : List Lexeme} {s : Spot} → IsSpot ts s → spot_of ts ≡ Some s
spot_told (param w f k) = rw (kind_first kind.Param w, numbered_told f k) refl
spot_told (result w f) = rw (kind_first kind.Result w, named_told f) refl
spot_told (local w f k) = rw (kind_first kind.Local w, numbered_told f k) refl
spot_told (global w f) = rw (kind_first kind.Global w, named_told f) refl
spot_told (memory w) = rw (kind_first kind.Memory w) refl

of_kind_spelled : (v : Kind) (w : Lexeme) → IsWord (kind_word v) w → (ts : List Lexeme) (s : Spot) → of_kind v ts ≡ Some s → IsSpot (w ∷ ts) s
of_kind_spelled kind.Param w first ts s h =
    let a = mapped_some (numbered_of ts) h in
    let b = numbered_found ts a.0 a.1 in
    subst (IsSpot (w ∷ ts)) a.2 (subst (λ z. IsSpot (w ∷ z) (spot.Param a.0.0 a.0.1)) (sym b.list) (param first b.subject b.index))
of_kind_spelled kind.Result w first ts s h =
    let a = mapped_some (named_of ts) h in
    let b = named_found ts a.0 a.1 in
    subst (IsSpot (w ∷ ts)) a.2 (subst (λ z. IsSpot (w ∷ z) (spot.Result a.0)) (sym b.list) (result first b.subject))
of_kind_spelled kind.Local w first ts s h =
    let a = mapped_some (numbered_of ts) h in
    let b = numbered_found ts a.0 a.1 in
    subst (IsSpot (w ∷ ts)) a.2 (subst (λ z. IsSpot (w ∷ z) (spot.Local a.0.0 a.0.1)) (sym b.list) (local first b.subject b.index))
of_kind_spelled kind.Global w first ts s h =
    let a = mapped_some (named_of ts) h in
    let b = named_found ts a.0 a.1 in
    subst (IsSpot (w ∷ ts)) a.2 (subst (λ z. IsSpot (w ∷ z) (spot.Global a.0)) (sym b.list) (global first b.subject))
of_kind_spelled kind.Memory w first ts s h =
    let a = alone_found spot.Memory s ts h in
    subst (IsSpot (w ∷ ts)) a.1 (subst (λ z. IsSpot (w ∷ z) spot.Memory) (sym a.0) (memory first))

spot_spelled : (ts : List Lexeme) (s : Spot) → spot_of ts ≡ Some s → IsSpot ts s
spot_spelled [] s h = absurd (none_some h)
spot_spelled (w ∷ ts) s h =
    let a = and_then_found (and_then (atom_text w) kind_of) (λ k. of_kind k ts) s h in
    let b = and_then_found (atom_text w) kind_of a.0 a.1 in
    let atom = atom_found w.kind w.text b.0 b.1 in
    let word : IsWord (kind_word a.0) w = record { kind = atom.0; text = atom.1 ∙ kind_spelled b.0 a.0 b.2 } in
    of_kind_spelled a.0 w word ts s a.2

-- ---- lines

abbrev verb_word : Verb → List ℕ
verb_word verb.Secret = codes "secret"
verb_word verb.Public = codes "public"
verb_word verb.Trust = codes "trust"
verb_word verb.Release = codes "release"

verb_spelled : (text : List ℕ) (v : Verb) → verb_of text ≡ Some v → text ≡ verb_word v
verb_spelled text v h =
    pick verb_word text verb.Secret v _ (λ h1.
    pick verb_word text verb.Public v _ (λ h2.
    pick verb_word text verb.Trust v _ (λ h3.
    pick verb_word text verb.Release v _ (λ h4. absurd (none_some h4)) h3) h2) h1) h

verb_told : (v : Verb) → verb_of (verb_word v) ≡ Some v
verb_told verb.Secret = refl
verb_told verb.Public = refl
verb_told verb.Trust = refl
verb_told verb.Release = refl

verb_first : (v : Verb) {w : Lexeme} → IsWord (verb_word v) w → and_then (atom_text w) verb_of ≡ Some v
verb_first v {w} h = rw (atom_told w h.kind, h.text) (verb_told v)

pub order_told : {ts : List Lexeme} {o : Order} → IsOrder ts o → order_of ts ≡ Some o
order_told (secret w s) = rw (verb_first verb.Secret w, spot_told s) refl
order_told (public w s) = rw (verb_first verb.Public w, spot_told s) refl
order_told (trust w f) = rw (verb_first verb.Trust w, named_told f) refl
order_told (release w f k) = rw (verb_first verb.Release w, numbered_told f k) refl

of_verb_spelled : (v : Verb) (w : Lexeme) → IsWord (verb_word v) w → (ts : List Lexeme) (o : Order) → of_verb v ts ≡ Some o → IsOrder (w ∷ ts) o
of_verb_spelled verb.Secret w first ts o h =
    let a = mapped_some (spot_of ts) h in
    subst (IsOrder (w ∷ ts)) a.2 (secret first (spot_spelled ts a.0 a.1))
of_verb_spelled verb.Public w first ts o h =
    let a = mapped_some (spot_of ts) h in
    subst (IsOrder (w ∷ ts)) a.2 (public first (spot_spelled ts a.0 a.1))
of_verb_spelled verb.Trust w first ts o h =
    let a = mapped_some (named_of ts) h in
    let b = named_found ts a.0 a.1 in
    subst (IsOrder (w ∷ ts)) a.2 (subst (λ z. IsOrder (w ∷ z) (order.Trust a.0)) (sym b.list) (trust first b.subject))
of_verb_spelled verb.Release w first ts o h =
    let a = mapped_some (numbered_of ts) h in
    let b = numbered_found ts a.0 a.1 in
    subst (IsOrder (w ∷ ts)) a.2 (subst (λ z. IsOrder (w ∷ z) (order.Release a.0.0 a.0.1)) (sym b.list) (release first b.subject b.index))

pub order_spelled : (ts : List Lexeme) (o : Order) → order_of ts ≡ Some o → IsOrder ts o
order_spelled [] o h = absurd (none_some h)
order_spelled (w ∷ ts) o h =
    let a = and_then_found (and_then (atom_text w) verb_of) (λ v. of_verb v ts) o h in
    let b = and_then_found (atom_text w) verb_of a.0 a.1 in
    let atom = atom_found w.kind w.text b.0 b.1 in
    let word : IsWord (verb_word a.0) w = record { kind = atom.0; text = atom.1 ∙ verb_spelled b.0 a.0 b.2 } in
    of_verb_spelled a.0 w word ts o a.2

-- a line asks for one thing
pub order_once : (ts : List Lexeme) (a b : Order) → IsOrder ts a → IsOrder ts b → a ≡ b
order_once ts a b h k = some_same (sym (order_told h) ∙ order_told k)

pub order_unread : (ts : List Lexeme) → order_of ts ≡ None → (o : Order) → IsOrder ts o → ⊥
order_unread ts e o h = none_some (sym e ∙ order_told h)
