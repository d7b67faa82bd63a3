-- The third and the fourth pass, one after another.
use Rattle.std.proofs.Common.{◌≡◌, ℕ, ◌≤◌, Bool, true, false, not, length, List, [], ◌∷◌, Option, Some, None, refl, sym, ap, subst, ◌∙◌}
use Rattle.std.specs.Prelude.{Result, Ok, Err, IfOk, IfErr, IfSome, IsSome, ◌&&◌, nat_lt}
use Rattle.std.proofs.lemmas.Bool.{ltb-false}
use Rattle.ctw_ops.specs.Limits.{most_plain_bytes}
use Rattle.ctw_ops.specs.declared.fault.What.TheVariants.{Bytes}
use Rattle.ctw_lex.specs.Lexeme.{Lexeme}
use Rattle.ctw_lex.specs.Tokens.{tokens_of}
use Rattle.ctw_text.specs.Toks.{toks_of}
use Rattle.ctw_text.specs.declared.pieces.Piece.{Piece}
use Rattle.ctw_text.specs.Grammar.{Spells}
use Rattle.ctw_text.specs.Machine.{is_ct, spelled}
use Rattle.ctw_text.specs.Fields.{fields_of}
use Rattle.ctw_form.specs.Spelled as file
use Rattle.ctw_write.specs.Canon.{canon}
use Rattle.ctw_parse.specs.WideCanon.{wide_canon}
use Rattle.ctw_text.specs.declared.fields.Field.{Field}
use Rattle.ctw_text.specs.Names.{NameFault, Wide, leftmost, faults_of, settled, wide_of, named}
use Rattle.ctw_text.specs.Limits.{Excess, over, excess_of, first, bounded, narrow}
use Rattle.ctw_text.specs.Denotes.{Fault, InExcess, in_limits}
use Rattle.ctw_parse.specs.Assembled.{bytes_excess, all_excess, after_names, after_grammar, after_lex, HasModule, IsAssembly}
use Rattle.ctw_parse.specs.Written.{CanBeWritten}
use Rattle.ctw_parse.specs.Numbers.{HasNumbers}
use Rattle.ctw_parse.proofs.NarrowTexts.{nil_left, nil_right}

settled_is : (o : Option NameFault) (w m : Wide) → settled o w ≡ Ok m → w ≡ m
settled_is None w m e = cc
settled_is (Some f) w m e = absurd cc

-- what is named can be written where its fields can
pub named_written : (ct : Bool) (fs : List Field) (m : Wide) → named ct fs ≡ Ok m → CanBeWritten (wide_of ct fs) → CanBeWritten m
named_written ct fs m e c = subst CanBeWritten (settled_is (leftmost (faults_of fs)) (wide_of ct fs) m e) c

none_left : (l : List Excess) → first l ≡ None → l ≡ []
none_left [] e = refl
none_left (x ∷ l) e = absurd cc

pub named_within : (n : Result Wide NameFault) (m : Wide) → n ≡ Ok m → first (all_excess m) ≡ None → after_names n ≡ Ok (narrow m)
named_within n m e f = ap after_names e ∙ ap (λ (l : List Excess). in_limits (bounded l m)) (none_left (all_excess m) f)

first_told : (l : List Excess) (m : Wide) (fault : Fault) → IfSome (first l) (λ e. fault ≡ InExcess e) → IsSome (first l) → in_limits (bounded l m) ≡ Err fault
first_told [] m fault h s = absurd cc
first_told (e ∷ l) m fault h s = ap (λ (f : Fault). Err f) (sym h)

pub named_past : (n : Result Wide NameFault) (m : Wide) (fault : Fault) → n ≡ Ok m → IfSome (first (all_excess m)) (λ e. fault ≡ InExcess e) → IsSome (first (all_excess m)) → after_names n ≡ Err fault
named_past n m fault e h s = ap after_names e ∙ first_told (all_excess m) m fault h s

pub if_ok : {A E : Type 0} {P Q R : A → Type 0} (r : Result A E) → ((a : A) → P a → Q a → R a) → IfOk r P → IfOk r Q → IfOk r R
if_ok (Ok a) f p q = f a p q
if_ok (Err e) f p q = tt

pub if_ok_three : {A E : Type 0} {P Q R S : A → Type 0} (r : Result A E) → ((a : A) → P a → Q a → R a → S a) → IfOk r P → IfOk r Q → IfOk r R → IfOk r S
if_ok_three (Ok a) f p q t = f a p q t
if_ok_three (Err e) f p q t = tt

pub if_err : {A E : Type 0} {P Q R : E → Type 0} (r : Result A E) → ((e : E) → P e → Q e → R e) → IfErr r P → IfErr r Q → IfErr r R
if_err (Ok a) f p q = tt
if_err (Err e) f p q = f e p q

pub if_some : {A : Type 0} {P Q R : A → Type 0} (o : Option A) → ((a : A) → P a → Q a → R a) → IfSome o P → IfSome o Q → IfSome o R
if_some None f p q = tt
if_some (Some a) f p q = f a p q

pub has_module : (ct : Bool) (fs : List Field) (m : Wide) (bytes : List ℕ) → named ct fs ≡ Ok m → HasNumbers m → (excess_of (wide_of ct fs) ≡ [] → wide_canon (wide_of ct fs) ≡ canon (narrow (wide_of ct fs))) → first (all_excess m) ≡ None → bytes ≡ wide_canon m → HasModule ct fs bytes
has_module ct fs m bytes e n same f b =
    let none = none_left (all_excess m) f in
    let here : excess_of m ≡ [] → wide_canon m ≡ canon (narrow m) = subst (λ (w : Wide). excess_of w ≡ [] → wide_canon w ≡ canon (narrow w)) (settled_is (leftmost (faults_of fs)) (wide_of ct fs) m e) same in
    record { wide = m; names = e; limits = none; numbers = n; text = b ∙ here (nil_right (bytes_excess m) (excess_of m) none) }

small_bytes : (ct : Bool) (n : ℕ) → over (not ct && nat_lt most_plain_bytes n) Bytes most_plain_bytes ≡ [] → ct ≡ false → n ≤ most_plain_bytes
small_bytes true n e q = absurd cc
small_bytes false n e q = go (nat_lt most_plain_bytes n) refl e
  where
    go : (b : Bool) → nat_lt most_plain_bytes n ≡ b → over b Bytes most_plain_bytes ≡ [] → n ≤ most_plain_bytes
    go true t e = absurd cc
    go false t e = ltb-false most_plain_bytes n t

-- a plain module's bytes are not too many
abbrev pub IsShortIfPlain : Wide → Type 0
IsShortIfPlain m = m.ct ≡ false → length (canon (narrow m)) ≤ most_plain_bytes

pub is_assembly : (text bytes : List ℕ) (ts : List Lexeme) (ct : Bool) (ps : List Piece) → tokens_of text ≡ Ok ts → Spells ct (toks_of ts) ps → spelled (toks_of ts) ≡ Ok ps → ct ≡ is_ct (toks_of ts)
    → ((w : Wide) → excess_of w ≡ [] → named ct (fields_of ps) ≡ Ok w → wide_canon w ≡ canon (narrow w))
    → ((w : Wide) → excess_of w ≡ [] → named ct (fields_of ps) ≡ Ok w → HasNumbers w → IsShortIfPlain w → file.Spells (canon (narrow w)) (narrow w)) → HasModule ct (fields_of ps) bytes → IsAssembly text bytes
is_assembly text bytes ts ct ps lexed grammar second kind same taken h =
    let none : excess_of h.wide ≡ [] = nil_right (bytes_excess h.wide) (excess_of h.wide) h.limits in
    let short : IsShortIfPlain h.wide = λ plain. subst (λ (l : List ℕ). length l ≤ most_plain_bytes) (same h.wide none h.names) (small_bytes h.wide.ct (length (wide_canon h.wide)) (nil_left (bytes_excess h.wide) (excess_of h.wide) h.limits) plain) in
    let wide : after_names (named ct (fields_of ps)) ≡ Ok (narrow h.wide) = ap after_names h.names ∙ ap (λ (l : List Excess). in_limits (bounded l h.wide)) h.limits in
    record {
      tokens = ts;
      lexed = lexed;
      m = narrow h.wide;
      denotes = record {
        denotes = record { ct = ct; pieces = ps; wide = h.wide; spells = grammar; names = h.names; limits = ap (λ (l : List Excess). bounded l h.wide) none };
        bytes = short;
      };
      computed = ap (after_lex (length text)) lexed ∙ ap (after_grammar (length text) (is_ct (toks_of ts)) ts) second ∙ ap (λ (b : Bool). after_names (named b (fields_of ps))) (sym kind) ∙ wide;
      spelled = h.text;
      read = subst (λ (l : List ℕ). file.Spells l (narrow h.wide)) (sym h.text) (taken h.wide none h.names h.numbers short);
    }

pub same_named : (ct : Bool) (fs : List Field) → (excess_of (wide_of ct fs) ≡ [] → wide_canon (wide_of ct fs) ≡ canon (narrow (wide_of ct fs))) → (w : Wide) → excess_of w ≡ [] → named ct fs ≡ Ok w → wide_canon w ≡ canon (narrow w)
same_named ct fs same w none e = subst (λ (w : Wide). excess_of w ≡ [] → wide_canon w ≡ canon (narrow w)) (settled_is (leftmost (faults_of fs)) (wide_of ct fs) w e) same none

pub spelled_named : (ct : Bool) (fs : List Field) → (excess_of (wide_of ct fs) ≡ [] → HasNumbers (wide_of ct fs) → IsShortIfPlain (wide_of ct fs) → file.Spells (canon (narrow (wide_of ct fs))) (narrow (wide_of ct fs))) → (w : Wide) → excess_of w ≡ [] → named ct fs ≡ Ok w → HasNumbers w → IsShortIfPlain w → file.Spells (canon (narrow w)) (narrow w)
spelled_named ct fs taken w none e n short = subst (λ (w : Wide). excess_of w ≡ [] → HasNumbers w → IsShortIfPlain w → file.Spells (canon (narrow w)) (narrow w)) (settled_is (leftmost (faults_of fs)) (wide_of ct fs) w e) taken none n short
