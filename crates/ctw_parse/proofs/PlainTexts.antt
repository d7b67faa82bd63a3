-- What the grammar has of each field: names are text, and a plain module has no label, trust, variant, classify or declassify.
use Rattle.std.proofs.Common.{◌≡◌, ℕ, Bool, true, false, cond, not, List, [], ◌∷◌, ◌++◌, Option, Some, None, refl, subst, append_assoc}
use Rattle.std.specs.Prelude.{◌&&◌, ◌||◌, unwrap_or}
use Rattle.std.specs.Option.{is_none}
use Rattle.std.specs.List.{list_all}
use Rattle.ctw_ops.specs.declared.types.Label.{Label}
use Rattle.ctw_ops.specs.declared.types.ExternTag.{ExternTag}
use Rattle.ctw_ops.specs.declared.types.ExternTag.TheVariants.{Func, Table, Memory, Global}
use Rattle.ctw_ops.specs.declared.types.Trust.{Trust}
use Rattle.ctw_ops.specs.declared.types.Trust.TheVariants.{Untrusted, Trusted}
use Rattle.ctw_ops.specs.ValueType.{ValueType}
use Rattle.ctw_ops.specs.Code as ops
use Rattle.ctw_ops.specs.Code.{Leaf}
use Rattle.ctw_text.specs.declared.keys.Key.{Key}
use Rattle.ctw_text.specs.declared.keys.Key.TheVariants as key
use Rattle.ctw_text.specs.declared.keys.Form.{Form}
use Rattle.ctw_text.specs.declared.keys.Form.TheVariants as k
use Rattle.ctw_text.specs.declared.keys.Part.TheVariants as part
use Rattle.ctw_text.specs.Keys.{is_own_leaf, allowed}
use Rattle.ctw_text.specs.declared.toks.Tok.{Tok}
use Rattle.ctw_text.specs.declared.pieces.Role.{Role}
use Rattle.ctw_text.specs.declared.pieces.Role.TheVariants as role
use Rattle.ctw_text.specs.declared.pieces.Quoted.TheVariants as quoted
use Rattle.ctw_text.specs.declared.pieces.FieldKind.{FieldKind}
use Rattle.ctw_text.specs.declared.pieces.FieldKind.TheVariants as field
use Rattle.ctw_text.specs.declared.pieces.Piece.{Piece}
use Rattle.ctw_text.specs.declared.pieces.Piece.TheVariants as piece
use Rattle.ctw_text.specs.declared.sorts.Before.{Before}
use Rattle.ctw_text.specs.declared.sorts.Filling.{Filling}
use Rattle.ctw_text.specs.declared.sorts.Filling.TheVariants as filling
use Rattle.ctw_text.specs.declared.sorts.Sort.{Sort}
use Rattle.ctw_text.specs.declared.sorts.Sort.TheVariants as sort
use Rattle.ctw_text.specs.declared.sorts.Place.{Place}
use Rattle.ctw_text.specs.declared.sorts.Place.TheVariants as place
use Rattle.ctw_text.specs.declared.sorts.Tail.{Tail}
use Rattle.ctw_text.specs.declared.sorts.Tail.TheVariants as tails
use Rattle.ctw_text.specs.declared.fields.Raw.{Raw}
use Rattle.ctw_text.specs.declared.fields.Raw.TheVariants.{Single as RSingle, Indirect as RIndirect, Opens as ROpens}
use Rattle.ctw_text.specs.declared.fields.Item.{Item}
use Rattle.ctw_text.specs.declared.fields.Item.TheVariants.{Op}
use Rattle.ctw_text.specs.declared.fields.Variable.{Variable}
use Rattle.ctw_text.specs.declared.fields.Use.{Use}
use Rattle.ctw_text.specs.declared.fields.Draft.{Draft}
use Rattle.ctw_text.specs.declared.fields.Field.{Field}
use Rattle.ctw_text.specs.Fields.{Gathered, add, put, gathered, fields_of, first_named, at_place}
use Rattle.ctw_text.specs.Written.{Name, is_text}
use Rattle.ctw_text.specs.Grammar as g
use Rattle.ctw_text.specs.Grammar.{Move, Rule1, Rule2, Derives, Spells}
use Rattle.ctw_parse.proofs.Nested.{is_nil, first_true, second_true, both_true}

-- ---- pieces

-- a variant has a base in a CT module alone
abbrev role_told : Bool → Role → Bool
role_told ct role.OfBase = allowed ct key.Variant
role_told ct _ = true

-- the piece of such an index sets a field's target
abbrev targets : Role → Bool
targets role.OfBase = true
targets (role.OfExport tag) = true
targets role.OfStart = true
targets role.OfTable = true
targets role.OfMemory = true
targets _ = false

abbrev pub leaf_told : Bool → Leaf Label → Bool
leaf_told ct leaf = ct || not (is_own_leaf leaf)

abbrev pub type_told : Bool → ValueType Label → Bool
type_told ct t = allowed ct (key.Ty t)

-- names are text, and own words stand in CT modules alone
abbrev piece_told : Bool → Piece → Bool
piece_told ct (piece.Quotes what bytes) = g.takes_bytes what bytes
piece_told ct (piece.Refers role x) = role_told ct role
piece_told ct piece.IsSecret = allowed ct key.Secret
piece_told ct (piece.ValueIs t) = type_told ct t
piece_told ct piece.Trusting = allowed ct key.Trusted
piece_told ct (piece.Typed part t) = type_told ct t
piece_told ct (piece.Single leaf) = leaf_told ct leaf
piece_told ct (piece.Yields t) = type_told ct t
piece_told ct _ = true

abbrev has_target : Piece → Bool
has_target (piece.Refers role x) = targets role
has_target _ = false

-- a field of that kind has no target; a type field has none where variants may not stand
abbrev pub untargeted : Bool → FieldKind → Bool
untargeted ct field.TypeField = cond ct false true
untargeted ct field.ImportField = true
untargeted ct (field.Defining tag) = true
untargeted ct field.CustomField = true
untargeted ct _ = false

abbrev begun : Bool → Piece → Option Bool
begun ct (piece.Begin kind) = Some (untargeted ct kind)
begun ct _ = None

-- the rest of a field, where `clear` without a target, and all fields behind it
abbrev tells : (ct clear : Bool) → List Piece → Bool
tells ct c [] = true
tells ct c (p ∷ ps) = piece_told ct p && ((not (has_target p) || not c) && tells ct (unwrap_or (begun ct p) c) ps)

-- ---- what sorts stand for

-- nothing stands behind the fields, and where a base or a constant is due its word is allowed
abbrev fit : Bool → List Sort → Bool
fit ct [] = true
fit ct (sort.Module ∷ st) = is_nil st
fit ct (sort.Head named ∷ st) = is_nil st
fit ct (sort.Fields b ∷ st) = is_nil st
fit ct (sort.ExternHead tag b named ∷ st) = is_nil st
fit ct (sort.AnIndex role ∷ st) = role_told ct role && fit ct st
fit ct (sort.SegmentHead role rest ∷ st) = role_told ct role && fit ct st
fit ct (sort.AConst w l ∷ st) = allowed ct (key.Op (k.Const w l)) && fit ct st
fit ct (_ ∷ st) = fit ct st

-- no target comes up to the next field
abbrev clear : Bool → List Sort → Bool
clear ct [] = true
clear ct (sort.Module ∷ st) = true
clear ct (sort.Head named ∷ st) = true
clear ct (sort.Fields b ∷ st) = true
clear ct (sort.ExternHead tag b named ∷ st) = true
clear ct (sort.TypeHead named ∷ st) = cond ct false (clear ct st)
clear ct (sort.AnIndex role ∷ st) = cond (targets role) false (clear ct st)
clear ct (sort.SegmentHead role rest ∷ st) = false
clear ct (sort.ExportKind ∷ st) = false
clear ct (_ ∷ st) = clear ct st

module _ (ct : Bool) where
  abbrev Says : List Sort → List Piece → Type 0
  Says st ps = fit ct st ≡ true → tells ct (clear ct st) ps ≡ true

  weaker_at : (t c : Bool) → not t || not c ≡ true → not t || true ≡ true
  weaker_at true c e = refl
  weaker_at false c e = refl

  weaker : (ps : List Piece) (c : Bool) → tells ct c ps ≡ true → tells ct false ps ≡ true
  weaker [] c h = refl
  weaker (p ∷ ps) c h =
      let r = second_true (piece_told ct p) _ h in
      both_true (first_true (piece_told ct p) _ h) (both_true (weaker_at (has_target p) c (first_true (not (has_target p) || not c) _ r)) (go (weaker ps c) (begun ct p) (second_true (not (has_target p) || not c) _ r)))
    where
      go : (tells ct c ps ≡ true → tells ct false ps ≡ true) → (o : Option Bool) → tells ct (unwrap_or o c) ps ≡ true → tells ct (unwrap_or o false) ps ≡ true
      go rest None h = rest h
      go rest (Some b) h = h

  less_told : (t c : Bool) (ps : List Piece) → tells ct c ps ≡ true → tells ct (cond t false c) ps ≡ true
  less_told true c ps h = weaker ps c h
  less_told false c ps h = h

  variant_told : (b c : Bool) (ps : List Piece) → allowed b key.Variant ≡ true → tells ct false ps ≡ true → tells ct (cond b false c) ps ≡ true
  variant_told true c ps e h = h
  variant_told false c ps e h = absurd cc

  -- an index of a role
  refers_told : (ok t c : Bool) (ps : List Piece) → ok ≡ true → tells ct c ps ≡ true → ok && ((not t || not (cond t false c)) && tells ct (cond t false c) ps) ≡ true
  refers_told ok true c ps e h = both_true e (weaker ps c h)
  refers_told ok false c ps e h = both_true e h

  segment_told : (ok t c : Bool) (ps : List Piece) → ok ≡ true → tells ct c ps ≡ true → ok && ((not t || true) && tells ct false ps) ≡ true
  segment_told ok true c ps e h = both_true e (weaker ps c h)
  segment_told ok false c ps e h = both_true e (weaker ps c h)

  -- the type of an import, the rest of a field, and what fills a segment
  import_told : (tag : ExternTag) (st : List Sort) (ps : List Piece) → Says (g.type_of tag ∷ st) ps → Says st ps
  import_told Func st ps h = h
  import_told Table st ps h = h
  import_told Memory st ps h = h
  import_told Global st ps h = h

  body_told : (tag : ExternTag) (b : Before) (st : List Sort) (ps : List Piece) → Says (g.body_of tag ∷ sort.Fields b ∷ st) ps → Says (sort.Fields b ∷ st) ps
  body_told Func b st ps h = h
  body_told Table b st ps h = h
  body_told Memory b st ps h = h
  body_told Global b st ps h = h

  filled_told : (rest : Filling) (st : List Sort) (ps : List Piece) → Says (g.filled rest ∷ st) ps → Says st ps
  filled_told filling.Functions st ps h = h
  filled_told filling.Bytes st ps h = h

  -- an instruction's word, plain and folded
  word_told : (f : Form) (tail : Tail) (p : Place) (st : List Sort) (ps : List Piece) → allowed ct (key.Op f) ≡ true → Says (g.operands_of f (sort.After (g.tail_of f) p ∷ []) ++ st) ps → Says (sort.After tail p ∷ st) (g.pieces_of f ++ ps)
  word_told (k.Bare leaf) tail p st ps a h sh = both_true a (h sh)
  word_told (k.Access leaf) tail p st ps a h sh = both_true a (h sh)
  word_told (k.Const w l) tail p st ps a h sh = h (both_true a sh)
  word_told (k.Uses op) tail p st ps a h sh = h sh
  word_told k.BrTable tail p st ps a h sh = h sh
  word_told k.CallIndirect tail p st ps a h sh = h sh

  folded_told : (f : Form) (tail : Tail) (p : Place) (st : List Sort) (ps : List Piece) → allowed ct (key.Op f) ≡ true → Says (g.operands_of f (sort.After (g.tail_of f) place.InOperands ∷ sort.After tails.NoTail p ∷ []) ++ st) ps
      → Says (sort.After tail p ∷ st) (piece.Fold ∷ (g.pieces_of f ++ ps))
  folded_told (k.Bare leaf) tail p st ps a h sh = both_true a (h sh)
  folded_told (k.Access leaf) tail p st ps a h sh = both_true a (h sh)
  folded_told (k.Const w l) tail p st ps a h sh = h (both_true a sh)
  folded_told (k.Uses op) tail p st ps a h sh = h sh
  folded_told k.BrTable tail p st ps a h sh = h sh
  folded_told k.CallIndirect tail p st ps a h sh = h sh

  moved : (next : List Sort) (s : Sort) (st : List Sort) (ps : List Piece) → Says ((next ++ s ∷ []) ++ st) ps → Says (next ++ (s ∷ st)) ps
  moved next s st ps h = subst (λ l. Says l ps) (append_assoc next (s ∷ []) st) h

  told1 : {s : Sort} {t : Tok} {m : Move} → Rule1 ct s t m → (st : List Sort) (ps : List Piece) → Says (m.next ++ st) ps → Says (s ∷ st) (m.out ++ ps)
  told1 g.Rule1.module_name st ps h sh = h sh
  told1 (g.Rule1.ct_fields e) st ps h sh = h sh
  told1 (g.Rule1.plain_fields e r) st ps h sh = told1 r st ps h sh
  told1 g.Rule1.no_more_fields [] ps h sh = h sh
  told1 g.Rule1.no_more_fields (s ∷ st) ps h sh = absurd cc
  told1 g.Rule1.closing st ps h sh = h sh
  told1 g.Rule1.type_name st ps h sh = h sh
  told1 (g.Rule1.trusted e e1) st ps h sh = both_true e (h sh)
  told1 (g.Rule1.slot e) st ps h sh = h sh
  told1 (g.Rule1.first_type e) st ps h sh = both_true e (h sh)
  told1 g.Rule1.no_types st ps h sh = h sh
  told1 (g.Rule1.next_type e) st ps h sh = both_true e (h sh)
  told1 g.Rule1.no_more_types st ps h sh = h sh
  told1 (g.Rule1.one_type e) st ps h sh = both_true e (h sh)
  told1 (g.Rule1.yields e) st ps h sh = both_true e (h sh)
  told1 (g.Rule1.value e) st ps h sh = both_true e (h sh)
  told1 (g.Rule1.numbered {role} e) st ps h sh = refers_told (role_told ct role) (targets role) (clear ct st) ps (first_true _ _ sh) (h (second_true _ _ sh))
  told1 (g.Rule1.named {role}) st ps h sh = refers_told (role_told ct role) (targets role) (clear ct st) ps (first_true _ _ sh) (h (second_true _ _ sh))
  told1 (g.Rule1.unsigned e) st ps h sh = both_true (first_true _ _ sh) (h (second_true _ _ sh))
  told1 (g.Rule1.signed e) st ps h sh = both_true (first_true _ _ sh) (h (second_true _ _ sh))
  told1 (g.Rule1.string e) st ps h sh = both_true e (h sh)
  told1 g.Rule1.extern_name st ps h sh = h sh
  told1 (g.Rule1.extern_body {tag} {b} {m} r) st ps h sh = body_told tag (g.defining b) st (m.out ++ ps) (told1 r (sort.Fields (g.defining b) ∷ st) ps (moved m.next (sort.Fields (g.defining b)) st ps h)) sh
  told1 (g.Rule1.table_min e) st ps h sh = h sh
  told1 g.Rule1.table_inline st ps h sh = h sh
  told1 (g.Rule1.table_type e) st ps h sh = h sh
  told1 (g.Rule1.table_max e) st ps h sh = h sh
  told1 g.Rule1.table_no_max st ps h sh = h sh
  told1 g.Rule1.funcref st ps h sh = h sh
  told1 (g.Rule1.memory_secret e) st ps h sh = both_true e (h sh)
  told1 (g.Rule1.memory_public r) st ps h sh = told1 r st ps h sh
  told1 (g.Rule1.memory_min e) st ps h sh = h sh
  told1 (g.Rule1.memory_max e) st ps h sh = h sh
  told1 g.Rule1.memory_no_max st ps h sh = h sh
  told1 (g.Rule1.global_constant e) st ps h sh = both_true e (h sh)
  told1 (g.Rule1.global_type e) st ps h sh = both_true e (h sh)
  told1 (g.Rule1.import_name {tag}) st ps h sh = import_told tag st ps h sh
  told1 (g.Rule1.import_type {tag} {m} r) st ps h sh = import_told tag st (m.out ++ ps) (told1 r st ps h) sh
  told1 (g.Rule1.item e) st ps h sh = h sh
  told1 g.Rule1.named_item st ps h sh = h sh
  told1 g.Rule1.no_more_items st ps h sh = h sh
  told1 g.Rule1.bytes st ps h sh = h sh
  told1 g.Rule1.no_more_bytes st ps h sh = h sh
  told1 (g.Rule1.segment_index {rest} (g.Rule1.numbered {role} e)) st ps h sh = segment_told (role_told ct role) (targets role) (clear ct st) ps (first_true _ _ sh) (filled_told rest st ps h (second_true _ _ sh))
  told1 (g.Rule1.segment_index {rest} (g.Rule1.named {role})) st ps h sh = segment_told (role_told ct role) (targets role) (clear ct st) ps (first_true _ _ sh) (filled_told rest st ps h (second_true _ _ sh))
  told1 (g.Rule1.expr_const e) st ps h sh = h (both_true e sh)
  told1 g.Rule1.expr_global st ps h sh = h sh
  told1 (g.Rule1.custom_place e) st ps h sh = h sh
  told1 g.Rule1.repeats st ps h sh = h sh
  told1 g.Rule1.label st ps h sh = h sh
  told1 (g.Rule1.offset e) st ps h sh = h sh
  told1 (g.Rule1.align e) st ps h sh = h sh
  told1 (g.Rule1.only_align e) st ps h sh = h sh
  told1 (g.Rule1.target e) st ps h sh = h sh
  told1 g.Rule1.named_target st ps h sh = h sh
  told1 (g.Rule1.plain {tail} {p} {f} e a) st ps h sh = word_told f tail p st ps a h sh
  told1 (g.Rule1.block e) st ps h sh = h sh
  told1 g.Rule1.else st ps h sh = h sh
  told1 g.Rule1.end_block st ps h sh = h sh
  told1 g.Rule1.end_if st ps h sh = h sh
  told1 g.Rule1.end_body st ps h sh = h sh
  told1 g.Rule1.end_folded st ps h sh = h sh
  told1 g.Rule1.end_operands st ps h sh = h sh
  told1 g.Rule1.end_then st ps h sh = h sh
  told1 g.Rule1.end_else st ps h sh = h sh
  told1 g.Rule1.end_nothing st ps h sh = h sh
  told1 g.Rule1.no_else st ps h sh = h sh

  told2 : {s : Sort} {at : ℕ} {word : Key} {m : Move} → Rule2 ct s at word m → (st : List Sort) (ps : List Piece) → Says (m.next ++ st) ps → Says (s ∷ st) (m.out ++ ps)
  told2 g.Rule2.module_ st ps h sh = h sh
  told2 (g.Rule2.plain_fields e r) st ps h sh = told2 r st ps h sh
  told2 g.Rule2.type st ps h sh = h sh
  told2 (g.Rule2.import e) st ps h sh = h sh
  told2 g.Rule2.extern st ps h sh = h sh
  told2 g.Rule2.export st ps h sh = h sh
  told2 (g.Rule2.start e) st ps h sh = h sh
  told2 g.Rule2.elem st ps h sh = h sh
  told2 g.Rule2.data_ st ps h sh = h sh
  told2 g.Rule2.custom st ps h sh = h sh
  told2 g.Rule2.func_type st ps h sh = less_told ct (clear ct st) ps (h sh)
  told2 (g.Rule2.variant e) st ps h sh = variant_told ct (clear ct st) ps e (h (both_true e sh))
  told2 g.Rule2.variant_type st ps h sh = h sh
  told2 (g.Rule2.entry e) st ps h sh = h sh
  told2 (g.Rule2.param e) st ps h sh = h sh
  told2 (g.Rule2.result e) st ps h sh = h sh
  told2 (g.Rule2.local e) st ps h sh = h sh
  told2 g.Rule2.inline_export st ps h sh = h sh
  told2 (g.Rule2.inline_import {tag} {b} e) st ps h sh = import_told tag (sort.Fields b ∷ st) ps h sh
  told2 (g.Rule2.extern_body {tag} {b} {m} r) st ps h sh = body_told tag (g.defining b) st (m.out ++ ps) (told2 r (sort.Fields (g.defining b) ∷ st) ps (moved m.next (sort.Fields (g.defining b)) st ps h)) sh
  told2 g.Rule2.inline_elem st ps h sh = h sh
  told2 (g.Rule2.memory_public r) st ps h sh = told2 r st ps h sh
  told2 g.Rule2.inline_data st ps h sh = h sh
  told2 g.Rule2.global_mutable st ps h sh = h sh
  told2 g.Rule2.type_mutable st ps h sh = h sh
  told2 g.Rule2.import_kind st ps h sh = h sh
  told2 (g.Rule2.import_type {tag} {m} r) st ps h sh = import_told tag st (m.out ++ ps) (told2 r st ps h) sh
  told2 g.Rule2.export_kind st ps h sh = h sh
  told2 (g.Rule2.expr_const e) st ps h sh = h (both_true e sh)
  told2 g.Rule2.expr_global st ps h sh = h sh
  told2 g.Rule2.offset st ps h sh = h sh
  told2 (g.Rule2.folded_offset r) st ps h sh = told2 r st ps h sh
  told2 (g.Rule2.segment_offset {rest} {m} r) st ps h sh = weaker (m.out ++ ps) (clear ct st) (filled_told rest st (m.out ++ ps) (told2 r (g.filled rest ∷ st) ps (moved m.next (g.filled rest) st ps h)) (second_true _ _ sh))
  told2 g.Rule2.labelled_yield st ps h sh = h sh
  told2 g.Rule2.yield st ps h sh = h sh
  told2 (g.Rule2.folded {tail} {p} {f} e a) st ps h sh = folded_told f tail p st ps a h sh
  told2 (g.Rule2.folded_block e) st ps h sh = h sh
  told2 (g.Rule2.folded_loop e) st ps h sh = h sh
  told2 (g.Rule2.folded_if e) st ps h sh = h sh
  told2 g.Rule2.then st ps h sh = h sh
  told2 g.Rule2.else st ps h sh = h sh

  told_all : {st : List Sort} {ts : List Tok} {ps : List Piece} → Derives ct st ts ps → Says st ps
  told_all g.Derives.done sh = refl
  told_all (g.Derives.by_token {st} {ps} r d) sh = told1 r st ps (told_all d) sh
  told_all (g.Derives.by_open {st} {ps} r d) sh = told2 r st ps (told_all d) sh

-- ---- fields

abbrev pub maybe : {A : Type 0} → (A → Bool) → Option A → Bool
maybe p None = true
maybe p (Some a) = p a

abbrev pub trust_told : Bool → Trust → Bool
trust_told ct Untrusted = true
trust_told ct Trusted = allowed ct key.Trusted

abbrev pub variable_told : Bool → Variable → Bool
variable_told ct v = type_told ct v.ty

abbrev pub use_told : Bool → Use → Bool
use_told ct u = trust_told ct u.trust && (list_all (variable_told ct) u.params && list_all (type_told ct) u.results)

abbrev pub raw_told : Bool → Raw → Bool
raw_told ct (RSingle leaf) = leaf_told ct leaf
raw_told ct (RIndirect u) = use_told ct u
raw_told ct (ROpens shape n t) = maybe (type_told ct) t
raw_told ct _ = true

abbrev pub item_told : Bool → Item → Bool
item_told ct (Op r) = raw_told ct r
item_told ct _ = true

-- what is told of a field, where `clear` without a target
abbrev pub draft_told : (ct clear : Bool) → Draft → Bool
draft_told ct c d =
    list_all is_text d.exports && (maybe is_text d.from && (is_text d.imported && (is_text d.title
    && ((is_none d.target || not c) && (cond d.secret (allowed ct key.Secret) true && (maybe (type_told ct) d.value && (use_told ct d.sig
    && (list_all (variable_told ct) d.locals && (list_all (item_told ct) d.code && maybe (type_told ct) d.yields)))))))))

abbrev pub told : Bool → Field → Bool
told ct f = draft_told ct (untargeted ct f.kind) f.draft

pub record Parts (ct clear : Bool) (d : Draft) : Type 0 where
  pub exports : list_all is_text d.exports ≡ true
  pub from : maybe is_text d.from ≡ true
  pub imported : is_text d.imported ≡ true
  pub title : is_text d.title ≡ true
  pub target : is_none d.target || not clear ≡ true
  pub secret : cond d.secret (allowed ct key.Secret) true ≡ true
  pub value : maybe (type_told ct) d.value ≡ true
  pub sig : use_told ct d.sig ≡ true
  pub locals : list_all (variable_told ct) d.locals ≡ true
  pub code : list_all (item_told ct) d.code ≡ true
  pub yields : maybe (type_told ct) d.yields ≡ true

module _ (ct : Bool) where
  pub parts : (c : Bool) (d : Draft) → draft_told ct c d ≡ true → Parts ct c d
  parts c d h =
      let h1 = second_true _ _ h in
      let h2 = second_true _ _ h1 in
      let h3 = second_true _ _ h2 in
      let h4 = second_true _ _ h3 in
      let h5 = second_true _ _ h4 in
      let h6 = second_true _ _ h5 in
      let h7 = second_true _ _ h6 in
      let h8 = second_true _ _ h7 in
      let h9 = second_true _ _ h8 in
      record {
        exports = first_true _ _ h;
        from = first_true _ _ h1;
        imported = first_true _ _ h2;
        title = first_true _ _ h3;
        target = first_true _ _ h4;
        secret = first_true _ _ h5;
        value = first_true _ _ h6;
        sig = first_true _ _ h7;
        locals = first_true _ _ h8;
        code = first_true _ _ h9;
        yields = second_true _ _ h9;
      }

  whole : (c : Bool) (d : Draft) → Parts ct c d → draft_told ct c d ≡ true
  whole c d p = both_true p.exports (both_true p.from (both_true p.imported (both_true p.title (both_true p.target (both_true p.secret (both_true p.value (both_true p.sig (both_true p.locals (both_true p.code p.yields)))))))))

  named_told : (w : Name) (vs : List Variable) → list_all (variable_told ct) vs ≡ true → list_all (variable_told ct) (first_named w vs) ≡ true
  named_told w [] h = refl
  named_told w (v ∷ vs) h = h

  -- an offset and an align change nothing of a leaf's label
  placed_told : (leaf : Leaf Label) (offset : ℕ) (align : Option ℕ) → leaf_told ct leaf ≡ true → leaf_told ct (at_place leaf offset align) ≡ true
  placed_told ops.Unreachable offset align e = e
  placed_told ops.Nop offset align e = e
  placed_told (ops.Br n) offset align e = e
  placed_told (ops.BrIf n) offset align e = e
  placed_told (ops.BrTable ns n) offset align e = e
  placed_told ops.Return offset align e = e
  placed_told (ops.Call n) offset align e = e
  placed_told (ops.CallIndirect n) offset align e = e
  placed_told ops.Drop offset align e = e
  placed_told (ops.Select l) offset align e = e
  placed_told (ops.LocalGet n) offset align e = e
  placed_told (ops.LocalSet n) offset align e = e
  placed_told (ops.LocalTee n) offset align e = e
  placed_told (ops.GlobalGet n) offset align e = e
  placed_told (ops.GlobalSet n) offset align e = e
  placed_told (ops.Load w l bytes signed natural none) offset align e = e
  placed_told (ops.Store w l bytes natural none) offset align e = e
  placed_told ops.MemorySize offset align e = e
  placed_told ops.MemoryGrow offset align e = e
  placed_told (ops.Const w l bits) offset align e = e
  placed_told (ops.Numeric op l) offset align e = e
  placed_told (ops.Classify w) offset align e = e
  placed_told (ops.Declassify w) offset align e = e

  add_told : (p : Piece) (c : Bool) (d : Draft) → piece_told ct p ≡ true → not (has_target p) || not c ≡ true → draft_told ct c d ≡ true → draft_told ct c (add p d) ≡ true
  add_told (piece.Quotes quoted.ExportName b) c d e t h = let p = parts c d h in whole c (add (piece.Quotes quoted.ExportName b) d) (record { exports = p.exports; from = p.from; imported = p.imported; title = e; target = p.target; secret = p.secret; value = p.value; sig = p.sig; locals = p.locals; code = p.code; yields = p.yields })
  add_told (piece.Quotes quoted.InlineExport b) c d e t h = let p = parts c d h in whole c (add (piece.Quotes quoted.InlineExport b) d) (record { exports = both_true e p.exports; from = p.from; imported = p.imported; title = p.title; target = p.target; secret = p.secret; value = p.value; sig = p.sig; locals = p.locals; code = p.code; yields = p.yields })
  add_told (piece.Quotes quoted.ModuleName b) c d e t h = let p = parts c d h in whole c (add (piece.Quotes quoted.ModuleName b) d) (record { exports = p.exports; from = e; imported = p.imported; title = p.title; target = p.target; secret = p.secret; value = p.value; sig = p.sig; locals = p.locals; code = p.code; yields = p.yields })
  add_told (piece.Quotes quoted.ImportName b) c d e t h = let p = parts c d h in whole c (add (piece.Quotes quoted.ImportName b) d) (record { exports = p.exports; from = p.from; imported = e; title = p.title; target = p.target; secret = p.secret; value = p.value; sig = p.sig; locals = p.locals; code = p.code; yields = p.yields })
  add_told (piece.Quotes quoted.CustomName b) c d e t h = let p = parts c d h in whole c (add (piece.Quotes quoted.CustomName b) d) (record { exports = p.exports; from = p.from; imported = p.imported; title = e; target = p.target; secret = p.secret; value = p.value; sig = p.sig; locals = p.locals; code = p.code; yields = p.yields })
  add_told (piece.Quotes quoted.Bytes b) c d e t h = h
  add_told (piece.Refers (role.OfOp op) x) c d e t h = h
  add_told (piece.Refers role.OfTarget x) c d e t h = h
  add_told (piece.Refers role.OfEntry x) c d e t h = h
  add_told (piece.Refers role.OfBase x) c d e t h = let p = parts c d h in whole c (add (piece.Refers role.OfBase x) d) (record { exports = p.exports; from = p.from; imported = p.imported; title = p.title; target = t; secret = p.secret; value = p.value; sig = p.sig; locals = p.locals; code = p.code; yields = p.yields })
  add_told (piece.Refers (role.OfExport tag) x) c d e t h = let p = parts c d h in whole c (add (piece.Refers (role.OfExport tag) x) d) (record { exports = p.exports; from = p.from; imported = p.imported; title = p.title; target = t; secret = p.secret; value = p.value; sig = p.sig; locals = p.locals; code = p.code; yields = p.yields })
  add_told (piece.Refers role.OfStart x) c d e t h = let p = parts c d h in whole c (add (piece.Refers role.OfStart x) d) (record { exports = p.exports; from = p.from; imported = p.imported; title = p.title; target = t; secret = p.secret; value = p.value; sig = p.sig; locals = p.locals; code = p.code; yields = p.yields })
  add_told (piece.Refers role.OfTable x) c d e t h = let p = parts c d h in whole c (add (piece.Refers role.OfTable x) d) (record { exports = p.exports; from = p.from; imported = p.imported; title = p.title; target = t; secret = p.secret; value = p.value; sig = p.sig; locals = p.locals; code = p.code; yields = p.yields })
  add_told (piece.Refers role.OfMemory x) c d e t h = let p = parts c d h in whole c (add (piece.Refers role.OfMemory x) d) (record { exports = p.exports; from = p.from; imported = p.imported; title = p.title; target = t; secret = p.secret; value = p.value; sig = p.sig; locals = p.locals; code = p.code; yields = p.yields })
  add_told (piece.Refers role.OfItem x) c d e t h = h
  add_told (piece.NameIs w) c d e t h = h
  add_told (piece.KindIs tag) c d e t h = h
  add_told (piece.Number n) c d e t h = h
  add_told piece.IsSecret c d e t h = let p = parts c d h in whole c (add piece.IsSecret d) (record { exports = p.exports; from = p.from; imported = p.imported; title = p.title; target = p.target; secret = e; value = p.value; sig = p.sig; locals = p.locals; code = p.code; yields = p.yields })
  add_told piece.IsMutable c d e t h = h
  add_told (piece.ValueIs ty) c d e t h = let p = parts c d h in whole c (add (piece.ValueIs ty) d) (record { exports = p.exports; from = p.from; imported = p.imported; title = p.title; target = p.target; secret = p.secret; value = e; sig = p.sig; locals = p.locals; code = p.code; yields = p.yields })
  add_told (piece.Entry n) c d e t h = h
  add_told piece.Trusting c d e t h = let p = parts c d h in whole c (add piece.Trusting d) (record { exports = p.exports; from = p.from; imported = p.imported; title = p.title; target = p.target; secret = p.secret; value = p.value; sig = both_true e (second_true _ _ p.sig); locals = p.locals; code = p.code; yields = p.yields })
  add_told (piece.Slot part.Param w) c d e t h = let p = parts c d h in whole c (add (piece.Slot part.Param w) d) (record { exports = p.exports; from = p.from; imported = p.imported; title = p.title; target = p.target; secret = p.secret; value = p.value; sig = let u = second_true _ _ p.sig in both_true (first_true _ _ p.sig) (both_true (named_told w d.sig.params (first_true _ _ u)) (second_true _ _ u)); locals = p.locals; code = p.code; yields = p.yields })
  add_told (piece.Slot part.Result w) c d e t h = h
  add_told (piece.Slot part.Local w) c d e t h = let p = parts c d h in whole c (add (piece.Slot part.Local w) d) (record { exports = p.exports; from = p.from; imported = p.imported; title = p.title; target = p.target; secret = p.secret; value = p.value; sig = p.sig; locals = named_told w d.locals p.locals; code = p.code; yields = p.yields })
  add_told (piece.Typed part.Param ty) c d e t h = let p = parts c d h in whole c (add (piece.Typed part.Param ty) d) (record { exports = p.exports; from = p.from; imported = p.imported; title = p.title; target = p.target; secret = p.secret; value = p.value; sig = let u = second_true _ _ p.sig in both_true (first_true _ _ p.sig) (both_true (both_true e (first_true _ _ u)) (second_true _ _ u)); locals = p.locals; code = p.code; yields = p.yields })
  add_told (piece.Typed part.Result ty) c d e t h = let p = parts c d h in whole c (add (piece.Typed part.Result ty) d) (record { exports = p.exports; from = p.from; imported = p.imported; title = p.title; target = p.target; secret = p.secret; value = p.value; sig = let u = second_true _ _ p.sig in both_true (first_true _ _ p.sig) (both_true (first_true _ _ u) (both_true e (second_true _ _ u))); locals = p.locals; code = p.code; yields = p.yields })
  add_told (piece.Typed part.Local ty) c d e t h = let p = parts c d h in whole c (add (piece.Typed part.Local ty) d) (record { exports = p.exports; from = p.from; imported = p.imported; title = p.title; target = p.target; secret = p.secret; value = p.value; sig = p.sig; locals = both_true e p.locals; code = p.code; yields = p.yields })
  add_told piece.Inline c d e t h = h
  add_told (piece.Single leaf) c d e t h = let p = parts c d h in whole c (add (piece.Single leaf) d) (record { exports = p.exports; from = p.from; imported = p.imported; title = p.title; target = p.target; secret = p.secret; value = p.value; sig = p.sig; locals = p.locals; code = both_true (placed_told leaf d.offset d.align e) p.code; yields = p.yields })
  add_told piece.Branches c d e t h = h
  add_told piece.Indirect c d e t h = let p = parts c d h in whole c (add piece.Indirect d) (record { exports = p.exports; from = p.from; imported = p.imported; title = p.title; target = p.target; secret = p.secret; value = p.value; sig = refl; locals = p.locals; code = both_true p.sig p.code; yields = p.yields })
  add_told (piece.Opens shape) c d e t h = let p = parts c d h in whole c (add (piece.Opens shape) d) (record { exports = p.exports; from = p.from; imported = p.imported; title = p.title; target = p.target; secret = p.secret; value = p.value; sig = p.sig; locals = p.locals; code = both_true p.yields p.code; yields = refl })
  add_told piece.Else c d e t h = h
  add_told piece.End c d e t h = h
  add_told (piece.AtOffset n) c d e t h = h
  add_told (piece.Aligned n) c d e t h = h
  add_told (piece.Labelled w) c d e t h = h
  add_told (piece.Yields ty) c d e t h = let p = parts c d h in whole c (add (piece.Yields ty) d) (record { exports = p.exports; from = p.from; imported = p.imported; title = p.title; target = p.target; secret = p.secret; value = p.value; sig = p.sig; locals = p.locals; code = p.code; yields = e })
  add_told (piece.Repeats w) c d e t h = h
  add_told piece.Fold c d e t h = h
  add_told piece.Unfold c d e t h = h
  add_told (piece.Begin kind) c d e t h = h

  put_told : (p : Piece) (c : Bool) (G : Gathered) → piece_told ct p ≡ true → not (has_target p) || not c ≡ true → draft_told ct (unwrap_or (begun ct p) c) G.draft && list_all (told ct) G.fields ≡ true → draft_told ct c (put p G).draft && list_all (told ct) (put p G).fields ≡ true
  put_told (piece.Begin kind) c G e t h = h
  put_told (piece.NameIs w) c G e t h = both_true (add_told (piece.NameIs w) c G.draft e t (first_true _ _ h)) (second_true _ _ h)
  put_told (piece.KindIs tag) c G e t h = both_true (add_told (piece.KindIs tag) c G.draft e t (first_true _ _ h)) (second_true _ _ h)
  put_told (piece.Quotes what b) c G e t h = both_true (add_told (piece.Quotes what b) c G.draft e t (first_true _ _ h)) (second_true _ _ h)
  put_told (piece.Refers role x) c G e t h = both_true (add_told (piece.Refers role x) c G.draft e t (first_true _ _ h)) (second_true _ _ h)
  put_told (piece.Number n) c G e t h = both_true (add_told (piece.Number n) c G.draft e t (first_true _ _ h)) (second_true _ _ h)
  put_told piece.IsSecret c G e t h = both_true (add_told piece.IsSecret c G.draft e t (first_true _ _ h)) (second_true _ _ h)
  put_told piece.IsMutable c G e t h = both_true (add_told piece.IsMutable c G.draft e t (first_true _ _ h)) (second_true _ _ h)
  put_told (piece.ValueIs ty) c G e t h = both_true (add_told (piece.ValueIs ty) c G.draft e t (first_true _ _ h)) (second_true _ _ h)
  put_told (piece.Entry n) c G e t h = both_true (add_told (piece.Entry n) c G.draft e t (first_true _ _ h)) (second_true _ _ h)
  put_told piece.Trusting c G e t h = both_true (add_told piece.Trusting c G.draft e t (first_true _ _ h)) (second_true _ _ h)
  put_told (piece.Slot part w) c G e t h = both_true (add_told (piece.Slot part w) c G.draft e t (first_true _ _ h)) (second_true _ _ h)
  put_told (piece.Typed part ty) c G e t h = both_true (add_told (piece.Typed part ty) c G.draft e t (first_true _ _ h)) (second_true _ _ h)
  put_told piece.Inline c G e t h = both_true (add_told piece.Inline c G.draft e t (first_true _ _ h)) (second_true _ _ h)
  put_told (piece.Single leaf) c G e t h = both_true (add_told (piece.Single leaf) c G.draft e t (first_true _ _ h)) (second_true _ _ h)
  put_told piece.Branches c G e t h = both_true (add_told piece.Branches c G.draft e t (first_true _ _ h)) (second_true _ _ h)
  put_told piece.Indirect c G e t h = both_true (add_told piece.Indirect c G.draft e t (first_true _ _ h)) (second_true _ _ h)
  put_told (piece.Opens shape) c G e t h = both_true (add_told (piece.Opens shape) c G.draft e t (first_true _ _ h)) (second_true _ _ h)
  put_told piece.Else c G e t h = both_true (add_told piece.Else c G.draft e t (first_true _ _ h)) (second_true _ _ h)
  put_told piece.End c G e t h = both_true (add_told piece.End c G.draft e t (first_true _ _ h)) (second_true _ _ h)
  put_told (piece.AtOffset n) c G e t h = both_true (add_told (piece.AtOffset n) c G.draft e t (first_true _ _ h)) (second_true _ _ h)
  put_told (piece.Aligned n) c G e t h = both_true (add_told (piece.Aligned n) c G.draft e t (first_true _ _ h)) (second_true _ _ h)
  put_told (piece.Labelled w) c G e t h = both_true (add_told (piece.Labelled w) c G.draft e t (first_true _ _ h)) (second_true _ _ h)
  put_told (piece.Yields ty) c G e t h = both_true (add_told (piece.Yields ty) c G.draft e t (first_true _ _ h)) (second_true _ _ h)
  put_told (piece.Repeats w) c G e t h = both_true (add_told (piece.Repeats w) c G.draft e t (first_true _ _ h)) (second_true _ _ h)
  put_told piece.Fold c G e t h = both_true (add_told piece.Fold c G.draft e t (first_true _ _ h)) (second_true _ _ h)
  put_told piece.Unfold c G e t h = both_true (add_told piece.Unfold c G.draft e t (first_true _ _ h)) (second_true _ _ h)

  -- what is told of pieces gathered
  gathered_told : (ps : List Piece) (c : Bool) → tells ct c ps ≡ true → draft_told ct c (gathered ps).draft && list_all (told ct) (gathered ps).fields ≡ true
  gathered_told [] c h = refl
  gathered_told (p ∷ ps) c h =
      let r = second_true (piece_told ct p) _ h in
      put_told p c (gathered ps) (first_true (piece_told ct p) _ h) (first_true (not (has_target p) || not c) _ r) (gathered_told ps (unwrap_or (begun ct p) c) (second_true (not (has_target p) || not c) _ r))

-- what the grammar has of each field of a module
pub fields_told : (ct : Bool) (ts : List Tok) (ps : List Piece) → Spells ct ts ps → list_all (told ct) (fields_of ps) ≡ true
fields_told ct ts ps d = second_true _ _ (gathered_told ct ps true (told_all ct d refl))
