-- What an index holds beside the lists of a file's sections.
use Rattle.std.proofs.Common.{◌≡◌, ℕ, ◌+◌, ◌-◌, ◌<◌, Bool, true, false, List, [], ◌∷◌, ◌++◌, length, map, take, drop, get_or, option_map, Option, Some, None, if◌then◌else◌, Result, Ok, Err, refl, sym, ap, subst, ◌∙◌, append-nil, arith}
use Rattle.std.specs.Prelude.{IfOk, is_ok, IsSome, is_some, not, nat_eq, option_copied}
use Rattle.std.proofs.lemmas.Bool.{false≢true}
use denote.Ref.{Bor}
use Rattle.std.specs.Str.{bytes_eq}
use Rattle.std.proofs.lemmas.List.{length-append, length-map, map-append}
use Rattle.std.proofs.lemmas.Grind.{take_at_read}
use Rattle.std.proofs.Math.Seq.{take-length}
use Rattle.std.proofs.lemmas.Slice.Eq.{bytes_eq-Decides}
use Rattle.ctw_ops.specs.declared.types.ExternTag.{ExternTag}
use Rattle.ctw_ops.specs.declared.types.Label.{Label}
use Rattle.ctw_ops.specs.Types.{VariableType}
use Rattle.ctw_ops.specs.Tree.{Import, Extern, ImportedFunction, ImportedTable, ImportedMemory, ImportedGlobal, Constant, Export, Global, Module, imported_functions, imported_globals, with_function, with_global, function_entries, global_types}
use Rattle.ctw_form.specs.declared.fault.FormFault.{FormFault}
use Rattle.ctw_module.specs.declared.types.Global1.{Global1}
use Rattle.ctw_form.specs.declared.entry.GlobalEntry.{GlobalEntry}
use Rattle.ctw_form.specs.declared.entry.ImportKind.{ImportKind}
use Rattle.ctw_form.specs.declared.entry.ImportKind.TheVariants as kinds
use Rattle.ctw_form.specs.Shown.{constant_of, extern_of, global_in}
use Rattle.ctw_module.specs.Lookup.{export_in, imported_count, global_inits}
use Rattle.ctw_form.specs.Sections.{Entry, Section, no_parts, with_section, functions_of, nothing_seen, seen_after}
use Rattle.ctw_form.specs.Spelled.{Spells, File, file_of, IsFile, IsSection, magic, version, module_in}
use Rattle.ctw_form.specs.Read.{section_at, module_at}
use Rattle.ctw_module.specs.Trees.{Lent, tree, parts}
use Rattle.ctw_leb.specs.Input.{Input}
use Rattle.ctw_leb.specs.Grammar.{Items, state_after}
use Rattle.ctw_leb.specs.Reading.{items}
use Rattle.ctw_form.proofs.FileForms.{whole_section_items, module_sound}
use Rattle.ctw_module.proofs.Known.{known, file_is}

pub functions_more : (front : List (Import Label)) (i : Import Label) → imported_functions (front ++ i ∷ []) ≡ imported_functions front ++ with_function i.kind []
functions_more [] i = refl
functions_more (j ∷ front) i = go j.kind (functions_more front i)
  where
    go : (kind : Extern Label) → imported_functions (front ++ i ∷ []) ≡ imported_functions front ++ with_function i.kind [] → with_function kind (imported_functions (front ++ i ∷ [])) ≡ with_function kind (imported_functions front) ++ with_function i.kind []
    go (ImportedFunction type) h = ap (λ (l : List ℕ). type ∷ l) h
    go (ImportedTable limits) h = h
    go (ImportedMemory type) h = h
    go (ImportedGlobal type) h = h

pub globals_more : (front : List (Import Label)) (i : Import Label) → imported_globals (front ++ i ∷ []) ≡ imported_globals front ++ with_global i.kind []
globals_more [] i = refl
globals_more (j ∷ front) i = go j.kind (globals_more front i)
  where
    go : (kind : Extern Label) → imported_globals (front ++ i ∷ []) ≡ imported_globals front ++ with_global i.kind [] → with_global kind (imported_globals (front ++ i ∷ [])) ≡ with_global kind (imported_globals front) ++ with_global i.kind []
    go (ImportedFunction type) h = h
    go (ImportedTable limits) h = h
    go (ImportedMemory type) h = h
    go (ImportedGlobal type) h = ap (λ (l : List (VariableType Label)). type ∷ l) h

-- these are the globals of so many imports and definitions
pub record GlobalsAre (all : List Global1) (imports : List (Import Label)) (defined : List GlobalEntry) : Type 0 where
  pub types : map (λ g. g.ty) all ≡ imported_globals imports ++ map (λ g. g.ty) defined
  pub inits : map (λ g. option_map constant_of g.init) all ≡ map (λ type. None) (imported_globals imports) ++ map (λ g. Some (constant_of g.init)) defined

pub take_next : {A : Type 0} (xs : List A) (k : ℕ) (x : A) → k < length xs → x ≡ get_or xs k x → take (k + 1) xs ≡ take k xs ++ x ∷ []
take_next {A} xs k x lt e = (take_at_read xs k x lt).1 ∙ ap (λ (y : A). take k xs ++ y ∷ []) (sym e)

-- ---- functions

no_function : (kind : ImportKind) → ((n : ℕ) → kind ≡ kinds.Func n → ⊥) → with_function (extern_of kind) [] ≡ []
no_function (kinds.Func n) h = absurd (h n refl)
no_function (kinds.Table limits) h = refl
no_function (kinds.Memory type) h = refl
no_function (kinds.Global type) h = refl

pub functions_next : (imports : List (Import Label)) (k : ℕ) (i : Import Label) (all more : List ℕ) → k < length imports → i ≡ get_or imports k i → all ≡ imported_functions (take k imports) → more ≡ all ++ with_function i.kind []
    → more ≡ imported_functions (take (k + 1) imports)
functions_next imports k i all more lt is a m =
    m ∙ ap (λ (l : List ℕ). l ++ with_function i.kind []) a ∙ sym (functions_more (take k imports) i) ∙ sym (ap imported_functions (take_next imports k i lt is))

pub functions_pass : (imports : List (Import Label)) (k : ℕ) (i : Import Label) (kind : ImportKind) (all : List ℕ) → k < length imports → i ≡ get_or imports k i → all ≡ imported_functions (take k imports) → i.kind ≡ extern_of kind
    → ((n : ℕ) → kind ≡ kinds.Func n → ⊥) → all ≡ imported_functions (take (k + 1) imports)
functions_pass imports k i kind all lt is a e h =
    functions_next imports k i all all lt is a (sym (append-nil all) ∙ ap (λ (l : List ℕ). all ++ l) (sym (no_function kind h) ∙ ap (λ (x : Extern Label). with_function x []) (sym e)))

-- ---- globals

no_global : (kind : ImportKind) → ((t : VariableType Label) → kind ≡ kinds.Global t → ⊥) → with_global (extern_of kind) [] ≡ []
no_global (kinds.Func n) h = refl
no_global (kinds.Table limits) h = refl
no_global (kinds.Memory type) h = refl
no_global (kinds.Global type) h = absurd (h type refl)

abbrev type_in : Global1 → VariableType Label
type_in g = g.ty

abbrev init_in : Global1 → Option (Constant Label)
init_in g = option_map constant_of g.init

abbrev pub no_init : VariableType Label → Option (Constant Label)
no_init type = None

pub globals_next : (imports : List (Import Label)) (k : ℕ) (i : Import Label) (all more : List Global1) (found : List Global1) → k < length imports → i ≡ get_or imports k i → GlobalsAre all (take k imports) [] → more ≡ all ++ found
    → map type_in found ≡ with_global i.kind [] → map init_in found ≡ map no_init (with_global i.kind []) → GlobalsAre more (take (k + 1) imports) []
globals_next imports k i all more found lt is h m t n =
    let front = take k imports in
    let next : imported_globals (take (k + 1) imports) ≡ imported_globals front ++ with_global i.kind [] = ap imported_globals (take_next imports k i lt is) ∙ globals_more front i in
    record {
      types = ap (map type_in) m ∙ map-append type_in all found ∙ ap (λ (l : List (VariableType Label)). l ++ map type_in found) (h.types ∙ append-nil (imported_globals front))
          ∙ ap (λ (l : List (VariableType Label)). imported_globals front ++ l) t ∙ sym next ∙ sym (append-nil (imported_globals (take (k + 1) imports)));
      inits = ap (map init_in) m ∙ map-append init_in all found ∙ ap (λ (l : List (Option (Constant Label))). l ++ map init_in found) (h.inits ∙ append-nil (map no_init (imported_globals front)))
          ∙ ap (λ (l : List (Option (Constant Label))). map no_init (imported_globals front) ++ l) n ∙ sym (map-append no_init (imported_globals front) (with_global i.kind []))
          ∙ ap (map no_init) (sym next) ∙ sym (append-nil (map no_init (imported_globals (take (k + 1) imports))));
    }

pub globals_pass : (imports : List (Import Label)) (k : ℕ) (i : Import Label) (kind : ImportKind) (all : List Global1) → k < length imports → i ≡ get_or imports k i → GlobalsAre all (take k imports) [] → i.kind ≡ extern_of kind
    → ((t : VariableType Label) → kind ≡ kinds.Global t → ⊥) → GlobalsAre all (take (k + 1) imports) []
globals_pass imports k i kind all lt is h e n =
    let none : [] ≡ with_global i.kind [] = sym (no_global kind n) ∙ ap (λ (x : Extern Label). with_global x []) (sym e) in
    globals_next imports k i all all [] lt is h (sym (append-nil all)) none (ap (map no_init) none)

-- ---- names

abbrev or_else : {X : Type 0} → Option X → Option X → Option X
or_else (Some x) other = Some x
or_else None other = other

abbrev told : Export → Option (ExternTag × ℕ)
told e = Some (e.kind, e.index)

export_more : (name : List ℕ) (front : List Export) (e : Export) → export_in name (front ++ e ∷ []) ≡ or_else (export_in name front) (if bytes_eq e.name name then told e else None)
export_more name [] e = refl
export_more name (d ∷ front) e = go (bytes_eq d.name name) (export_more name front e)
  where
    go : (b : Bool) → export_in name (front ++ e ∷ []) ≡ or_else (export_in name front) (if bytes_eq e.name name then told e else None)
        → (if b then told d else export_in name (front ++ e ∷ [])) ≡ or_else (if b then told d else export_in name front) (if bytes_eq e.name name then told e else None)
    go true h = refl
    go false h = h

no_other : {X : Type 0} (o : Option X) → o ≡ or_else o None
no_other (Some x) = refl
no_other None = refl

-- the map so far, and with one more name
pub names_then : (front : List Export) (e : Export) (g h : List ℕ → Option (ExternTag × ℕ)) → ((n : List ℕ) → g n ≡ export_in n front) → g e.name ≡ None → ((n : List ℕ) → h n ≡ (if bytes_eq e.name n then told e else g n))
    → (n : List ℕ) → h n ≡ export_in n (front ++ e ∷ [])
names_then front e g h are none after n = go (bytes_eq e.name n) refl
  where
    go : (b : Bool) → bytes_eq e.name n ≡ b → h n ≡ export_in n (front ++ e ∷ [])
    go true t =
        let same : e.name ≡ n = (bytes_eq-Decides e.name n).0 t in
        let empty : export_in n front ≡ None = sym (are n) ∙ ap g (sym same) ∙ none in
        let new : h n ≡ told e = after n ∙ ap (λ (b : Bool). if b then told e else g n) t in
        let old : export_in n (front ++ e ∷ []) ≡ told e = export_more n front e ∙ ap (λ (o : Option (ExternTag × ℕ)). or_else o (if bytes_eq e.name n then told e else None)) empty ∙ ap (λ (b : Bool). if b then told e else None) t in
        new ∙ sym old
    go false f =
        let new : h n ≡ export_in n front = after n ∙ ap (λ (b : Bool). if b then told e else g n) f ∙ are n in
        let old : export_in n (front ++ e ∷ []) ≡ export_in n front = export_more n front e ∙ ap (λ (b : Bool). or_else (export_in n front) (if b then told e else None)) f ∙ sym (no_other (export_in n front)) in
        new ∙ sym old

pub names_else : (front : List Export) (e : Export) (g : List ℕ → Option (ExternTag × ℕ)) → ((n : List ℕ) → g n ≡ export_in n front) → IsSome (g e.name) → (n : List ℕ) → g n ≡ export_in n (front ++ e ∷ [])
names_else front e g are some n = go (bytes_eq e.name n) refl
  where
    kept : (o : Option (ExternTag × ℕ)) (other : Option (ExternTag × ℕ)) → IsSome o → o ≡ or_else o other
    kept (Some x) other h = refl
    kept None other h = absurd (false≢true h)

    go : (b : Bool) → bytes_eq e.name n ≡ b → g n ≡ export_in n (front ++ e ∷ [])
    go true t =
        let same : e.name ≡ n = (bytes_eq-Decides e.name n).0 t in
        let there : IsSome (export_in n front) = subst IsSome (are e.name ∙ ap (λ (m : List ℕ). export_in m front) same) some in
        are n ∙ kept (export_in n front) (if bytes_eq e.name n then told e else None) there ∙ sym (export_more n front e)
    go false f =
        let old : export_in n (front ++ e ∷ []) ≡ export_in n front = export_more n front e ∙ ap (λ (b : Bool). or_else (export_in n front) (if b then told e else None)) f ∙ sym (no_other (export_in n front)) in
        are n ∙ sym old

pub copied_none : {X : Type 0} (o : Option (Bor X)) (b : Bool) → is_some o ≡ not b → b ≡ true → option_copied o ≡ None
copied_none None b e t = refl
copied_none (Some x) b e t = absurd (true_not b e t)
  where
    true_not : (b : Bool) → true ≡ not b → b ≡ true → ⊥
    true_not true e t = false≢true (sym e)
    true_not false e t = false≢true t

pub copied_some : {X : Type 0} (o : Option (Bor X)) (b : Bool) → is_some o ≡ not b → b ≡ false → IsSome (option_copied o)
copied_some (Some x) b e t = refl
copied_some None b e t = absurd (false_not b e t)
  where
    false_not : (b : Bool) → false ≡ not b → b ≡ false → ⊥
    false_not false e t = false≢true e
    false_not true e t = false≢true (sym t)

-- ---- the index of a module

types_of_functions : (uses : List ℕ) (entries : List Entry) → length entries ≡ length uses → map (λ f. f.type) (functions_of uses entries) ≡ uses
types_of_functions [] entries e = refl
types_of_functions (u ∷ uses) [] e = absurd (omega (arith, e))
types_of_functions (u ∷ uses) (x ∷ entries) e = ap (λ (l : List ℕ). u ∷ l) (types_of_functions uses entries (omega (arith, e)))

pub functions_made : (lent : Lent) (imports : List (Import Label)) (uses all : List ℕ) → Spells lent.bytes (tree lent) → imports ≡ (parts lent).imports → uses ≡ (parts lent).uses → all ≡ imported_functions imports ++ uses → all ≡ function_entries (tree lent)
unfolding tree parts
functions_made lent imports uses all s i u a =
    let k = known lent (tree lent) s in
    let p = parts lent in
    a ∙ ap (λ (l : List (Import Label)). imported_functions l ++ uses) i ∙ ap (λ (l : List ℕ). imported_functions p.imports ++ l) (u ∙ sym (types_of_functions p.uses p.entries k.paired))

pub imported_made : (lent : Lent) (imports : List (Import Label)) (uses all : List ℕ) → imports ≡ (parts lent).imports → all ≡ imported_functions imports ++ uses → length all - length uses ≡ imported_count (tree lent)
unfolding tree parts
imported_made lent imports uses all i a = omega (arith, ap length a, length-append (imported_functions imports) uses, ap (λ (l : List (Import Label)). length (imported_functions l)) i)

pub imported_globals_made : (lent : Lent) (imports : List (Import Label)) (defined : List GlobalEntry) (all : List Global1) → imports ≡ (parts lent).imports → map (λ g. g.ty) all ≡ imported_globals imports ++ map (λ g. g.ty) defined
    → length all - length defined ≡ length (imported_globals (tree lent).imports)
unfolding tree parts
imported_globals_made lent imports defined all i a =
    omega (arith, ap length a, length-map all (λ g. g.ty), length-append (imported_globals imports) (map (λ g. g.ty) defined), length-map defined (λ g. g.ty), ap (λ (l : List (Import Label)). length (imported_globals l)) i)

types_of_globals : (l : List GlobalEntry) → map (λ g. g.ty) l ≡ map (λ g. g.type) (map global_in l)
types_of_globals [] = refl
types_of_globals (g ∷ l) = ap (λ (z : List (VariableType Label)). g.ty ∷ z) (types_of_globals l)

inits_of_globals : (l : List GlobalEntry) → map (λ g. Some (constant_of g.init)) l ≡ map (λ g. Some g.init) (map global_in l)
inits_of_globals [] = refl
inits_of_globals (g ∷ l) = ap (λ (z : List (Option (Constant Label))). Some (constant_of g.init) ∷ z) (inits_of_globals l)

pub types_made : (lent : Lent) (imports : List (Import Label)) (defined : List GlobalEntry) (all : List (VariableType Label)) → imports ≡ (parts lent).imports → map global_in defined ≡ (parts lent).globals
    → all ≡ imported_globals imports ++ map (λ g. g.ty) defined → all ≡ global_types (tree lent)
unfolding tree parts
types_made lent imports defined all i d a =
    a ∙ ap (λ (l : List (Import Label)). imported_globals l ++ map (λ g. g.ty) defined) i
    ∙ ap (λ (l : List (VariableType Label)). imported_globals (parts lent).imports ++ l) (types_of_globals defined ∙ ap (λ (l : List (Global Label)). map (λ g. g.type) l) d)

pub inits_made : (lent : Lent) (imports : List (Import Label)) (defined : List GlobalEntry) (all : List (Option (Constant Label))) → imports ≡ (parts lent).imports → map global_in defined ≡ (parts lent).globals
    → all ≡ map (λ type. None) (imported_globals imports) ++ map (λ g. Some (constant_of g.init)) defined → all ≡ global_inits (tree lent)
unfolding tree parts
inits_made lent imports defined all i d a =
    a ∙ ap (λ (l : List (Import Label)). map (λ type. None) (imported_globals l) ++ map (λ g. Some (constant_of g.init)) defined) i
    ∙ ap (λ (l : List (Option (Constant Label))). map (λ type. None) (imported_globals (parts lent).imports) ++ l) (inits_of_globals defined ∙ ap (λ (l : List (Global Label)). map (λ g. Some g.init) l) d)

-- ---- the header of a file

pub record Headed (bytes : List ℕ) (file : File) : Type 0 where
  pub rest : List ℕ
  pub ct : not (nat_eq (get_or bytes 6 0) 0) ≡ file.ct
  pub behind : drop 8 bytes ≡ rest
  pub size : length bytes ≡ 8 + length rest
  pub items : Items (IsSection file.ct) seen_after nothing_seen rest file.sections

pub headed_file : (bytes : List ℕ) (file : File) → IsFile bytes file → Headed bytes file
headed_file bytes file m =
    let v = m.4 in
    let w = v.4 in
    let whole : bytes ≡ magic ++ (version v.0 ++ v.2) = m.5 ∙ ap (λ (l : List ℕ). l ++ m.2) m.3 ∙ ap (λ (l : List ℕ). magic ++ l) (v.5 ∙ ap (λ (l : List ℕ). l ++ v.2) v.3) in
    subst (λ (f : File). Headed bytes f) w.2 (go v.0 v.2 w.0 whole w.1)
  where
    go : (ct : Bool) (rest : List ℕ) (sections : List Section) → bytes ≡ magic ++ (version ct ++ rest) → Items (IsSection ct) seen_after nothing_seen rest sections → Headed bytes (file_of ct sections)
    go true rest sections e i = record { rest = rest; ct = ap (λ (l : List ℕ). not (nat_eq (get_or l 6 0) 0)) e; behind = ap (drop 8) e; size = omega (arith, ap length e); items = i }
    go false rest sections e i = record { rest = rest; ct = ap (λ (l : List ℕ). not (nat_eq (get_or l 6 0) 0)) e; behind = ap (drop 8) e; size = omega (arith, ap length e); items = i }

-- the sections behind the header
pub sections_read : (bytes : List ℕ) (m : Module Label) (s : Spells bytes m) (ct : Bool) (i : Input) → ct ≡ not (nat_eq (get_or bytes 6 0) 0) → i.rest ≡ take (length bytes - 8) (drop 8 bytes)
    → items (section_at ct) seen_after nothing_seen i ≡ Ok s.file.sections
sections_read bytes m s ct i c r =
    let h = headed_file bytes s.file s.spelled in
    let all : i.rest ≡ h.rest = r ∙ ap (take (length bytes - 8)) h.behind ∙ ap (λ (n : ℕ). take n h.rest) (omega (arith, h.size)) ∙ take-length h.rest in
    let kind : s.file.ct ≡ ct = sym (c ∙ h.ct) in
    let spelled : Items (IsSection s.file.ct) seen_after nothing_seen i.rest s.file.sections = subst (λ (l : List ℕ). Items (IsSection s.file.ct) seen_after nothing_seen l s.file.sections) (sym all) h.items in
    (whole_section_items ct).complete i s.file.sections (subst (λ (b : Bool). Items (IsSection b) seen_after nothing_seen i.rest s.file.sections) kind spelled)

pub tree_made : (lent : Lent) (m : Module Label) → Spells lent.bytes m → tree lent ≡ m
unfolding tree
tree_made lent m s = ap module_in (file_is lent.bytes m s) ∙ s.made

pub spelled_tree : (lent : Lent) (m : Module Label) → Spells lent.bytes m → Spells lent.bytes (tree lent)
spelled_tree lent m s = subst (λ (t : Module Label). Spells lent.bytes t) (sym (tree_made lent m s)) s

pub ct_made : (lent : Lent) (m : Module Label) → Spells lent.bytes m → not (nat_eq (get_or lent.bytes 6 0) 0) ≡ (tree lent).ct
ct_made lent m s = (headed_file lent.bytes s.file s.spelled).ct ∙ ap (λ (t : Module Label). t.ct) (s.made ∙ sym (tree_made lent m s))

pub parts_made : (lent : Lent) (m : Module Label) (s : Spells lent.bytes m) → state_after with_section no_parts s.file.sections ≡ parts lent
unfolding parts
parts_made lent m s = ap (λ (f : File). state_after with_section no_parts f.sections) (sym (file_is lent.bytes m s))

pub trees_told : {E : Type 0} (lent : Lent) (result : Result Lent E) → IfOk result (λ v. v ≡ lent) → IfOk result (λ v. (m : Module Label) → Spells lent.bytes m → tree v ≡ m)
trees_told lent (Ok v) h = λ m s. ap tree h ∙ tree_made lent m s
trees_told lent (Err e) h = h

-- bytes that are read spell a module
pub spelled_by : (bytes : List ℕ) → is_ok (module_at bytes) ≡ true → (m : Module Label) × Spells bytes m
spelled_by bytes h = go (module_at bytes) refl h
  where
    go : (r : Result (Module Label) FormFault) → module_at bytes ≡ r → is_ok r ≡ true → (m : Module Label) × Spells bytes m
    go (Ok m) e t = (m, module_sound bytes m e)
    go (Err f) e t = absurd (false≢true t)
