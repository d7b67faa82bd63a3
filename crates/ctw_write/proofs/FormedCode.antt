-- Functions that keep the limits are spelled by their canonical code entries.
use Rattle.std.proofs.Common.{◌≡◌, ℕ, ◌+◌, ◌≤◌, Bool, false, List, [], ◌∷◌, ◌++◌, length, map, refl, sym, ap, subst, ◌∙◌, append-nil, eq-eqb, arith}
use Rattle.std.specs.List.{All, sum_by}
use Rattle.std.proofs.lemmas.List.Sums.{sum_by-cons}
use Rattle.std.proofs.lemmas.List.{length-append}
use Rattle.std.proofs.lemmas.List.Elements.{All-head, All-tail}
use Rattle.ctw_ops.specs.ValueType.{ValueType}
use Rattle.ctw_ops.specs.declared.types.Label.{Label}
use Rattle.ctw_ops.specs.Limits.{most_locals_of_all}
use Rattle.ctw_ops.specs.Plain.{IsPlainFunction}
use Rattle.ctw_ops.specs.Tree.{Function}
use Rattle.ctw_leb.specs.Grammar.{TimesFrom}
use Rattle.ctw_leb.specs.Spelling.{u32_text}
use Rattle.ctw_form.specs.Sections.{Entry, functions_of}
use Rattle.ctw_form.specs.Spelled.{IsEntry, all_after, IsCodes}
use Rattle.ctw_form.proofs.CodeForms.{EntryInsides}
use Rattle.ctw_write.specs.Canon.{all_texts, vector_text, groups_of, group_text, body_text, code_text}
use Rattle.ctw_write.specs.KeepsLimits.{Is32, IsShort, IsLimitedFunction}
use Rattle.ctw_write.proofs.GroupTexts.{groups_locals, groups_spelled}
use Rattle.ctw_write.proofs.FormedNumbers.{number_spelled, sized_spelled, size_short}
use Rattle.ctw_write.proofs.FormedBytes.{value_type_there}
use Rattle.ctw_write.proofs.FormedOps.{body_spelled}

-- the code entry of a function
abbrev pub entry_of : Function Label → Entry
entry_of f = record { groups = groups_of f.locals; code = body_text f.body; body = f.body }

abbrev pub locals_of_all : List (Function Label) → ℕ
locals_of_all functions = sum_by (λ f. length f.locals) functions

code_spelled : (ct : Bool) (all : ℕ) (f : Function Label) → IsLimitedFunction f → (ct ≡ false → IsPlainFunction f) → all + length f.locals ≤ most_locals_of_all → IsShort (code_text f) → IsEntry ct all (code_text f) (entry_of f)
code_spelled ct all f h plain total lt =
    let groups = vector_text group_text (groups_of f.locals) in
    let inner = groups ++ body_text f.body in
    let short : Is32 (length inner) = omega (arith, size_short inner) in
    let body = body_spelled ct f.body h.ops h.nesting (λ e. (plain e).1) (omega (arith, short, length-append groups (body_text f.body))) in
    let locals = groups_spelled ct all f.locals (λ i d within. value_type_there ct _ (λ e. (plain e).0 i d within)) h.locals total in
    let made : EntryInsides ct all inner (entry_of f) = (groups_of f.locals, groups, body_text f.body, locals, ((body_text f.body, f.body), (refl, body), refl), refl) in
    sized_spelled (EntryInsides ct all) inner (entry_of f) short made

times_codes : (ct : Bool) (all : ℕ) (functions : List (Function Label)) → All IsLimitedFunction functions → (ct ≡ false → All IsPlainFunction functions) → all + locals_of_all functions ≤ most_locals_of_all
    → All (λ f. IsShort (code_text f)) functions → TimesFrom (IsEntry ct) all_after (length functions) all (all_texts code_text functions) (map entry_of functions)
times_codes ct all [] h plain total short = (refl, refl)
times_codes ct all (f ∷ functions) h plain total short =
    let more : locals_of_all (f ∷ functions) ≡ length f.locals + locals_of_all functions = sum_by-cons (λ g. length g.locals) f functions in
    let same : all + length f.locals ≡ all_after all (entry_of f) = ap (λ (l : List (ValueType Label)). all + length l) (sym (groups_locals f.locals)) in
    let first = code_spelled ct all f (All-head IsLimitedFunction f functions h) (λ e. All-head IsPlainFunction f functions (plain e)) (omega (arith, more)) (All-head (λ g. IsShort (code_text g)) f functions short) in
    let others = times_codes ct (all + length f.locals) functions (All-tail IsLimitedFunction f functions h) (λ e. All-tail IsPlainFunction f functions (plain e)) (omega (arith, more)) (All-tail (λ g. IsShort (code_text g)) f functions short) in
    let texts = all_texts code_text functions in
    (entry_of f, code_text f, texts, first, (map entry_of functions, texts, [], subst (λ (n : ℕ). TimesFrom (IsEntry ct) all_after (length functions) n texts (map entry_of functions)) same others, (refl, refl), sym (append-nil texts)), refl)

pub codes_spelled : (ct : Bool) (functions : List (Function Label)) → All IsLimitedFunction functions → (ct ≡ false → All IsPlainFunction functions) → locals_of_all functions ≤ most_locals_of_all
    → All (λ f. IsShort (code_text f)) functions → Is32 (length functions) → IsCodes ct (length functions) (vector_text code_text functions) (map entry_of functions)
codes_spelled ct functions h plain total short lt =
    let n = length functions in
    (n, u32_text n, all_texts code_text functions, (number_spelled n lt, eq-eqb n n refl), times_codes ct 0 functions h plain (omega arith) short, refl)

-- functions of their entries
pub functions_again : (functions : List (Function Label)) → functions_of (map (λ f. f.type) functions) (map entry_of functions) ≡ functions
functions_again [] = refl
functions_again (f ∷ functions) =
    ap (λ (l : List (ValueType Label)). record { type = f.type; locals = l; body = f.body } ∷ functions_of (map (λ g. g.type) functions) (map entry_of functions)) (groups_locals f.locals)
    ∙ ap (λ (l : List (Function Label)). f ∷ l) (functions_again functions)
