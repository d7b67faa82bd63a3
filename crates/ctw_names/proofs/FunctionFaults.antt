-- The faults of a function, as they are noted.
use Rattle.std.proofs.Common.{◌≡◌, List, [], ◌++◌, ap, sym, ◌∙◌}
use Rattle.std.specs.Prelude.{Option}
use Rattle.ctw_text.specs.Written.{Name}
use Rattle.ctw_text.specs.declared.fields.Field.{Field}
use Rattle.ctw_text.specs.declared.fields.Item.{Item}
use Rattle.ctw_text.specs.Fields.{unfolded}
use Rattle.ctw_text.specs.Names.{NameFault, Scope, Space, body_faults, double_faults, entry_faults, function_faults, local_names, names_in}
use Rattle.ctw_names.specs.Noted.{noted}
use Rattle.ctw_names.specs.Doubles.{doubles_onto}
use Rattle.ctw_names.proofs.Noting.{noted_append}
use Rattle.ctw_names.proofs.Walks.{doubles_then, doubles_whole}

-- what is noted of a function, one after another
pub function_noted : (S : Space) (f : Field) (a b c d e : Option NameFault) (own table names : List (Option Name)) (code : List Item) → b ≡ noted a (entry_faults S f.draft.sig.entry f.draft.sig) → own ≡ []
    → c ≡ noted b (doubles_onto own (names_in f.draft.sig.params)) → table ≡ own ++ names_in f.draft.sig.params → d ≡ noted c (doubles_onto table (names_in f.draft.locals)) → names ≡ local_names S f.draft → code ≡ f.draft.code
    → e ≡ noted d (body_faults (record { space = S; locals = names }) [] (unfolded [] code)) → e ≡ noted a (function_faults S f)
function_noted S f a b c d e own table names code entry none params stand locals scope is body =
    let P = names_in f.draft.sig.params in
    let L = names_in f.draft.locals in
    let scope_is : Scope = record { space = S; locals = local_names S f.draft } in
    let doubles : d ≡ noted b (double_faults [] (P ++ L)) =
    locals ∙ ap (λ (t : List (Option Name)). noted c (doubles_onto t L)) (stand ∙ ap (λ (o : List (Option Name)). o ++ P) none)
    ∙ ap (λ (o : Option NameFault). noted o (doubles_onto P L)) (params ∙ ap (λ (o : List (Option Name)). noted b (doubles_onto o P)) none)
    ∙ doubles_then P L [] b ∙ doubles_whole (P ++ L) b in
    let bodies : List NameFault = body_faults scope_is [] (unfolded [] f.draft.code) in
    body ∙ ap (λ (l : List (Option Name)). noted d (body_faults (record { space = S; locals = l }) [] (unfolded [] code))) scope
    ∙ ap (λ (l : List Item). noted d (body_faults scope_is [] (unfolded [] l))) is
    ∙ ap (λ (o : Option NameFault). noted o bodies)
    (doubles ∙ ap (λ (o : Option NameFault). noted o (double_faults [] (P ++ L))) entry
    ∙ sym (noted_append (entry_faults S f.draft.sig.entry f.draft.sig) (double_faults [] (P ++ L)) a))
    ∙ sym (noted_append (entry_faults S f.draft.sig.entry f.draft.sig ++ double_faults [] (P ++ L)) bodies a)
