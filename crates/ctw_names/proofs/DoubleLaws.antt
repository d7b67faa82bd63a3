-- Names that stand twice, name by name.
use Rattle.std.proofs.Common.{◌≡◌, ◌||◌, Bool, true, false, List, [], ◌∷◌, ◌++◌, refl, ap, sym, ◌∙◌}
use Rattle.std.specs.Prelude.{Option, Some, None, not}
use Rattle.std.specs.List.{list_any}
use Rattle.std.proofs.lemmas.List.{append-nil, append_assoc}
use Rattle.std.proofs.lemmas.List.Folds.{list_any-append}
use Rattle.ctw_text.specs.Written.{Name}
use Rattle.ctw_text.specs.Names.{NameFault, double_faults, fault_at, is_named, unless}
use Rattle.ctw_text.specs.Names as n
use Rattle.ctw_names.specs.Noted.{noted}
use Rattle.ctw_names.specs.Doubles.{double_fault, doubles_onto}

or_turned : (a b : Bool) → (a || b) ≡ (b || (a || false))
or_turned true true = refl
or_turned true false = refl
or_turned false true = refl
or_turned false false = refl

or_none : (a : Bool) → a ≡ (a || false)
or_none true = refl
or_none false = refl

pub doubles_are : (ns rb b : List (Option Name)) → ((w : Name) → list_any (is_named w) rb ≡ list_any (is_named w) b) → double_faults rb ns ≡ doubles_onto b ns
doubles_are [] rb b same = refl
doubles_are (None ∷ ns) rb b same =
    doubles_are ns rb (b ++ None ∷ []) (λ w. same w ∙ or_none (list_any (is_named w) b) ∙ sym (list_any-append (is_named w) b (None ∷ [])))
doubles_are (Some v ∷ ns) rb b same =
    ap (λ (k : Bool). unless (not k) (fault_at n.DoubleName v) ++ double_faults (Some v ∷ rb) ns) (same v)
    ∙ ap (λ (l : List NameFault). unless (not (list_any (is_named v) b)) (fault_at n.DoubleName v) ++ l)
    (doubles_are ns (Some v ∷ rb) (b ++ Some v ∷ [])
    (λ w. ap (λ (k : Bool). is_named w (Some v) || k) (same w) ∙ or_turned (is_named w (Some v)) (list_any (is_named w) b) ∙ sym (list_any-append (is_named w) b (Some v ∷ []))))

pub doubles_append : (a b before : List (Option Name)) → doubles_onto before (a ++ b) ≡ doubles_onto before a ++ doubles_onto (before ++ a) b
doubles_append [] b before = ap (λ (l : List (Option Name)). doubles_onto l b) (sym (append-nil before))
doubles_append (m ∷ a) b before =
    ap (λ (l : List NameFault). double_fault m before ++ l) (doubles_append a b (before ++ m ∷ []))
    ∙ sym (append_assoc (double_fault m before) (doubles_onto (before ++ m ∷ []) a) (doubles_onto ((before ++ m ∷ []) ++ a) b))
    ∙ ap (λ (l : List (Option Name)). (double_fault m before ++ doubles_onto (before ++ m ∷ []) a) ++ doubles_onto l b) (append_assoc before (m ∷ []) a)

-- one more name, which stood before or didn't

pub stood_before : (m : Option Name) (w : Name) (before : List (Option Name)) (b : Option NameFault) → m ≡ Some w → list_any (is_named w) before ≡ true → noted b (fault_at n.DoubleName w ∷ []) ≡ noted b (double_fault m before)
stood_before m w before b is stood = rw (is, stood) refl

pub new_name : (m : Option Name) (w : Name) (before : List (Option Name)) (b : Option NameFault) → m ≡ Some w → list_any (is_named w) before ≡ false → b ≡ noted b (double_fault m before)
new_name m w before b is stood = rw (is, stood) refl
