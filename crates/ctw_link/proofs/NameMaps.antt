-- The map of names, part by part.
use Rattle.std.proofs.Common.{◌≡◌, ◌≤◌, ℕ, ◌+◌, Bool, true, false, cond, List, [], ◌∷◌, ◌++◌, length, take, drop, slice_get, Option, Some, None, is_some, refl, sym, ap, ◌∙◌, arith}
use Rattle.std.specs.List.{position_from}
use Rattle.std.specs.Str.{bytes_eq}
use Rattle.std.proofs.lemmas.Bool.{false≢true}
use Rattle.std.proofs.lemmas.Slice.Eq.{bytes_eq-Decides}
use Rattle.std.proofs.lemmas.List.{take_all, drop_all}
use Rattle.ctw_link.specs.declared.fault.LinkFault.TheVariants.{DoubleName}
use Rattle.ctw_link.specs.Sets.{NamedModule, ModuleSet}
use Rattle.ctw_link.specs.Externals.{has_name}
use Rattle.ctw_link.specs.Users.{or_later}
use Rattle.ctw_link.specs.Faults.{names_fault}
use Rattle.ctw_link.proofs.Lists.{take_next, drop_next, front_length, position_more, any_position}

-- the map holds the names of the first parts, which differ
pub record Named (set : ModuleSet) (g : List ℕ → Option ℕ) (i : ℕ) : Type 0 where
  pub told : (name : List ℕ) → g name ≡ position_from (has_name name) 0 (take i set)
  pub left : names_fault [] set ≡ names_fault (take i set) (drop i set)

pub named_none : (set : ModuleSet) (g : List ℕ → Option ℕ) → ((name : List ℕ) → g name ≡ None) → Named set g 0
named_none set g h = record { told = h; left = refl }

none_test : {X : Type 0} (o : Option X) → o ≡ None → is_some o ≡ false
none_test o e = ap is_some e

pub fault_here : (set : ModuleSet) (g : List ℕ → Option ℕ) (i : ℕ) (p : NamedModule) → slice_get set i ≡ Some p → Named set g i
    → names_fault [] set ≡ or_later (cond (is_some (g p.name)) (Some (DoubleName i)) None) (names_fault (take (i + 1) set) (drop (i + 1) set))
fault_here set g i p is h =
    let front = take i set in
    h.left ∙ ap (names_fault front) (drop_next set i p is)
    ∙ ap (λ (b : Bool). or_later (cond b (Some (DoubleName (length front))) None) (names_fault (front ++ p ∷ []) (drop (i + 1) set))) (any_position (has_name p.name) 0 front ∙ ap is_some (sym (h.told p.name)))
    ∙ ap (λ (n : ℕ). or_later (cond (is_some (g p.name)) (Some (DoubleName n)) None) (names_fault (front ++ p ∷ []) (drop (i + 1) set))) (front_length set i p is)
    ∙ ap (λ (l : ModuleSet). or_later (cond (is_some (g p.name)) (Some (DoubleName i)) None) (names_fault l (drop (i + 1) set))) (sym (take_next set i p is))

pub named_double : (set : ModuleSet) (g : List ℕ → Option ℕ) (i : ℕ) (p : NamedModule) → slice_get set i ≡ Some p → is_some (g p.name) ≡ true → Named set g i → names_fault [] set ≡ Some (DoubleName i)
named_double set g i p is some h =
    fault_here set g i p is h ∙ ap (λ (b : Bool). or_later (cond b (Some (DoubleName i)) None) (names_fault (take (i + 1) set) (drop (i + 1) set))) some

pub named_more : (set : ModuleSet) (g h : List ℕ → Option ℕ) (i : ℕ) (p : NamedModule) → slice_get set i ≡ Some p → is_some (g p.name) ≡ false → ((name : List ℕ) → h name ≡ cond (bytes_eq p.name name) (Some i) (g name))
    → Named set g i → Named set h (i + 1)
named_more set g h i p is none after n = record {
  told = λ name. go name (bytes_eq p.name name) refl;
  left = fault_here set g i p is n ∙ ap (λ (b : Bool). or_later (cond b (Some (DoubleName i)) None) (names_fault (take (i + 1) set) (drop (i + 1) set))) none;
}
  where
    empty : {X : Type 0} (o : Option X) → is_some o ≡ false → o ≡ None
    empty None e = refl
    empty (Some x) e = absurd (false≢true (sym e))

    last : (o : Option ℕ) → o ≡ or_later o None
    last None = refl
    last (Some x) = refl

    old : (name : List ℕ) (b : Bool) → bytes_eq p.name name ≡ b → position_from (has_name name) 0 (take (i + 1) set) ≡ or_later (g name) (cond b (Some i) None)
    old name b t =
        let size : 0 + length (take i set) ≡ i = omega (arith, front_length set i p is) in
        ap (position_from (has_name name) 0) (take_next set i p is)
        ∙ position_more (has_name name) 0 (take i set) p
        ∙ ap (λ (o : Option ℕ). or_later o (cond (bytes_eq p.name name) (Some (0 + length (take i set))) None)) (sym (n.told name))
        ∙ ap (λ (k : ℕ). or_later (g name) (cond (bytes_eq p.name name) (Some k) None)) size
        ∙ ap (λ (c : Bool). or_later (g name) (cond c (Some i) None)) t

    go : (name : List ℕ) (b : Bool) → bytes_eq p.name name ≡ b → h name ≡ position_from (has_name name) 0 (take (i + 1) set)
    go name true t =
        let same : p.name ≡ name = (bytes_eq-Decides p.name name).0 t in
        let free : g name ≡ None = ap g (sym same) ∙ empty (g p.name) none in
        after name ∙ ap (λ (c : Bool). cond c (Some i) (g name)) t ∙ sym (old name true t ∙ ap (λ (o : Option ℕ). or_later o (Some i)) free)
    go name false t =
        after name ∙ ap (λ (c : Bool). cond c (Some i) (g name)) t ∙ last (g name) ∙ sym (old name false t)

pub named_all : (set : ModuleSet) (g : List ℕ → Option ℕ) (i : ℕ) → length set ≤ i → Named set g i → ((name : List ℕ) → g name ≡ position_from (has_name name) 0 set) × (names_fault [] set ≡ None)
named_all set g i le h = (λ name. h.told name ∙ ap (position_from (has_name name) 0) (take_all i set le), h.left ∙ ap (names_fault (take i set)) (drop_all i set le))
