-- No name is found twice exactly where all names differ.
use Rattle.std.proofs.Common.{◌≡◌, ◌≢◌, ◌↔◌, ℕ, suc, Bool, true, false, ◌||◌, List, [], ◌∷◌, ◌++◌, All, AllPairs, refl, sym, ◌∙◌, arith, length, get_or}
use Rattle.std.specs.List.{list_any}
use Rattle.std.specs.Str.{bytes_eq}
use Rattle.std.proofs.lemmas.List.Elements.{All-nil, All-cons, All-head, All-tail, All-weaker}
use Rattle.std.proofs.lemmas.List.Folds.{list_any-append}
use Rattle.std.proofs.lemmas.List.Kept.{AllPairs-cons}
use Rattle.std.proofs.lemmas.Slice.Eq.{bytes_eq-Decides}
use Rattle.ctw_link.specs.declared.fault.LinkFault.TheVariants.{DoubleName}
use Rattle.ctw_link.specs.Sets.{NamedModule, ModuleSet}
use Rattle.ctw_link.specs.Externals.{has_name}
use Rattle.ctw_link.specs.Faults.{name_fault, names_fault}
use Rattle.ctw_link.proofs.Nones.{NoneWhere, none_if_not, none_or, none_same}

-- two names differ exactly where their bytes do
differ_test : (xs ys : List ℕ) → (bytes_eq xs ys ≡ false) ↔ (xs ≢ ys)
differ_test xs ys = (
  (λ e q. let t : bytes_eq xs ys ≡ true = (bytes_eq-Decides xs ys).1 q in let w : false ≡ true = sym e ∙ t in absurd cc),
  (λ n. no_bytes (bytes_eq xs ys) refl n),
)
  where
    no_bytes : (b : Bool) → bytes_eq xs ys ≡ b → xs ≢ ys → b ≡ false
    no_bytes true q n = absurd (n ((bytes_eq-Decides xs ys).0 q))
    no_bytes false q n = refl

neither : (b c : Bool) → ((b || (c || false)) ≡ false) ↔ ((b ≡ false) × (c ≡ false))
neither true c = ((λ e. absurd cc), (λ h. absurd (let q : true ≡ false = h.0 in cc)))
neither false true = ((λ e. absurd cc), (λ h. absurd (let q : true ≡ false = h.1 in cc)))
neither false false = ((λ e. (refl, refl)), (λ h. refl))

abbrev pub IsNew : ModuleSet → NamedModule → Type 0
IsNew before p = list_any (has_name p.name) before ≡ false

abbrev pub Differ : NamedModule → NamedModule → Type 0
Differ p q = p.name ≢ q.name

new_push : (before : ModuleSet) (p x : NamedModule) → IsNew (before ++ p ∷ []) x ↔ (IsNew before x × Differ p x)
new_push before p x =
    let e = list_any-append (has_name x.name) before (p ∷ []) in
    let t = neither (list_any (has_name x.name) before) (has_name x.name p) in
    let d = differ_test p.name x.name in
    ((λ h. let q = t.0 (sym e ∙ h) in (q.0, d.0 q.1)), (λ h. e ∙ t.1 (h.0, d.1 h.1)))

-- parts behind others
record AreNames (before set : ModuleSet) : Type 0 where
  new : All (IsNew before) set
  differ : AllPairs Differ set

more_names : (before : ModuleSet) (p : NamedModule) (set : ModuleSet) → IsNew before p × AreNames (before ++ p ∷ []) set → AreNames before (p ∷ set)
more_names before p set h = record {
  new = All-cons (IsNew before) p set h.0 (All-weaker (IsNew (before ++ p ∷ [])) (IsNew before) (λ x n. ((new_push before p x).0 n).0) set h.1.new);
  differ = AllPairs-cons Differ p set (All-weaker (IsNew (before ++ p ∷ [])) (Differ p) (λ x n. ((new_push before p x).0 n).1) set h.1.new) h.1.differ;
}

less_names : (before : ModuleSet) (p : NamedModule) (set : ModuleSet) → AreNames before (p ∷ set) → IsNew before p × AreNames (before ++ p ∷ []) set
less_names before p set h =
    let rest = All-tail (IsNew before) p set h.new in (
      All-head (IsNew before) p set h.new,
      record {
        new = λ k d q. (new_push before p (get_or set k d)).1 (rest k d q, h.differ 0 (suc k) d (omega arith) (omega (arith, q)));
        differ = λ j k d i q. h.differ (suc j) (suc k) d (omega (arith, i)) (omega (arith, q));
      },
    )

behind_none : (before set : ModuleSet) → NoneWhere (names_fault before set) (AreNames before set)
behind_none before [] = ((λ e. record { new = All-nil (IsNew before); differ = λ j k d p q. absurd (omega (arith, q)) }), (λ h. refl))
behind_none before (p ∷ set) =
    none_same (names_fault before (p ∷ set)) (IsNew before p × AreNames (before ++ p ∷ []) set) (AreNames before (p ∷ set))
    (none_or (name_fault before p) (names_fault (before ++ p ∷ []) set) (IsNew before p) (AreNames (before ++ p ∷ []) set)
    (none_if_not (list_any (has_name p.name) before) (DoubleName (length before))) (behind_none (before ++ p ∷ []) set))
    (more_names before p set) (less_names before p set)

pub names_none : (set : ModuleSet) → NoneWhere (names_fault [] set) (AllPairs Differ set)
names_none set = none_same (names_fault [] set) (AreNames [] set) (AllPairs Differ set) (behind_none [] set) (λ h. h.differ) (λ h. record { new = λ k d q. refl; differ = h })
