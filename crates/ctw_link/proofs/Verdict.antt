-- The checks find no fault exactly in a set that matches.
use Rattle.std.proofs.Common.{◌≡◌, ◌⊎◌, ℕ, [], Option, Some, None, inl, inr, sym, ap, ◌∙◌}
use Rattle.ctw_ops.specs.declared.types.ExternTag.TheVariants.{Table}
use Rattle.ctw_link.specs.declared.fault.LinkFault.{LinkFault}
use Rattle.ctw_link.specs.declared.fault.LinkFault.TheVariants.{TooManyPages, TooManyEntries, NoMemory}
use Rattle.ctw_link.specs.Sets.{ModuleSet, defined}
use Rattle.ctw_link.specs.Numbers.{linked}
use Rattle.ctw_link.specs.Users.{or_later}
use Rattle.ctw_ops.specs.Limits.{most_set_pages, most_set_entries}
use Rattle.ctw_link.specs.Matching.{AreMatching, pages, entries}
use Rattle.ctw_link.specs.Faults.{names_fault, imports_fault, tables_fault, pages_fault, entries_fault, set_fault}
use Rattle.ctw_link.proofs.Nones.{NoneWhere, none_or, none_same, none_within}
use Rattle.ctw_link.proofs.DistinctNames.{names_none}
use Rattle.ctw_link.proofs.MetImports.{imports_none}
use Rattle.ctw_link.proofs.TableUsers.{tables_none}

set_none : (set : ModuleSet) → NoneWhere (set_fault set) (AreMatching set)
unfolding set_fault
set_none set =
    none_same (set_fault set) _ (AreMatching set)
    (none_or _ _ _ _ (names_none set)
    (none_or _ _ _ _ (imports_none set)
    (none_or _ _ _ _ (tables_none (linked set) (defined Table set))
    (none_or _ _ _ _ (none_within (pages set) most_set_pages (TooManyPages (pages set))) (none_within (entries set) most_set_entries (TooManyEntries (entries set)))))))
    (λ h. record { names = h.0; imports = h.1.0; tables = h.1.1.0; pages = h.1.1.1.0; entries = h.1.1.1.1 })
    (λ h. (h.names, (h.imports, (h.tables, (h.pages, h.entries)))))

pub no_fault_is_matching : (set : ModuleSet) → set_fault set ≡ None → AreMatching set
no_fault_is_matching set = (set_none set).0

pub matching_is_no_fault : (set : ModuleSet) → AreMatching set → set_fault set ≡ None
matching_is_no_fault set = (set_none set).1

-- ---- the first fault

skip : {A : Type 0} (a b : Option A) → a ≡ None → or_later a b ≡ b
skip a b e = ap (λ o. or_later o b) e

stop : {A : Type 0} (a b : Option A) (f : A) → a ≡ Some f → or_later a b ≡ Some f
stop a b f e = ap (λ o. or_later o b) e

-- memory is wanting, or this is the fault
abbrev IsFault : LinkFault → Option LinkFault → Type 0
IsFault e fault = (e ≡ NoMemory) ⊎ (fault ≡ Some e)

same_fault : (e : LinkFault) (a b : Option LinkFault) → (a ≡ Some e → b ≡ Some e) → IsFault e a → IsFault e b
same_fault e a b f (inl short) = inl short
same_fault e a b f (inr h) = inr (f h)

module _ (set : ModuleSet) (e : LinkFault) where
  pub in_names : IsFault e (names_fault [] set) → IsFault e (set_fault set)
  unfolding set_fault
  in_names = same_fault e (names_fault [] set) _ (λ f. stop (names_fault [] set) _ e f)

  pub in_imports : names_fault [] set ≡ None → IsFault e (imports_fault [] set) → IsFault e (set_fault set)
  unfolding set_fault
  in_imports n = same_fault e (imports_fault [] set) _ (λ f. skip (names_fault [] set) _ n ∙ stop (imports_fault [] set) _ e f)

  pub in_tables : (count : ℕ) → count ≡ defined Table set → names_fault [] set ≡ None → imports_fault [] set ≡ None → IsFault e (tables_fault (linked set) count) → IsFault e (set_fault set)
  unfolding set_fault
  in_tables count all n i =
      same_fault e (tables_fault (linked set) count) _
      (λ f. skip (names_fault [] set) _ n ∙ skip (imports_fault [] set) _ i ∙ stop (tables_fault (linked set) (defined Table set)) _ e (sym (ap (tables_fault (linked set)) all) ∙ f))

  pub in_pages : (count : ℕ) → count ≡ defined Table set → names_fault [] set ≡ None → imports_fault [] set ≡ None → tables_fault (linked set) count ≡ None → IsFault e (pages_fault set) → IsFault e (set_fault set)
  unfolding set_fault
  in_pages count all n i t =
      let none = sym (ap (tables_fault (linked set)) all) ∙ t in
      same_fault e (pages_fault set) _
      (λ f. skip (names_fault [] set) _ n ∙ skip (imports_fault [] set) _ i ∙ skip (tables_fault (linked set) (defined Table set)) _ none ∙ stop (pages_fault set) _ e f)

none_in_all : (set : ModuleSet) (count : ℕ) → count ≡ defined Table set → names_fault [] set ≡ None → imports_fault [] set ≡ None → tables_fault (linked set) count ≡ None → pages_fault set ≡ None → set_fault set ≡ entries_fault set
unfolding set_fault
none_in_all set count all n i t p =
    let none = sym (ap (tables_fault (linked set)) all) ∙ t in
    skip (names_fault [] set) _ n ∙ skip (imports_fault [] set) _ i ∙ skip (tables_fault (linked set) (defined Table set)) _ none ∙ skip (pages_fault set) (entries_fault set) p

pub in_entries : (set : ModuleSet) (e : LinkFault) (count : ℕ) → count ≡ defined Table set → names_fault [] set ≡ None → imports_fault [] set ≡ None → tables_fault (linked set) count ≡ None → pages_fault set ≡ None → IsFault e (entries_fault set)
    → IsFault e (set_fault set)
in_entries set e count all n i t p = same_fault e (entries_fault set) (set_fault set) (λ f. none_in_all set count all n i t p ∙ f)

pub in_none : (set : ModuleSet) (count : ℕ) → count ≡ defined Table set → names_fault [] set ≡ None → imports_fault [] set ≡ None → tables_fault (linked set) count ≡ None → pages_fault set ≡ None → entries_fault set ≡ None → set_fault set ≡ None
in_none set count all n i t p e = none_in_all set count all n i t p ∙ e

-- a set that matches fails for want of memory alone
pub fails_short : (set : ModuleSet) (e : LinkFault) → IsFault e (set_fault set) → AreMatching set → e ≡ NoMemory
fails_short set e (inl short) m = short
fails_short set e (inr f) m = absurd (no_some (sym (matching_is_no_fault set m) ∙ f))
  where
    no_some : {x : LinkFault} → ◌≡◌ {A = Option LinkFault} None (Some x) → ⊥
    no_some q = cc
