-- The set of a placed workload matches, and is launched.
use Rattle.std.proofs.Common.{◌≡◌, ℕ, List, [], ◌∷◌, ◌++◌, refl, ap, subst, arith, All, codes}
use Rattle.std.specs.Prelude.{◌≢◌}
use Rattle.std.proofs.lemmas.List.Elements.{All-nil}
use Rattle.std.proofs.lemmas.List.Kept.{AllPairs-cons}
use Rattle.ctw_ops.specs.declared.numeric.Profile.{Profile}
use Rattle.ctw_ops.specs.declared.types.Label.{Label}
use Rattle.ctw_ops.specs.Limits.{most_set_pages, most_set_entries}
use Rattle.ctw_ops.specs.Tree.{Import}
use Rattle.ctw_labels.specs.declared.tag.Tag.{Tag}
use Rattle.ctw_labels.specs.Points.{Points}
use Rattle.ctw_link.specs.Sets.{NamedModule, ModuleSet}
use Rattle.ctw_link.specs.Externals.{IsMet}
use Rattle.ctw_link.specs.Matching.{AreMatching}
use Rattle.ctw_launch.specs.Launched.{Stands, loaded, launched, launched_within}
use Rattle.ctw_labels.specs.Placed.{placed}
use Rattle.ctw_workloads.specs.Placed.{workload_under, placed_set}

-- a list of one item has it alone between others
alone : (one p : NamedModule) (before behind : ModuleSet) → one ∷ [] ≡ before ++ p ∷ behind → one ≡ p
alone one p [] behind e = cc
alone one p (x ∷ before) behind e = absurd (none before cc)
  where
    none : (l : ModuleSet) → [] ≡ l ++ p ∷ behind → ⊥
    none [] f = cc
    none (y ∷ l) f = cc

abbrev Differ : NamedModule → NamedModule → Type 0
Differ a b = a.name ≢ b.name

module _ (q : Profile) (seed size : ℕ) (p : Points) (l : Tag → Label) where
  abbrev one : NamedModule
  one = record { name = codes "m"; tree = placed l (workload_under q seed size) p }

  pub set_matches : AreMatching (placed_set q seed size p l)
  unfolding most_set_pages most_set_entries
  set_matches = record {
    names = AllPairs-cons Differ one [] (All-nil (Differ one)) (λ i j d lt within. absurd (omega arith));
    imports = λ before behind part e. subst (λ (i : List (Import Label)). All (IsMet before part.tree) i) (ap (λ (x : NamedModule). x.tree.imports) (alone one part before behind e)) (All-nil (IsMet before part.tree));
    tables = λ table lt. absurd (omega arith);
    pages = omega arith;
    entries = omega arith;
  }

  pub set_stands : launched (placed_set q seed size p l) ≡ Stands (loaded (placed_set q seed size p l))
  unfolding launched_within
  set_stands = refl
