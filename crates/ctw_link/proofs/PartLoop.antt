-- The parts, one after another.
use Rattle.std.proofs.Common.{◌≡◌, ◌≤◌, ℕ, ◌+◌, [], length, take, drop, map, slice_get, Option, Some, None, ◌⊎◌, inl, inr, refl, sym, ap, ◌∙◌}
use Rattle.std.proofs.lemmas.List.{take_all, drop_all}
use Rattle.ctw_ops.specs.declared.types.ExternTag.TheVariants.{Table}
use Rattle.ctw_link.specs.declared.fault.LinkFault.{LinkFault}
use Rattle.ctw_link.specs.declared.fault.LinkFault.TheVariants.{NoMemory}
use Rattle.ctw_link.specs.declared.numbers.Numbering.{Numbering}
use Rattle.ctw_link.specs.Sets.{NamedModule, ModuleSet, defined}
use Rattle.ctw_link.specs.Numbers.{linked}
use Rattle.ctw_link.specs.Users.{or_later}
use Rattle.ctw_link.specs.Faults.{imports_fault_from, imports_fault}
use Rattle.ctw_link.specs.Resolving.{AreNumbered}
use Rattle.ctw_link.proofs.Lists.{take_next, drop_next}

-- the first parts are met, with this numbering
pub record Linked (set : ModuleSet) (k : ℕ) (n : Numbering) : Type 0 where
  pub numbered : AreNumbered (take k set) n
  pub left : imports_fault [] set ≡ imports_fault (take k set) (drop k set)

pub linked_none : (set : ModuleSet) (n : Numbering) → AreNumbered [] n → Linked set 0 n
linked_none set n h = record { numbered = h; left = refl }

fault_next : (set : ModuleSet) (k : ℕ) (p : NamedModule) → slice_get set k ≡ Some p
    → imports_fault (take k set) (drop k set) ≡ or_later (imports_fault_from (take k set) p.tree 0 p.tree.imports) (imports_fault (take (k + 1) set) (drop (k + 1) set))
fault_next set k p is =
    ap (imports_fault (take k set)) (drop_next set k p is)
    ∙ ap (λ (s : ModuleSet). or_later (imports_fault_from (take k set) p.tree 0 p.tree.imports) (imports_fault s (drop (k + 1) set))) (sym (take_next set k p is))

pub linked_next : (set : ModuleSet) (k : ℕ) (p : NamedModule) (old new : Numbering) → slice_get set k ≡ Some p → imports_fault_from (take k set) p.tree 0 p.tree.imports ≡ None → AreNumbered (take (k + 1) set) new → Linked set k old → Linked set (k + 1) new
linked_next set k p old new is f n h = record {
  numbered = n;
  left = h.left ∙ fault_next set k p is ∙ ap (λ (o : Option LinkFault). or_later o (imports_fault (take (k + 1) set) (drop (k + 1) set))) f;
}

pub linked_fault : (set : ModuleSet) (k : ℕ) (p : NamedModule) (n : Numbering) (e : LinkFault) → slice_get set k ≡ Some p → (e ≡ NoMemory) ⊎ (imports_fault_from (take k set) p.tree 0 p.tree.imports ≡ Some e) → Linked set k n
    → (e ≡ NoMemory) ⊎ (imports_fault [] set ≡ Some e)
linked_fault set k p n e is (inl m) h = inl m
linked_fault set k p n e is (inr f) h = inr (h.left ∙ fault_next set k p is ∙ ap (λ (o : Option LinkFault). or_later o (imports_fault (take (k + 1) set) (drop (k + 1) set))) f)

-- all parts are met
pub record All (set : ModuleSet) (n : Numbering) : Type 0 where
  pub fault : imports_fault [] set ≡ None
  pub numbers : n.parts.items ≡ map (λ p. p.numbers) (linked set)
  pub tables : n.tables ≡ defined Table set

pub linked_all : (set : ModuleSet) (k : ℕ) (n : Numbering) → length set ≤ k → Linked set k n → All set n
linked_all set k n le h =
    let whole = take_all k set le in
    record {
      fault = h.left ∙ ap (imports_fault (take k set)) (drop_all k set le);
      numbers = h.numbered.parts ∙ ap (λ (s : ModuleSet). map (λ p. p.numbers) (linked s)) whole;
      tables = h.numbered.tables ∙ ap (defined Table) whole;
    }
