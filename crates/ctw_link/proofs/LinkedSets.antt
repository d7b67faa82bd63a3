-- What linking answers, where the parts are seen as lists that are equal to them.
use Rattle.std.proofs.Common.{◌≡◌, ◌⊎◌, ℕ, List, map, Some, None, sym, ap, subst, ◌∙◌}
use Rattle.ctw_flat.specs.declared.blocks.Block.{Block}
use Rattle.ctw_link.specs.declared.fault.LinkFault.{LinkFault}
use Rattle.ctw_link.specs.declared.fault.LinkFault.TheVariants.{NoMemory}
use Rattle.ctw_link.specs.declared.set.Part.{Part}
use Rattle.ctw_link.specs.Sets.{set_of, AllWithinLimits}
use Rattle.ctw_link.specs.Numbers.{StoreNumbers, linked, owners}
use Rattle.ctw_link.specs.Matching.{AreMatching}
use Rattle.ctw_link.specs.Faults.{set_fault}
use Rattle.ctw_link.specs.Linked.{CanBeLinked, TellBlocks, codes, AreLinked}
use Rattle.ctw_link.proofs.Verdict.{no_fault_is_matching, fails_short}

pub seen_matching : (parts seen : List Part) → seen ≡ parts → set_fault (set_of seen) ≡ None → AreMatching (set_of parts)
seen_matching parts seen e h = no_fault_is_matching (set_of parts) (ap (λ (l : List Part). set_fault (set_of l)) (sym e) ∙ h)

pub seen_short : (parts seen : List Part) (e : LinkFault) → seen ≡ parts → (e ≡ NoMemory) ⊎ (set_fault (set_of seen) ≡ Some e) → AreMatching (set_of parts) → e ≡ NoMemory
seen_short parts seen e same h m = fails_short (set_of seen) e h (subst (λ (l : List Part). AreMatching (set_of l)) (sym same) m)

module _ (parts seen others again : List Part) (numbers : List StoreNumbers) (owned : List (ℕ × ℕ)) (blocks : List (List Block)) where
  pub are_linked : CanBeLinked parts → seen ≡ parts → others ≡ parts → again ≡ parts → set_fault (set_of seen) ≡ None → numbers ≡ map (λ p. p.numbers) (linked (set_of seen)) → owned ≡ owners (set_of others) → TellBlocks (codes again) blocks
      → AllWithinLimits (set_of others) → AreLinked parts numbers owned blocks
  are_linked can e f g none numbered owners_are told limits = record {
    linkable = can;
    matching = seen_matching parts seen e none;
    numbered = numbered ∙ ap (λ (l : List Part). map (λ p. p.numbers) (linked (set_of l))) e;
    owners = owners_are ∙ ap (λ (l : List Part). owners (set_of l)) f;
    told = subst (λ (l : List Part). TellBlocks (codes l) blocks) g told;
    limits = subst (λ (l : List Part). AllWithinLimits (set_of l)) f limits;
  }
