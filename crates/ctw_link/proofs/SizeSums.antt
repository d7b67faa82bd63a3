-- Sums of sizes over the parts of a set, and the faults of sums that are too great.
use Rattle.std.proofs.Common.{◌≡◌, ◌≤◌, ◌<◌, ℕ, ◌+◌, ◌*◌, Bool, true, false, List, length, take, get_or, Option, Some, None, IfSome, if◌then◌else◌, nat_le, sum_by, refl, sym, ap, ◌∙◌, subst, arith, add-mul}
use Rattle.std.proofs.lemmas.Bool.{leb-true, le-leb}
use Rattle.std.proofs.lemmas.List.{get_or-map, length-map, take_all}
use Rattle.std.proofs.lemmas.List.Sums.{sum_by_more}
use Rattle.ctw_ops.specs.declared.types.Label.{Label}
use Rattle.ctw_ops.specs.Types.{MemoryType}
use Rattle.ctw_ops.specs.Valid.{IsMemory}
use Rattle.ctw_ops.specs.Limits.{most_memory_pages}
use Rattle.ctw_link.specs.declared.fault.LinkFault.{LinkFault}
use Rattle.ctw_link.specs.declared.fault.LinkFault.TheVariants.{TooManyPages, TooManyEntries}
use Rattle.ctw_link.specs.declared.set.Part.{Part}
use Rattle.ctw_link.specs.Sets.{NamedModule, ModuleSet, part_in, set_of}
use Rattle.ctw_ops.specs.Limits.{most_set_pages, most_set_entries}
use Rattle.ctw_link.specs.Matching.{pages, entries}
use Rattle.ctw_link.specs.Faults.{pages_fault, entries_fault}

-- the sizes of the first k parts, each of which is at most this, have this sum
pub record Summed (size : NamedModule → ℕ) (most : ℕ) (parts : List Part) (k sum : ℕ) : Type 0 where
  pub is : sum ≡ sum_by size (take k (set_of parts))
  pub within : sum ≤ k * most

pub summed_none : (size : NamedModule → ℕ) (most : ℕ) (parts : List Part) → Summed size most parts 0 0
summed_none size most parts = record { is = refl; within = omega arith }

pub summed_room : (size : NamedModule → ℕ) (most : ℕ) (parts : List Part) (k sum one : ℕ) → one ≤ most → Summed size most parts k sum → sum + one ≤ (k + 1) * most
summed_room size most parts k sum one le s = omega (arith, le, s.within, add-mul k 1 most)

pub summed_more : (size : NamedModule → ℕ) (most : ℕ) (parts : List Part) (k sum one : ℕ) (part : Part) → k < length parts → part ≡ get_or parts k part → one ≡ size (part_in part) → one ≤ most → Summed size most parts k sum → Summed size most parts (k + 1) (sum + one)
summed_more size most parts k sum one part lt here is le s =
    let d = part_in part in
    let there : get_or (set_of parts) k d ≡ part_in part = get_or-map part_in parts k part d lt ∙ ap part_in (sym here) in
    let long : length (set_of parts) ≡ length parts = length-map parts part_in in
    let more = sum_by_more size (set_of parts) k d (omega (arith, lt, long)) in
    record {
      is = omega (arith, s.is, is, more, ap size there);
      within = summed_room size most parts k sum one le s;
    }

pub summed_all : (size : NamedModule → ℕ) (most : ℕ) (parts : List Part) (k sum : ℕ) → length parts ≤ k → Summed size most parts k sum → sum ≡ sum_by size (set_of parts)
summed_all size most parts k sum le s = s.is ∙ ap (sum_by size) (take_all k (set_of parts) (omega (arith, le, length-map parts part_in)))

-- ---- the size of a memory

pub few_pages : (o : Option (MemoryType Label)) (type : MemoryType Label) → IfSome o IsMemory → o ≡ Some type → type.limits.min ≤ 65536
unfolding most_memory_pages
few_pages o type h e = let m : IsMemory type = subst (λ (x : Option (MemoryType Label)). IfSome x IsMemory) e h in m.1

-- ---- the faults

within_none : (n most : ℕ) (fault : LinkFault) → n ≤ most → (if nat_le n most then None else Some fault) ≡ None
within_none n most fault le = ap (λ (b : Bool). if b then None else Some fault) (le-leb n most le)

over_some : (n most : ℕ) (fault : LinkFault) → most < n → (if nat_le n most then None else Some fault) ≡ Some fault
over_some n most fault lt = by (nat_le n most) refl
  where
    by : (b : Bool) → nat_le n most ≡ b → (if b then None else Some fault) ≡ Some fault
    by true e = absurd (omega (arith, leb-true n most e, lt))
    by false e = refl

pub pages_none : (set : ModuleSet) (n : ℕ) → n ≡ pages set → n ≤ 4096 → pages_fault set ≡ None
unfolding most_set_pages
pages_none set n e le = within_none (pages set) most_set_pages (TooManyPages (pages set)) (omega (arith, e, le))

pub pages_some : (set : ModuleSet) (n : ℕ) → n ≡ pages set → 4096 < n → pages_fault set ≡ Some (TooManyPages n)
unfolding most_set_pages
pages_some set n e lt = over_some (pages set) most_set_pages (TooManyPages (pages set)) (omega (arith, e, lt)) ∙ ap (λ (k : ℕ). Some (TooManyPages k)) (sym e)

pub entries_none : (set : ModuleSet) (n : ℕ) → n ≡ entries set → n ≤ 1000000 → entries_fault set ≡ None
unfolding most_set_entries
entries_none set n e le = within_none (entries set) most_set_entries (TooManyEntries (entries set)) (omega (arith, e, le))

pub entries_some : (set : ModuleSet) (n : ℕ) → n ≡ entries set → 1000000 < n → entries_fault set ≡ Some (TooManyEntries n)
unfolding most_set_entries
entries_some set n e lt = over_some (entries set) most_set_entries (TooManyEntries (entries set)) (omega (arith, e, lt)) ∙ ap (λ (k : ℕ). Some (TooManyEntries k)) (sym e)
