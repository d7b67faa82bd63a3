-- Where the blocks of bodies end, as that is gathered: function by function, and part by part.
use Rattle.std.proofs.Common.{◌≡◌, ◌≤◌, ◌<◌, ℕ, ◌+◌, ◌-◌, List, [], ◌∷◌, ◌++◌, length, map, get_or, take, sym, ap, subst, ◌∙◌, arith}
use Rattle.std.specs.List.{range_with_len}
use Rattle.std.proofs.lemmas.List.{append_assoc, append-nil, take_more, take_all}
use Rattle.std.proofs.lemmas.List.Concat.{flat_map-append}
use Rattle.std.proofs.lemmas.List.FromFn.{map-range_with_len_more}
use Rattle.ctw_ops.specs.Tree.{function_entries}
use Rattle.ctw_flat.specs.declared.blocks.Block.{Block}
use Rattle.ctw_flat.specs.Blocks.{ends_in}
use Rattle.ctw_flat.specs.Positions.{TellsEnds}
use Rattle.ctw_module.specs.Lookup.{imported_count}
use Rattle.ctw_module.specs.Trees.{Lent, tree, code_of}
use Rattle.ctw_link.specs.declared.set.Part.{Part}
use Rattle.ctw_link.specs.Linked.{TellBlocks, code_at, codes_in, codes}
use Rattle.ctw_module.proofs.IndexSpaces.{functions_count}

-- those of some bodies, and those of others behind them
pub told_append : (some others : List (List ℕ)) (maps behind : List (List Block)) → TellBlocks some maps → TellBlocks others behind → TellBlocks (some ++ others) (maps ++ behind)
told_append [] others [] behind t u = u
told_append [] others (b ∷ maps) behind t u = absurd t
told_append (c ∷ some) others [] behind t u = absurd t
told_append (c ∷ some) others (b ∷ maps) behind t u = (t.0, told_append some others maps behind t.1 u)

-- those of one body more
told_one : (some : List (List ℕ)) (code : List ℕ) (maps : List (List Block)) (blocks : List Block) → TellBlocks some maps → TellsEnds code (ends_in blocks) → TellBlocks (some ++ code ∷ []) (maps ++ blocks ∷ [])
told_one some code maps blocks t e = told_append some (code ∷ []) maps (blocks ∷ []) t (e, tt)

-- ---- the functions of one part

-- those of the first functions, behind others
pub record ToldFirst (before : List (List Block)) (m : Lent) (count : ℕ) (maps : List (List Block)) : Type 0 where
  pub found : List (List Block)
  pub gathered : maps ≡ before ++ found
  pub told : TellBlocks (map (code_of m) (range_with_len 0 count)) found

pub told_none : (before : List (List Block)) (m : Lent) (count : ℕ) → count ≡ 0 → ToldFirst before m count before
told_none before m count e = record {
  found = [];
  gathered = sym (append-nil before);
  told = subst (λ (n : ℕ). TellBlocks (map (code_of m) (range_with_len 0 n)) []) (sym e) tt;
}

pub told_more : (before : List (List Block)) (m : Lent) (imported f : ℕ) (maps next : List (List Block)) (blocks : List Block) → imported ≡ imported_count (tree m) → imported ≤ f → next ≡ maps ++ blocks ∷ []
    → TellsEnds (code_at m f) (ends_in blocks) → ToldFirst before m (f - imported) maps → ToldFirst before m ((f + 1) - imported) next
told_more before m imported f maps next blocks first low e ends t =
    let count : (f + 1) - imported ≡ (f - imported) + 1 = omega (arith, low) in
    let firsts = map (code_of m) (range_with_len 0 (f - imported)) in
    let more : map (code_of m) (range_with_len 0 ((f + 1) - imported)) ≡ firsts ++ code_of m (f - imported) ∷ [] =
    ap (λ (n : ℕ). map (code_of m) (range_with_len 0 n)) count ∙ map-range_with_len_more (code_of m) 0 (f - imported) (f - imported) (omega arith) in
    let here = subst (λ (n : ℕ). TellsEnds (code_of m (f - n)) (ends_in blocks)) (sym first) ends in
    record {
      found = t.found ++ blocks ∷ [];
      gathered = e ∙ ap (λ (l : List (List Block)). l ++ blocks ∷ []) t.gathered ∙ append_assoc before t.found (blocks ∷ []);
      told = subst (λ (l : List (List ℕ)). TellBlocks l (t.found ++ blocks ∷ [])) (sym more) (told_one firsts (code_of m (f - imported)) t.found blocks t.told here);
    }

pub told_all : (before : List (List Block)) (m : Lent) (imported f : ℕ) (maps : List (List Block)) → imported ≡ imported_count (tree m) → f ≡ length (function_entries (tree m)) → ToldFirst before m (f - imported) maps
    → (found : List (List Block)) × (maps ≡ before ++ found) × TellBlocks (codes_in m) found
told_all before m imported f maps first last t =
    let count : f - imported ≡ length (tree m).functions = omega (arith, first, last, functions_count (tree m)) in
    (t.found, t.gathered, subst (λ (n : ℕ). TellBlocks (map (code_of m) (range_with_len 0 n)) t.found) count t.told)

-- ---- the parts

-- those of the first k parts
pub record ToldParts (parts : List Part) (k : ℕ) (maps : List (List Block)) : Type 0 where
  pub told : TellBlocks (codes (take k parts)) maps

pub parts_none : (parts : List Part) (maps : List (List Block)) → maps ≡ [] → ToldParts parts 0 maps
parts_none parts maps e = record { told = subst (λ (l : List (List Block)). TellBlocks [] l) (sym e) tt }

pub parts_more : (parts : List Part) (k : ℕ) (p : Part) (maps next : List (List Block)) → k < length parts → p ≡ get_or parts k p → (found : List (List Block)) → next ≡ maps ++ found → TellBlocks (codes_in p.«module») found
    → ToldParts parts k maps → ToldParts parts (k + 1) next
parts_more parts k p maps next lt is found e here t =
    let own = λ (q : Part). codes_in q.«module» in
    let upto : take (k + 1) parts ≡ take k parts ++ p ∷ [] = take_more parts k p lt ∙ ap (λ (q : Part). take k parts ++ q ∷ []) (sym is) in
    let all : codes (take (k + 1) parts) ≡ codes (take k parts) ++ codes_in p.«module» =
    ap codes upto ∙ flat_map-append own (take k parts) (p ∷ []) ∙ ap (λ (l : List (List ℕ)). codes (take k parts) ++ l) (append-nil (codes_in p.«module»)) in
    let both = told_append (codes (take k parts)) (codes_in p.«module») maps found t.told here in
    record { told = subst (λ (l : List (List Block)). TellBlocks (codes (take (k + 1) parts)) l) (sym e) (subst (λ (l : List (List ℕ)). TellBlocks l (maps ++ found)) (sym all) both) }

pub parts_all : (parts : List Part) (k : ℕ) (maps : List (List Block)) → length parts ≤ k → ToldParts parts k maps → TellBlocks (codes parts) maps
parts_all parts k maps le t = subst (λ (l : List Part). TellBlocks (codes l) maps) (take_all k parts le) t.told
