-- The sites that are kept of a module are its sites.
use Rattle.std.proofs.Common.{◌≡◌, ◌≤◌, ◌<◌, ◌^◌, ℕ, suc, ◌+◌, ◌-◌, List, [], ◌∷◌, length, map, take, false, refl, sym, ◌∙◌, ap, subst, arith}
use Rattle.ctw_ops.specs.declared.types.Label.{Label}
use Rattle.ctw_ops.specs.Limits.{most_plain_bytes, most_locals_of_all}
use Rattle.ctw_ops.specs.Tree.{Module, function_entries, imported_functions}
use Rattle.ctw_ops.specs.WithinLimits.{IsWithinLimits}
use Rattle.ctw_form.specs.Spelled.{Spells}
use Rattle.ctw_form.proofs.Weights.{weight}
use Rattle.ctw_module.specs.Lookup.{imported_count}
use Rattle.ctw_module.specs.Trees.{Lent, tree, view_module}
use Rattle.ctw_module.proofs.Sizes.{IsSized, locals_in, sizes}
use Rattle.ctw_labels.specs.Names.{Site}
use Rattle.ctw_labels.specs.Points.{no_points}
use Rattle.ctw_labels.specs.SitedModule.{SitedBody, head_sites, bodies, sites}
use Rattle.ctw_labels.proofs.NameLaws.{sites_rise, rising_at}
use Rattle.ctw_sites.specs.Heads.{heads}
use Rattle.ctw_sites.specs.Packed.{most_sites, packed, Kept, after}
use Rattle.ctw_sites.specs.Starts.{starts_from}
use Rattle.ctw_sites.specs.Unpacked.{Firsts, IsTable, AreSites, unpacked}
use Rattle.ctw_sites.proofs.BodiesLaws.{bodies_length}
use Rattle.ctw_sites.proofs.ScopeLaws.{heads_length}
use Rattle.ctw_sites.proofs.SitesBack.{AreFew, firsts_of, sites_back, heads_rise, starts_rise}
use Rattle.ctw_sites.proofs.SizeLaws.{types_most, sites_fit}
use Rattle.ctw_sites.proofs.UnpackedLaws.{unpacked_back}
use Rattle.std.proofs.lemmas.List.{length-append, length-map, take_all}

-- a plain file's module, whatever profile it has
pub record IsPlainFile (w : Lent) : Type 0 where
  pub spelled : Spells w.bytes (tree w)
  pub limits : IsWithinLimits (tree w)
  pub plain : (view_module w).ct ≡ false

module _ (w : Lent) (h : IsPlainFile w) where
  within : IsWithinLimits (view_module w)
  within = record { params = h.limits.params; locals = h.limits.locals; bytes = h.limits.bytes }

  sized : IsSized (view_module w) (length w.bytes)
  sized = let z = sizes w h.spelled in record { functions = z.functions; globals = z.globals; opcodes = z.opcodes; locals = z.locals }

  short : length w.bytes ≤ most_plain_bytes
  short = h.spelled.small (ap (λ (m : Module Label). m.ct) h.spelled.made ∙ h.plain)

  pub plain_fit : length (sites (view_module w)) < 2 ^ 32
  plain_fit = sites_fit (view_module w) (length w.bytes) within sized short

  pub functions_fit : length (function_entries (view_module w)) < 2 ^ 32
  unfolding most_plain_bytes
  functions_fit = let s : length w.bytes ≤ 2097152 = short in omega (arith, s, sized.functions)

  few : length (sites (view_module w)) ≤ most_sites → AreFew (view_module w)
  unfolding most_plain_bytes most_locals_of_all
  few le =
      let s : length w.bytes ≤ 2097152 = short in
      let l : weight locals_in (view_module w).functions ≤ 1000000 = sized.locals in
      record {
        types = types_most (view_module w) within;
        globals = omega (arith, s, sized.globals);
        opcodes = omega (arith, s, sized.opcodes);
        locals = omega (arith, l);
        all = omega (arith, le);
      }

  -- what is read back of the words that are kept
  pub kept_back : (words : List ℕ) (n most : ℕ) → record { words = words; count = n; most = most } ≡ after (record { words = []; count = 0; most = most_sites }) (sites (view_module w)) → n ≤ most_sites → unpacked (firsts_of (view_module w)) 0 words ≡ sites (view_module w)
  kept_back words n most e le =
      let xs : List Site = sites (view_module w) in
      let c : n ≡ 0 + length xs = ap (λ (k : Kept). k.count) e in
      let all : take (most_sites - 0) xs ≡ xs = take_all (most_sites - 0) xs (omega (arith, c, le)) in
      ap (unpacked (firsts_of (view_module w)) 0) (ap (λ (k : Kept). k.words) e ∙ ap (map (λ s. packed s.name s.yields)) all)
      ∙ unpacked_back (firsts_of (view_module w)) 0 xs (sites_back (view_module w) (few (omega (arith, c, le))))

-- the table of a module serves
pub module_table : (m : Module Label) → length (function_entries m) < 2 ^ 32 → IsTable (firsts_of m)
module_table m lt =
    let a = heads_length m 0 (function_entries m) in
    let b = bodies_length_of m in
    let c = length-append (imported_functions m.imports) (map (λ f. f.type) m.functions) in
    let d = length-map m.functions (λ f. f.type) in
    record {
      heads = heads_rise m 0 (function_entries m);
      starts = starts_rise (length (head_sites m)) (bodies m no_points);
      few = omega (arith, a, lt);
      within = omega (arith, a, b, c, d);
    }
  where
    starts_length : (n : ℕ) (bs : List SitedBody) → length (starts_from n bs) ≡ length bs
    starts_length n [] = refl
    starts_length n (b ∷ bs) = ap suc (starts_length (n + length b.sites) bs)

    bodies_length_of : (m : Module Label) → length (starts_from (length (head_sites m)) (bodies m no_points)) ≡ length m.functions
    bodies_length_of m = starts_length (length (head_sites m)) (bodies m no_points) ∙ bodies_length m _ _ _ m.functions

pub module_sites : (m : Module Label) → length (sites m) ≤ most_sites → AreSites (sites m)
module_sites m le = record { few = le; rising = λ j k a b lt e f. rising_at (sites m) (sites_rise m) j k a b lt e f }

-- a table and words that hold a module's sites
pub record Held (w : Lent) (t : Firsts) (words : List ℕ) : Type 0 where
  pub table : IsTable t
  pub kept : AreSites (unpacked t 0 words)
  pub back : unpacked t 0 words ≡ sites (view_module w)

-- what the walk leaves is held as it should be
pub held : (w : Lent) → IsPlainFile w → (hs ss words : List ℕ) (i n most : ℕ)
    → record { words = words; count = n; most = most } ≡ after (record { words = []; count = 0; most = most_sites }) (sites (view_module w)) → n ≤ most_sites → hs ≡ heads (view_module w) → ss ≡ starts_from (length (head_sites (view_module w))) (bodies (view_module w) no_points)
    → i ≡ imported_count (tree w) → Held w (record { heads = hs; starts = ss; imported = i }) words
held w h hs ss words i n most e le p q r =
    let m : Module Label = view_module w in
    let t : Firsts = record { heads = hs; starts = ss; imported = i } in
    let same : t ≡ firsts_of m = λ j. record { heads = p j; starts = q j; imported = r j } in
    let back : unpacked t 0 words ≡ sites m = ap (λ z. unpacked z 0 words) same ∙ kept_back w h words n most e le in
    let c : n ≡ 0 + length (sites m) = ap (λ (k : Kept). k.count) e in
    record {
      table = subst IsTable (sym same) (module_table m (functions_fit w h));
      kept = subst AreSites (sym back) (module_sites m (omega (arith, c, le)));
      back = back;
    }
