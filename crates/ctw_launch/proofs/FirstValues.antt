-- Each global of the loaded store begins as its initial value says.
use Rattle.std.proofs.Common.{◌≡◌, ℕ, zero, suc, ◌+◌, List, [], ◌∷◌, ◌++◌, length, map, fold, slice_get, filter_map, Option, Some, option_and_then, All, refl, sym, ap, subst, ◌∙◌, append_assoc, append-nil, arith}
use Rattle.std.specs.List.{range_with_len}
use Rattle.std.proofs.lemmas.List.{length-append, length-map}
use Rattle.std.proofs.lemmas.List.Elements.{All-head, All-tail, All-weaker}
use Rattle.std.proofs.lemmas.List.Sums.{fold-append}
use Rattle.std.proofs.lemmas.Option.{slice_get_within}
use Rattle.ctw_ops.specs.declared.types.Label.{Label}
use Rattle.ctw_ops.specs.declared.types.ExternTag.TheVariants as tag
use Rattle.ctw_ops.specs.Types.{ValueType}
use Rattle.ctw_ops.specs.Tree as Tree
use Rattle.ctw_ops.specs.Tree.{Constant, Number, ValueOf, imported_globals}
use Rattle.ctw_ops.specs.Valid.{IsGlobal, HasType, IsValid}
use Rattle.ctw_ops.proofs.Lists.{all_get, map_get}
use Rattle.ctw_semantics.specs.Values.{value}
use Rattle.ctw_semantics.specs.Stores.{Global}
use Rattle.ctw_semantics.specs.Sound.{global_type, shape_of}
use Rattle.ctw_link.specs.Sets.{NamedModule, ModuleSet}
use Rattle.ctw_link.specs.Numbers.{LinkedModule, number_if, defined_before, linked_module, linked}
use Rattle.ctw_link.specs.Matching.{AreMatching}
use Rattle.ctw_link.specs.SetInstances.{set_instances, globals_in, AllValid, LeadsToGlobal}
use Rattle.ctw_link.proofs.LinkedFronts.{bare_linked}
use Rattle.ctw_form.proofs.Params.{slice_get_left}
use Rattle.ctw_launch.specs.Launched.{constant_number, fresh_global, with_global, with_globals, number_in, loaded}
use Rattle.ctw_launch.proofs.Pairs.{paired_get, pieces_length}
use Rattle.ctw_launch.proofs.Leading.{Served, import_leads, globals_imported}
use Rattle.ctw_launch.proofs.Parts.{AllMet, split_linked, met_front, all_front, valid_linked, all_lead}
use Rattle.ctw_launch.proofs.Loading.{loaded_shape, same_globals, globals_loaded}

abbrev globals_of : ModuleSet → List Global
globals_of set = fold with_globals [] (linked set)

-- ---- lists that grow behind

part_grows : (numbers : List ℕ) (gs : List Global) (l : List (Tree.Global Label)) → (more : List Global) × (fold (with_global numbers) gs l ≡ gs ++ more)
part_grows numbers gs [] = ([], sym (append-nil gs))
part_grows numbers gs (g ∷ l) =
    let r = part_grows numbers (with_global numbers gs g) l in
    (fresh_global gs numbers g ∷ r.0, r.1 ∙ append_assoc gs (fresh_global gs numbers g ∷ []) r.0)

parts_grow : (gs : List Global) (parts : List LinkedModule) → (more : List Global) × (fold with_globals gs parts ≡ gs ++ more)
parts_grow gs [] = ([], sym (append-nil gs))
parts_grow gs (p ∷ parts) =
    let here = part_grows p.numbers.globals gs p.tree.globals in
    let r = parts_grow (with_globals gs p) parts in
    (here.0 ++ r.0, r.1 ∙ ap (λ (l : List Global). l ++ r.0) here.1 ∙ append_assoc gs here.0 r.0)

-- a global stands behind the globals over which its value was read
pub record Begins (numbers : List ℕ) (gs : List Global) (l : List (Tree.Global Label)) (j : ℕ) (g : Tree.Global Label) : Type 0 where
  pub between : List Global
  pub behind : List Global
  pub count : length between ≡ j
  pub all : fold (with_global numbers) gs l ≡ (gs ++ between) ++ fresh_global (gs ++ between) numbers g ∷ behind

begins : (numbers : List ℕ) (gs : List Global) (l : List (Tree.Global Label)) (j : ℕ) (g : Tree.Global Label) → slice_get l j ≡ Some g → Begins numbers gs l j g
begins numbers gs [] j g e = absurd cc
begins numbers gs (h ∷ l) zero g e =
    let same : h ≡ g = cc in
    let r = part_grows numbers (with_global numbers gs h) l in
    record {
      between = [];
      behind = r.0;
      count = refl;
      all = r.1 ∙ append_assoc gs (fresh_global gs numbers h ∷ []) r.0
          ∙ ap (λ (k : Tree.Global Label). gs ++ fresh_global gs numbers k ∷ r.0) same
          ∙ ap (λ (x : List Global). x ++ fresh_global x numbers g ∷ r.0) (sym (append-nil gs));
    }
begins numbers gs (h ∷ l) (suc j) g e =
    let first = fresh_global gs numbers h in
    let r = begins numbers (with_global numbers gs h) l j g e in
    record {
      between = first ∷ r.between;
      behind = r.behind;
      count = ap suc r.count;
      all = r.all ∙ ap (λ (x : List Global). x ++ fresh_global x numbers g ∷ r.behind) (append_assoc gs (first ∷ []) r.between);
    }

at_seam : {A : Type 0} (xs ys : List A) (y : A) (n : ℕ) → n ≡ length xs → slice_get (xs ++ y ∷ ys) n ≡ Some y
at_seam [] ys y n e = ap (λ (k : ℕ). slice_get (y ∷ ys) k) e
at_seam (x ∷ xs) ys y n e = ap (λ (k : ℕ). slice_get (x ∷ (xs ++ y ∷ ys)) k) e ∙ at_seam xs ys y (length xs) refl

-- ---- an initial value is read alike over more globals

module _ (done : ModuleSet) (p : NamedModule) (met : All (λ i. Served (set_instances done) (shape_of (loaded done)) (linked done) p.tree i) p.tree.imports) where
  numbers : List ℕ
  numbers = (linked_module (linked done) p).numbers.globals

  read_here : (extra : List Global) (t : ValueType Label) (c : Constant Label) → HasType (imported_globals p.tree.imports) t c
      → constant_number (globals_of done ++ extra) (linked_module (linked done) p).numbers.globals c ≡ constant_number (globals_of done) (linked_module (linked done) p).numbers.globals c
  read_here extra t (Number type bits) h = refl
  read_here extra t (ValueOf x) h =
      let before = linked done in
      let shape = shape_of (loaded done) in
      let imported = filter_map (number_if tag.Global before) p.tree.imports in
      let all = (linked_module before p).numbers.globals in
      let at = paired_get (LeadsToGlobal shape) (imported_globals p.tree.imports) imported x h.0 (globals_imported (set_instances done) shape before p.tree p.tree.imports met) h.1 in
      let number : slice_get all x ≡ Some at.0 = slice_get_left imported (range_with_len (defined_before tag.Global before) (length p.tree.globals)) x (slice_get_within imported x at.0 at.1) ∙ at.1 in
      let there : slice_get (map global_type (globals_of done)) at.0 ≡ Some h.0 = ap (λ (gs : List Global). slice_get (map global_type gs) at.0) (sym (same_globals done)) ∙ at.2 in
      let old = map_get global_type (globals_of done) at.0 h.0 there in
      let longer : slice_get (globals_of done ++ extra) at.0 ≡ slice_get (globals_of done) at.0 = slice_get_left (globals_of done) extra at.0 (slice_get_within (globals_of done) at.0 old.0 old.1) in
      ap (λ (o : Option ℕ). number_in (option_and_then (slice_get (globals_of done ++ extra)) o)) number
      ∙ ap number_in longer
      ∙ sym (ap (λ (o : Option ℕ). number_in (option_and_then (slice_get (globals_of done)) o)) number)

-- ---- all globals

pub globals_begin : (set before behind : ModuleSet) (p : NamedModule) (j : ℕ) (g : Tree.Global Label) → AreMatching set → AllValid set → set ≡ before ++ p ∷ behind → slice_get p.tree.globals j ≡ Some g
    → slice_get (loaded set).globals (defined_before tag.Global (linked before) + j) ≡ Some (fresh_global (loaded set).globals (linked_module (linked before) p).numbers.globals g)
globals_begin set before behind p j g m v e at =
    let parts = linked before in
    let q = linked_module parts p in
    let fns = set_instances before in
    let shape = shape_of (loaded before) in
    let all = subst AllValid e v in
    let vd = all_front (λ (p : NamedModule). IsValid p.tree) before (p ∷ behind) all in
    let md = met_front before (p ∷ behind) (subst AllMet e m.imports) in
    let leads = all_lead before shape md vd (loaded_shape before) in
    let served = All-weaker (λ i. _) (Served fns shape parts p.tree) (λ i met. import_leads fns shape parts before p.tree i (bare_linked before) leads (valid_linked before vd) met) p.tree.imports (m.imports before behind p e) in
    let valid = first_behind before all in
    let split = split_linked before behind p in
    let gs = globals_of before in
    let b = begins q.numbers.globals gs p.tree.globals j g at in
    let r = parts_grow (with_globals gs q) split.0 in
    let front = gs ++ b.between in
    let whole : (loaded set).globals ≡ front ++ fresh_global front q.numbers.globals g ∷ (b.behind ++ r.0) =
    same_globals set ∙ ap (λ (s : ModuleSet). fold with_globals [] (linked s)) e ∙ ap (fold with_globals []) split.1 ∙ fold-append with_globals [] parts (q ∷ split.0) ∙ r.1
    ∙ ap (λ (l : List Global). l ++ r.0) b.all ∙ append_assoc front (fresh_global front q.numbers.globals g ∷ b.behind) r.0 in
    let long : length gs ≡ defined_before tag.Global parts =
    sym (length-map gs global_type) ∙ ap (λ (gs : List Global). length (map global_type gs)) (sym (same_globals before)) ∙ ap length (globals_loaded before) ∙ pieces_length globals_in (λ r. length r.tree.globals) (λ r. length-map r.tree.globals (λ g. g.type)) parts in
    let place : defined_before tag.Global parts + j ≡ length front = omega (arith, long, b.count, length-append gs b.between) in
    let type = all_get (IsGlobal p.tree) p.tree.globals j g valid.around.globals at in
    let over : (loaded set).globals ≡ gs ++ (b.between ++ fresh_global front q.numbers.globals g ∷ (b.behind ++ r.0)) = whole ∙ append_assoc gs b.between (fresh_global front q.numbers.globals g ∷ (b.behind ++ r.0)) in
    let read : constant_number front q.numbers.globals g.init ≡ constant_number (loaded set).globals q.numbers.globals g.init =
    read_here before p served b.between g.type.value g.init type
    ∙ sym (read_here before p served (b.between ++ fresh_global front q.numbers.globals g ∷ (b.behind ++ r.0)) g.type.value g.init type)
    ∙ ap (λ (l : List Global). constant_number l q.numbers.globals g.init) (sym over) in
    ap (λ (l : List Global). slice_get l (defined_before tag.Global parts + j)) whole
    ∙ at_seam front (b.behind ++ r.0) (fresh_global front q.numbers.globals g) (defined_before tag.Global parts + j) place
    ∙ ap (λ (n : ℕ). Some (record { mutable = g.type.mutable; value = value g.type.value n })) read
  where
    first_behind : (front : ModuleSet) → All (λ (p : NamedModule). IsValid p.tree) (front ++ p ∷ behind) → IsValid p.tree
    first_behind [] h = All-head (λ (p : NamedModule). IsValid p.tree) p behind h
    first_behind (q ∷ front) h = first_behind front (tail front q h)
      where
        tail : (front : ModuleSet) (q : NamedModule) → All (λ (p : NamedModule). IsValid p.tree) (q ∷ (front ++ p ∷ behind)) → All (λ (p : NamedModule). IsValid p.tree) (front ++ p ∷ behind)
        tail front q h = All-tail (λ (p : NamedModule). IsValid p.tree) q (front ++ p ∷ behind) h
