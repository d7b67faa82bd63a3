-- Parts that are read and checked one after another, and can be linked.
use Rattle.std.proofs.Common.{◌≡◌, ◌≤◌, ◌<◌, ◌+◌, ℕ, suc, take, drop, get_or, add-one, List, [], ◌∷◌, ◌++◌, append_assoc, map, length, sum_by, All, Option, sym, ap, ◌∙◌, subst, arith}
use Rattle.std.proofs.Math.Path.{fun_ext}
use Rattle.std.proofs.Math.Seq.{drop-cons, take-suc, take-length}
use Rattle.std.proofs.lemmas.List.{map-append, append-nil, drop_all, length-map}
use Rattle.std.proofs.lemmas.List.Elements.{All-push}
use Rattle.std.proofs.lemmas.List.Sums.{sum_by_push}
use Rattle.ctw_ops.specs.declared.types.Label.{Label}
use Rattle.ctw_ops.specs.declared.types.ExternTag.TheVariants.{Func, Global}
use Rattle.ctw_ops.specs.declared.numeric.Profile.{Profile}
use Rattle.ctw_ops.specs.Tree.{Module}
use Rattle.ctw_form.specs.Spelled.{Spells, module_in}
use Rattle.ctw_module.specs.Trees.{Lent, parts, tree, view_of, view_module}
use Rattle.ctw_module.proofs.Known.{known, file_is, functions_length}
use Rattle.ctw_link.specs.declared.set.Part.{Part}
use Rattle.ctw_link.specs.Sets.{NamedModule, ModuleSet, part_in, set_of, defined}
use Rattle.ctw_link.specs.Matching.{AreMatching}
use Rattle.ctw_link.specs.declared.fault.LinkFault.{LinkFault}
use Rattle.ctw_link.proofs.Verdict.{matching_is_no_fault}
use Rattle.ctw_link.specs.Linked.{IsValidPart, CanBeLinked}
use Rattle.ctw_inputs.specs.declared.said.Stop.{Stop}
use Rattle.ctw_inputs.specs.declared.parts.LoadedPart.{LoadedPart}
use Rattle.ctw_inputs.specs.Outcome.{Outcome}
use Rattle.ctw_inputs.specs.Inputs.{read_valid, read_parts, on_set, match}
use Rattle.ctw_inputs.specs.Parts.{names, contents, bytes_in, AreNamed}
use Rattle.ctw_inputs.specs.Settling.{IsStop}

-- ---- a module has no more functions and globals than its file has bytes

record AreFew (bytes : List ℕ) (m : Module Label) : Type 0 where
  functions : length m.functions ≤ length bytes
  globals : length m.globals ≤ length bytes

few_here : (lent : Lent) (m : Module Label) → Spells lent.bytes m → AreFew lent.bytes (tree lent)
unfolding tree parts
few_here lent m s =
    let k = known lent m s in
    let p = parts lent in
    record {
      functions = omega (arith, k.size, functions_length p.uses p.entries k.paired);
      globals = omega (arith, k.size);
    }

tree_is : (lent : Lent) (m : Module Label) → Spells lent.bytes m → tree lent ≡ m
unfolding tree
tree_is lent m s = ap module_in (file_is lent.bytes m s) ∙ s.made

are_few : (bytes : List ℕ) (m : Module Label) → Spells bytes m → AreFew bytes m
are_few bytes m s =
    let lent : Lent = view_of bytes in
    subst (λ (m : Module Label). AreFew bytes m) (tree_is lent m s) (few_here lent m s)

-- ---- what is kept of parts that are read

-- the modules of the first parts: they have their names, and are valid and small
pub record AreRead (profile : Profile) (parts : List LoadedPart) (modules : List Part) (i : ℕ) : Type 0 where
  pub named : AreNamed (set_of modules) (take i parts)
  pub valid : All IsValidPart modules
  pub functions : defined Func (set_of modules) ≤ bytes_in (take i parts)
  pub globals : defined Global (set_of modules) ≤ bytes_in (take i parts)

-- what follows the modules that are read
abbrev with_modules : ModuleSet → (ModuleSet → Outcome) → ModuleSet → Outcome
with_modules set go others = go (set ++ others)

-- the step goes on behind the modules that are read
abbrev pub GoesOn : Profile → List LoadedPart → ModuleSet → ℕ → Type 0
GoesOn profile parts set i =
    (go : ModuleSet → Outcome) → read_parts profile (names parts) (contents parts) go ≡ read_parts profile (names (drop i parts)) (contents (drop i parts)) (with_modules set go)

-- a part is read: what its module is, and how the step goes on
pub record IsPartRead (profile : Profile) (p : LoadedPart) (m : Part) : Type 0 where
  pub told : (go : Module Label → Outcome) → read_valid profile p.part.file.now p.bytes.items go ≡ go (view_module m.«module»)
  pub named : m.name ≡ p.part.name.now
  pub valid : IsValidPart m
  pub spelled : Spells p.bytes.items (tree m.«module»)

module _ (profile : Profile) (parts : List LoadedPart) (modules : List Part) (i : ℕ) (p : LoadedPart) (h : i < length parts) (e : p ≡ get_or parts i p) where
  -- what follows the module of the next part
  abbrev behind_part : (ModuleSet → Outcome) → Module Label → Outcome
  behind_part go m =
      read_parts profile (names (drop (i + 1) parts)) (contents (drop (i + 1) parts)) (λ others. with_modules (set_of modules) go (record { name = p.part.name.now; tree = m } ∷ others))

  next : (go : ModuleSet → Outcome) → read_parts profile (names (drop i parts)) (contents (drop i parts)) (with_modules (set_of modules) go) ≡ read_valid profile p.part.file.now p.bytes.items (behind_part go)
  next go =
      ap (λ (l : List LoadedPart). read_parts profile (names l) (contents l) (with_modules (set_of modules) go))
      (drop-cons parts i p h ∙ ap (λ (x : LoadedPart). x ∷ drop (suc i) parts) (sym e) ∙ ap (λ (k : ℕ). p ∷ drop k parts) (sym (add-one i)))

  pub stops : (why : Stop) → GoesOn profile parts (set_of modules) i → ((go : Module Label → Outcome) → IsStop why (read_valid profile p.part.file.now p.bytes.items go))
      → (go : ModuleSet → Outcome) → IsStop why (read_parts profile (names parts) (contents parts) go)
  stops why g told go = subst (IsStop why) (sym (g go ∙ next go)) (told (behind_part go))

  module _ (new : List Part) (m : Part) (n : new ≡ modules ++ m ∷ []) (one : IsPartRead profile p m) where
    set : set_of new ≡ set_of modules ++ part_in m ∷ []
    set = ap set_of n ∙ map-append part_in modules (m ∷ [])

    taken : take (i + 1) parts ≡ take i parts ++ p ∷ []
    taken = ap (λ (k : ℕ). take k parts) (add-one i) ∙ take-suc parts i p h ∙ ap (λ (x : LoadedPart). take i parts ++ x ∷ []) (sym e)

    pub goes_on : GoesOn profile parts (set_of modules) i → GoesOn profile parts (set_of new) (i + 1)
    goes_on g = λ go.
        let here : NamedModule = record { name = p.part.name.now; tree = view_module m.«module» } in
        let same : here ≡ part_in m = ap (λ (name : List ℕ). record { name = name; tree = view_module m.«module» }) (sym one.named) in
        let more : (others : ModuleSet) → set_of modules ++ here ∷ others ≡ set_of new ++ others =
        λ others. ap (λ (x : NamedModule). set_of modules ++ x ∷ others) same ∙ sym (append_assoc (set_of modules) (part_in m ∷ []) others) ∙ ap (λ (l : ModuleSet). l ++ others) (sym set) in
        g go ∙ next go ∙ one.told (behind_part go) ∙ ap (read_parts profile (names (drop (i + 1) parts)) (contents (drop (i + 1) parts))) (fun_ext (λ others. ap go (more others)))

    named_more : AreNamed (set_of modules) (take i parts) → AreNamed (set_of new) (take (i + 1) parts)
    named_more a =
        ap (map (λ (m : NamedModule). m.name)) set ∙ map-append (λ (m : NamedModule). m.name) (set_of modules) (part_in m ∷ []) ∙ ap (λ (l : List (List ℕ)). l ++ m.name ∷ []) a
        ∙ ap (λ (name : List ℕ). map (λ (p : LoadedPart). p.part.name.now) (take i parts) ++ name ∷ []) one.named
        ∙ sym (map-append (λ (p : LoadedPart). p.part.name.now) (take i parts) (p ∷ [])) ∙ ap (map (λ (p : LoadedPart). p.part.name.now)) (sym taken)

    few_more : (size : NamedModule → ℕ) → sum_by size (set_of modules) ≤ bytes_in (take i parts) → size (part_in m) ≤ length p.bytes.items → sum_by size (set_of new) ≤ bytes_in (take (i + 1) parts)
    few_more size a b =
        let x : sum_by size (set_of new) ≡ sum_by size (set_of modules) + size (part_in m) = ap (sum_by size) set ∙ sum_by_push size (set_of modules) (part_in m) in
        let y : bytes_in (take (i + 1) parts) ≡ bytes_in (take i parts) + length p.bytes.items = ap bytes_in taken ∙ sum_by_push (λ (p : LoadedPart). length p.bytes.items) (take i parts) p in
        omega (arith, x, y, a, b)

    pub one_more_read : AreRead profile parts modules i → AreRead profile parts new (i + 1)
    one_more_read a =
        let few = are_few p.bytes.items (tree m.«module») one.spelled in
        record {
          named = named_more a.named;
          valid = subst (All IsValidPart) (sym n) (All-push IsValidPart modules m a.valid one.valid);
          functions = few_more (λ (m : NamedModule). length m.tree.functions) a.functions few.functions;
          globals = few_more (λ (m : NamedModule). length m.tree.globals) a.globals few.globals;
        }

-- ---- all parts are read

module _ (profile : Profile) (parts : List LoadedPart) (modules : List Part) (i : ℕ) (h : length parts ≤ i) (k : i ≤ length parts) where
  all_taken : take i parts ≡ parts
  all_taken = let e : i ≡ length parts = omega (arith, h, k) in ap (λ (n : ℕ). take n parts) e ∙ take-length parts

  pub ends_reading : GoesOn profile parts (set_of modules) i → (go : ModuleSet → Outcome) → read_parts profile (names parts) (contents parts) go ≡ go (set_of modules)
  ends_reading g go = g go ∙ ap (λ (l : List LoadedPart). read_parts profile (names l) (contents l) (with_modules (set_of modules) go)) (drop_all i parts h) ∙ ap go (append-nil (set_of modules))

  pub all_named : AreRead profile parts modules i → AreNamed (set_of modules) parts
  all_named a = subst (AreNamed (set_of modules)) all_taken a.named

  pub linkable : AreRead profile parts modules i → 1 ≤ length parts → length parts ≤ 64 → bytes_in parts ≤ 134217728 → CanBeLinked modules
  linkable a some few within =
      let n : length modules ≡ length parts =
      sym (length-map modules part_in) ∙ sym (length-map (set_of modules) (λ (m : NamedModule). m.name)) ∙ ap length (all_named a) ∙ length-map parts (λ (p : LoadedPart). p.part.name.now) in
      let all : bytes_in (take i parts) ≡ bytes_in parts = ap bytes_in all_taken in
      let functions = a.functions in
      let globals = a.globals in
      record {
        some = omega (arith, n, some);
        few = omega (arith, n, few);
        valid = a.valid;
        functions = omega (arith, functions, all, within);
        globals = omega (arith, globals, all, within);
      }

-- ---- parts that match

pub matches : (modules linked : List Part) (go : ModuleSet → Outcome) → AreMatching (set_of modules) → linked ≡ modules → match (set_of modules) (go (set_of modules)) ≡ go (set_of linked)
matches modules linked go m e = ap (λ (o : Option LinkFault). on_set (set_of modules) o (go (set_of modules))) (matching_is_no_fault (set_of modules) m) ∙ ap (λ (l : List Part). go (set_of l)) (sym e)
