-- Sites, and what is placed at them, don't depend on the profile.
use Rattle.std.proofs.Common.{◌≡◌, ℕ, ◌+◌, Bool, true, false, List, [], ◌∷◌, ◌++◌, length, map, None, refl, sym, ◌∙◌, ap}
use Rattle.std.specs.Prelude.{not, ◌||◌, if◌then◌else◌, unwrap_or, option_map, is_some}
use Rattle.ctw_ops.specs.declared.types.Label.{Label}
use Rattle.ctw_ops.specs.declared.types.Trust.{Trust}
use Rattle.ctw_ops.specs.declared.numeric.Profile.{Profile}
use Rattle.ctw_ops.specs.Types.{ValueType, FunctionType}
use Rattle.ctw_ops.specs.Numeric.{num_sig_of, leaks}
use Rattle.ctw_ops.specs.Segments.{and_then}
use Rattle.ctw_ops.specs.Code.{Leaf, Numeric, Code, Stop, Then, Block, Loop, If, IfElse}
use Rattle.ctw_ops.specs.Typing.{Context, i32, inside, operands}
use Rattle.ctw_ops.specs.Tree.{Module, Function, Import, Extern, ImportedFunction, ImportedTable, ImportedMemory, ImportedGlobal, under, imported_functions, imported_globals, memory_among, table_among, function_entries, global_types, type_named}
use Rattle.ctw_stack.specs.Operands.{Operands, fresh}
use Rattle.ctw_stack.specs.Steps.{when, moved, expect}
use Rattle.ctw_ops.specs.Types.{value_type}
use Rattle.ctw_labels.specs.declared.tag.Tag.{Tag}
use Rattle.ctw_labels.specs.declared.tag.Tag.TheVariants.{At, Fixed}
use Rattle.ctw_labels.specs.declared.name.SiteName.TheVariants.{Param, Result, GlobalOf, Memory as MemoryOf, Local, Push as PushOf}
use Rattle.ctw_labels.specs.Names.{Site}
use Rattle.ctw_labels.specs.Points.{Points, no_points, trust_at}
use Rattle.ctw_labels.specs.Sited.{yes, Blocks, Loops, Ifs, IfElses}
use Rattle.ctw_labels.specs.Numbering.{params_from, result_from, type_from, sites_for, site_if, push_if, type_sites, opcode_count, BodyPlace, own_sites, has_push, lift_of, after_lift, stepped, leaf_node, block_sites, block_lift, behind_block, number}
use Rattle.ctw_labels.specs.Placed.{TypeUse, use_of, with_uses, with_trust, function_uses, call_uses, variant_entry, is_all_public, place_of_use, use_to, variants, variant_name, placed_globals, placed_extern, next_number, next_function, next_global, placed_imports, placed_function, placed}
use Rattle.ctw_write.specs.Canon.{sections_text, canon}
use Rattle.ctw_labels.specs.SitedModule.{site_count, types_from, function_sites, globals_from, first_global, head_sites, site_context, place_of, numbered_body, body_from, bodies_from, bodies, body_sites, sites}

-- ---- code

any_or : (b : Bool) → (b || true) ≡ true
any_or true = refl
any_or false = refl

module _ (q : Profile) {A : Type 0} (P : BodyPlace A) where
  abbrev D : Context Tag → Context Tag
  D C = record C { profile = q }

  same_step : (C : Context Tag) (n : ℕ) (i : Leaf A) (o : Operands Tag) → stepped P C n i o ≡ stepped P (D C) n i o
  same_step C n (Numeric op l) o = ap (λ t. and_then (num_sig_of op) (λ sig. when t (moved yes (operands sig (At n)) (value_type sig.result (At n) ∷ []) o))) (any_or (not (leaks op C.profile)) ∙ sym (any_or (not (leaks op q))))
  same_step C n i o = refl

  pub number_profile : (C : Context Tag) (c : Code A) (n at : ℕ) (o : Operands Tag) → number P C c n at o ≡ number P (D C) c n at o
  number_profile C Stop n at o = refl
  number_profile C (Then i rest) n at o = λ j.
      let s = same_step C n i o j in
      let l = lift_of (has_push P C i) (P.free at) (n + length (own_sites P at i)) s in
      let own = own_sites P at i ++ push_if (PushOf P.func at) l in
      let r = number_profile C rest (n + length own) (at + 1) (after_lift l s) j in
      record { code = leaf_node P C n i l r.code; sites = own ++ r.sites; last = r.last }
  number_profile C (Block t body rest) n at o = λ j.
      let own = block_sites P.func at n t in
      let b = number_profile (inside (result_from n t) C) body (n + length own) (at + 1) fresh j in
      let r = number_profile C rest (n + length own + length b.sites) (at + opcode_count body + 2) (behind_block (P.free at) n t o) j in
      record { code = Blocks (result_from n t) (block_lift (P.free at) n t) b.code r.code; sites = own ++ b.sites ++ r.sites; last = r.last }
  number_profile C (Loop t body rest) n at o = λ j.
      let own = block_sites P.func at n t in
      let b = number_profile (inside None C) body (n + length own) (at + 1) fresh j in
      let r = number_profile C rest (n + length own + length b.sites) (at + opcode_count body + 2) (behind_block (P.free at) n t o) j in
      record { code = Loops (result_from n t) (block_lift (P.free at) n t) b.code r.code; sites = own ++ b.sites ++ r.sites; last = r.last }
  number_profile C (If t arm rest) n at o = λ j.
      let own = block_sites P.func at n t in
      let b = number_profile (inside (result_from n t) C) arm (n + length own) (at + 1) fresh j in
      let r = number_profile C rest (n + length own + length b.sites) (at + opcode_count arm + 2) (behind_block (P.free at) n t (unwrap_or (expect yes (i32 C) o) fresh)) j in
      record { code = Ifs (result_from n t) (block_lift (P.free at) n t) b.code r.code; sites = own ++ b.sites ++ r.sites; last = r.last }
  number_profile C (IfElse t arm other rest) n at o = λ j.
      let own = block_sites P.func at n t in
      let b = number_profile (inside (result_from n t) C) arm (n + length own) (at + 1) fresh j in
      let c = number_profile (inside (result_from n t) C) other (n + length own + length b.sites) (at + opcode_count arm + 2) fresh j in
      let r = number_profile C rest (n + length own + length b.sites + length c.sites) (at + opcode_count arm + opcode_count other + 3) (behind_block (P.free at) n t (unwrap_or (expect yes (i32 C) o) fresh)) j in
      record { code = IfElses (result_from n t) (block_lift (P.free at) n t) b.code c.code r.code; sites = own ++ b.sites ++ c.sites ++ r.sites; last = r.last }

-- ---- the sites of a module

module _ (q : Profile) (m : Module Label) where
  types_same : (n : ℕ) (ys : List ℕ) → types_from (under q m) n ys ≡ types_from m n ys
  types_same n [] = refl
  types_same n (y ∷ ys) = ap (λ (r : List (FunctionType Tag)). type_from n (type_named m y) ∷ r) (types_same (n + site_count (type_named m y)) ys)

  functions_same : (k : ℕ) (ys : List ℕ) → function_sites (under q m) k ys ≡ function_sites m k ys
  functions_same k [] = refl
  functions_same k (y ∷ ys) = ap (λ (r : List Site). type_sites (Param k) (Result k) (type_named m y) ++ r) (functions_same (k + 1) ys)

  global_same : first_global (under q m) ≡ first_global m
  global_same = ap length (functions_same 0 (function_entries m))

  heads_same : head_sites (under q m) ≡ head_sites m
  heads_same = ap (λ (r : List Site). r ++ (sites_for GlobalOf 0 (global_types m) ++ site_if MemoryOf (memory_among m.imports m.memory))) (functions_same 0 (function_entries m))

  context_same : (t : Trust) (g : FunctionType Tag) (locals : List (ValueType Tag)) → site_context (under q m) t g locals ≡ record (site_context m t g locals) { profile = q }
  context_same t g locals = λ j. record {
    types = [];
    functions = types_same 0 (function_entries m) j;
    globals = globals_from (global_same j) (global_types m);
    locals = g.params ++ locals;
    memory = option_map (λ t. At (global_same j + length (global_types m))) (memory_among m.imports m.memory);
    table = is_some (table_among m.imports m.table);
    trust = t;
    result = g.result;
    labels = g.result ∷ [];
    public = Fixed;
    secret = Fixed;
    profile = q;
  }

  module _ (p : Points) where
    numbered_same : (g : FunctionType Tag) (k n : ℕ) (f : Function Label) → numbered_body (under q m) p g k n f ≡ numbered_body m p g k n f
    numbered_same g k n f =
        let C : Context Tag = site_context m (trust_at p k) g (params_from n f.locals) in
        ap (λ (c : Context Tag). number (place_of m p k) c f.body (n + length f.locals) 0 fresh) (context_same (trust_at p k) g (params_from n f.locals))
        ∙ sym (number_profile q (place_of m p k) C f.body (n + length f.locals) 0 fresh)

    body_same : (s k n : ℕ) (f : Function Label) → body_from (under q m) p s k n f ≡ body_from m p s k n f
    body_same s k n f = λ j.
        let b = numbered_same (type_from s (type_named m f.type)) k n f j in
        record {
          func = k;
          entry = f.type;
          type = type_from s (type_named m f.type);
          locals = params_from n f.locals;
          code = b.code;
          sites = sites_for (Local k) (length (type_named m f.type).params) f.locals ++ b.sites;
        }

    bodies_from_same : (s k n : ℕ) (fs : List (Function Label)) → bodies_from (under q m) p s k n fs ≡ bodies_from m p s k n fs
    bodies_from_same s k n [] = refl
    bodies_from_same s k n (f ∷ fs) = λ j.
        let b = body_same s k n f j in
        b ∷ bodies_from_same (s + site_count (type_named m f.type)) (k + 1) (n + length b.sites) fs j

    bodies_same : bodies (under q m) p ≡ bodies m p
    bodies_same = λ j. bodies_from_same (length (functions_same 0 (imported_functions m.imports) j)) (length (imported_functions m.imports)) (length (heads_same j)) m.functions j

  pub sites_same : sites (under q m) ≡ sites m
  sites_same = λ j. heads_same j ++ body_sites (bodies_same no_points j)

  -- ---- the placed module

  module _ (L : Tag → Label) (p : Points) where
    uses_from_same : (k n : ℕ) (ys : List ℕ) → function_uses (under q m) p k n ys ≡ function_uses m p k n ys
    uses_from_same k n [] = refl
    uses_from_same k n (y ∷ ys) = ap (λ (r : List (TypeUse Tag)). use_of y (with_trust (trust_at p k) (type_from n (type_named m y))) ∷ r) (uses_from_same (k + 1) (n + site_count (type_named m y)) ys)

    variants_same : variants L (under q m) p ≡ variants L m p
    variants_same = λ j. with_uses [] (map (use_to L) (uses_from_same 0 0 (function_entries m) j ++ call_uses (bodies_same p j)))

    name_same : variant_name L (under q m) p ≡ variant_name L m p
    name_same = λ j y g. if is_all_public g then y else length m.types + place_of_use (variants_same j) (use_of y g)

    module _ (name : ℕ → FunctionType Label → ℕ) where
      extern_same : (k s n : ℕ) (e : Extern Label) → placed_extern L name (under q m) p k s n e ≡ placed_extern L name m p k s n e
      extern_same k s n (ImportedFunction y) = refl
      extern_same k s n (ImportedTable limits) = refl
      extern_same k s n (ImportedMemory t) = λ j. ImportedMemory (record { tag = L (At (global_same j + length (global_types m))); limits = t.limits })
      extern_same k s n (ImportedGlobal g) = refl

      imports_same : (k s n : ℕ) (is : List (Import Label)) → placed_imports L name (under q m) p k s n is ≡ placed_imports L name m p k s n is
      imports_same k s n [] = refl
      imports_same k s n (i ∷ is) = λ j. record { module_name = i.module_name; name = i.name; kind = extern_same k s n i.kind j } ∷ imports_same (next_number L name m p i.kind k) (next_function L name m p i.kind s) (next_global L name m p i.kind n) is j

    pub placed_same : placed L (under q m) p ≡ under q (placed L m p)
    placed_same = λ j. record {
      ct = true;
      profile = q;
      types = m.types ++ map variant_entry (variants_same j);
      imports = imports_same (name_same j) 0 0 (global_same j) m.imports j;
      functions = map (placed_function L (name_same j) m p) (bodies_same p j);
      table = m.table;
      memory = option_map (λ t. record { tag = L (At (global_same j + length (global_types m))); limits = t.limits }) m.memory;
      globals = placed_globals L (global_same j + length (imported_globals m.imports)) m.globals;
      exports = m.exports;
      start = m.start;
      elements = m.elements;
      segments = m.segments;
      customs = m.customs;
    }

    -- the profile isn't spelled
    pub canon_same : canon (placed L (under q m) p) ≡ canon (placed L m p)
    unfolding canon sections_text
    canon_same = ap canon placed_same
