-- In a plain valid module the pass without tests gets past the opcodes of each body.
use Rattle.std.proofs.Common.{ℕ, ◌+◌, false, List, [], ◌∷◌, length, refl}
use Rattle.std.specs.List.{AllByRecursion}
use Rattle.ctw_ops.specs.declared.types.Label.{Label}
use Rattle.ctw_ops.specs.declared.types.Trust.TheVariants.{Untrusted}
use Rattle.ctw_ops.specs.Code.{opcodes}
use Rattle.ctw_ops.specs.Plain.{IsPlainModule}
use Rattle.ctw_ops.specs.Tree.{Module, Function, imported_functions, type_named}
use Rattle.ctw_ops.specs.Valid.{IsValid}
use Rattle.ctw_stack.specs.Opens.{opened}
use Rattle.ctw_labels.specs.Points.{no_points}
use Rattle.ctw_labels.specs.Numbering.{params_from, type_from}
use Rattle.ctw_labels.specs.SitedModule.{site_count, site_context, place_of, head_sites, first_defined, body_from, bodies_from}
use Rattle.ctw_labels.specs.FlatSites.{Goes}
use Rattle.ctw_labels.proofs.BodyLaws.{IsGood, good}
use Rattle.ctw_labels.proofs.GoesLaws.{body_goes}

-- functions from number `k` on, whose parameters' sites begin at `q`, and whose locals' begin at `n`
abbrev pub GoFunctions : Module Label → ℕ → ℕ → ℕ → List (Function Label) → Type 0
GoFunctions m q k n [] = Unit {0}
GoFunctions m q k n (f ∷ fs) =
    Goes (place_of m no_points k) (site_context m Untrusted (type_from q (type_named m f.type)) (params_from n f.locals)) (opcodes f.body) (opened false (type_from q (type_named m f.type)).result ∷ []) (n + length f.locals) 0
    × GoFunctions m (q + site_count (type_named m f.type)) (k + 1) (n + length (body_from m no_points q k n f).sites) fs

module _ (m : Module Label) (pl : IsPlainModule m) (v : IsValid m) where
  go_from : (q k n : ℕ) (fs : List (Function Label)) → AllByRecursion (IsGood m pl v no_points) (bodies_from m no_points q k n fs) → GoFunctions m q k n fs
  go_from q k n [] h = tt
  go_from q k n (f ∷ fs) h = (
    body_goes (place_of m no_points k) (site_context m Untrusted (type_from q (type_named m f.type)) (params_from n f.locals)) refl f.body (n + length f.locals) h.0.2,
    go_from (q + site_count (type_named m f.type)) (k + 1) (n + length (body_from m no_points q k n f).sites) fs h.1,
  )

  pub bodies_go : GoFunctions m (first_defined m) (length (imported_functions m.imports)) (length (head_sites m)) m.functions
  bodies_go = go_from (first_defined m) (length (imported_functions m.imports)) (length (head_sites m)) m.functions (good m pl v no_points tt)
