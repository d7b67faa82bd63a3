-- The sites of a body's code that the pass without tests gets through.
use Rattle.std.specs.Prelude.{ℕ, ◌+◌, ◌<◌, ◌^◌, false, List, [], ◌∷◌, length}
use Rattle.ctw_ops.specs.declared.types.Label.{Label}
use Rattle.ctw_ops.specs.Code.{Code, opcodes}
use Rattle.ctw_ops.specs.declared.types.Trust.TheVariants.{Untrusted}
use Rattle.ctw_ops.specs.Tree.{Module, Function, type_named}
use Rattle.ctw_ops.specs.Typing.{Context}
use Rattle.ctw_stack.specs.Opens.{Open, opened}
use Rattle.ctw_labels.specs.declared.tag.Tag.{Tag}
use Rattle.ctw_labels.specs.Names.{Site}
use Rattle.ctw_labels.specs.Points.{no_points}
use Rattle.ctw_labels.specs.Numbering.{BodyPlace, params_from, type_from}
use Rattle.ctw_labels.specs.SitedModule.{site_context, place_of, body_from}
use Rattle.ctw_labels.specs.FlatSites.{Goes, flat_sites}
use Rattle.ctw_labels.specs.Collected.{IsSmallResult}

-- the block of the body
abbrev pub outermost : Context Tag → List (Open Tag)
outermost C = opened false C.result ∷ []

abbrev pub code_sites : BodyPlace Label → Context Tag → Code Label → ℕ → List Site
code_sites P C code n = flat_sites P C (opcodes code) (outermost C) n 0

-- the pass gets through, and all site numbers fit into 32 bits
pub record IsReady (P : BodyPlace Label) (C : Context Tag) (code : Code Label) (n : ℕ) : Type 0 where
  pub goes : Goes P C (opcodes code) (outermost C) n 0
  pub room : n + length (code_sites P C code n) < 2 ^ 32
  pub small : IsSmallResult C.result

-- the same of function `f`, whose parameters' sites begin at `q`, and its locals' at `n`
pub record IsReadyBody (m : Module Label) (q f n : ℕ) (function : Function Label) : Type 0 where
  pub goes :
      Goes (place_of m no_points f)
      (site_context m Untrusted (type_from q (type_named m function.type)) (params_from n function.locals))
      (opcodes function.body) (opened false (type_from q (type_named m function.type)).result ∷ [])
      (n + length function.locals) 0
  pub room : n + length (body_from m no_points q f n function).sites < 2 ^ 32
  pub small : IsSmallResult (type_from q (type_named m function.type)).result
