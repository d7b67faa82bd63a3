-- The placed module of a setting, and what is known where its parts are written.
use Rattle.std.specs.Prelude.{◌<◌, ◌^◌, ℕ, ◌+◌, false, List, [], ◌∷◌, length, map}
use Rattle.ctw_ops.specs.declared.types.Label.{Label}
use Rattle.ctw_ops.specs.Code.{opcodes}
use Rattle.ctw_ops.specs.Tree.{Module, Function, function_entries, type_named}
use Rattle.ctw_module.specs.Trees.{tree}
use Rattle.ctw_stack.specs.Opens.{opened}
use Rattle.ctw_labels.specs.Collected.{IsSmallResult}
use Rattle.ctw_labels.specs.FlatSites.{Goes}
use Rattle.ctw_labels.specs.Numbering.{params_from, type_from}
use Rattle.ctw_labels.specs.Placed.{TypeUse, code_uses, function_uses, placed, placed_function, use_to, variants, with_uses}
use Rattle.ctw_labels.specs.Points.{Points, trust_at}
use Rattle.ctw_labels.specs.SitedModule.{SitedBody, site_context, place_of, body_from}
use Rattle.ctw_write.specs.Canon.{code_text, canon}
use Rattle.ctw_place.specs.declared.setting.Setting.{Setting}
use Rattle.ctw_place.specs.Settings.{module_of, labels_of, points_of}
use Rattle.ctw_place.specs.Variants.{name_in}

abbrev pub placed_of : Setting → Module Label
placed_of s = placed (labels_of s) (module_of s) (points_of s)

-- function `f`, whose parameters' sites begin at `q`, and its locals' at `n`
abbrev pub body_of : Setting → ℕ → ℕ → ℕ → Function Label → SitedBody
body_of s q f n function = body_from (module_of s) (points_of s) q f n function

-- the uses of types in it
abbrev pub body_uses : Setting → ℕ → ℕ → ℕ → Function Label → List (TypeUse Label)
body_uses s q f n function = map (use_to (labels_of s)) (code_uses (body_of s q f n function).code)

-- it under labels, where these are the variants
abbrev pub placed_body : Setting → List (TypeUse Label) → ℕ → ℕ → ℕ → Function Label → Function Label
placed_body s vs q f n function =
    placed_function (labels_of s) (name_in (length (module_of s).types) vs) (module_of s) (points_of s)
    (body_of s q f n function)

-- the pass gets through its opcodes, and its sites' numbers have 32 bits
pub record IsReadyUnder (m : Module Label) (p : Points) (q f n : ℕ) (function : Function Label) : Type 0 where
  pub goes :
      Goes (place_of m p f)
      (site_context m (trust_at p f) (type_from q (type_named m function.type)) (params_from n function.locals))
      (opcodes function.body) (opened false (type_from q (type_named m function.type)).result ∷ [])
      (n + length function.locals) 0
  pub room : n + length (body_from m p q f n function).sites < 2 ^ 32
  pub small : IsSmallResult (type_from q (type_named m function.type)).result

-- there is room for its variants behind these, and its code is short where others come later
pub record HasRoom (s : Setting) (vs later : List (TypeUse Label)) (q f n : ℕ) (function : Function Label) : Type 0 where
  pub few : length (module_of s).types + length (with_uses vs (body_uses s q f n function)) + 1 < 2 ^ 32
  pub short :
      length (code_text (placed_body s (with_uses (with_uses vs (body_uses s q f n function)) later) q f n function))
      < 2 ^ 32

-- the variants of functions
abbrev pub function_variants : Setting → List (TypeUse Label)
function_variants s =
    with_uses []
    (map (use_to (labels_of s)) (function_uses (module_of s) (points_of s) 0 0 (function_entries (module_of s))))

abbrev pub variants_of : Setting → List (TypeUse Label)
variants_of s = variants (labels_of s) (module_of s) (points_of s)

-- the canonical spellings are short, and there are few type entries
pub record HasShortTexts (s : Setting) : Type 0 where
  pub own : length (canon (tree s.whole.now)) < 2 ^ 32
  pub placed : length (canon (placed_of s)) < 2 ^ 32
  pub few : length (module_of s).types + length (variants_of s) + 1 < 2 ^ 32
