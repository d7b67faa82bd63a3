-- What the body of a function of a plain module may name, under the sites of the module.
use Rattle.std.specs.Prelude.{List, ◌++◌, Option}
use Rattle.ctw_ops.specs.declared.types.Label.{Label}
use Rattle.ctw_ops.specs.declared.types.Trust.TheVariants.{Untrusted}
use Rattle.ctw_ops.specs.Types.{ValueType, FunctionType, VariableType}
use Rattle.ctw_ops.specs.Typing.{Context}
use Rattle.ctw_module.specs.Trees.{view_module}
use Rattle.ctw_labels.specs.declared.tag.Tag.{Tag}
use Rattle.ctw_labels.specs.Points.{no_points}
use Rattle.ctw_labels.specs.Numbering.{BodyPlace, params_from, type_from}
use Rattle.ctw_labels.specs.SitedModule.{sited_functions, sited_globals, memory_tag, site_context, place_of}
use Rattle.ctw_sites.specs.declared.around.Around.{Around}
use Rattle.ctw_sites.specs.Heads.{own_type, declared}

unfoldable pub functions_of : Around → List (FunctionType Tag)
functions_of a = sited_functions (view_module a.whole.now)

unfoldable pub globals_of : Around → List (VariableType Tag)
globals_of a = sited_globals (view_module a.whole.now)

unfoldable pub locals_of : Around → List (ValueType Tag)
locals_of a =
    params_from a.head (own_type (view_module a.whole.now) a.f).params
    ++ params_from a.locals (declared (view_module a.whole.now) a.f)

unfoldable pub memory_of : Around → Option Tag
memory_of a = memory_tag (view_module a.whole.now)

-- the body's place, without release points
abbrev pub place : Around → BodyPlace Label
place a = place_of (view_module a.whole.now) no_points a.f

-- the body's own context, by those
abbrev pub scope : Around → Context Tag
scope a =
    record (site_context (view_module a.whole.now) Untrusted (type_from a.head (own_type (view_module a.whole.now) a.f))
    (params_from a.locals (declared (view_module a.whole.now) a.f))) {
      functions = functions_of a;
      globals = globals_of a;
      locals = locals_of a;
      memory = memory_of a;
    }
