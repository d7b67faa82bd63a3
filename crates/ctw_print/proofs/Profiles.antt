-- A module that is valid under a profile is valid under the profile Divide, under which the fewest operations leak.
use Rattle.std.proofs.Common.{◌≡◌, ℕ, Bool, true, false, ◌&&◌, ◌||◌, List, [], None, refl, subst}
use Rattle.std.specs.List.{All}
use Rattle.std.proofs.lemmas.Bool.{false≢true}
use Rattle.std.proofs.lemmas.List.Elements.{All-weaker}
use Rattle.ctw_ops.specs.ValueType.{ValueType}
use Rattle.ctw_ops.specs.declared.types.Label.{Label}
use Rattle.ctw_ops.specs.declared.numeric.Profile.{Profile}
use Rattle.ctw_ops.specs.declared.numeric.Profile.TheVariants.{Divide, Multiply}
use Rattle.ctw_ops.specs.Numeric.{leaks, times_products, is_timed, is_product}
use Rattle.ctw_ops.specs.Code as ops
use Rattle.ctw_ops.specs.Code.{Leaf, Code}
use Rattle.ctw_ops.specs.Tree.{Module, Function, under, type_named}
use Rattle.ctw_ops.specs.Typing.{Context, Row, Typed, inside, upon, optional}
use Rattle.ctw_ops.specs.Bodies.{context_of, HasItsType}
use Rattle.ctw_ops.specs.Valid.{IsFormed, IsValid}
use Rattle.ctw_ops.proofs.Profiles.{formed_under}
use Rattle.ctw_module.specs.Trees.{Lent, tree, view_module}

abbrev divided : Context Label → Context Label
divided C = record C { profile = Divide }

more_leaks : (op : ℕ) (p : Profile) → leaks op Divide ≡ true → leaks op p ≡ true
unfolding leaks
more_leaks op Divide e = e
more_leaks op Multiply e = go (is_timed op) (is_product op) e
  where
    go : (timed product : Bool) → (timed || (false && product)) ≡ true → (timed || (true && product)) ≡ true
    go true product e = refl
    go false product e = absurd (false≢true e)

row_divided : (C : Context Label) (leaf : Leaf Label) (a b : List (ValueType Label)) → Row C leaf a b → Row (divided C) leaf a b
row_divided C (ops.Numeric op l) a b r = (r.0, r.1, λ e. r.2 (more_leaks op C.profile e), r.3)
row_divided C ops.Unreachable a b r = r
row_divided C leaf a b r = r

typed_divided : (C : Context Label) (code : Code Label) (a b : List (ValueType Label)) → Typed C code a b → Typed (divided C) code a b
typed_divided C ops.Stop a b h = h
typed_divided C (ops.Then leaf more) a b h = (h.0, row_divided C leaf a h.0 h.1, typed_divided C more h.0 b h.2)
typed_divided C (ops.Block t body more) a b h = (typed_divided (inside t C) body [] (optional t) h.0, typed_divided C more (upon (optional t) a) b h.1)
typed_divided C (ops.Loop t body more) a b h = (typed_divided (inside None C) body [] (optional t) h.0, typed_divided C more (upon (optional t) a) b h.1)
typed_divided C (ops.If t arm more) a b h = (h.0, typed_divided (inside t C) arm [] (optional t) h.1, h.2, h.3, typed_divided C more (upon (optional t) h.2) b h.4)
typed_divided C (ops.IfElse t arm other more) a b h =
    (typed_divided (inside t C) arm [] (optional t) h.0, typed_divided (inside t C) other [] (optional t) h.1, h.2, h.3, typed_divided C more (upon (optional t) h.2) b h.4)

function_divided : (p : Profile) (m : Module Label) (f : Function Label) → HasItsType (under p m) f → HasItsType (under Divide m) f
function_divided p m f h = typed_divided (context_of (under p m) f) f.body [] (optional (type_named m f.type).result) h

pub valid_divided : (p : Profile) (m : Module Label) → IsValid (under p m) → IsValid (under Divide m)
valid_divided p m h = record {
  formed = formed_under Divide (under p m) h.formed;
  around = record {
    types = h.around.types;
    imports = h.around.imports;
    functions = h.around.functions;
    table = h.around.table;
    memory = h.around.memory;
    globals = h.around.globals;
    exports = h.around.exports;
    names = h.around.names;
    start = h.around.start;
    elements = h.around.elements;
    segments = h.around.segments;
  };
  bodies = All-weaker (HasItsType (under p m)) (HasItsType (under Divide m)) (function_divided p m) m.functions h.bodies;
}

-- files spell no profile
tree_divided : (lent : Lent) → under Divide (tree lent) ≡ tree lent
unfolding tree
tree_divided lent = refl

-- the tree of a view that is valid under the view's profile
pub tree_valid : (lent : Lent) → IsValid (view_module lent) → IsValid (tree lent)
tree_valid lent h = subst (λ (m : Module Label). IsValid m) (tree_divided lent) (valid_divided lent.profile (tree lent) h)
