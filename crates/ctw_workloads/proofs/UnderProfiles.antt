-- A plain module that is valid is valid under every profile, since all its labels are public.
use Rattle.std.proofs.Common.{◌≡◌, false, List, [], ◌∷◌, None, refl, sym, subst, All}
use Rattle.std.proofs.lemmas.List.Elements.{All-nil, All-cons, All-head, All-tail}
use Rattle.ctw_ops.specs.Types.{ValueType}
use Rattle.ctw_ops.specs.declared.types.Label.{Label}
use Rattle.ctw_ops.specs.declared.types.Label.TheVariants.{Public}
use Rattle.ctw_ops.specs.declared.numeric.Profile.{Profile}
use Rattle.ctw_ops.specs.Code.{Leaf, Unreachable, Numeric, Code, Stop, Then, Block, Loop, If, IfElse}
use Rattle.ctw_ops.specs.Plain.{IsPlainFunction}
use Rattle.ctw_ops.specs.TagMaps.{leaf_to}
use Rattle.ctw_ops.specs.Tree.{Module, Function, under, type_named}
use Rattle.ctw_ops.specs.Typing.{Context, Row, Typed, inside, optional}
use Rattle.ctw_ops.specs.Bodies.{context_of, HasItsType}
use Rattle.ctw_ops.specs.Valid.{IsValid}
use Rattle.ctw_ops.proofs.Profiles.{formed_under}
use Rattle.ctw_labels.proofs.TagPass.{tags_to}
use Rattle.ctw_labels.proofs.PlaceLaws.{all_public}
use Rattle.ctw_labels.proofs.PlainLaws.{plain_body}

abbrev Stack : Type 0
Stack = List (ValueType Label)

module _ (q : Profile) where
  abbrev D : Context Label → Context Label
  D C = record C { profile = q }

  row_under : (C : Context Label) → Public ≡ C.public → (i : Leaf Label) (a b : Stack) → Row C (leaf_to all_public i) a b → Row (D C) (leaf_to all_public i) a b
  row_under C e (Numeric op l) a b r = (r.0, r.1, λ f. e, r.3)
  row_under C e Unreachable a b r = r
  row_under C e i a b r = r

  typed_under : (C : Context Label) → Public ≡ C.public → (c : Code Label) (a b : Stack) → Typed C (tags_to all_public c) a b → Typed (D C) (tags_to all_public c) a b
  typed_under C e Stop a b h = h
  typed_under C e (Then i rest) a b h = (h.0, row_under C e i a h.0 h.1, typed_under C e rest h.0 b h.2)
  typed_under C e (Block t body rest) a b h = (typed_under (inside _ C) e body [] _ h.0, typed_under C e rest _ b h.1)
  typed_under C e (Loop t body rest) a b h = (typed_under (inside None C) e body [] _ h.0, typed_under C e rest _ b h.1)
  typed_under C e (If t arm rest) a b h = (h.0, typed_under (inside _ C) e arm [] _ h.1, h.2, h.3, typed_under C e rest _ b h.4)
  typed_under C e (IfElse t arm other rest) a b h = (typed_under (inside _ C) e arm [] _ h.0, typed_under (inside _ C) e other [] _ h.1, h.2, h.3, typed_under C e rest _ b h.4)

  function_under : (m : Module Label) (f : Function Label) → IsPlainFunction f → HasItsType m f → HasItsType (under q m) f
  function_under m f p h =
      let to : Stack = optional (type_named m f.type).result in
      let same : tags_to all_public f.body ≡ f.body = (plain_body f p).0 in
      subst (λ c. Typed (context_of (under q m) f) c [] to) same (typed_under (context_of m f) refl f.body [] to (subst (λ c. Typed (context_of m f) c [] to) (sym same) h))

  functions_under : (m : Module Label) (fs : List (Function Label)) → All IsPlainFunction fs → All (HasItsType m) fs → All (HasItsType (under q m)) fs
  functions_under m [] p h = All-nil (HasItsType (under q m))
  functions_under m (f ∷ fs) p h =
      All-cons (HasItsType (under q m)) f fs (function_under m f (All-head IsPlainFunction f fs p) (All-head (HasItsType m) f fs h)) (functions_under m fs (All-tail IsPlainFunction f fs p) (All-tail (HasItsType m) f fs h))

  pub valid_under : (m : Module Label) → m.ct ≡ false → IsValid m → IsValid (under q m)
  valid_under m ct h = record {
    formed = formed_under q m h.formed;
    around = record {
      types = h.around.types;
      imports = h.around.imports;
      functions = h.around.functions;
      table = h.around.table;
      memory = h.around.memory;
      globals = h.around.globals;
      exports = h.around.exports;
      names = h.around.names;
      start = h.around.start;
      elements = h.around.elements;
      segments = h.around.segments;
    };
    bodies = functions_under m m.functions (h.formed.plain ct).functions h.bodies;
  }
