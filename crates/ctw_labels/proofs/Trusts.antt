-- All function types under sites are untrusted.
use Rattle.std.proofs.Common.{◌≡◌, ℕ, zero, suc, ◌+◌, List, [], ◌∷◌, ◌++◌, length, Option, None, refl, sym, ◌∙◌}
use Rattle.std.specs.Prelude.{slice_get}
use Rattle.std.specs.List.{AllByRecursion}
use Rattle.ctw_ops.specs.declared.types.Label.{Label}
use Rattle.ctw_ops.specs.declared.types.Trust.TheVariants.{Untrusted}
use Rattle.ctw_ops.specs.Types.{FunctionType}
use Rattle.ctw_ops.specs.Tree.{Element, Module, Function, function_entries, type_named}
use Rattle.ctw_ops.specs.Code.{Leaf, CallIndirect, Code, Stop, Then, Block, Loop, If, IfElse}
use Rattle.ctw_ops.specs.Typing.{Context, inside}
use Rattle.ctw_stack.specs.Operands.{Operands}
use Rattle.ctw_labels.specs.Names.{Tag}
use Rattle.ctw_labels.specs.Points.{Points}
use Rattle.ctw_labels.specs.Sited.{Lift, Sited}
use Rattle.ctw_labels.specs.Numbering.{BodyPlace, leaf_lift, leaf_node, number}
use Rattle.ctw_labels.specs.Links.{after}
use Rattle.ctw_labels.specs.SitedModule.{types_from, site_count, sited_functions, body_from, bodies_from, bodies}
use Rattle.ctw_labels.specs.ModuleLinks.{uses, body_uses, entry_users, element_users, users}
use Rattle.ctw_labels.proofs.NumberLaws.{all_append_to}
use Rattle.ctw_labels.proofs.UserLaws.{In, in_all}

abbrev pub IsUntrusted : FunctionType Tag → Type 0
IsUntrusted g = g.trust ≡ Untrusted

abbrev AreUntrusted : List (FunctionType Tag) → Type 0
AreUntrusted gs = AllByRecursion IsUntrusted gs

joined : (xs ys : List (FunctionType Tag)) → AreUntrusted xs → AreUntrusted ys → AreUntrusted (xs ++ ys)
joined xs ys p q = all_append_to IsUntrusted xs ys p q

types_untrusted : (m : Module Label) (n : ℕ) (ys : List ℕ) → AreUntrusted (types_from m n ys)
types_untrusted m n [] = tt
types_untrusted m n (y ∷ ys) = (refl, types_untrusted m (n + site_count (type_named m y)) ys)

found_untrusted : (gs : List (FunctionType Tag)) → AreUntrusted gs → (k : ℕ) → AreUntrusted (after (slice_get gs k) (λ g. g ∷ []))
found_untrusted [] h k = tt
found_untrusted (g ∷ gs) h zero = (h.0, tt)
found_untrusted (g ∷ gs) h (suc k) = found_untrusted gs h.1 k

entries_untrusted : (gs : List (FunctionType Tag)) → AreUntrusted gs → (ks : List ℕ) → AreUntrusted (entry_users gs ks)
entries_untrusted gs h [] = tt
entries_untrusted gs h (k ∷ ks) = joined (after (slice_get gs k) (λ g. g ∷ [])) (entry_users gs ks) (found_untrusted gs h k) (entries_untrusted gs h ks)

elements_untrusted : (gs : List (FunctionType Tag)) → AreUntrusted gs → (es : List (Element Label)) → AreUntrusted (element_users gs es)
elements_untrusted gs h [] = tt
elements_untrusted gs h (e ∷ es) = joined (entry_users gs e.functions) (element_users gs es) (entries_untrusted gs h e.functions) (elements_untrusted gs h es)

node_untrusted : {A : Type 0} (P : BodyPlace A) (C : Context Tag) (n : ℕ) (i : Leaf A) (l : Option (Lift Tag)) (rest : Sited Tag) → AreUntrusted (uses rest) → AreUntrusted (uses (leaf_node P C n i l rest))
node_untrusted P C n (CallIndirect y) l rest h = (refl, h)
node_untrusted P C n _ l rest h = h

number_untrusted : {A : Type 0} (P : BodyPlace A) (C : Context Tag) (c : Code A) (n at : ℕ) (o : Operands Tag) → AreUntrusted (uses (number P C c n at o).code)
number_untrusted P C Stop n at o = tt
number_untrusted P C (Then i rest) n at o = node_untrusted P C n i (leaf_lift P C n at i o) _ (number_untrusted P C rest _ _ _)
number_untrusted P C (Block t body rest) n at o = joined _ _ (number_untrusted P (inside _ C) body _ _ _) (number_untrusted P C rest _ _ _)
number_untrusted P C (Loop t body rest) n at o = joined _ _ (number_untrusted P (inside None C) body _ _ _) (number_untrusted P C rest _ _ _)
number_untrusted P C (If t arm rest) n at o = joined _ _ (number_untrusted P (inside _ C) arm _ _ _) (number_untrusted P C rest _ _ _)
number_untrusted P C (IfElse t arm other rest) n at o = joined _ _ (number_untrusted P (inside _ C) arm _ _ _) (joined _ _ (number_untrusted P (inside _ C) other _ _ _) (number_untrusted P C rest _ _ _))

bodies_untrusted : (m : Module Label) (p : Points) (q k n : ℕ) (fs : List (Function Label)) → AreUntrusted (body_uses (bodies_from m p q k n fs))
bodies_untrusted m p q k n [] = tt
bodies_untrusted m p q k n (f ∷ fs) =
    joined (uses (body_from m p q k n f).code) _ (number_untrusted _ _ f.body _ _ _) (bodies_untrusted m p (q + site_count (type_named m f.type)) (k + 1) (n + length (body_from m p q k n f).sites) fs)

pub users_untrusted : (m : Module Label) (p : Points) → (g h : FunctionType Tag) → In g (users m p) → In h (users m p) → g.trust ≡ h.trust
users_untrusted m p g h i j =
    let a : AreUntrusted (users m p) = joined (element_users (sited_functions m) m.elements) (body_uses (bodies m p)) (elements_untrusted (sited_functions m) (types_untrusted m 0 (function_entries m)) m.elements) (bodies_untrusted m p _ _ _ m.functions) in
    in_all IsUntrusted (users m p) a g i ∙ sym (in_all IsUntrusted (users m p) a h j)

pub calls_untrusted : (m : Module Label) (p : Points) → AllByRecursion IsUntrusted (body_uses (bodies m p))
calls_untrusted m p = bodies_untrusted m p _ _ _ m.functions
