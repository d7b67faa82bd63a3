-- The facts of a module, gathered part by part.
use Rattle.std.proofs.Common.{◌≡◌, ◌<◌, ◌^◌, List, [], ◌∷◌, ◌++◌, length, map, refl, sym, ◌∙◌, ap, subst, arith, append_assoc, length-append}
use Rattle.std.specs.List.{AllByRecursion}
use Rattle.ctw_ops.specs.declared.types.Label.{Label}
use Rattle.ctw_ops.specs.Plain.{IsPlainModule}
use Rattle.ctw_ops.specs.Valid.{IsValid}
use Rattle.ctw_ops.specs.Types.{VariableType}
use Rattle.ctw_ops.specs.Tree.{Module, Constant, function_types}
use Rattle.ctw_labels.specs.declared.tag.Tag.{Tag}
use Rattle.ctw_labels.specs.Links.{Fact}
use Rattle.ctw_labels.specs.Points.{no_points}
use Rattle.ctw_labels.specs.ModuleLinks.{body_uses, element_users, users, user_facts, init_facts, offset_fact, offset_facts, facts_within, module_facts}
use Rattle.ctw_labels.specs.SitedModule.{first_defined_global, sited_functions, sited_globals, bodies, body_sites, head_sites, sites}
use Rattle.ctw_links.specs.declared.user.User.{User}
use Rattle.ctw_links.specs.Firsts.{users_told, IsPlaced}
use Rattle.ctw_links.specs.Uses.{types_of_users}
use Rattle.ctw_links.proofs.FirstUsers.{all_told}
use Rattle.ctw_links.proofs.ModuleWithin.{users_in, placed}

offsets_both : (S : List (VariableType Tag)) (xs ys : List (Constant Label)) → offset_facts S (xs ++ ys) ≡ offset_facts S xs ++ offset_facts S ys
offsets_both S [] ys = refl
offsets_both S (x ∷ xs) ys = ap (λ z. offset_fact S x ++ z) (offsets_both S xs ys) ∙ sym (append_assoc (offset_fact S x) (offset_facts S xs) (offset_facts S ys))

module _ (m : Module Label) where
  pub users_are : (u0 u1 u2 : List User) → u0 ≡ [] → types_of_users (function_types m) u1 ≡ types_of_users (function_types m) u0 ++ element_users (sited_functions m) m.elements
      → types_of_users (function_types m) u2 ≡ types_of_users (function_types m) u1 ++ body_uses (bodies m no_points) → types_of_users (function_types m) u2 ≡ users m no_points
  users_are u0 u1 u2 n e f = f ∙ ap (λ z. z ++ body_uses (bodies m no_points)) (e ∙ ap (λ z. types_of_users (function_types m) z ++ element_users (sited_functions m) m.elements) n)

  pub all_placed : IsPlainModule m → IsValid m → length (sites m) < 2 ^ 32 → (us : List User) → types_of_users (function_types m) us ≡ users m no_points → AllByRecursion (IsPlaced m) us
  all_placed pl v room us e = placed (length (sites m)) room m us (subst (AllByRecursion _) (sym e) (users_in m (length (sites m)) (omega arith) pl v))

  pub facts_gathered : (us : List User) (t0 t1 t2 t3 t4 t5 : List (Fact Tag)) → types_of_users (function_types m) us ≡ users m no_points → t0 ≡ [] → t1 ≡ t0 ++ facts_within m no_points (bodies m no_points) → t2 ≡ t1 ++ users_told m [] us
      → t3 ≡ t2 ++ init_facts (sited_globals m) (first_defined_global m) m.globals → t4 ≡ t3 ++ offset_facts (sited_globals m) (map (λ e. e.offset) m.elements) → t5 ≡ t4 ++ offset_facts (sited_globals m) (map (λ s. s.offset) m.segments)
      → t5 ≡ module_facts m no_points
  facts_gathered us t0 t1 t2 t3 t4 t5 u e0 e1 e2 e3 e4 e5 =
      let S = sited_globals m in
      let B = facts_within m no_points (bodies m no_points) in
      let U = user_facts (users m no_points) (users m no_points) in
      let I = init_facts S (first_defined_global m) m.globals in
      let O = map (λ e. e.offset) m.elements in
      let P = map (λ s. s.offset) m.segments in
      let told : users_told m [] us ≡ U = all_told m us ∙ (λ i. user_facts (u i) (u i)) in
      let first : t1 ≡ B = e1 ∙ ap (λ z. z ++ B) e0 in
      e5 ∙ ap (λ z. z ++ offset_facts S P) (e4 ∙ ap (λ z. z ++ offset_facts S O) (e3 ∙ ap (λ z. z ++ I) (e2 ∙ (λ i. first i ++ told i))))
      ∙ append_assoc ((B ++ U) ++ I) (offset_facts S O) (offset_facts S P)
      ∙ ap (λ z. ((B ++ U) ++ I) ++ z) (sym (offsets_both S O P))
      ∙ append_assoc (B ++ U) I (offset_facts S (O ++ P))
      ∙ append_assoc B U (I ++ offset_facts S (O ++ P))
