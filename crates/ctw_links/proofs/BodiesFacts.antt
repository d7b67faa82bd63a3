-- The bodies of defined functions, one more after others.
use Rattle.std.proofs.Common.{◌≡◌, ◌≤◌, ◌<◌, ℕ, zero, suc, ◌+◌, ◌-◌, List, [], ◌∷◌, ◌++◌, length, take, Some, refl, sym, ◌∙◌, ap, arith, length-append}
use Rattle.std.specs.Prelude.{get_or, slice_get}
use Rattle.std.proofs.lemmas.List.{append-nil}
use Rattle.std.proofs.lemmas.Option.{get_or_from_slice_get}
use Rattle.ctw_ops.specs.declared.types.Label.{Label}
use Rattle.ctw_ops.specs.Tree.{Module, Function, type_named}
use Rattle.ctw_module.specs.Lookup.{imported_count, function_named}
use Rattle.ctw_labels.specs.Links.{Fact}
use Rattle.ctw_labels.specs.declared.tag.Tag.{Tag}
use Rattle.ctw_ops.specs.Types.{FunctionType}
use Rattle.ctw_labels.specs.Names.{Site}
use Rattle.ctw_labels.specs.Points.{no_points}
use Rattle.ctw_labels.specs.ModuleLinks.{uses, body_uses, body_facts, facts_within}
use Rattle.ctw_labels.specs.SitedModule.{SitedBody, site_count, head_sites, first_defined, body_from, bodies_from, bodies}
use Rattle.ctw_sites.specs.Heads.{heads}
use Rattle.ctw_sites.proofs.BodiesLaws.{head_at, head_defined, named_is, sites_upto, before}
use Rattle.ctw_links.proofs.BodyFacts.{facts_append, uses_append}

taken_more : (m : Module Label) (q k n : ℕ) (fs : List (Function Label)) (i : ℕ) (F : Function Label) → slice_get fs i ≡ Some F
    → take (suc i) (bodies_from m no_points q k n fs) ≡ take i (bodies_from m no_points q k n fs) ++ body_from m no_points (head_at m q fs i) (k + i) (n + length (sites_upto m q k n fs i)) F ∷ []
taken_more m q k n [] i F e = cc
taken_more m q k n (f ∷ fs) zero F e =
    let a : f ≡ F = cc in
    let b : k ≡ k + 0 = omega arith in
    let c : n ≡ n + 0 = omega arith in
    λ j. body_from m no_points q (b j) (c j) (a j) ∷ []
taken_more m q k n (f ∷ fs) (suc i) F e =
    let B : SitedBody = body_from m no_points q k n f in
    let p : ℕ = q + site_count (type_named m f.type) in
    let U : List Site = sites_upto m p (k + 1) (n + length B.sites) fs i in
    let l = length-append B.sites U in
    let b : k + 1 + i ≡ k + suc i = omega arith in
    let c : n + length B.sites + length U ≡ n + length (B.sites ++ U) = omega (arith, l) in
    ap (λ z. B ∷ z) (taken_more m p (k + 1) (n + length B.sites) fs i F e ∙ (λ j. take i (bodies_from m no_points p (k + 1) (n + length B.sites) fs) ++ body_from m no_points (head_at m p fs i) (b j) (c j) F ∷ []))

one_more : (m : Module Label) (f : ℕ) (F : Function Label) → imported_count m ≤ f → function_named m f ≡ Some F
    → take (f + 1 - imported_count m) (bodies m no_points) ≡ take (f - imported_count m) (bodies m no_points) ++ body_from m no_points (get_or (heads m) f 0) f (before m f) F ∷ []
one_more m f F le e =
    let i : ℕ = f - imported_count m in
    let s = sym (named_is m f le) ∙ e in
    let a : f + 1 - imported_count m ≡ suc i = omega (arith, le) in
    let b : imported_count m + i ≡ f = omega (arith, le) in
    let h = sym (get_or_from_slice_get (heads m) f (head_at m (first_defined m) m.functions i) 0 (head_defined m f F le s)) in
    ap (λ z. take z (bodies m no_points)) a
    ∙ taken_more m (first_defined m) (imported_count m) (length (head_sites m)) m.functions i F s
    ∙ (λ j. take i (bodies m no_points) ++ body_from m no_points (h j) (b j) (before m f) F ∷ [])

pub facts_more : (m : Module Label) (f n : ℕ) (F : Function Label) → imported_count m ≤ f → function_named m f ≡ Some F → n ≡ before m f
    → facts_within m no_points (take (f + 1 - imported_count m) (bodies m no_points)) ≡ facts_within m no_points (take (f - imported_count m) (bodies m no_points)) ++ body_facts m no_points (body_from m no_points (get_or (heads m) f 0) f n F)
facts_more m f n F le e en =
    let B = take (f - imported_count m) (bodies m no_points) in
    let b = body_from m no_points (get_or (heads m) f 0) f (before m f) F in
    ap (facts_within m no_points) (one_more m f F le e) ∙ facts_append m no_points B (b ∷ [])
    ∙ ap (λ z. facts_within m no_points B ++ z) (append-nil (body_facts m no_points b) ∙ ap (λ z. body_facts m no_points (body_from m no_points (get_or (heads m) f 0) f z F)) (sym en))

pub uses_more : (m : Module Label) (f n : ℕ) (F : Function Label) → imported_count m ≤ f → function_named m f ≡ Some F → n ≡ before m f
    → body_uses (take (f + 1 - imported_count m) (bodies m no_points)) ≡ body_uses (take (f - imported_count m) (bodies m no_points)) ++ uses (body_from m no_points (get_or (heads m) f 0) f n F).code
uses_more m f n F le e en =
    let B = take (f - imported_count m) (bodies m no_points) in
    let b = body_from m no_points (get_or (heads m) f 0) f (before m f) F in
    ap body_uses (one_more m f F le e) ∙ uses_append B (b ∷ [])
    ∙ ap (λ z. body_uses B ++ z) (append-nil (uses b.code) ∙ ap (λ z. uses (body_from m no_points (get_or (heads m) f 0) f z F).code) (sym en))
