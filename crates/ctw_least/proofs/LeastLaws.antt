-- The sites to which secrets flow are the least labelling that fits, where no end is reached; else nothing fits.
use Rattle.std.proofs.Common.{◌≡◌, ℕ, ◌≤◌, Bool, true, false, List, [], ◌∷◌, ◌++◌, length, refl, sym, ◌∙◌, ap, subst, ◌⊎◌, inl, inr, arith}
use Rattle.std.specs.Prelude.{◌↔◌, Contains}
use Rattle.std.specs.List.{AllByRecursion}
use Rattle.std.proofs.lemmas.List.Elements.{recursion_from_All, All-from_recursion, All-weaker, All-contains, All-contains_itself}
use Rattle.ctw_ops.specs.declared.types.Label.{Label}
use Rattle.ctw_ops.specs.declared.types.Label.TheVariants.{Public, Secret}
use Rattle.ctw_ops.specs.Types.{IsBelow}
use Rattle.ctw_ops.specs.Tree.{Module}
use Rattle.ctw_ops.specs.Valid.{IsValid}
use Rattle.ctw_flow.specs.declared.graph.Edge.{Edge}
use Rattle.ctw_flow.specs.Graph.{HasLink}
use Rattle.ctw_flow.specs.Path.{IsPath, EndsIn, Leads, Reached, Steps, IsLeastPath, ComesBefore}
use Rattle.ctw_labels.specs.Links.{Link, Must, Obeys}
use Rattle.ctw_ops.specs.Plain.{IsPlainModule}
use Rattle.ctw_labels.specs.Points.{Points, AreReleases}
use Rattle.ctw_labels.specs.Kept.{IsKept}
use Rattle.ctw_labels.specs.ModuleLinks.{links, musts}
use Rattle.ctw_labels.specs.Fits.{Mark, Extends, Fits}
use Rattle.ctw_least.specs.Flows.{IsMarked, IsEnd, FlowsOn, IsFlow, IsGraphOf, label_of}
use Rattle.ctw_labels.proofs.Right.{links_right}

each : {X : Type 0} (P : X → Type 0) (xs : List X) → ((x : X) → Contains xs x → P x) → AllByRecursion P xs
each P xs f = recursion_from_All P xs (All-weaker (Contains xs) P f xs (All-contains_itself xs))

one_of : {X : Type 0} (P : X → Type 0) (xs : List X) → AllByRecursion P xs → (x : X) → Contains xs x → P x
one_of P xs h x c = All-contains P xs x (All-from_recursion P xs h) c

only : (n x : ℕ) → Contains (n ∷ []) x → x ≡ n
only n x c = one_of (λ y. y ≡ n) (n ∷ []) (refl, tt) x c

itself : (n : ℕ) → Contains (n ∷ []) n
itself n = (0, omega arith, refl)

-- what fits, by links
abbrev pub FitsLinks : List Link → List Must → List Mark → (ℕ → Label) → Type 0
FitsLinks ls ms marks K = Extends K marks × Obeys K ls ms

module _ (ls : List Link) (ms : List Must) (marks : List Mark) (g : List (List Edge)) (starts goals : List ℕ)
    (graph : IsGraphOf ls g) (from_marks : (n : ℕ) → Contains starts n ↔ IsMarked marks n Secret) (to_ends : (n : ℕ) → Contains goals n ↔ IsEnd ms marks n) where
  start_secret : (K : ℕ → Label) → FitsLinks ls ms marks K → (n : ℕ) → Contains starts n → K n ≡ Secret
  start_secret K f n c = one_of (λ k. K k.site ≡ k.label) marks f.0 (record { site = n; label = Secret }) ((from_marks n).0 c)

  end_public : (K : ℕ → Label) → FitsLinks ls ms marks K → (n : ℕ) → IsEnd ms marks n → K n ≡ Public
  end_public K f n (inl h) = one_of (λ k. K k.site ≡ Public) ms f.1.1 (record { site = n; rule = h.0 }) h.1
  end_public K f n (inr h) = one_of (λ k. K k.site ≡ k.label) marks f.0 (record { site = n; label = Public }) h

  -- what fits is secret along a path
  last_secret : (K : ℕ → Label) → FitsLinks ls ms marks K → (wanted : List ℕ) (x : ℕ) (t : List ℕ) → IsPath g (x ∷ t) → K x ≡ Secret → EndsIn wanted (x ∷ t) → (n : ℕ) × Contains wanted n × (K n ≡ Secret)
  last_secret K f wanted x [] p s e = (x, e, s)
  last_secret K f wanted x (y ∷ t) p s e =
      let l = (graph.linked x y).0 p.0 in
      last_secret K f wanted y t p.1 (one_of (λ k. K k.from ≡ Secret → K k.to ≡ Secret) ls f.1.0 (record { from = x; to = y; rule = l.0 }) l.1 s) e

  led_secret : (K : ℕ → Label) → FitsLinks ls ms marks K → (wanted nodes : List ℕ) → Leads g starts wanted nodes → (n : ℕ) × Contains wanted n × (K n ≡ Secret)
  led_secret K f wanted [] h = absurd h.0
  led_secret K f wanted (x ∷ t) h = last_secret K f wanted x t h.0 (start_secret K f x h.1) h.2

  -- where an end is reached, nothing fits
  pub none_fits : (nodes : List ℕ) → Leads g starts goals nodes → (K : ℕ → Label) → FitsLinks ls ms marks K → ⊥
  none_fits nodes h K f =
      let s = led_secret K f goals nodes h in
      let b = end_public K f s.0 ((to_ends s.0).0 s.1) in
      let c : Secret ≡ Public = sym s.2 ∙ b in cc

  -- a path that leads to an end is a flow, and a flow such a path
  pub flow_on : (x : ℕ) (t : List ℕ) → IsPath g (x ∷ t) → EndsIn goals (x ∷ t) → FlowsOn ls ms marks x t
  flow_on x [] p e = (to_ends x).0 e
  flow_on x (y ∷ t) p e = ((graph.linked x y).0 p.0, flow_on y t p.1 e)

  pub path_on : (x : ℕ) (t : List ℕ) → FlowsOn ls ms marks x t → IsPath g (x ∷ t) × EndsIn goals (x ∷ t)
  path_on x [] h = (tt, (to_ends x).1 h)
  path_on x (y ∷ t) h = let r = path_on y t h.1 in (((graph.linked x y).1 h.0, r.0), r.1)

  pub flow_of : (nodes : List ℕ) → Leads g starts goals nodes → IsFlow ls ms marks nodes
  flow_of [] h = absurd h.0
  flow_of (x ∷ t) h = ((from_marks x).0 h.1, flow_on x t h.0 h.2)

  pub path_of : (nodes : List ℕ) → IsFlow ls ms marks nodes → Leads g starts goals nodes
  path_of [] h = absurd h
  path_of (x ∷ t) h = let r = path_on x t h.1 in (r.0, (from_marks x).1 h.0, r.1)

  -- one link further
  longer : (a b : ℕ) → HasLink g a b → (x : ℕ) (t : List ℕ) → IsPath g (x ∷ t) → EndsIn (a ∷ []) (x ∷ t) → IsPath g (x ∷ (t ++ b ∷ [])) × EndsIn (b ∷ []) (x ∷ (t ++ b ∷ []))
  longer a b l x [] p e = ((subst (λ z. HasLink g z b) (sym (only a x e)) l, tt), itself b)
  longer a b l x (y ∷ t) p e = let r = longer a b l y t p.1 e in ((p.0, r.0), r.1)

  reached_next : (a b : ℕ) → HasLink g a b → Reached g starts a → Reached g starts b
  reached_next a b l ([], h) = absurd h.0
  reached_next a b l (x ∷ t, h) = let r = longer a b l x t h.0 h.2 in (x ∷ (t ++ b ∷ []), (r.0, h.1, r.1))

  to_goal : (n : ℕ) (x : ℕ) (t : List ℕ) → Contains goals n → EndsIn (n ∷ []) (x ∷ t) → EndsIn goals (x ∷ t)
  to_goal n x [] c e = subst (Contains goals) (sym (only n x e)) c
  to_goal n x (y ∷ t) c e = to_goal n y t c e

  led_to : (n : ℕ) → Contains goals n → Reached g starts n → (nodes : List ℕ) × Leads g starts goals nodes
  led_to n c ([], h) = absurd h.0
  led_to n c (x ∷ t, h) = (x ∷ t, (h.0, h.1, to_goal n x t c h.2))

  module _ (seen : ℕ → Bool) (reached : (n : ℕ) → (seen n ≡ true) ↔ Reached g starts n) where
    seen_of : (n : ℕ) → label_of (seen n) ≡ Secret → seen n ≡ true
    seen_of n e = by_test (seen n) e
      where
        by_test : (b : Bool) → label_of b ≡ Secret → b ≡ true
        by_test true e = refl
        by_test false e = cc

    below_of : (a b : Label) → (a ≡ Secret → b ≡ Secret) → IsBelow a b
    below_of Public Public h = tt
    below_of Public Secret h = tt
    below_of Secret Secret h = tt
    below_of Secret Public h = let e : Public ≡ Secret = h refl in cc

    -- the reached sites are below whatever fits
    pub least_below : (K : ℕ → Label) → FitsLinks ls ms marks K → (n : ℕ) → IsBelow (label_of (seen n)) (K n)
    least_below K f n = below_of (label_of (seen n)) (K n) (λ e. let r = (reached n).0 (seen_of n e) in let s = led_secret K f (n ∷ []) r.0 r.1 in subst (λ z. K z ≡ Secret) (only n s.0 s.1) s.2)

    -- and fit, where no end is reached
    pub least_fits : ((nodes : List ℕ) → Leads g starts goals nodes → ⊥) → FitsLinks ls ms marks (λ n. label_of (seen n))
    least_fits none = (each (λ k. label_of (seen k.site) ≡ k.label) marks extends, (each (λ k. label_of (seen k.from) ≡ Secret → label_of (seen k.to) ≡ Secret) ls along, each (λ k. label_of (seen k.site) ≡ Public) ms kept))
      where
        public_at : (n : ℕ) → Contains goals n → label_of (seen n) ≡ Public
        public_at n c = by_test (seen n) refl
          where
            by_test : (b : Bool) → seen n ≡ b → label_of b ≡ Public
            by_test true e = let r = led_to n c ((reached n).0 e) in absurd (none r.0 r.1)
            by_test false e = refl

        marked : (k : Mark) (l : Label) → k.label ≡ l → Contains marks k → label_of (seen k.site) ≡ l
        marked k Secret e c = ap label_of ((reached k.site).1 (k.site ∷ [], (tt, (from_marks k.site).1 (subst (λ z. Contains marks (record { site = k.site; label = z })) e c), itself k.site)))
        marked k Public e c = public_at k.site ((to_ends k.site).1 (inr (subst (λ z. Contains marks (record { site = k.site; label = z })) e c)))

        extends : (k : Mark) → Contains marks k → label_of (seen k.site) ≡ k.label
        extends k c = marked k k.label refl c

        along : (k : Link) → Contains ls k → label_of (seen k.from) ≡ Secret → label_of (seen k.to) ≡ Secret
        along k c e = ap label_of ((reached k.to).1 (reached_next k.from k.to ((graph.linked k.from k.to).1 (k.rule, c)) ((reached k.from).0 (seen_of k.from e))))

        kept : (k : Must) → Contains ms k → label_of (seen k.site) ≡ Public
        kept k c = public_at k.site ((to_ends k.site).1 (inl (k.rule, c)))

-- ---- a module

module _ (m : Module Label) (pl : IsPlainModule m) (v : IsValid m) (p : Points) (r : AreReleases p) (k : IsKept m p) (marks : List Mark) where
  fits_to : (K : ℕ → Label) → Fits m p marks K → FitsLinks (links m p) (musts m p) marks K
  fits_to K f = (f.marked, (links_right m pl v p r k K).1 (f.orderly, f.valid, f.users))

  fits_from : (K : ℕ → Label) → FitsLinks (links m p) (musts m p) marks K → Fits m p marks K
  fits_from K f = let o = (links_right m pl v p r k K).0 f.1 in record { kept = k; marked = f.0; orderly = o.0; valid = o.1; users = o.2 }

  module _ (g : List (List Edge)) (starts goals : List ℕ) (graph : IsGraphOf (links m p) g) (from_marks : (n : ℕ) → Contains starts n ↔ IsMarked marks n Secret) (to_ends : (n : ℕ) → Contains goals n ↔ IsEnd (musts m p) marks n) where
    -- where no end is reached, the reached sites are the least labelling that fits
    pub infer_ok : (seen : ℕ → Bool) → ((n : ℕ) → (seen n ≡ true) ↔ Reached g starts n) → ((nodes : List ℕ) → Leads g starts goals nodes → ⊥) →
        Fits m p marks (λ n. label_of (seen n)) × ((K : ℕ → Label) → Fits m p marks K → (n : ℕ) → IsBelow (label_of (seen n)) (K n))
    infer_ok seen reached none = (
      fits_from (λ n. label_of (seen n)) (least_fits (links m p) (musts m p) marks g starts goals graph from_marks to_ends seen reached none),
      (λ K f n. least_below (links m p) (musts m p) marks g starts goals graph from_marks to_ends seen reached K (fits_to K f) n),
    )

    -- where there is a least path, it is a shortest flow and the least of these by its sites, and nothing fits
    pub infer_flow : (path : Steps) → IsLeastPath g starts goals path → IsFlow (links m p) (musts m p) marks path.nodes
        × ((nodes : List ℕ) → IsFlow (links m p) (musts m p) marks nodes → length path.nodes ≤ length nodes)
        × ((nodes : List ℕ) → IsFlow (links m p) (musts m p) marks nodes → length nodes ≡ length path.nodes → (path.nodes ≡ nodes) ⊎ ComesBefore path.nodes nodes)
        × ((K : ℕ → Label) → Fits m p marks K → ⊥)
    infer_flow path h = (
      flow_of (links m p) (musts m p) marks g starts goals graph from_marks to_ends path.nodes h.leads,
      (λ nodes f. h.shortest nodes (path_of (links m p) (musts m p) marks g starts goals graph from_marks to_ends nodes f)),
      (λ nodes f e. h.least nodes (path_of (links m p) (musts m p) marks g starts goals graph from_marks to_ends nodes f) e),
      (λ K f. none_fits (links m p) (musts m p) marks g starts goals graph from_marks to_ends path.nodes h.leads K (fits_to K f)),
    )
