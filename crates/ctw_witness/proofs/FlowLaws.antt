-- A witness is a flow exactly where its parts pass.
use Rattle.std.proofs.Common.{◌≡◌, ◌≤◌, ◌<◌, ◌↔◌, ◌⊎◌, inl, inr, ℕ, zero, suc, ◌+◌, ◌-◌, Bool, true, false, List, [], ◌∷◌, length, drop, Option, Some, None, unwrap_or, refl, sym, ◌∙◌, ap, subst, arith}
use Rattle.std.specs.Prelude.{All, Contains, slice_get, slice_index, MatchOption}
use Rattle.std.proofs.lemmas.Option.{slice_get_within, get_or_from_slice_get}
use Rattle.std.proofs.lemmas.List.Elements.{All-nil, All-cons, All-contains}
use Rattle.ctw_ops.specs.declared.types.Label.TheVariants.{Public, Secret}
use Rattle.ctw_flow.specs.declared.graph.Edge.{Edge}
use Rattle.ctw_flow.specs.Graph.{row, HasLink, IsGraph}
use Rattle.ctw_labels.specs.Links.{Link, Must}
use Rattle.ctw_labels.specs.Fits.{Mark, rule_between, must_of}
use Rattle.ctw_least.specs.Flows.{IsMarked, IsEnd, Linked, FlowsOn, IsFlow, IsGraphOf}
use Rattle.ctw_sites.specs.Flow.{Flow}
use Rattle.ctw_least.specs.Flows.{AreLeastRules, reason}
use Rattle.ctw_least.specs.Flows.{last_of, marked}
use Rattle.ctw_least.proofs.LeastRules.{IsLeastOf, one_least, least_between, must_there, must_is}
use Rattle.ctw_witness.specs.Checked.{IsChecked, IsReasonBy}

-- ---- one link

module _ (links : List Link) (g : List (List Edge)) (h : IsGraphOf links g) where
  -- what a graph of the links answers is the least rule
  pub rule_is : (x y : ℕ) (o : Option ℕ) → MatchOption o (HasLink g x y → ⊥) (λ r. Contains (row g x) (record { to = y; rule = r })) → rule_between x y links ≡ o
  rule_is x y None f = none (rule_between x y links) refl
    where
      none : (o : Option ℕ) → rule_between x y links ≡ o → rule_between x y links ≡ None
      none None e = e
      none (Some r) e =
          let c : Contains links (record { from = x; to = y; rule = r }) = (subst (λ o. IsLeastOf o (λ q. Contains links (record { from = x; to = y; rule = q }))) e (least_between x y links)).0 in
          absurd (f ((h.linked x y).1 (r, c)))
  rule_is x y (Some r) c = one_least (rule_between x y links) (λ q. Contains links (record { from = x; to = y; rule = q })) r (least_between x y links) (h.ruled x y r c) (λ q d. h.least x y r q c d)

-- ---- rules along sites

drop_two : (sites rules : List ℕ) (k x y r : ℕ) → slice_get sites k ≡ Some x → slice_get sites (suc k) ≡ Some y → slice_get rules k ≡ Some r
    → (t rs : List ℕ) × (drop k sites ≡ x ∷ y ∷ t) × (drop (suc k) sites ≡ y ∷ t) × (drop k rules ≡ r ∷ rs) × (drop (suc k) rules ≡ rs)
drop_two [] rules k x y r a b c = absurd (none a)
  where
    none : slice_get {X = ℕ} [] k ≡ Some x → ⊥
    none e = cc
drop_two (s ∷ []) rules zero x y r a b c = absurd (none b)
  where
    none : slice_get {X = ℕ} (s ∷ []) 1 ≡ Some y → ⊥
    none e = cc
drop_two (s ∷ u ∷ t) [] zero x y r a b c = absurd (none c)
  where
    none : slice_get {X = ℕ} [] 0 ≡ Some r → ⊥
    none e = cc
drop_two (s ∷ u ∷ t) (q ∷ rs) zero x y r a b c =
    let d : s ≡ x = cc in
    let e : u ≡ y = cc in
    let f : q ≡ r = cc in
    (t, rs, (λ i. d i ∷ e i ∷ t), (λ i. e i ∷ t), (λ i. f i ∷ rs), refl)
drop_two (s ∷ sites) [] (suc k) x y r a b c = absurd (none c)
  where
    none : slice_get {X = ℕ} [] (suc k) ≡ Some r → ⊥
    none e = cc
drop_two (s ∷ sites) (q ∷ rules) (suc k) x y r a b c = drop_two sites rules k x y r a b c

module _ (links : List Link) (sites rules : List ℕ) (k x y r : ℕ) (a : slice_get sites k ≡ Some x) (b : slice_get sites (suc k) ≡ Some y) (c : slice_get rules k ≡ Some r) where
  pub rules_on : rule_between x y links ≡ Some r → AreLeastRules links (drop (suc k) sites) (drop (suc k) rules) → AreLeastRules links (drop k sites) (drop k rules)
  rules_on e h =
      let d = drop_two sites rules k x y r a b c in
      let h' : AreLeastRules links (y ∷ d.0) d.1 = subst (λ z. AreLeastRules links z d.1) d.3 (subst (λ z. AreLeastRules links (drop (suc k) sites) z) d.5 h) in
      subst (λ z. AreLeastRules links z (drop k rules)) (sym d.2) (subst (λ z. AreLeastRules links (x ∷ y ∷ d.0) z) (sym d.4) (e, h'))

  rules_here : AreLeastRules links (drop k sites) (drop k rules) → (rule_between x y links ≡ Some r) × AreLeastRules links (drop (suc k) sites) (drop (suc k) rules)
  rules_here h =
      let d = drop_two sites rules k x y r a b c in
      let h' : AreLeastRules links (x ∷ y ∷ d.0) (r ∷ d.1) = subst (λ z. AreLeastRules links z (r ∷ d.1)) d.2 (subst (λ z. AreLeastRules links (drop k sites) z) d.4 h) in
      (h'.0, subst (λ z. AreLeastRules links z (drop (suc k) rules)) (sym d.3) (subst (λ z. AreLeastRules links (y ∷ d.0) z) (sym d.5) h'.1))

  pub rules_back : AreLeastRules links (drop k sites) (drop k rules) → AreLeastRules links (drop (suc k) sites) (drop (suc k) rules)
  rules_back h = (rules_here h).1

  pub rules_fail : (o : Option ℕ) → rule_between x y links ≡ o → (o ≡ Some r → ⊥) → AreLeastRules links (drop k sites) (drop k rules) → ⊥
  rules_fail o e f h = f (sym e ∙ (rules_here h).0)

pub rules_end : (links : List Link) (sites rules : List ℕ) (k : ℕ) → length sites ≡ suc k → length rules ≡ k → AreLeastRules links (drop k sites) (drop k rules)
rules_end links [] rules k p q = absurd (omega (arith, p))
rules_end links (x ∷ []) [] zero p q = tt
rules_end links (x ∷ y ∷ sites) rules zero p q = absurd (omega (arith, p))
rules_end links (x ∷ []) (r ∷ rules) zero p q = absurd (omega (arith, q))
rules_end links (x ∷ sites) [] (suc k) p q = absurd (omega (arith, q))
rules_end links (x ∷ sites) (r ∷ rules) (suc k) p q = rules_end links sites rules k (omega (arith, p)) (omega (arith, q))

-- ---- the last site

last_later : (x y : ℕ) (t : List ℕ) → last_of (x ∷ y ∷ t) ≡ last_of (y ∷ t)
last_later x y t =
    let e : length (x ∷ y ∷ t) - 1 ≡ suc (length (y ∷ t) - 1) = omega arith in
    ap (λ (k : ℕ). slice_index (x ∷ y ∷ t) k) e

module _ (links : List Link) (musts : List Must) (marks : List Mark) where
  linked : (x y r : ℕ) → rule_between x y links ≡ Some r → Linked links x y
  linked x y r e = (r, (subst (λ o. IsLeastOf o (λ q. Contains links (record { from = x; to = y; rule = q }))) e (least_between x y links)).0)

  flows : (x : ℕ) (t rules : List ℕ) → AreLeastRules links (x ∷ t) rules → IsEnd musts marks (last_of (x ∷ t)) → FlowsOn links musts marks x t
  flows x [] rules a e = e
  flows x (y ∷ t) [] a e = absurd a
  flows x (y ∷ t) (r ∷ rules) a e = (linked x y r a.0, flows y t rules a.1 (subst (IsEnd musts marks) (last_later x y t) e))

  ends : (x : ℕ) (t : List ℕ) → FlowsOn links musts marks x t → IsEnd musts marks (last_of (x ∷ t))
  ends x [] h = h
  ends x (y ∷ t) h = subst (IsEnd musts marks) (sym (last_later x y t)) (ends y t h.1)

  -- a site is public for the least reason
  reason_there : (n why : ℕ) (o : Option ℕ) → must_of n musts ≡ o → IsReasonBy o marks n why → IsEnd musts marks n × (why ≡ reason musts n)
  reason_there n why (Some r) e h = (inl (r, must_there n musts r e), sym h ∙ sym (ap (λ z. unwrap_or z marked) e))
  reason_there n why None e h = (inr h.1, h.0 ∙ sym (ap (λ z. unwrap_or z marked) e))

  there_reason : (n why : ℕ) (o : Option ℕ) → must_of n musts ≡ o → IsEnd musts marks n → why ≡ reason musts n → IsReasonBy o marks n why
  there_reason n why (Some r) e h w = sym (w ∙ ap (λ z. unwrap_or z marked) e)
  there_reason n why None e (inl c) w = absurd (none (must_is n musts c.0 c.1))
    where
      none : (r : ℕ) × (must_of n musts ≡ Some r) → ⊥
      none q = let z : None ≡ Some q.0 = sym e ∙ q.1 in absurd cc
  there_reason n why None e (inr k) w = (w ∙ ap (λ z. unwrap_or z marked) e, k)

  pub checked : (w : Flow) (x : ℕ) (o : Option ℕ) → slice_get w.sites 0 ≡ Some x → must_of (last_of w.sites) musts ≡ o
      → IsMarked marks x Secret → AreLeastRules links w.sites w.rules → IsReasonBy o marks (last_of w.sites) w.last → IsChecked links musts marks w
  checked w x o f e s r k =
      let p = reason_there (last_of w.sites) w.last o e k in
      record { flow = go w.sites f r p.0; rules = r; last = p.1 }
    where
      go : (sites : List ℕ) → slice_get sites 0 ≡ Some x → AreLeastRules links sites w.rules → IsEnd musts marks (last_of sites) → IsFlow links musts marks sites
      go [] f r e = absurd r
      go (z ∷ t) f r e = let q : z ≡ x = cc in (subst (λ n. IsMarked marks n Secret) (sym q) s, flows z t w.rules r e)

  pub first_marked : (w : Flow) (x : ℕ) → slice_get w.sites 0 ≡ Some x → IsChecked links musts marks w → IsMarked marks x Secret
  first_marked w x f h = go w.sites f h.flow
    where
      go : (sites : List ℕ) → slice_get sites 0 ≡ Some x → IsFlow links musts marks sites → IsMarked marks x Secret
      go [] f k = absurd k
      go (z ∷ t) f k = let q : z ≡ x = cc in subst (λ n. IsMarked marks n Secret) q k.0

  pub last_reason : (w : Flow) (o : Option ℕ) → must_of (last_of w.sites) musts ≡ o → IsChecked links musts marks w → IsReasonBy o marks (last_of w.sites) w.last
  last_reason w o e h = there_reason (last_of w.sites) w.last o e (go w.sites h.flow) h.last
    where
      go : (sites : List ℕ) → IsFlow links musts marks sites → IsEnd musts marks (last_of sites)
      go [] k = absurd k
      go (z ∷ t) k = ends z t k.1

-- ---- sites below a number

at_place : (xs : List ℕ) (N k x : ℕ) → All (λ n. n < N) xs → slice_get xs k ≡ Some x → x < N
at_place xs N k x a e =
    let lt = slice_get_within xs k x e in
    subst (λ z. z < N) (get_or_from_slice_get xs k x 0 e) (a k 0 lt)

pub at_below : (xs : List ℕ) (N M k x : ℕ) → N ≡ M → All (λ n. n < N) xs → slice_get xs k ≡ Some x → x < M
at_below xs N M k x q a e = let lt = at_place xs N k x a e in omega (arith, lt, q)

module _ (links : List Link) (musts : List Must) (marks : List Mark) (g : List (List Edge)) (graph : IsGraph g) (h : IsGraphOf links g) where
  linked_below : (x y : ℕ) → x < length g → Linked links x y → y < length g
  linked_below x y lt l =
      let e = (h.linked x y).1 l in
      let r : All (λ (d : Edge). d.to < length g) (row g x) = (graph x [] lt).1 in
      subst (λ z. z < length g) e.2 (All-contains (λ (d : Edge). d.to < length g) (row g x) e.0 r e.1)

  flows_below : (x : ℕ) (t : List ℕ) → x < length g → FlowsOn links musts marks x t → All (λ n. n < length g) (x ∷ t)
  flows_below x [] lt f = All-cons (λ n. n < length g) x [] lt (All-nil (λ n. n < length g))
  flows_below x (y ∷ t) lt f = All-cons (λ n. n < length g) x (y ∷ t) lt (flows_below y t (linked_below x y lt f.0) f.1)

  pub flow_below : (sites : List ℕ) → ((n : ℕ) → IsMarked marks n Secret → n < length g) → IsFlow links musts marks sites → All (λ n. n < length g) sites
  flow_below [] b f = absurd f
  flow_below (x ∷ t) b f = flows_below x t (b x f.0) f.1

pub last_is : (xs : List ℕ) (n x : ℕ) → n ≡ length xs → slice_get xs (n - 1) ≡ Some x → last_of xs ≡ x
last_is xs n x q e = let k : length xs - 1 ≡ n - 1 = omega (arith, q) in ap (λ j. slice_index xs j) k ∙ get_or_from_slice_get xs (n - 1) x 0 e

-- ---- one step of the loop over rules

module _ (links : List Link) (g : List (List Edge)) (h : IsGraphOf links g) (sites rules : List ℕ) (i x y r : ℕ) (from : 1 ≤ i) (a : slice_get sites (i - 1) ≡ Some x) (b : slice_get sites i ≡ Some y) (c : slice_get rules (i - 1) ≡ Some r) (o : Option ℕ) (m : MatchOption o (HasLink g x y → ⊥) (λ q. Contains (row g x) (record { to = y; rule = q }))) where
  b' : slice_get sites (suc (i - 1)) ≡ Some y
  b' = let e : suc (i - 1) ≡ i = omega (arith, from) in ap (slice_get sites) e ∙ b

  next : i + 1 - 1 ≡ suc (i - 1)
  next = omega (arith, from)

  pub rules_stop : (o ≡ Some r → ⊥) → AreLeastRules links (drop (i - 1) sites) (drop (i - 1) rules) → ⊥
  rules_stop f w = rules_fail links sites rules (i - 1) x y r a b' c o (rule_is links g h x y o m) f w

  pub rules_step : o ≡ Some r → AreLeastRules links (drop (i + 1 - 1) sites) (drop (i + 1 - 1) rules) → AreLeastRules links (drop (i - 1) sites) (drop (i - 1) rules)
  rules_step e w = rules_on links sites rules (i - 1) x y r a b' c (rule_is links g h x y o m ∙ e) (subst (λ k. AreLeastRules links (drop k sites) (drop k rules)) next w)

  pub rules_rest : AreLeastRules links (drop (i - 1) sites) (drop (i - 1) rules) → AreLeastRules links (drop (i + 1 - 1) sites) (drop (i + 1 - 1) rules)
  rules_rest w = subst (λ k. AreLeastRules links (drop k sites) (drop k rules)) (sym next) (rules_back links sites rules (i - 1) x y r a b' c w)
