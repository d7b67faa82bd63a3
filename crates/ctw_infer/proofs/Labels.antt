-- The labels of reached sites, and the paths that lead to them.
use Rattle.std.proofs.Common.{◌≡◌, ◌≤◌, ◌<◌, ℕ, zero, suc, ◌+◌, ◌-◌, Bool, true, false, List, [], ◌∷◌, length, replicate, get_or, Some, slice_get, unwrap_or, ◌⊎◌, inl, inr, refl, sym, ap, ◌∙◌, subst, arith}
use Rattle.std.specs.Prelude.{◌↔◌, Contains, All, slice_set, slice_index}
use Rattle.std.proofs.lemmas.List.Elements.{All-nil, All-cons, All-weaker, All-contains}
use Rattle.std.proofs.lemmas.Bool.{cases_order}
use Rattle.std.proofs.lemmas.List.{get_or-replicate, get_or-set_same, get_or-set_other, length-set, length-replicate}
use Rattle.std.proofs.lemmas.Option.{slice_get_past, slice_get-get_or, get_or_from_slice_get, unwrap_or-slice_get}
use Rattle.ctw_ops.specs.declared.types.Label.{Label}
use Rattle.ctw_ops.specs.declared.types.Label.TheVariants.{Public, Secret}
use Rattle.ctw_flow.specs.declared.graph.Edge.{Edge}
use Rattle.ctw_flow.specs.Graph.{row, HasLink}
use Rattle.ctw_flow.specs.Path.{IsPath, EndsIn, Leads, Reached}
use Rattle.ctw_labels.specs.Fits.{label_at}
use Rattle.ctw_least.specs.Flows.{label_of, last_of}
use Rattle.ctw_infer.specs.Searched.{IsReachedLabelling}
use Rattle.ctw_least.proofs.LeastRules.{last_ends}
use Rattle.ctw_infer.proofs.Firsts.{only}

-- ---- the loop

-- the sites before a number have the labels of the reached ones, and the others are public
pub record LabelsGiven (reached : List Bool) (labels : List Label) (site : ℕ) : Type 0 where
  pub sized : length labels ≡ length reached
  pub given : (n : ℕ) → n < site → label_at labels n ≡ label_of (get_or reached n false)
  pub others : (n : ℕ) → site ≤ n → label_at labels n ≡ Public

all_public : (count n : ℕ) → label_at (replicate count Public) n ≡ Public
all_public count n = go (cases_order n count)
  where
    past : count ≤ n → label_at (replicate count Public) n ≡ Public
    past le = ap (λ o. unwrap_or o Public) (slice_get_past (replicate count Public) n (omega (arith, le, length-replicate count Public)))

    go : (n ≡ count) ⊎ ((n < count) ⊎ (count < n)) → label_at (replicate count Public) n ≡ Public
    go (inl e) = past (omega (arith, e))
    go (inr (inl lt)) = unwrap_or-slice_get (replicate count Public) n Public ∙ get_or-replicate count n Public Public lt
    go (inr (inr lt)) = past (omega (arith, lt))

pub labels_begin : (reached : List Bool) (labels : List Label) (count : ℕ) → labels ≡ replicate count Public → length reached ≡ count → LabelsGiven reached labels 0
labels_begin reached labels count e l = record {
  sized = ap length e ∙ length-replicate count Public ∙ sym l;
  given = λ n lt. absurd (omega (arith, lt));
  others = λ n le. ap (λ z. label_at z n) e ∙ all_public count n;
}

module _ (reached : List Bool) (labels : List Label) (site : ℕ) (lt : site < length reached) (h : LabelsGiven reached labels site) where
  pub labels_same : (slice_get reached site ≡ Some true → ⊥) → LabelsGiven reached labels (site + 1)
  labels_same unseen = record {
    sized = h.sized;
    given = λ n l. go n l (cases_order n site);
    others = λ n le. h.others n (omega (arith, le));
  }
    where
      public : (b : Bool) → get_or reached site false ≡ b → Public ≡ label_of b
      public true e = absurd (unseen (slice_get-get_or reached site false lt ∙ ap Some e))
      public false e = refl

      here : (n : ℕ) → n ≡ site → label_at labels n ≡ label_of (get_or reached n false)
      here n e = h.others n (omega (arith, e)) ∙ public (get_or reached site false) refl ∙ ap (λ (k : ℕ). label_of (get_or reached k false)) (sym e)

      go : (n : ℕ) → n < site + 1 → (n ≡ site) ⊎ ((n < site) ⊎ (site < n)) → label_at labels n ≡ label_of (get_or reached n false)
      go n l (inl e) = here n e
      go n l (inr (inl m)) = h.given n m
      go n l (inr (inr m)) = absurd (omega (arith, l, m))

  -- another label at the site
  at_site : label_at (slice_set labels site Secret) site ≡ Secret
  at_site = unwrap_or-slice_get (slice_set labels site Secret) site Public ∙ get_or-set_same labels site Secret Public (omega (arith, lt, h.sized))

  elsewhere : (n : ℕ) → (n ≡ site → ⊥) → label_at (slice_set labels site Secret) n ≡ label_at labels n
  elsewhere n d = unwrap_or-slice_get (slice_set labels site Secret) n Public ∙ get_or-set_other labels site n Secret Public d ∙ sym (unwrap_or-slice_get labels n Public)

  pub labels_more : (after : List Label) → after ≡ slice_set labels site Secret → slice_get reached site ≡ Some true → LabelsGiven reached after (site + 1)
  labels_more after e there = subst (λ z. LabelsGiven reached z (site + 1)) (sym e) (record {
    sized = length-set labels site Secret ∙ h.sized;
    given = λ n l. go n l (cases_order n site);
    others = λ n le. elsewhere n (λ q. omega (arith, le, q)) ∙ h.others n (omega (arith, le));
  })
    where
      here : (n : ℕ) → n ≡ site → label_at (slice_set labels site Secret) n ≡ label_of (get_or reached n false)
      here n q = ap (λ (k : ℕ). label_at (slice_set labels site Secret) k) q ∙ at_site ∙ sym (ap label_of (ap (λ (k : ℕ). get_or reached k false) q ∙ get_or_from_slice_get reached site true false there))

      go : (n : ℕ) → n < site + 1 → (n ≡ site) ⊎ ((n < site) ⊎ (site < n)) → label_at (slice_set labels site Secret) n ≡ label_of (get_or reached n false)
      go n l (inl q) = here n q
      go n l (inr (inl m)) = elsewhere n (λ q. omega (arith, m, q)) ∙ h.given n m
      go n l (inr (inr m)) = absurd (omega (arith, l, m))

pub labels_end : (reached : List Bool) (labels : List Label) (site : ℕ) → length reached ≤ site → LabelsGiven reached labels site → (n : ℕ) → label_at labels n ≡ label_of (get_or reached n false)
labels_end reached labels site le h n = go (cases_order n site)
  where
    past : site ≤ n → label_at labels n ≡ label_of (get_or reached n false)
    past m = h.others n m ∙ ap label_of (sym (sym (unwrap_or-slice_get reached n false) ∙ ap (λ o. unwrap_or o false) (slice_get_past reached n (omega (arith, m, le)))))

    go : (n ≡ site) ⊎ ((n < site) ⊎ (site < n)) → label_at labels n ≡ label_of (get_or reached n false)
    go (inl e) = past (omega (arith, e))
    go (inr (inl m)) = h.given n m
    go (inr (inr m)) = past (omega (arith, m))

-- ---- what is reached

to_last : (goals nodes : List ℕ) → EndsIn goals nodes → EndsIn (last_of nodes ∷ []) nodes
to_last goals [] h = absurd h
to_last goals (x ∷ []) h = (0, omega arith, refl)
to_last goals (x ∷ y ∷ nodes) h =
    let e : length (x ∷ y ∷ nodes) - 1 ≡ suc (length (y ∷ nodes) - 1) = omega arith in
    subst (λ (k : ℕ). EndsIn (slice_index (x ∷ y ∷ nodes) k ∷ []) (y ∷ nodes)) (sym e) (to_last goals (y ∷ nodes) h)

to_goal : (goals : List ℕ) (n : ℕ) (nodes : List ℕ) → Contains goals n → EndsIn (n ∷ []) nodes → EndsIn goals nodes
to_goal goals n [] c e = absurd e
to_goal goals n (x ∷ []) c e = subst (Contains goals) (only n x e) c
to_goal goals n (x ∷ y ∷ nodes) c e = to_goal goals n (y ∷ nodes) c e

module _ (g : List (List Edge)) (starts goals : List ℕ) (reached : List Bool) (seen : (n : ℕ) → (slice_get reached n ≡ Some true) ↔ Reached g starts n) where
  -- no goal is reached
  pub none_lead : ((n : ℕ) → Contains goals n → slice_get reached n ≡ Some true → ⊥) → (nodes : List ℕ) → Leads g starts goals nodes → ⊥
  none_lead unmet nodes h = unmet (last_of nodes) (last_ends goals nodes h.2) ((seen (last_of nodes)).1 (nodes, (h.0, h.1, to_last goals nodes h.2)))

  -- a goal is reached
  pub one_leads : (n : ℕ) → Contains goals n → slice_get reached n ≡ Some true → (nodes : List ℕ) × Leads g starts goals nodes
  one_leads n c e = let r = (seen n).0 e in (r.0, (r.1.0, r.1.1, to_goal goals n r.0 c r.1.2))

  secret_there : (n : ℕ) → label_of (get_or reached n false) ≡ Secret → slice_get reached n ≡ Some true
  secret_there n e = go (get_or reached n false) refl e
    where
      go : (b : Bool) → get_or reached n false ≡ b → label_of b ≡ Secret → slice_get reached n ≡ Some true
      go true q s = by_order (cases_order n (length reached))
        where
          past : length reached ≤ n → ⊥
          past le = let w : true ≡ false = sym q ∙ sym (unwrap_or-slice_get reached n false) ∙ ap (λ o. unwrap_or o false) (slice_get_past reached n le) in cc

          by_order : (n ≡ length reached) ⊎ ((n < length reached) ⊎ (length reached < n)) → slice_get reached n ≡ Some true
          by_order (inl d) = absurd (past (omega (arith, d)))
          by_order (inr (inl lt)) = slice_get-get_or reached n false lt ∙ ap Some q
          by_order (inr (inr lt)) = absurd (past (omega (arith, lt)))
      go false q s = absurd cc

  pub reached_labels : (labels : List Label) → length labels ≡ length g → ((n : ℕ) → label_at labels n ≡ label_of (get_or reached n false)) → ((n : ℕ) → Contains goals n → slice_get reached n ≡ Some true → ⊥) → IsReachedLabelling g starts goals labels
  reached_labels labels l e unmet = record {
    sized = l;
    secret = λ n. ((λ s. (seen n).0 (secret_there n (sym (e n) ∙ s))), (λ r. e n ∙ ap label_of (get_or_from_slice_get reached n true false ((seen n).1 r))));
    none = none_lead unmet;
  }

pub all_below : (a b : ℕ) → a ≡ b → (xs : List ℕ) → All (λ n. n < b) xs → All (λ n. n < a) xs
all_below a b e xs h = All-weaker (λ n. n < b) (λ n. n < a) (λ n lt. omega (arith, lt, e)) xs h

-- the last node of a path to a goal is below what all goals are below
pub last_below : (g : List (List Edge)) (starts goals nodes : List ℕ) (count : ℕ) → Leads g starts goals nodes → All (λ n. n < count) goals → last_of nodes < count
last_below g starts goals nodes count h all = All-contains (λ n. n < count) goals (last_of nodes) all (last_ends goals nodes h.2)

-- a link leads from a node
linked_within : (g : List (List Edge)) (x y : ℕ) → HasLink g x y → x < length g
linked_within g x y h = go g x h.0 h.1
  where
    go : (g : List (List Edge)) (x : ℕ) (e : Edge) → Contains (row g x) e → x < length g
    go [] x e c = absurd (omega (arith, c.1))
    go (r ∷ g) zero e c = omega arith
    go (r ∷ g) (suc x) e c = let lt = go g x e c in omega (arith, lt)

-- the nodes of a path to a goal are nodes of the graph
pub path_within : (g : List (List Edge)) (goals nodes : List ℕ) (count : ℕ) → length g ≡ count → All (λ n. n < count) goals → IsPath g nodes → EndsIn goals nodes → All (λ n. n < count) nodes
path_within g goals [] count e all p ends = absurd p
path_within g goals (x ∷ []) count e all p ends = All-cons (λ n. n < count) x [] (All-contains (λ n. n < count) goals x all ends) (All-nil (λ n. n < count))
path_within g goals (x ∷ y ∷ nodes) count e all p ends =
    let lt = linked_within g x y p.0 in
    All-cons (λ n. n < count) x (y ∷ nodes) (omega (arith, lt, e)) (path_within g goals (y ∷ nodes) count e all p.1 ends)
