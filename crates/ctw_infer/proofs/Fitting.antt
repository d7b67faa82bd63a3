-- What the search through the links answers is what is asked of a plain module's labels.
use Rattle.std.proofs.Common.{◌≡◌, ◌≤◌, ◌<◌, ℕ, Bool, true, false, List, [], length, Some, slice_get, unwrap_or, ◌⊎◌, inl, inr, refl, sym, ap, ◌∙◌, subst, arith}
use Rattle.std.specs.Prelude.{◌↔◌, Contains, Result, Ok, Err, IfOk, IfErr}
use Rattle.std.proofs.lemmas.Option.{none-some}
use Rattle.ctw_ops.specs.declared.types.Label.{Label}
use Rattle.ctw_ops.specs.declared.types.Label.TheVariants.{Public, Secret}
use Rattle.ctw_ops.specs.Types.{IsBelow}
use Rattle.ctw_ops.specs.Tree.{Module}
use Rattle.ctw_ops.specs.Valid.{IsValid}
use Rattle.ctw_flow.specs.declared.graph.Edge.{Edge}
use Rattle.ctw_flow.specs.Path.{Reached}
use Rattle.ctw_labels.specs.declared.name.SiteName.{SiteName}
use Rattle.ctw_labels.specs.Names.{Site}
use Rattle.ctw_labels.specs.Points.{Points, AreReleases}
use Rattle.ctw_labels.specs.Kept.{IsKept}
use Rattle.ctw_labels.specs.ModuleLinks.{links, musts}
use Rattle.ctw_labels.specs.SitedModule.{sites}
use Rattle.ctw_labels.specs.Fits.{Mark, Fits, IsLabelling, IsBelowAll, label_at, must_of}
use Rattle.ctw_links.specs.Collected.{must_at}
use Rattle.ctw_least.specs.Flows.{IsMarked, IsEnd, IsGraphOf, label_of}
use Rattle.ctw_least.proofs.LeastLaws.{infer_ok, infer_flow}
use Rattle.ctw_sites.specs.declared.fault.SitesFault.{SitesFault}
use Rattle.ctw_sites.specs.declared.fault.SitesFault.TheVariants as site
use Rattle.ctw_sites.specs.Refused.{IsRefusal}
use Rattle.ctw_infer.specs.declared.fault.InferFault.{InferFault}
use Rattle.ctw_infer.specs.declared.fault.InferFault.TheVariants.{Labelled, TooManySites, TrustCall, TrustTable, Flow as FlowFault, NoMemory}
use Rattle.ctw_infer.specs.Answers.{IsMisuse, IsInferable, IsRefusedPlain, IsRefused, fault_of_sites}
use Rattle.ctw_least.specs.Marked.{marks_on}
use Rattle.ctw_least.specs.Flows.{last_of, marked}
use Rattle.ctw_infer.specs.Searched.{IsReachedLabelling, IsFound, IsWithin}
use Rattle.ctw_infer.proofs.Ends.{IsRuled}
use Rattle.ctw_infer.proofs.Keeping.{kept_clear}
use Rattle.ctw_least.proofs.LeastRules.{least_rules, must_there, must_is}

abbrev is_secret : Label → Bool
is_secret Public = false
is_secret Secret = true

from_secret : (l : Label) → label_of (is_secret l) ≡ l
from_secret Public = refl
from_secret Secret = refl

false_true : false ≡ true → ⊥
false_true e = cc

public_secret : Public ≡ Secret → ⊥
public_secret e = cc

secret_is : (l : Label) → (is_secret l ≡ true) ↔ (l ≡ Secret)
secret_is Public = ((λ e. absurd (false_true e)), (λ e. absurd (public_secret e)))
secret_is Secret = ((λ e. refl), (λ e. refl))

-- what is collected of a module, and where the search begins and ends
pub record IsSearchOf (m : Module Label) (p : Points) (marks : List Mark) (g : List (List Edge)) (collected : List ℕ) (starts goals : List ℕ) : Type 0 where
  pub graph : IsGraphOf (links m p) g
  pub nodes : length g ≡ length (sites m)
  pub rules : (n : ℕ) → must_at collected n ≡ must_of n (musts m p)
  pub begins : (n : ℕ) → Contains starts n ↔ IsMarked marks n Secret
  pub ends : (n : ℕ) → Contains goals n ↔ (IsRuled collected n ⊎ IsMarked marks n Public)

-- by what the calls answer that find these
pub search_of : (m : Module Label) (p : Points) (named : List (SiteName × Label)) (s : List Site) (g : List (List Edge)) (rules starts goals found ends : List ℕ) → s ≡ sites m → starts ≡ found → goals ≡ ends
    → IsGraphOf (links m p) g → length g ≡ length (sites m) → ((n : ℕ) → must_at rules n ≡ must_of n (musts m p))
    → ((n : ℕ) → Contains found n ↔ IsMarked (marks_on s named) n Secret) → ((n : ℕ) → Contains ends n ↔ (((r : ℕ) × (must_at rules n ≡ Some r)) ⊎ IsMarked (marks_on s named) n Public))
    → IsSearchOf m p (marks_on (sites m) named) g rules starts goals
search_of m p named s g rules starts goals found ends e d q graph nodes least marked_starts marked_ends = record {
  graph = graph;
  nodes = nodes;
  rules = least;
  begins = λ n. subst (λ z. Contains starts n ↔ IsMarked (marks_on z named) n Secret) e (subst (λ z. Contains z n ↔ IsMarked (marks_on s named) n Secret) (sym d) (marked_starts n));
  ends = λ n. subst (λ z. Contains goals n ↔ (IsRuled rules n ⊎ IsMarked (marks_on z named) n Public)) e (subst (λ z. Contains z n ↔ (IsRuled rules n ⊎ IsMarked (marks_on s named) n Public)) (sym q) (marked_ends n));
}

module _ (m : Module Label) (v : IsValid m) (plain : m.ct ≡ false) (p : Points) (releases : AreReleases p) (kept : IsKept m p) (marks : List Mark) (g : List (List Edge)) (rules : List ℕ) (starts goals : List ℕ) (h : IsSearchOf m p marks g rules starts goals) where
  ruled_there : (n : ℕ) → IsRuled rules n → (r : ℕ) × Contains (musts m p) (record { site = n; rule = r })
  ruled_there n r = (r.0, must_there n (musts m p) r.0 (sym (h.rules n) ∙ r.1))

  there_ruled : (n : ℕ) → (r : ℕ) × Contains (musts m p) (record { site = n; rule = r }) → IsRuled rules n
  there_ruled n c = let e = must_is n (musts m p) c.0 c.1 in (e.0, h.rules n ∙ e.1)

  to_ends : (n : ℕ) → Contains goals n ↔ IsEnd (musts m p) marks n
  to_ends n = ((λ c. there ((h.ends n).0 c)), (λ c. (h.ends n).1 (back c)))
    where
      there : IsRuled rules n ⊎ IsMarked marks n Public → IsEnd (musts m p) marks n
      there (inl r) = inl (ruled_there n r)
      there (inr c) = inr c

      back : IsEnd (musts m p) marks n → IsRuled rules n ⊎ IsMarked marks n Public
      back (inl r) = inl (there_ruled n r)
      back (inr c) = inr c

  module _ (labels : List Label) (r : IsReachedLabelling g starts goals labels) where
    seen : (n : ℕ) → (is_secret (label_at labels n) ≡ true) ↔ Reached g starts n
    seen n = let s = secret_is (label_at labels n) in ((λ e. (r.secret n).0 (s.0 e)), (λ q. s.1 ((r.secret n).1 q)))

    same : (λ n. label_of (is_secret (label_at labels n))) ≡ label_at labels
    same = λ i n. from_secret (label_at labels n) i

    pub found_sized : IsLabelling m labels
    found_sized = r.sized ∙ h.nodes

    pub found_fits : Fits m p marks (label_at labels)
    found_fits = subst (Fits m p marks) same (infer_ok m (v.formed.plain plain) v p releases kept marks g starts goals h.graph h.begins to_ends (λ n. is_secret (label_at labels n)) seen r.none).0

    pub found_least : (k : ℕ → Label) → Fits m p marks k → IsBelowAll (length (sites m)) (label_at labels) k
    found_least k f n lt = subst (λ l. IsBelow l (k n)) (from_secret (label_at labels n)) ((infer_ok m (v.formed.plain plain) v p releases kept marks g starts goals h.graph h.begins to_ends (λ n. is_secret (label_at labels n)) seen r.none).1 k f n)

  pub found_refused : (e : InferFault) → IsFound g rules starts goals e → IsRefusedPlain m p marks e
  found_refused Labelled f = absurd f
  found_refused (TooManySites count) f = absurd f
  found_refused (TrustCall caller at callee) f = absurd f
  found_refused (TrustTable func) f = absurd f
  found_refused (FlowFault w) f =
      let r = infer_flow m (v.formed.plain plain) v p releases kept marks g starts goals h.graph h.begins to_ends (record { nodes = w.sites; rules = w.rules }) f.0 in (
        kept,
        r.3,
        record {
          flow = r.0;
          shortest = r.1;
          least = r.2;
          rules = least_rules (links m p) g h.graph w.sites w.rules f.0.ruled;
          last = f.1 ∙ ap (λ o. unwrap_or o marked) (h.rules (last_of w.sites));
        },
      )
  found_refused NoMemory f = tt

-- where trust is misused, that is the answer
pub misuse_refused : (m : Module Label) (p : Points) (marks : List Mark) (e : InferFault) → IsMisuse m p e → IsRefusedPlain m p marks e
misuse_refused m p marks Labelled h = absurd h
misuse_refused m p marks (TooManySites count) h = absurd h
misuse_refused m p marks (TrustCall caller at callee) h = h
misuse_refused m p marks (TrustTable func) h = h
misuse_refused m p marks (FlowFault w) h = absurd h
misuse_refused m p marks NoMemory h = tt

-- no misuse is a flow
pub misuse_within : (m : Module Label) (p : Points) (count : ℕ) (e : InferFault) → IsMisuse m p e → IsWithin count e
misuse_within m p count Labelled h = absurd h
misuse_within m p count (TooManySites n) h = absurd h
misuse_within m p count (TrustCall caller at callee) h = tt
misuse_within m p count (TrustTable func) h = tt
misuse_within m p count (FlowFault w) h = absurd h
misuse_within m p count NoMemory h = tt

-- ---- where a labelling fits

not_both : (a b : ℕ) → a < b → b ≤ a → ⊥
not_both a b lt le = omega (arith, lt, le)

none_first : {A : Type 0} (xs : List A) (x : A) → xs ≡ [] → slice_get xs 0 ≡ Some x → ⊥
none_first xs x e f = none-some x (ap (λ l. slice_get l 0) (sym e) ∙ f)

module _ (m : Module Label) (p : Points) (marks : List Mark) (k : ℕ → Label) (f : Fits m p marks k) (inferable : IsInferable m) where
  -- no fault but want of memory comes
  pub refused_fits : (e : InferFault) → IsRefused m p marks e → e ≡ NoMemory
  refused_fits Labelled h = let w : true ≡ false = sym h ∙ inferable.0 in absurd cc
  refused_fits (TooManySites count) h = absurd (not_both _ _ h.1 inferable.1)
  refused_fits (TrustCall caller at callee) h = absurd (none_first _ _ (kept_clear m p f.kept).0 h.1)
  refused_fits (TrustTable func) h = absurd (none_first _ _ (kept_clear m p f.kept).1 h.1.1)
  refused_fits (FlowFault w) h = absurd (h.1.1 k f)
  refused_fits NoMemory h = refl

-- ---- answers that are passed on

pub if_ok : {T E : Type 0} (P Q : T → Type 0) (r : Result T E) → ((x : T) → P x → Q x) → IfOk r P → IfOk r Q
if_ok P Q (Ok x) f h = f x h
if_ok P Q (Err e) f h = tt

pub if_err : {T E : Type 0} (P Q : E → Type 0) (r : Result T E) → ((e : E) → P e → Q e) → IfErr r P → IfErr r Q
if_err P Q (Ok x) f h = tt
if_err P Q (Err e) f h = f e h

pub whatever : {T E : Type 0} (X : Type 0) (r : Result T E) → X → IfOk r (λ _. X)
whatever X (Ok x) h = h
whatever X (Err e) h = tt

pub plain_refused : (m : Module Label) (p : Points) (marks : List Mark) → IsInferable m → (e : InferFault) → IsRefusedPlain m p marks e → IsRefused m p marks e
plain_refused m p marks i Labelled h = absurd h
plain_refused m p marks i (TooManySites count) h = absurd h
plain_refused m p marks i (TrustCall caller at callee) h = (i, h)
plain_refused m p marks i (TrustTable func) h = (i, h)
plain_refused m p marks i (FlowFault w) h = (i, h)
plain_refused m p marks i NoMemory h = tt

pub sites_refused : (m : Module Label) (p : Points) (marks : List Mark) → m.ct ≡ false → (f : SitesFault) → IsRefusal (length (sites m)) f → IsRefused m p marks (fault_of_sites f)
sites_refused m p marks plain (site.TooManySites count) h = (plain, h.1, h.0)
sites_refused m p marks plain site.NoMemory h = tt
