-- What the targets of a table tell, by the labels of the open blocks.
use Rattle.std.proofs.Common.{◌≡◌, ℕ, List, [], ◌∷◌, ◌++◌, map, Option, Some, None, refl, sym, ◌∙◌, ap, append_assoc}
use Rattle.std.specs.Prelude.{slice_get}
use Rattle.ctw_ops.specs.Types.{ValueType}
use Rattle.ctw_ops.specs.Typing.{Context}
use Rattle.ctw_stack.specs.Opens.{Open, label_of, target_of}
use Rattle.ctw_labels.specs.declared.tag.Tag.{Tag}
use Rattle.ctw_labels.specs.Links.{Fact, after, result_facts, label_facts}
use Rattle.ctw_links.specs.Asks.{target_told, targets_told, told_under, table_told}

module _ (C : Context Tag) (b : List (Open Tag)) (own : C.labels ≡ map label_of b) where
  one_some : (t : ValueType Tag) (x : Option (Option (ValueType Tag))) → after x (λ u. result_facts 9 u (Some t)) ≡ target_told t.tag x
  one_some t None = refl
  one_some t (Some None) = refl
  one_some t (Some (Some u)) = refl

  one_none : (x : Option (Option (ValueType Tag))) → after x (λ u. result_facts 9 u None) ≡ []
  one_none None = refl
  one_none (Some None) = refl
  one_none (Some (Some u)) = refl

  labels_some : (t : ValueType Tag) (ks : List ℕ) → label_facts 9 C (Some t) ks ≡ targets_told t.tag ks b
  labels_some t [] = refl
  labels_some t (k ∷ ks) = λ i. (one_some t (slice_get C.labels k) ∙ ap (λ z. target_told t.tag (slice_get z k)) own) i ++ labels_some t ks i

  labels_none : (ks : List ℕ) → label_facts 9 C None ks ≡ []
  labels_none [] = refl
  labels_none (k ∷ ks) = λ i. one_none (slice_get C.labels k) i ++ labels_none ks i

  under_is : (ks : List ℕ) (x : Option (Option (ValueType Tag))) → after x (λ t. label_facts 9 C t ks) ≡ told_under x ks b
  under_is ks None = refl
  under_is ks (Some None) = labels_none ks
  under_is ks (Some (Some t)) = labels_some t ks

  pub table_is : (k : ℕ) (ks : List ℕ) → table_told k ks b ≡ after (slice_get C.labels k) (λ t. label_facts 9 C t ks)
  table_is k ks = sym (under_is ks (slice_get C.labels k) ∙ ap (λ z. told_under (slice_get z k) ks b) own)
