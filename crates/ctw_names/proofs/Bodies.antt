-- What a walk over a body has made of it so far, with one more instruction.
use Rattle.std.proofs.Common.{◌≡◌, List, [], ◌∷◌, ◌++◌, ap, sym, ◌∙◌}
use Rattle.std.specs.Prelude.{Option}
use Rattle.std.proofs.lemmas.List.{append_assoc}
use Rattle.ctw_ops.specs.declared.types.Label.{Label}
use Rattle.ctw_ops.specs.Code as ops
use Rattle.ctw_text.specs.Written.{Name}
use Rattle.ctw_text.specs.declared.fields.Raw.{Raw}
use Rattle.ctw_text.specs.Names.{NameFault, Scope, body_faults, labels_behind, op_of, ops_of, raw_faults}
use Rattle.ctw_names.specs.Noted.{noted}
use Rattle.ctw_names.proofs.Noting.{noted_append}

module _ (s : Scope) (raw : Raw) (labels after : List (Option Name)) (behind : after ≡ labels_behind raw labels) (rest left : List Raw) (split : left ≡ raw ∷ rest) where
  pub ops_then : (before os : List (ops.Op Label)) (op : ops.Op Label) (all : List (ops.Op Label)) → op ≡ op_of s labels raw → os ≡ before ++ op ∷ [] → before ++ ops_of s labels left ≡ all → os ++ ops_of s after rest ≡ all
  ops_then before os op all is grown so_far =
      ap (λ (l : List (ops.Op Label)). l ++ ops_of s after rest) grown ∙ append_assoc before (op ∷ []) (ops_of s after rest)
      ∙ ap (λ (l : List (Option Name)). before ++ op ∷ ops_of s l rest) behind ∙ ap (λ (o : ops.Op Label). before ++ o ∷ ops_of s (labels_behind raw labels) rest) is
      ∙ ap (λ (l : List Raw). before ++ ops_of s labels l) (sym split) ∙ so_far

  pub faults_then : (b c all : Option NameFault) → c ≡ noted b (raw_faults s labels raw) → noted b (body_faults s labels left) ≡ all → noted c (body_faults s after rest) ≡ all
  faults_then b c all grown so_far =
      ap (λ (k : Option NameFault). noted k (body_faults s after rest)) grown ∙ ap (λ (l : List (Option Name)). noted (noted b (raw_faults s labels raw)) (body_faults s l rest)) behind
      ∙ sym (noted_append (raw_faults s labels raw) (body_faults s (labels_behind raw labels) rest) b)
      ∙ ap (λ (l : List Raw). noted b (body_faults s labels l)) (sym split) ∙ so_far
