-- The texts of a plain module and of its placed one are short.
use Rattle.std.proofs.Common.{◌≡◌, ◌≤◌, ◌<◌, ◌^◌, ℕ, ◌+◌, false, List, [], ◌∷◌, length, map, Option, Some, None, refl, sym, ap, subst, ◌∙◌, arith, length-append}
use Rattle.std.proofs.lemmas.List.{length-map}
use Rattle.ctw_ops.specs.declared.types.Label.{Label}
use Rattle.ctw_ops.specs.Limits.{most_plain_bytes, most_locals_of_all}
use Rattle.ctw_ops.specs.Plain.{IsPlainModule}
use Rattle.ctw_ops.specs.declared.numeric.Profile.TheVariants.{Divide}
use Rattle.ctw_ops.specs.Tree.{Module, TypeEntry, under}
use Rattle.ctw_ops.specs.Valid.{IsValid}
use Rattle.ctw_form.specs.Spelled.{Spells}
use Rattle.ctw_leb.specs.Spelling.{u32_text}
use Rattle.ctw_form.proofs.Weights.{weight}
use Rattle.ctw_module.specs.Trees.{Lent, tree, view_module, view_of}
use Rattle.ctw_module.proofs.SpelledTrees.{tree_is}
use Rattle.ctw_module.proofs.Sizes.{locals_in, sizes}
use Rattle.ctw_labels.specs.declared.tag.Tag.{Tag}
use Rattle.ctw_labels.specs.Points.{Points, AreReleases}
use Rattle.ctw_labels.specs.Placed.{placed, placed_types, variant_entry, variants}
use Rattle.ctw_labels.specs.SitedModule.{sites}
use Rattle.ctw_labels.proofs.BodyLaws.{base_uses}
use Rattle.ctw_sites.specs.Packed.{most_sites}
use Rattle.ctw_write.specs.KeepsLimits.{KeepsLimits}
use Rattle.ctw_write.proofs.KeptModules.{module_limited}
use Rattle.ctw_write.specs.Canon.{all_texts, vector_text, type_entry_text, items_text, sections_text, canon}
use Rattle.ctw_write.proofs.CanonicalText.{canonical_shortest}
use Rattle.ctw_write.proofs.FormedNumbers.{number_some}
use Rattle.ctw_write.proofs.Shorter.{section_short}
use Rattle.ctw_place.specs.declared.setting.Setting.{Setting}
use Rattle.ctw_place.specs.Bodies.{placed_of, HasShortTexts}
use Rattle.ctw_place.specs.Limits.{most_ct_bytes}
use Rattle.ctw_place.specs.Settings.{module_of, labels_of, points_of}
use Rattle.ctw_place.proofs.Limited.{limits_placed}
use Rattle.ctw_place.proofs.SizeLaws.{placed_most}

entry_some : (e : TypeEntry Label) → 1 ≤ length (type_entry_text e)
entry_some e = of e.base
  where
    of : (b : Option ℕ) → 1 ≤ length (type_entry_text (record { base = b; type = e.type }))
    of None = omega arith
    of (Some base) = omega arith

entries_some : (es : List (TypeEntry Label)) → length es ≤ length (all_texts type_entry_text es)
entries_some [] = omega arith
entries_some (e ∷ es) = omega (arith, entries_some es, entry_some e, length-append (type_entry_text e) (all_texts type_entry_text es))

entries_few : (es : List (TypeEntry Label)) → length (items_text 1 type_entry_text es) < 2 ^ 32 → length es + 1 < 2 ^ 32
entries_few [] lt = omega arith
entries_few (e ∷ es) lt =
    let v = vector_text type_entry_text (e ∷ es) in
    omega (arith, lt, entries_some (e ∷ es), length-append (u32_text (length v)) v, length-append (u32_text (length (e ∷ es))) (all_texts type_entry_text (e ∷ es)), number_some (length v))

module _ (w : Lent) (sp : Spells w.bytes (tree w)) (ct : (view_module w).ct ≡ false) (few : length (sites (view_module w)) ≤ most_sites) (pl : IsPlainModule (view_module w)) where
  short : length w.bytes ≤ most_plain_bytes
  short = sp.small (ap (λ (m : Module Label). m.ct) sp.made ∙ ct)

  -- the profile isn't spelled
  same : canon (view_module w) ≡ canon (tree w)
  unfolding canon sections_text
  same = refl

  pub placed_within : (L : Tag → Label) (p : Points) → length (canon (placed L (view_module w) p)) ≤ most_ct_bytes
  unfolding most_ct_bytes most_plain_bytes most_locals_of_all
  placed_within L p =
      let s : length w.bytes ≤ 2097152 = short in
      let l : weight locals_in (view_module w).functions ≤ 1000000 = (sizes w sp).locals in
      omega (arith, placed_most L (view_module w) p pl, s, l, few, ap length same, canonical_shortest w.bytes (tree w) sp)

  own_short : length (canon (tree w)) < 2 ^ 32
  unfolding most_plain_bytes
  own_short = let s : length w.bytes ≤ 2097152 = short in omega (arith, s, canonical_shortest w.bytes (tree w) sp)

  placed_short : (L : Tag → Label) (p : Points) → length (canon (placed L (view_module w) p)) < 2 ^ 32
  unfolding most_ct_bytes
  placed_short L p = let s : length (canon (placed L (view_module w) p)) ≤ 67108864 = placed_within L p in omega (arith, s)

-- there are few type entries where the placed module is short
types_few : (L : Tag → Label) (m : Module Label) (p : Points) → length (canon (placed L m p)) < 2 ^ 32 → length m.types + length (variants L m p) + 1 < 2 ^ 32
types_few L m p lt = omega (arith, entries_few (placed_types L m p) (section_short (placed L m p) 1 lt), length-append m.types (map variant_entry (variants L m p)), length-map (variants L m p) variant_entry)

-- also for a setting of the module
pub short_texts : (w : Lent) → Spells w.bytes (tree w) → (view_module w).ct ≡ false → length (sites (view_module w)) ≤ most_sites → IsPlainModule (view_module w) → (s : Setting) → s.whole.now ≡ w → HasShortTexts s
short_texts w sp ct few pl s e =
    let same : placed_of s ≡ placed (labels_of s) (view_module w) (points_of s) = ap (λ (v : Lent). placed (labels_of s) (view_module v) (points_of s)) e in
    let lt : length (canon (placed_of s)) < 2 ^ 32 = omega (arith, ap (λ (m : Module Label). length (canon m)) same, placed_short w sp ct few pl (labels_of s) (points_of s)) in
    record {
      own = omega (arith, ap (λ (v : Lent). length (canon (tree v))) e, own_short w sp ct few pl);
      placed = lt;
      few = types_few (labels_of s) (module_of s) (points_of s) lt;
    }

-- ---- of bytes

module _ (bytes : List ℕ) (m : Module Label) (s : Spells bytes m) (ct : m.ct ≡ false) (v : IsValid m) (few : length (sites m) ≤ most_sites) where
  viewed : view_module (view_of bytes) ≡ m
  viewed = ap (under Divide) (tree_is bytes m s) ∙ (λ i. record m { profile = sym (module_limited bytes m s).profile i })

  pub spelled_within : (L : Tag → Label) (p : Points) → length (canon (placed L m p)) ≤ most_ct_bytes
  spelled_within L p =
      subst (λ (n : Module Label). length (canon (placed L n p)) ≤ most_ct_bytes) viewed (
      placed_within (view_of bytes) (subst (Spells bytes) (sym (tree_is bytes m s)) s) (ap (λ (n : Module Label). n.ct) viewed ∙ ct)
      (subst (λ (n : Module Label). length (sites n) ≤ most_sites) (sym viewed) few) (subst IsPlainModule (sym viewed) (v.formed.plain ct)) L p
      )

  pub spelled_limits : (L : Tag → Label) (p : Points) → AreReleases p → KeepsLimits (placed L m p)
  unfolding most_ct_bytes
  spelled_limits L p r =
      let most : length (canon (placed L m p)) ≤ 67108864 = spelled_within L p in
      let lt : length (canon (placed L m p)) < 2 ^ 32 = omega (arith, most) in
      limits_placed L m p (module_limited bytes m s) (omega (arith, types_few L m p lt)) (base_uses m (v.formed.plain ct) v p r) lt
