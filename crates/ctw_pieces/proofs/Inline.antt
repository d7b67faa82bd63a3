-- Inline exports and imports among the words of a field.
use Rattle.std.proofs.Common.{◌≡◌, ℕ, Bool, true, false, refl}
use Rattle.std.specs.Prelude.{option_map}
use Rattle.ctw_ops.specs.declared.types.ExternTag.{ExternTag}
use Rattle.ctw_text.specs.declared.keys.Key.{Key}
use Rattle.ctw_text.specs.declared.keys.Key.TheVariants.{Export as KExport, Import as KImport}
use Rattle.ctw_text.specs.declared.sorts.Before.{Before}
use Rattle.ctw_text.specs.declared.sorts.Sort.TheVariants.{Fields}
use Rattle.ctw_text.specs.Grammar.{before_sort, defining}
use Rattle.ctw_text.specs.Machine.{body_word, extern_word}
use Rattle.ctw_pieces.specs.Split.{is_inline_word, inline_word}

pub inline : (ct : Bool) (tag : ExternTag) (b : Before) (at : ℕ) (key : Key) → is_inline_word key ≡ true
    → inline_word tag b key ≡ extern_word ct tag b at key
inline ct tag b at KExport e = refl
inline ct tag b at KImport e = refl
inline ct tag b at _ e = absurd cc

pub other : (ct : Bool) (tag : ExternTag) (b : Before) (at : ℕ) (key : Key) → is_inline_word key ≡ false
    → option_map (λ m. before_sort m (Fields (defining b))) (body_word ct tag at key) ≡ extern_word ct tag b at key
other ct tag b at KExport e = absurd cc
other ct tag b at KImport e = absurd cc
other ct tag b at _ e = refl
