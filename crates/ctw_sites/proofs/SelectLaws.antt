-- What a `select` leaves and pushes.
use Rattle.std.proofs.Common.{◌≡◌, ℕ, ◌+◌, List, [], ◌∷◌, Option, Some, None, refl, sym, ◌∙◌, ap}
use Rattle.ctw_ops.specs.declared.types.Width.{Width}
use Rattle.ctw_stack.specs.declared.slot.Slot.TheVariants.{Known, Wide}
use Rattle.ctw_stack.specs.Operands.{push}
use Rattle.ctw_stack.specs.Opens.{Open, with_operands, after_push}
use Rattle.ctw_labels.specs.declared.tag.Tag.{Tag}
use Rattle.ctw_labels.specs.declared.tag.Tag.TheVariants.{At}
use Rattle.ctw_labels.specs.declared.name.SiteName.{SiteName}
use Rattle.ctw_labels.specs.Names.{push_site}
use Rattle.ctw_sites.specs.Rows.{rest_of, rests}
use Rattle.ctw_sites.specs.Leaves.{top_width, either, chosen_width, chosen_slot, chosen_push, selected}
use Rattle.ctw_sites.specs.Stacks.{on_innermost, of_innermost}

abbrev pub without : List (Open Tag) → List (Open Tag)
without b = on_innermost rest_of b

abbrev pub widths : List (Open Tag) → Option Width
widths b = either (of_innermost top_width (without b)) (of_innermost top_width (without (without b)))

pub width_is : (b : List (Open Tag)) → of_innermost chosen_width b ≡ widths b
width_is [] = refl
width_is (v ∷ outer) = refl

pub known_put : (n s : ℕ) (w : Width) (b : List (Open Tag)) → s ≡ n + 1 → after_push (Known w (At s)) b ≡ on_innermost (push (chosen_slot n (Some w))) b
known_put n s w [] e = refl
known_put n s w (v ∷ outer) e = ap (λ z. with_operands v (push (Known w (At z)) v.operands) ∷ outer) e

pub wide_put : (n : ℕ) (b : List (Open Tag)) → after_push (Wide (At n)) b ≡ on_innermost (push (chosen_slot n None)) b
wide_put n [] = refl
wide_put n (v ∷ outer) = refl

-- what is put on by the width of the operands is what the `select` leaves
pub put_is : (n : ℕ) (w : Option Width) (b : List (Open Tag)) → w ≡ widths b → on_innermost (push (chosen_slot n w)) (without (without (without b))) ≡ on_innermost (selected n) b
put_is n w [] f = refl
put_is n w (v ∷ outer) f = ap (λ z. with_operands v (push (chosen_slot n z) (rests 3 v.operands)) ∷ outer) f
