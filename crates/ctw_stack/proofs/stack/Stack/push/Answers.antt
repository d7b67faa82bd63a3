use Rattle.std.proofs.Common.{length, ◌<◌, ◌-◌, ◌^◌, subst, sym}
use Rattle.ctw_stack.specs.Opens.{slot_count}
use Rattle.ctw_stack.proofs.View.{sound_push, push_view}
use Rattle.ctw_stack.proofs.stack.Stack.push.Goals as goal

pub invariant_of-self-2 : goal.invariant_of-self-2
invariant_of-self-2 g c =
    rw c.in_ok-push.ensures.items
    (sound_push _ c.self.invariant (subst (λ z. 0 < length z) (sym c.self.view_is) c.requires.open) (subst (λ z. slot_count z < 2 ^ 32 - 1) (sym c.self.view_is) c.requires.few))

pub returns : goal.returns
returns g c = rw (c.in_ok-push.ensures.items, ← c.self.view_is) (push_view _ c.self.invariant (subst (λ z. 0 < length z) (sym c.self.view_is) c.requires.open))
