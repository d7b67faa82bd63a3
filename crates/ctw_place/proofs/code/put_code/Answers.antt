use Rattle.std.proofs.Common.{◌≡◌, ◌≤◌, ◌<◌, ◌+◌, ◌-◌, ◌^◌, ◌++◌, ◌∷◌, [], None, false, ◌∙◌, length, Ok, Err, ap, sym, subst, refl, arith}
use Rattle.std.specs.Prelude.{reverse, map, unwrap_or}
use Rattle.ctw_ops.specs.declared.types.Label.{Label}
use Rattle.ctw_ops.specs.Code.{Code}
use Rattle.ctw_stack.specs.Opens.{opened}
use Rattle.ctw_stack.specs.Operands.{fresh}
use Rattle.ctw_flat.specs.Spelled.{IsBody}
use Rattle.ctw_flat.specs.Instructions.{op_of}
use Rattle.ctw_flat.specs.Places.{instr_in}
use Rattle.ctw_flat.proofs.Places.{instr_behind, one_body}
use Rattle.ctw_module.specs.Trees.{view_module}
use Rattle.ctw_labels.specs.declared.tag.Tag.TheVariants.{Fixed}
use Rattle.ctw_labels.specs.FlatSites.{GoesBy, opens_behind, op_sites}
use Rattle.ctw_labels.specs.Placed.{code_uses, use_to, with_uses}
use Rattle.ctw_labels.specs.SitedModule.{place_of, memory_tag}
use Rattle.ctw_labels.specs.Sited.{placed_code}
use Rattle.ctw_labels.specs.Numbering.{number}
use Rattle.ctw_sites.specs.Bodies.{code_sites, IsReady}
use Rattle.ctw_sites.specs.Scope.{memory_of}
use Rattle.ctw_sites.specs.declared.around.Around.{Around}
use Rattle.ctw_write.specs.Canon.{all_texts, op_text, body_text}
use Rattle.ctw_place.specs.declared.setting.Setting.{Setting}
use Rattle.ctw_place.specs.Flat.{ends_behind, lift_ops}
use Rattle.ctw_place.specs.Settings.{module_of, labels_of, points_of}
use Rattle.ctw_place.specs.Variants.{name_in, Holds}
use Rattle.ctw_place.specs.Walks.{place_under, scope_under, lift_behind}
use Rattle.ctw_place.proofs.OpLaws.{room_within}
use Rattle.ctw_place.proofs.WalkLaws.{Walking, walking_begins, walking_on, walking_few, walked_sites, walked_held, walked_text, walking_reads, first_goes, first_open, first_room}
use Rattle.ctw_place.proofs.code.put_code.Goals as goal

-- the body's place, as the setting has it
here : (s : Setting) (a : Around) → a.whole.now ≡ s.whole.now → place_under (points_of s) a ≡ place_of (module_of s) (points_of s) a.f
here s a e = λ i. place_of (view_module (e i)) (points_of s) a.f

-- the memory's label, as the body's scope has it
memory_here : (s : Setting) (a : Around) → a.whole.now ≡ s.whole.now → s.memory ≡ labels_of s (unwrap_or (memory_of a) Fixed)
unfolding memory_of
memory_here s a e = s.memory_is ∙ ap (λ z. labels_of s (unwrap_or (memory_tag (view_module z)) Fixed)) (sym e)

pub opcodes-init : goal.opcodes-init
opcodes-init c = record {
  bytes = c.new-walk.ensures.bytes;
  walking = λ before code h m r.
      let e = c.in_ok-enter.ensures ∙ (λ i. opened false (c.result.ensures i) ∷ c.clear.ensures i) in
      let es = ap reverse (c.in_ok-push.ensures.items ∙ ap (λ z. z ++ None ∷ []) c.clear-2.ensures.items) in
      walking_begins c.args.setting.now (points_of c.args.setting.now) c.args.around.now.f (scope_under (points_of c.args.setting.now) c.args.around.now) code c.args.n before
      c.args.body.now c.new-walk.result.place c.enter.new.self (reverse c.push.new.self.items) c.args.out.now.items c.args.variants.now c.new-walk.ensures.place refl m
      (subst (λ z. IsReady z (scope_under (points_of c.args.setting.now) c.args.around.now) code c.args.n) (here c.args.setting.now c.args.around.now c.requires.whole) r) e es h;
}

below : (c : goal.After-instr-in-opcodes-1) → c.opcodes.walk.place < length c.args.body.now
below c = subst (λ z. c.opcodes.walk.place < length z) c.opcodes.invariant.bytes (c.is_done.ensures.more c.opcodes-test.true)

reads : (c : goal.After-instr-in-opcodes-1) → instr_in c.args.body.now c.opcodes.walk.place ≡ Ok (op_of c.in-Ok.instr, c.next.new.self.place)
reads c = subst (λ z. instr_in z c.opcodes.walk.place ≡ Ok (op_of c.in-Ok.instr, c.next.new.self.place)) c.opcodes.invariant.bytes c.in-Ok.ensures.instr

now : (c : goal.After-instr-in-opcodes-1) → Walking c.args.setting.now (points_of c.args.setting.now) c.args.around.now.f (scope_under (points_of c.args.setting.now) c.args.around.now) c.requires.code.0 c.args.n c.requires.few.0 c.args.body.now c.opcodes.walk.place c.opcodes.at c.opcodes.site c.opcodes.stack (reverse c.opcodes.ends.items) c.args.out.now.items c.opcodes.out.items c.opcodes.variants
now c = c.opcodes.invariant.walking c.requires.few.0 c.requires.code.0 c.requires.few.1 c.requires.code.1 c.requires.code.2

goes : (c : goal.After-instr-in-opcodes-1) → GoesBy (place_of (module_of c.args.setting.now) (points_of c.args.setting.now) c.args.around.now.f) (scope_under (points_of c.args.setting.now) c.args.around.now) c.opcodes.site (op_of c.in-Ok.instr) c.opcodes.stack
goes c = first_goes c.args.setting.now (points_of c.args.setting.now) c.args.around.now.f (scope_under (points_of c.args.setting.now) c.args.around.now) c.requires.code.0 c.args.n c.requires.few.0 c.args.body.now c.opcodes.walk.place c.opcodes.at c.opcodes.site c.opcodes.stack (reverse c.opcodes.ends.items) c.args.out.now.items c.opcodes.out.items c.opcodes.variants (op_of c.in-Ok.instr) c.next.new.self.place (now c) (below c) (reads c)

room : (c : goal.After-instr-in-opcodes-1) → c.opcodes.site + length (op_sites (place_of (module_of c.args.setting.now) (points_of c.args.setting.now) c.args.around.now.f) (scope_under (points_of c.args.setting.now) c.args.around.now) c.opcodes.site c.opcodes.at (op_of c.in-Ok.instr) c.opcodes.stack) < 2 ^ 32
room c = first_room c.args.setting.now (points_of c.args.setting.now) c.args.around.now.f (scope_under (points_of c.args.setting.now) c.args.around.now) c.requires.code.0 c.args.n c.requires.few.0 c.args.body.now c.opcodes.walk.place c.opcodes.at c.opcodes.site c.opcodes.stack (reverse c.opcodes.ends.items) c.args.out.now.items c.opcodes.out.items c.opcodes.variants (op_of c.in-Ok.instr) c.next.new.self.place (now c) (below c) (reads c)

below-2 : (c : goal.After-instr-in-opcodes-2-1) → c.opcodes.walk.place < length c.args.body.now
below-2 c = subst (λ z. c.opcodes.walk.place < length z) c.opcodes.invariant.bytes (c.is_done.ensures.more c.opcodes-test.true)

reads-2 : (c : goal.After-instr-in-opcodes-2-1) → instr_in c.args.body.now c.opcodes.walk.place ≡ Ok (op_of c.in-Ok.instr, c.next.new.self.place)
reads-2 c = subst (λ z. instr_in z c.opcodes.walk.place ≡ Ok (op_of c.in-Ok.instr, c.next.new.self.place)) c.opcodes.invariant.bytes c.in-Ok.ensures.instr

now-2 : (c : goal.After-instr-in-opcodes-2-1) → Walking c.args.setting.now (points_of c.args.setting.now) c.args.around.now.f (scope_under (points_of c.args.setting.now) c.args.around.now) c.requires.code.0 c.args.n c.requires.few.0 c.args.body.now c.opcodes.walk.place c.opcodes.at c.opcodes.site c.opcodes.stack (reverse c.opcodes.ends.items) c.args.out.now.items c.opcodes.out.items c.opcodes.variants
now-2 c = c.opcodes.invariant.walking c.requires.few.0 c.requires.code.0 c.requires.few.1 c.requires.code.1 c.requires.code.2

goes-2 : (c : goal.After-instr-in-opcodes-2-1) → GoesBy (place_of (module_of c.args.setting.now) (points_of c.args.setting.now) c.args.around.now.f) (scope_under (points_of c.args.setting.now) c.args.around.now) c.opcodes.site (op_of c.in-Ok.instr) c.opcodes.stack
goes-2 c = first_goes c.args.setting.now (points_of c.args.setting.now) c.args.around.now.f (scope_under (points_of c.args.setting.now) c.args.around.now) c.requires.code.0 c.args.n c.requires.few.0 c.args.body.now c.opcodes.walk.place c.opcodes.at c.opcodes.site c.opcodes.stack (reverse c.opcodes.ends.items) c.args.out.now.items c.opcodes.out.items c.opcodes.variants (op_of c.in-Ok.instr) c.next.new.self.place (now-2 c) (below-2 c) (reads-2 c)

room-2 : (c : goal.After-instr-in-opcodes-2-1) → c.opcodes.site + length (op_sites (place_of (module_of c.args.setting.now) (points_of c.args.setting.now) c.args.around.now.f) (scope_under (points_of c.args.setting.now) c.args.around.now) c.opcodes.site c.opcodes.at (op_of c.in-Ok.instr) c.opcodes.stack) < 2 ^ 32
room-2 c = first_room c.args.setting.now (points_of c.args.setting.now) c.args.around.now.f (scope_under (points_of c.args.setting.now) c.args.around.now) c.requires.code.0 c.args.n c.requires.few.0 c.args.body.now c.opcodes.walk.place c.opcodes.at c.opcodes.site c.opcodes.stack (reverse c.opcodes.ends.items) c.args.out.now.items c.opcodes.out.items c.opcodes.variants (op_of c.in-Ok.instr) c.next.new.self.place (now-2 c) (below-2 c) (reads-2 c)

pub unreachable-requires : goal.unreachable-requires
unreachable-requires c =
    let i = subst (λ z. instr_in z c.opcodes.walk.place ≡ Err c.in-Err.field-0) c.opcodes.invariant.bytes c.in-Err.ensures.instr in
    let lt = subst (λ z. c.opcodes.walk.place < length z) c.opcodes.invariant.bytes (c.is_done.ensures.more c.opcodes-test.true) in
    let h = c.opcodes.invariant.walking c.requires.few.0 c.requires.code.0 c.requires.few.1 c.requires.code.1 c.requires.code.2 in
    absurd (walking_reads c.args.setting.now (points_of c.args.setting.now) c.args.around.now.f (scope_under (points_of c.args.setting.now) c.args.around.now) c.requires.code.0 c.args.n c.requires.few.0 c.args.body.now c.opcodes.walk.place c.opcodes.at c.opcodes.site c.opcodes.stack (reverse c.opcodes.ends.items) c.args.out.now.items c.opcodes.out.items c.opcodes.variants c.in-Err.field-0 h lt i)

pub put_op-requires-clause-room : goal.put_op-requires-clause-room
put_op-requires-clause-room c =
    let w = room_within (module_of c.args.setting.now) (points_of c.args.setting.now) c.args.around.now.f (scope_under (points_of c.args.setting.now) c.args.around.now) c.opcodes.site c.opcodes.at (op_of c.in-Ok.instr) c.opcodes.stack (goes c) in
    omega (arith, w, room c)

pub put_op-requires-clause-few : goal.put_op-requires-clause-few
put_op-requires-clause-few c =
    let h = now c in
    let e = here c.args.setting.now c.args.around.now c.requires.whole in
    let lt = subst (λ z. length (module_of c.args.setting.now).types + length (with_uses c.requires.few.0 (map (use_to (labels_of c.args.setting.now)) (code_uses (number z (scope_under (points_of c.args.setting.now) c.args.around.now) c.requires.code.0 c.args.n 0 fresh).code))) + 1 < 2 ^ 32) e (c.requires.few.2 c.requires.code.0 c.requires.code.1) in
    (h.vs, h.held, walking_few c.args.setting.now (points_of c.args.setting.now) c.args.around.now.f (scope_under (points_of c.args.setting.now) c.args.around.now) c.requires.code.0 c.args.n c.requires.few.0 c.args.body.now c.opcodes.walk.place c.opcodes.at c.opcodes.site c.opcodes.stack (reverse c.opcodes.ends.items) c.args.out.now.items c.opcodes.out.items c.opcodes.variants h (length (module_of c.args.setting.now).types) lt)

pub pass-requires-clause-open : goal.pass-requires-clause-open
pass-requires-clause-open c = first_open c.args.setting.now (points_of c.args.setting.now) c.args.around.now.f (scope_under (points_of c.args.setting.now) c.args.around.now) c.requires.code.0 c.args.n c.requires.few.0 c.args.body.now c.opcodes.walk.place c.opcodes.at c.opcodes.site c.opcodes.stack (reverse c.opcodes.ends.items) c.args.out.now.items c.opcodes.out.items c.opcodes.variants (op_of c.in-Ok.instr) c.next.new.self.place (now-2 c) (below-2 c) (reads-2 c)

pub pass-requires-clause-few : goal.pass-requires-clause-few
pass-requires-clause-few c =
    let h = now-2 c in
    let s = c.is_done.ensures.short in
    let b = ap length c.opcodes.invariant.bytes in
    omega (arith, h.slots, h.few, below-2 c, s, b)

pub pass-requires-clause-small : goal.pass-requires-clause-small
pass-requires-clause-small c = (now-2 c).small

pub pass-requires-clause-goes : goal.pass-requires-clause-goes
pass-requires-clause-goes c = subst (λ z. GoesBy z (scope_under (points_of c.args.setting.now) c.args.around.now) c.opcodes.site (op_of c.in-Ok.instr) c.opcodes.stack) (sym (here c.args.setting.now c.args.around.now c.requires.whole)) (goes-2 c)

pub pass-requires-clause-room : goal.pass-requires-clause-room
pass-requires-clause-room c = subst (λ z. c.opcodes.site + length (op_sites z (scope_under (points_of c.args.setting.now) c.args.around.now) c.opcodes.site c.opcodes.at (op_of c.in-Ok.instr) c.opcodes.stack) < 2 ^ 32) (sym (here c.args.setting.now c.args.around.now c.requires.whole)) (room-2 c)

pub overflow_add-at : goal.overflow_add-at
overflow_add-at c =
    let h = c.opcodes.invariant.walking c.requires.few.0 c.requires.code.0 c.requires.few.1 c.requires.code.1 c.requires.code.2 in
    let lt = subst (λ z. c.opcodes.walk.place < length z) c.opcodes.invariant.bytes (c.is_done.ensures.more c.opcodes-test.true) in
    let s = c.is_done.ensures.short in
    let b = ap length c.opcodes.invariant.bytes in
    omega (arith, h.few, lt, s, b)

pub opcodes-smaller : goal.opcodes-smaller
opcodes-smaller c =
    let h = c.opcodes.invariant.walking c.requires.few.0 c.requires.code.0 c.requires.few.1 c.requires.code.1 c.requires.code.2 in
    let i = subst (λ z. instr_in z c.opcodes.walk.place ≡ Ok (op_of c.in-Ok.instr, c.next.new.self.place)) c.opcodes.invariant.bytes c.in-Ok.ensures.instr in
    let b = instr_behind c.args.body.now c.opcodes.walk.place (op_of c.in-Ok.instr) c.next.new.self.place h.inside i in
    let less : length c.next.new.self.bytes - c.next.new.self.place < length c.opcodes.walk.bytes - c.opcodes.walk.place = omega (arith, ap length c.in-Ok.ensures.bytes, ap length c.opcodes.invariant.bytes, b.0, b.1) in
    less

pub opcodes-preserved : goal.opcodes-preserved
opcodes-preserved c = record {
  bytes = c.in-Ok.ensures.bytes ∙ c.opcodes.invariant.bytes;
  walking = λ before code h m r.
      let i = subst (λ z. instr_in z c.opcodes.walk.place ≡ Ok (op_of c.in-Ok.instr, c.next.new.self.place)) c.opcodes.invariant.bytes c.in-Ok.ensures.instr in
      let lt = subst (λ z. c.opcodes.walk.place < length z) c.opcodes.invariant.bytes (c.is_done.ensures.more c.opcodes-test.true) in
      let w = c.opcodes.invariant.walking before code h m r in
      let e = here c.args.setting.now c.args.around.now c.requires.whole in
      walking_on c.args.setting.now (points_of c.args.setting.now) c.args.around.now.f (scope_under (points_of c.args.setting.now) c.args.around.now) code c.args.n before c.args.body.now c.opcodes.walk.place c.opcodes.at c.opcodes.site c.opcodes.stack (reverse c.opcodes.ends.items) c.args.out.now.items c.opcodes.out.items c.opcodes.variants (op_of c.in-Ok.instr) c.next.new.self.place w lt i
      c.pass.new.stack (reverse c.pass.new.ends.items) _ c.put_op.new.out.items c.put_lift.new.out.items c.put_op.new.variants
      (c.in_ok-behind.ensures.stack ∙ ap (λ z. opens_behind z (scope_under (points_of c.args.setting.now) c.args.around.now) c.opcodes.site c.opcodes.at (op_of c.in-Ok.instr) c.opcodes.stack) e)
      (c.in_ok-behind.ensures.ends ∙ ap (λ z. ends_behind z c.opcodes.site c.opcodes.at (op_of c.in-Ok.instr) (reverse c.opcodes.ends.items)) e)
      (c.in_ok-behind.ensures.next ∙ ap (λ z. c.opcodes.site + length (op_sites z (scope_under (points_of c.args.setting.now) c.args.around.now) c.opcodes.site c.opcodes.at (op_of c.in-Ok.instr) c.opcodes.stack)) e)
      (c.in_ok-put_op.ensures.held w.vs w.held) (memory_here c.args.setting.now c.args.around.now c.requires.whole)
      (λ later. c.in_ok-put_op.ensures.put w.vs later w.held)
      (c.in_ok-put_lift.ensures ∙ ap (λ z. c.put_op.new.out.items ++ all_texts op_text (lift_ops (labels_of c.args.setting.now) z))
      (c.in_ok-behind.ensures.lift ∙ ap (λ z. lift_behind z (scope_under (points_of c.args.setting.now) c.args.around.now) c.opcodes.site c.opcodes.at (op_of c.in-Ok.instr) c.opcodes.stack (reverse c.opcodes.ends.items)) e));
}

pub returns : goal.returns
returns c =
    let e = here c.args.setting.now c.args.around.now c.requires.whole in
    let d = c.is_done.ensures.done c.opcodes-test.false in
    let b = ap length c.opcodes.invariant.bytes in
    let ge : length c.args.body.now ≤ c.opcodes.walk.place = omega (arith, d, b) in
    let ready : (code : Code Label) → IsBody c.args.body.now code → IsReady (place_under (points_of c.args.setting.now) c.args.around.now) (scope_under (points_of c.args.setting.now) c.args.around.now) code c.args.n =
    λ code m. subst (λ z. IsReady (place_under (points_of c.args.setting.now) c.args.around.now) (scope_under (points_of c.args.setting.now) c.args.around.now) z c.args.n) (one_body c.args.body.now c.requires.code.0 code c.requires.code.1 m) c.requires.code.2 in
    record {
      held = λ before code h m.
          subst (λ z. Holds c.opcodes.variants (with_uses before (map (use_to (labels_of c.args.setting.now)) (code_uses (number z (scope_under (points_of c.args.setting.now) c.args.around.now) code c.args.n 0 fresh).code)))) (sym e)
          (walked_held c.args.setting.now (points_of c.args.setting.now) c.args.around.now.f (scope_under (points_of c.args.setting.now) c.args.around.now) code c.args.n before c.args.body.now c.opcodes.walk.place c.opcodes.at c.opcodes.site c.opcodes.stack (reverse c.opcodes.ends.items) c.args.out.now.items c.opcodes.out.items c.opcodes.variants (c.opcodes.invariant.walking before code h m (ready code m)) ge);
      put = λ before later code h m.
          walked_text c.args.setting.now (points_of c.args.setting.now) c.args.around.now.f (scope_under (points_of c.args.setting.now) c.args.around.now) code c.args.n before c.args.body.now c.opcodes.walk.place c.opcodes.at c.opcodes.site c.opcodes.stack (reverse c.opcodes.ends.items) c.args.out.now.items c.opcodes.out.items c.opcodes.variants (c.opcodes.invariant.walking before code h m (ready code m)) ge later
          ∙ ap (λ z. c.args.out.now.items ++ body_text (placed_code (labels_of c.args.setting.now) (name_in (length (module_of c.args.setting.now).types) (with_uses (with_uses before (map (use_to (labels_of c.args.setting.now)) (code_uses (number z (scope_under (points_of c.args.setting.now) c.args.around.now) code c.args.n 0 fresh).code))) later)) (number z (scope_under (points_of c.args.setting.now) c.args.around.now) code c.args.n 0 fresh).code)) (sym e);
      next = λ code m.
          walked_sites c.args.setting.now (points_of c.args.setting.now) c.args.around.now.f (scope_under (points_of c.args.setting.now) c.args.around.now) code c.args.n c.requires.few.0 c.args.body.now c.opcodes.walk.place c.opcodes.at c.opcodes.site c.opcodes.stack (reverse c.opcodes.ends.items) c.args.out.now.items c.opcodes.out.items c.opcodes.variants (c.opcodes.invariant.walking c.requires.few.0 code c.requires.few.1 m (ready code m)) ge
          ∙ ap (λ z. c.args.n + length (code_sites z (scope_under (points_of c.args.setting.now) c.args.around.now) code c.args.n)) (sym e);
    }
