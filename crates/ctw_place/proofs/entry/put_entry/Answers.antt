use Rattle.std.proofs.Common.{◌≡◌, ◌∙◌, ◌+◌, ◌-◌, ◌++◌, ◌<◌, ◌^◌, ℕ, List, length, map, sym, ap, subst, arith}
use Rattle.std.specs.Prelude.{get_or, slice_get}
use Rattle.std.proofs.lemmas.Option.{get_or_from_slice_get}
use Rattle.ctw_flat.specs.Spelled.{IsBody}
use Rattle.ctw_flat.proofs.Places.{one_body}
use Rattle.ctw_labels.specs.Placed.{code_uses, use_to, with_uses}
use Rattle.ctw_sites.proofs.BodyLaws.{declared_are}
use Rattle.ctw_place.specs.Variants.{Holds}
use Rattle.ctw_place.specs.Settings.{module_of, labels_of, points_of}
use Rattle.ctw_place.specs.Walks.{sited_body}
use Rattle.ctw_write.specs.Canon.{sized_text}
use Rattle.ctw_place.proofs.BodyUnder.{sites_length, ready_under, code_under, next_under, entry_text, sized_longer}
use Rattle.ctw_place.proofs.entry.put_entry.Goals as goal

pub put_locals-requires-clause-named : goal.put_locals-requires-clause-named
put_locals-requires-clause-named c =
    let m = module_of c.args.setting.now in
    let s = c.in-Some.ensures.spelled in
    let d = declared_are (module_of c.args.setting.now) c.args.f c.type_of_func.result c.signature-first.result.0 c.local_count.result s.0 c.requires.defined c.type_of_func.ensures c.signature-first.ensures.params c.local_count.ensures s.1 in
    (s.0, s.1, d.first, d.left)

pub put_locals-requires-clause-few : goal.put_locals-requires-clause-few
put_locals-requires-clause-few c = omega (arith, c.local_count.type_inv, c.signature-first.ensures.few)

pub put_locals-requires-clause-room : goal.put_locals-requires-clause-room
put_locals-requires-clause-room c =
    let s = c.in-Some.ensures.spelled in
    let d = declared_are (module_of c.args.setting.now) c.args.f c.type_of_func.result c.signature-first.result.0 c.local_count.result s.0 c.requires.defined c.type_of_func.ensures c.signature-first.ensures.params c.local_count.ensures s.1 in
    let r = c.requires.ready s.0 s.1 in
    let l = sites_length (module_of c.args.setting.now) (points_of c.args.setting.now) (get_or c.args.functions.now.heads.items c.args.f 0) c.args.f c.args.n s.0 in
    omega (arith, d.left, l, r.room)

pub overflow_add-n : goal.overflow_add-n
overflow_add-n c =
    let s = c.in-Some.ensures.spelled in
    let d = declared_are (module_of c.args.setting.now) c.args.f c.type_of_func.result c.signature-first.result.0 c.local_count.result s.0 c.requires.defined c.type_of_func.ensures c.signature-first.ensures.params c.local_count.ensures s.1 in
    let r = c.requires.ready s.0 s.1 in
    let l = sites_length (module_of c.args.setting.now) (points_of c.args.setting.now) (get_or c.args.functions.now.heads.items c.args.f 0) c.args.f c.args.n s.0 in
    omega (arith, d.left, l, r.room)

pub new-around-requires-clause-room : goal.new-around-requires-clause-room
new-around-requires-clause-room c =
    let s = c.in-Some.ensures.spelled in
    let d = declared_are (module_of c.args.setting.now) c.args.f c.type_of_func.result c.signature-first.result.0 c.local_count.result s.0 c.requires.defined c.type_of_func.ensures c.signature-first.ensures.params c.local_count.ensures s.1 in
    let r = c.requires.ready s.0 s.1 in
    let l = sites_length (module_of c.args.setting.now) (points_of c.args.setting.now) (get_or c.args.functions.now.heads.items c.args.f 0) c.args.f c.args.n s.0 in
    omega (arith, d.declares, l, r.room)

pub put_code-requires : goal.put_code-requires
put_code-requires c =
    let s = c.in-Some.ensures.spelled in
    let d = declared_are (module_of c.args.setting.now) c.args.f c.type_of_func.result c.signature-first.result.0 c.local_count.result s.0 c.requires.defined c.type_of_func.ensures c.signature-first.ensures.params c.local_count.ensures s.1 in
    let et : (c.args.n + (c.local_count.result - c.signature-first.result.0)) ≡ c.args.n + length s.0.locals = ap (λ k. c.args.n + k) d.left in
    record {
      whole = c.new-around.ensures.whole;
      code = (s.0.body, s.2.0, ready_under c.new-around.result c.args.setting.now.whole.now (points_of c.args.setting.now) c.args.f (get_or c.args.functions.now.heads.items c.args.f 0) c.args.n s.0 c.new-around.ensures.whole c.new-around.ensures.f (sym (get_or_from_slice_get c.args.functions.now.heads.items c.args.f c.new-around.result.head 0 (ap (λ z. slice_get z c.args.f) (sym c.deref.ensures.value) ∙ c.new-around.ensures.head))) c.new-around.ensures.locals s.1 (c.args.n + (c.local_count.result - c.signature-first.result.0)) et (c.requires.ready s.0 s.1));
      few = (
        c.requires.room.0,
        c.requires.room.2,
        λ code m.
            subst (λ z. length (module_of c.args.setting.now).types + length (with_uses c.requires.room.0 (map (use_to (labels_of c.args.setting.now)) (code_uses z))) + 1 < 2 ^ 32)
            (sym (code_under c.new-around.result c.args.setting.now.whole.now (points_of c.args.setting.now) c.args.f (get_or c.args.functions.now.heads.items c.args.f 0) c.args.n s.0 c.new-around.ensures.whole c.new-around.ensures.f (sym (get_or_from_slice_get c.args.functions.now.heads.items c.args.f c.new-around.result.head 0 (ap (λ z. slice_get z c.args.f) (sym c.deref.ensures.value) ∙ c.new-around.ensures.head))) c.new-around.ensures.locals s.1 (c.args.n + (c.local_count.result - c.signature-first.result.0)) et) ∙ ap (λ z. sited_body (points_of c.args.setting.now) c.new-around.result z (c.args.n + (c.local_count.result - c.signature-first.result.0))) (one_body c.in-Some.body s.0.body code s.2.0 m)) (c.requires.room.3 s.0 s.1).few,
      );
    }

pub put_sized-requires : goal.put_sized-requires
put_sized-requires c =
    let s = c.in-Some.ensures.spelled in
    let d = declared_are (module_of c.args.setting.now) c.args.f c.type_of_func.result c.signature-first.result.0 c.local_count.result s.0 c.requires.defined c.type_of_func.ensures c.signature-first.ensures.params c.local_count.ensures s.1 in
    let et : (c.args.n + (c.local_count.result - c.signature-first.result.0)) ≡ c.args.n + length s.0.locals = ap (λ k. c.args.n + k) d.left in
    let t = entry_text c.args.setting.now c.requires.room.0 c.requires.room.1 (get_or c.args.functions.now.heads.items c.args.f 0) c.args.f c.args.n s.0 c.clear.new.self.items c.put_locals.new.out.items c.put_code.new.out.items (sited_body (points_of c.args.setting.now) c.new-around.result s.0.body (c.args.n + (c.local_count.result - c.signature-first.result.0))) c.clear.ensures.items
    (c.in_ok-put_locals.ensures s.0 s.1) (c.in_ok-next.ensures.put c.requires.room.0 c.requires.room.1 s.0.body c.requires.room.2 s.2.0) (code_under c.new-around.result c.args.setting.now.whole.now (points_of c.args.setting.now) c.args.f (get_or c.args.functions.now.heads.items c.args.f 0) c.args.n s.0 c.new-around.ensures.whole c.new-around.ensures.f (sym (get_or_from_slice_get c.args.functions.now.heads.items c.args.f c.new-around.result.head 0 (ap (λ z. slice_get z c.args.f) (sym c.deref.ensures.value) ∙ c.new-around.ensures.head))) c.new-around.ensures.locals s.1 (c.args.n + (c.local_count.result - c.signature-first.result.0)) et) in
    sized_longer c.deref-2.result.now _ (ap sized_text c.deref-2.ensures.value ∙ t) (c.requires.room.3 s.0 s.1).short

pub returns : goal.returns
returns c = record {
  held = λ vs F h e.
      let s = c.in-Some.ensures.spelled in
      let both = sym s.1 ∙ e in
      let k : s.0 ≡ F = cc both in
      let b = subst (λ z. IsBody c.in-Some.body z.body) k s.2.0 in
      let d = declared_are (module_of c.args.setting.now) c.args.f c.type_of_func.result c.signature-first.result.0 c.local_count.result F c.requires.defined c.type_of_func.ensures c.signature-first.ensures.params c.local_count.ensures e in
      let et : (c.args.n + (c.local_count.result - c.signature-first.result.0)) ≡ c.args.n + length F.locals = ap (λ k. c.args.n + k) d.left in
      subst (λ z. Holds c.put_code.new.variants (with_uses vs (map (use_to (labels_of c.args.setting.now)) (code_uses z)))) (code_under c.new-around.result c.args.setting.now.whole.now (points_of c.args.setting.now) c.args.f (get_or c.args.functions.now.heads.items c.args.f 0) c.args.n F c.new-around.ensures.whole c.new-around.ensures.f (sym (get_or_from_slice_get c.args.functions.now.heads.items c.args.f c.new-around.result.head 0 (ap (λ z. slice_get z c.args.f) (sym c.deref.ensures.value) ∙ c.new-around.ensures.head))) c.new-around.ensures.locals e (c.args.n + (c.local_count.result - c.signature-first.result.0)) et) (c.in_ok-next.ensures.held vs F.body h b);
  put = λ vs later F h e.
      let s = c.in-Some.ensures.spelled in
      let both = sym s.1 ∙ e in
      let k : s.0 ≡ F = cc both in
      let b = subst (λ z. IsBody c.in-Some.body z.body) k s.2.0 in
      let d = declared_are (module_of c.args.setting.now) c.args.f c.type_of_func.result c.signature-first.result.0 c.local_count.result F c.requires.defined c.type_of_func.ensures c.signature-first.ensures.params c.local_count.ensures e in
      let et : (c.args.n + (c.local_count.result - c.signature-first.result.0)) ≡ c.args.n + length F.locals = ap (λ k. c.args.n + k) d.left in
      let t = entry_text c.args.setting.now vs later (get_or c.args.functions.now.heads.items c.args.f 0) c.args.f c.args.n F c.clear.new.self.items c.put_locals.new.out.items c.put_code.new.out.items (sited_body (points_of c.args.setting.now) c.new-around.result F.body (c.args.n + (c.local_count.result - c.signature-first.result.0))) c.clear.ensures.items
      (c.in_ok-put_locals.ensures F e) (c.in_ok-next.ensures.put vs later F.body h b) (code_under c.new-around.result c.args.setting.now.whole.now (points_of c.args.setting.now) c.args.f (get_or c.args.functions.now.heads.items c.args.f 0) c.args.n F c.new-around.ensures.whole c.new-around.ensures.f (sym (get_or_from_slice_get c.args.functions.now.heads.items c.args.f c.new-around.result.head 0 (ap (λ z. slice_get z c.args.f) (sym c.deref.ensures.value) ∙ c.new-around.ensures.head))) c.new-around.ensures.locals e (c.args.n + (c.local_count.result - c.signature-first.result.0)) et) in
      c.in_ok-put_sized.ensures.put ∙ ap (λ (l : List ℕ). c.args.out.now.items ++ l) (ap sized_text c.deref-2.ensures.value ∙ t);
  next = λ F e.
      let s = c.in-Some.ensures.spelled in
      let both = sym s.1 ∙ e in
      let k : s.0 ≡ F = cc both in
      let b = subst (λ z. IsBody c.in-Some.body z.body) k s.2.0 in
      let d = declared_are (module_of c.args.setting.now) c.args.f c.type_of_func.result c.signature-first.result.0 c.local_count.result F c.requires.defined c.type_of_func.ensures c.signature-first.ensures.params c.local_count.ensures e in
      let et : (c.args.n + (c.local_count.result - c.signature-first.result.0)) ≡ c.args.n + length F.locals = ap (λ k. c.args.n + k) d.left in
      c.in_ok-next.ensures.next F.body b ∙ next_under c.new-around.result c.args.setting.now.whole.now (points_of c.args.setting.now) c.args.f (get_or c.args.functions.now.heads.items c.args.f 0) c.args.n F c.new-around.ensures.whole c.new-around.ensures.f (sym (get_or_from_slice_get c.args.functions.now.heads.items c.args.f c.new-around.result.head 0 (ap (λ z. slice_get z c.args.f) (sym c.deref.ensures.value) ∙ c.new-around.ensures.head))) c.new-around.ensures.locals e (c.args.n + (c.local_count.result - c.signature-first.result.0)) et;
}
