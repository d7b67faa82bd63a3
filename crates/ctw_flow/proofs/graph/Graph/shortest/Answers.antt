-- The first wanted entry of a search has the least path.
use Rattle.std.proofs.Common.{◌≡◌, ◌<◌, length, get_or, sym, ◌∙◌, subst}
use Rattle.std.specs.Prelude.{reverse}
use Rattle.std.proofs.lemmas.Option.{slice_get_within, slice_get-get_or}
use Rattle.ctw_flow.specs.declared.search.Entry.{Entry}
use Rattle.ctw_flow.specs.Search.{State, At, IsSeen, NoneBelow, IsPos, IsRuled}
use Rattle.ctw_flow.proofs.Begin.{in_graph}
use Rattle.ctw_flow.proofs.Trails.{least_path, none_reached}
use Rattle.ctw_flow.proofs.graph.Graph.shortest.Goals as goal

pub first_wanted-requires : goal.first_wanted-requires
first_wanted-requires c = λ k d l.
    let r = c.in_ok-search.search in
    let s : State = record { seen = r.seen.items; queue = r.queue.items } in
    let e : c.deref.result.now ≡ r.queue.items = c.deref.ensures.value in
    let f : c.deref-2.result.now ≡ c.in_ok-wanted.wanted.items = c.deref-2.ensures.value in
    let l2 : k < length r.queue.items = subst (λ z. k < length z) e l in
    let a : (get_or r.queue.items k d).node < length c.args.self.now = in_graph c.args.self.now c.args.starts.now r.roots (length r.queue.items) (length r.queue.items) s c.in_ok-search.ensures.search k (get_or r.queue.items k d) (slice_get-get_or r.queue.items k d l2) in
    let w : length c.in_ok-wanted.wanted.items ≡ length c.args.self.now = c.in_ok-wanted.ensures.0 ∙ c.count-nodes.ensures.count in
    subst (λ z. (get_or z k d).node < length c.deref-2.result.now) (sym e) (subst (λ z. (get_or r.queue.items k d).node < length z) (sym f) (subst (λ z. (get_or r.queue.items k d).node < z) (sym w) a))

pub returns-in-None : goal.returns-in-None
returns-in-None c =
    let r = c.in_ok-search.search in
    let s : State = record { seen = r.seen.items; queue = r.queue.items } in
    let n : NoneBelow r.queue.items c.in_ok-wanted.wanted.items (length r.queue.items) =
    subst (λ z. NoneBelow z c.in_ok-wanted.wanted.items (length z)) c.deref.ensures.value (subst (λ z. NoneBelow c.deref.result.now z (length c.deref.result.now)) c.deref-2.ensures.value c.in-None.ensures) in
    none_reached c.args.self.now c.args.starts.now r.roots (length r.queue.items) s c.in_ok-search.ensures.search c.args.goals.now c.in_ok-wanted.wanted.items c.in_ok-wanted.ensures.1 n

pub trace-requires-clause-place : goal.trace-requires-clause-place
trace-requires-clause-place c =
    let r = c.in_ok-search.search in
    let l = slice_get_within c.deref.result.now c.in-Some.place c.in-Some.ensures.0 c.in-Some.ensures.1 in
    subst (λ z. c.in-Some.place < length z) (c.deref.ensures.value ∙ sym c.deref-in-Some.ensures.value) l

pub returns : goal.returns
returns c =
    let r = c.in_ok-search.search in
    let s : State = record { seen = r.seen.items; queue = r.queue.items } in
    let e : Entry = c.in-Some.ensures.0 in
    let h : At r.queue.items c.in-Some.place e = subst (λ z. At z c.in-Some.place e) c.deref.ensures.value c.in-Some.ensures.1 in
    let w : IsSeen c.in_ok-wanted.wanted.items e.node = subst (λ z. IsSeen z e.node) c.deref-2.ensures.value c.in-Some.ensures.2 in
    let n : NoneBelow r.queue.items c.in_ok-wanted.wanted.items c.in-Some.place =
    subst (λ z. NoneBelow z c.in_ok-wanted.wanted.items c.in-Some.place) c.deref.ensures.value (subst (λ z. NoneBelow c.deref.result.now z c.in-Some.place) c.deref-2.ensures.value c.in-Some.ensures.3) in
    least_path c.args.self.now c.args.starts.now r.roots (length r.queue.items) s c.in_ok-search.ensures.search c.args.goals.now c.in_ok-wanted.wanted.items c.in_ok-wanted.ensures.1 c.in-Some.place e h w n c.in_ok-path-in-Some.path
    (subst (λ z. IsPos z r.roots c.in-Some.place (reverse c.in_ok-path-in-Some.path.nodes)) c.deref-in-Some.ensures.value c.in_ok-path-in-Some.ensures.nodes)
    (subst (λ z. IsRuled z r.roots c.in-Some.place (reverse c.in_ok-path-in-Some.path.rules)) c.deref-in-Some.ensures.value c.in_ok-path-in-Some.ensures.rules)
