use Rattle.std.proofs.Common.{◌≡◌, ◌<◌, List, ℕ, Some, length, slice_get, sym, ap, ◌∙◌, refl, arith}
use Rattle.std.proofs.lemmas.Option.{slice_get_read}
use Rattle.ctw_link.specs.Sets.{set_of}
use Rattle.ctw_link.specs.Numbers.{owners}
use Rattle.ctw_link.proofs.Owned.{all_owned}
use Rattle.ctw_link.proofs.Owners.{owner_within, owner_defines}
use Rattle.ctw_link.proofs.Readers.{seen_linked}
use Rattle.ctw_link.proofs.set.LinkedSet.owner.Goals as goal

pub index-requires : goal.index-requires
index-requires c =
    let h = seen_linked _ c.args.self.now _ _ _ c.self.view_is c.self.invariant in
    omega (arith, all_owned (set_of c.args.self.now), ap length h.owners)

pub returns-clause-owner : goal.returns-clause-owner
returns-clause-owner c =
    let h = seen_linked _ c.args.self.now _ _ _ c.self.view_is c.self.invariant in
    let lt : c.args.func < length c.self.inside.owners.items = omega (arith, all_owned (set_of c.args.self.now), ap length h.owners) in
    let own : slice_get (owners (set_of c.args.self.now)) c.args.func ≡ Some (c.index.result.now.0, c.index.result.now.1) =
    ap (λ (l : List (ℕ × ℕ)). slice_get l c.args.func) (sym h.owners) ∙ slice_get_read c.self.inside.owners.items _ c.args.func _ refl lt c.index.ensures in
    own

pub returns-clause-part : goal.returns-clause-part
returns-clause-part c =
    let h = seen_linked _ c.args.self.now _ _ _ c.self.view_is c.self.invariant in
    let lt : c.args.func < length c.self.inside.owners.items = omega (arith, all_owned (set_of c.args.self.now), ap length h.owners) in
    let own : slice_get (owners (set_of c.args.self.now)) c.args.func ≡ Some (c.index.result.now.0, c.index.result.now.1) =
    ap (λ (l : List (ℕ × ℕ)). slice_get l c.args.func) (sym h.owners) ∙ slice_get_read c.self.inside.owners.items _ c.args.func _ refl lt c.index.ensures in
    owner_within c.args.self.now c.args.func c.index.result.now.0 c.index.result.now.1 own

pub returns-clause-defines : goal.returns-clause-defines
returns-clause-defines c =
    let h = seen_linked _ c.args.self.now _ _ _ c.self.view_is c.self.invariant in
    let lt : c.args.func < length c.self.inside.owners.items = omega (arith, all_owned (set_of c.args.self.now), ap length h.owners) in
    let own : slice_get (owners (set_of c.args.self.now)) c.args.func ≡ Some (c.index.result.now.0, c.index.result.now.1) =
    ap (λ (l : List (ℕ × ℕ)). slice_get l c.args.func) (sym h.owners) ∙ slice_get_read c.self.inside.owners.items _ c.args.func _ refl lt c.index.ensures in
    owner_defines c.args.self.now c.args.func c.index.result.now.0 c.index.result.now.1 own
