use Rattle.std.proofs.Common.{◌+◌, ◌-◌, ◌/◌, length, subst, ap, arith}
use Rattle.std.specs.declared.cmp.Ordering.TheVariants.{Less, Equal, Greater}
use Rattle.ctw_sites.specs.Held.{table}
use Rattle.ctw_sites.specs.Unpacked.{AreSites}
use Rattle.ctw_labels.proofs.NameLaws.{compared, name_below}
use Rattle.ctw_sites.proofs.OrderLaws.{behind, ahead, alone}
use Rattle.ctw_sites.proofs.UnpackedLaws.{unpacked_length}
use Rattle.ctw_sites.proofs.sites.Sites.site_of.Goals as goal

pub overflow_cast-high : goal.overflow_cast-high
overflow_cast-high c = omega (arith, c.len-high.ensures, unpacked_length (table c.self.inside) 0 c.self.inside.words.items, c.self.invariant.sites.few)

pub between-init : goal.between-init
between-init c =
    let l = unpacked_length (table c.self.inside) 0 c.self.inside.words.items in
    let n = ap length c.self.view_is in
    record { order = omega arith; within = omega (arith, c.len-high.ensures, l, n); between = λ k e. let b = name_below c.args.self.now k c.args.name e in (omega arith, omega (arith, c.len-high.ensures, l, n, b)) }

pub between-preserved-in-Less : goal.between-preserved-in-Less
between-preserved-in-Less c =
    let m = c.between.low + (c.between.high - c.between.low) / 2 in
    let s : AreSites c.args.self.now = subst AreSites c.self.view_is c.self.invariant.sites in
    let o = compared c.key.result c.key-wanted.result c.name.result c.args.name c.cmp.result Less c.key.ensures c.key-wanted.ensures c.cmp.ensures c.in-Less.is in
    record {
      order = omega arith;
      within = c.between.invariant.within;
      between = λ k e.
          let b = c.between.invariant.between k e in
          let a = behind c.args.self.now s m c.name.result c.args.name c.name.ensures o k e in
          (omega (arith, a), b.1);
    }

pub returns-in-Equal : goal.returns-in-Equal
returns-in-Equal c =
    let m = c.between.low + (c.between.high - c.between.low) / 2 in
    let s : AreSites c.args.self.now = subst AreSites c.self.view_is c.self.invariant.sites in
    let o = compared c.key.result c.key-wanted.result c.name.result c.args.name c.cmp.result Equal c.key.ensures c.key-wanted.ensures c.cmp.ensures c.in-Equal.is in
    λ k. alone c.args.self.now s m c.name.result c.args.name c.name.ensures o k

pub between-preserved : goal.between-preserved
between-preserved c =
    let m = c.between.low + (c.between.high - c.between.low) / 2 in
    let s : AreSites c.args.self.now = subst AreSites c.self.view_is c.self.invariant.sites in
    let o = compared c.key.result c.key-wanted.result c.name.result c.args.name c.cmp.result Greater c.key.ensures c.key-wanted.ensures c.cmp.ensures c.in-Greater.is in
    record {
      order = omega arith;
      within = omega (arith, c.between.invariant.within);
      between = λ k e.
          let b = c.between.invariant.between k e in
          let a = ahead c.args.self.now s m c.name.result c.args.name c.name.ensures o k e in
          (b.0, a);
    }
