use Rattle.std.proofs.Common.{◌≡◌, arith, rules}
use Rattle.std.specs.Prelude.{nat_le}
use Rattle.std.proofs.lemmas.List.Sorted.{IsPartitionPoint-from_clause, IsPartitionedBy-leb}
use Rattle.ctw_sites.specs.Unpacked.{upto}
use Rattle.ctw_sites.proofs.UnpackedLaws.{counted}
use Rattle.ctw_sites.proofs.unpack.last_upto.Goals as goal

pub returns-clause-number : goal.returns-clause-number
returns-clause-number c =
    let xs = c.args.firsts.now in
    let parted = IsPartitionedBy-leb (λ x. x) xs c.args.place c.requires.rising in
    let point = IsPartitionPoint-from_clause (λ x. nat_le x c.args.place) _ _ c.partition_point-count.ensures.partitioned parted (λ a r q k. search rules) in
    let n : upto c.args.place xs ≡ c.partition_point-count.result = counted (λ x. nat_le x c.args.place) xs c.partition_point-count.result c.partition_point-count.ensures.bound point in
    let s = c.saturating_sub.ensures in
    omega (arith, n, s)
