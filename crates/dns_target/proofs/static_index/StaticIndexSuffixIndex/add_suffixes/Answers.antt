use Rattle.std.proofs.Common.{arith, ◌≡◌, ◌≤◌, ◌+◌, ◌-◌, ap, length}
use Rattle.dns_wire.proofs.theory.Choices.{found_within}
use Rattle.dns_target.proofs.EntryLists.{none_added, one_added}
use Rattle.dns_target.proofs.static_index.StaticIndexSuffixIndex.add_suffixes.Goals as goal

pub loop-index-init : goal.loop-index-init
loop-index-init c = record { within = omega arith; entries = none_added c.args.self.now c.args.count c.args.labels.now c.args.offset (length c.args.content.now); size = omega arith }

pub start-requires : goal.start-requires
start-requires c =
    let l = c.loop-index.invariant.within in
    let k = c.requires.add.within in
    let f = found_within _ c.args.labels.now _ _ c.requires.add.found.there in omega arith

pub loop-index-preserved : goal.loop-index-preserved
loop-index-preserved c =
    let k : c.loop-index.index ≡ c.loop-index.index - 1 + 1 = omega arith in
    let within : c.args.count ≤ length c.args.labels.now = let a = c.requires.add.within in let f = found_within _ c.args.labels.now _ _ c.requires.add.found.there in omega arith in
    record {
      within = let l = c.loop-index.invariant.within in omega arith;
      entries = one_added c.args.self.now c.loop-index.self c.push.new.self c.args.count c.args.labels.now c.args.offset
          (length c.args.content.now) c.loop-index.index (c.loop-index.index - 1) _ k c.loop-index.invariant.within within
          c.loop-index.invariant.entries (ap (λ n. c.args.offset + n) c.start.ensures.start) c.push.ensures;
      size = let one = ap length c.push.ensures in let was = c.loop-index.invariant.size in omega arith;
    }
