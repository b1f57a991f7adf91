use Rattle.std.proofs.Common.{◌≡◌, arith, take, ap, ℕ}
use Rattle.dns_name.specs.Names.{name_size}
use Rattle.dns_target.proofs.TreeStates.{same_from, tree_added}
use Rattle.dns_target.proofs.tree_index.TreeIndexSuffixIndex.add_suffixes.Goals as goal

pub grow-requires-clause-capacity : goal.grow-requires-clause-capacity
grow-requires-clause-capacity c =
    let same = same_from c.args.content.now c.args.self.now.entries c.args.labels.now c.args.offset c.args.found.from c.args.count
    c.args.found.offset c.args.lookup.from c.args.lookup.parent c.requires.is_of
    (c.requires.planned c.if-count-gt0.true) c.if-count-gt0.true c.requires.add.found c.requires.hint.path c.requires.hint.end in
    let capacity = c.in_ok-reserve.ensures.ok in
    omega arith

pub grow-requires-clause-long : goal.grow-requires-clause-long
grow-requires-clause-long c =
    let same = same_from c.args.content.now c.args.self.now.entries c.args.labels.now c.args.offset c.args.found.from c.args.count
    c.args.found.offset c.args.lookup.from c.args.lookup.parent c.requires.is_of
    (c.requires.planned c.if-count-gt0.true) c.if-count-gt0.true c.requires.add.found c.requires.hint.path c.requires.hint.end in
    let long = c.requires.add.long in
    let size : name_size (take c.args.lookup.from c.args.labels.now) ≡ name_size (take c.args.found.from c.args.labels.now) = ap (λ (n : ℕ). name_size (take n c.args.labels.now)) same in
    omega arith

pub returns-in_ok-reserve-clause-ok : goal.returns-in_ok-reserve-clause-ok
returns-in_ok-reserve-clause-ok c =
    (tree_added c.args.content.now c.args.self.now.entries _ c.grow.new.tree.entries c.args.labels.now c.args.offset c.args.found.from
    c.args.count c.args.found.offset c.args.lookup c.in_ok-reserve.ensures.entries c.if-count-gt0.true c.requires.is_of
    (c.requires.planned c.if-count-gt0.true) c.requires.hint c.requires.add c.grow.ensures.tree c.grow.ensures.names c.grow.ensures.last).0

pub returns-in_ok-reserve-clause-is_of : goal.returns-in_ok-reserve-clause-is_of
returns-in_ok-reserve-clause-is_of c =
    (tree_added c.args.content.now c.args.self.now.entries _ c.grow.new.tree.entries c.args.labels.now c.args.offset c.args.found.from
    c.args.count c.args.found.offset c.args.lookup c.in_ok-reserve.ensures.entries c.if-count-gt0.true c.requires.is_of
    (c.requires.planned c.if-count-gt0.true) c.requires.hint c.requires.add c.grow.ensures.tree c.grow.ensures.names c.grow.ensures.last).1
