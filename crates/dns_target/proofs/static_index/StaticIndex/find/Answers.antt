use Rattle.std.proofs.Common.{arith, ◌<◌, drop, length}
use Rattle.dns_target.proofs.EntryLists.{first_of_suffix, entry_looked, other_name, reported, skipped_none, skipped_on, skipped_here, sought_inside, sought_label}
use Rattle.dns_target.proofs.static_index.StaticIndex.find.Goals as goal

pub loop-index-init : goal.loop-index-init
loop-index-init c = skipped_none _ _ _

pub is_name_at-requires-clause-offset : goal.is_name_at-requires-clause-offset
is_name_at-requires-clause-offset c =
    let l : c.loop-index.index < length c.self.inside.entries.items = let t = c.loop-index-test.true in let e = c.len-index-end.ensures.value in omega arith in
    sought_inside _ _ _ _ _ _ (entry_looked _ (drop c.args.from c.args.labels.now) _ _ _ _ _ l c.loop-index.invariant c.self.view_is c.requires.names_at c.deref.ensures.0) c.from.ensures

pub is_name_at-requires-clause-within : goal.is_name_at-requires-clause-within
is_name_at-requires-clause-within c =
    let l : c.loop-index.index < length c.self.inside.entries.items = let t = c.loop-index-test.true in let e = c.len-index-end.ensures.value in omega arith in
    sought_label _ _ _ _ _ _ (entry_looked _ (drop c.args.from c.args.labels.now) _ _ _ _ _ l c.loop-index.invariant c.self.view_is c.requires.names_at c.deref.ensures.0) c.from.ensures

pub returns-then-is_name_at : goal.returns-then-is_name_at
returns-then-is_name_at c =
    let l : c.loop-index.index < length c.self.inside.entries.items = let t = c.loop-index-test.true in let e = c.len-index-end.ensures.value in omega arith in
    let at = entry_looked _ (drop c.args.from c.args.labels.now) _ _ _ _ _ l c.loop-index.invariant c.self.view_is c.requires.names_at c.deref.ensures.0 in
    let is = (reported _ _ _ _ _ _ _ at c.from.ensures (λ m. c.is_name_at.ensures (drop c.args.from c.args.labels.now) m
    (record {
      is_name = c.tail-name.ensures.name;
      label = first_of_suffix c.args.labels.now c.args.from c.framed-label.result.now
          c.framed-label.ensures.octets;
      octets = c.tail-name.ensures.octets;
    }))).0 c.if-is_name_at.true in
    skipped_here _ _ c.self.inside.entries.items _ c.loop-index.index _ c.self.view_is c.requires.new at is

pub loop-index-preserved : goal.loop-index-preserved
loop-index-preserved c =
    let l : c.loop-index.index < length c.self.inside.entries.items = let t = c.loop-index-test.true in let e = c.len-index-end.ensures.value in omega arith in
    let at = entry_looked _ (drop c.args.from c.args.labels.now) _ _ _ _ _ l c.loop-index.invariant c.self.view_is c.requires.names_at c.deref.ensures.0 in
    let other = other_name _ _ _ _ _ _ _ at c.from.ensures (λ m. c.is_name_at.ensures (drop c.args.from c.args.labels.now) m
    (record {
      is_name = c.tail-name.ensures.name;
      label = first_of_suffix c.args.labels.now c.args.from c.framed-label.result.now
          c.framed-label.ensures.octets;
      octets = c.tail-name.ensures.octets;
    })) c.if-is_name_at.false in
    skipped_on _ _ _ _ _ c.loop-index.invariant at other
