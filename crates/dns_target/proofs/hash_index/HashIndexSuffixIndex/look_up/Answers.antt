use Rattle.std.proofs.Common.{◌≡◌, ◌+◌, ◌-◌, ◌∙◌, arith, sym}
use Rattle.dns_target.specs.TableEntries.{table_in}
use Rattle.dns_target.specs.HashIndex.{table_entries_in}
use Rattle.dns_target.proofs.KeyedNames.{indexed, path_more, found_stop, found_whole}
use Rattle.dns_target.proofs.hash_index.HashIndexSuffixIndex.look_up.Goals as goal

pub returns-in_default-clause-found : goal.returns-in_default-clause-found
returns-in_default-clause-found c =
    let k : c.loop-from.from ≡ c.loop-from.from - 1 + 1 = omega arith in
    let m = table_in c.args.content.now (table_entries_in c.args.self.now.suffixes.suffixes) in
    let i = indexed _ _ c.requires.entries.new c.requires.is_of.0 in
    found_stop m _ _ _ c.loop-from.from (c.loop-from.from - 1) c.label.result.now i k c.loop-from.invariant.within
    c.loop-from.invariant.path c.label.ensures.label (sym c.find.ensures ∙ c.in_default.is)

pub loop-from-preserved : goal.loop-from-preserved
loop-from-preserved c =
    let k : c.loop-from.from ≡ c.loop-from.from - 1 + 1 = omega arith in
    let i = indexed _ _ c.requires.entries.new c.requires.is_of.0 in
    record {
      within = omega arith;
      path = path_more _ _ c.args.labels.now _ c.loop-from.from (c.loop-from.from - 1) _ c.label.result.now i k
          c.loop-from.invariant.within c.loop-from.invariant.path c.label.ensures.label (sym c.find.ensures ∙ c.in-Some.is);
    }

pub returns-clause-found : goal.returns-clause-found
returns-clause-found c =
    let m = table_in c.args.content.now (table_entries_in c.args.self.now.suffixes.suffixes) in
    let i = indexed _ _ c.requires.entries.new c.requires.is_of.0 in
    found_whole m _ _ _ c.loop-from.from i (omega arith) c.loop-from.invariant.within c.loop-from.invariant.path
