use Rattle.std.proofs.Common.{◌≡◌, ◌<◌, ◌∙◌, None, ◌∷◌, ap, arith}
use Rattle.std.specs.HashMap.{spare}
use Rattle.dns_target.specs.HashIndex.{KeyedSuffixes, find}
use Rattle.dns_target.proofs.KeyTables.{tabled_push, one_key, ok_part}
use Rattle.dns_target.proofs.suffix_map.SuffixMap.push.Goals as goal

pub invariant_of-self : goal.invariant_of-self
invariant_of-self c =
    let size = ap (λ (t : KeyedSuffixes). t.spare_capacity) c.self.view_is in
    let spare_capacity : 0 < spare c.self.inside.offsets = let r = c.requires.spare_capacity in omega arith in
    let updates = ok_part _ (c.insert.ensures.succeeds spare_capacity) c.insert.ensures.updates in
    let new : find c.args.self.now.suffixes c.set.new.self.label.items c.set.new.self.parent ≡ None = rw (c.set.ensures.label, c.set.ensures.parent) c.requires.new in
    (tabled_push c.self.inside.offsets c.insert.new.self c.self.inside.keys.items _ _ c.set.new.self c.args.offset c.args.self.now.suffixes
    c.self.invariant (ap (λ (t : KeyedSuffixes). t.suffixes) c.self.view_is) c.push_reserved.ensures.items
    (one_key _ _ _ _ c.set-2.ensures.label c.set-2.ensures.parent c.set.ensures.label c.set.ensures.parent) updates.0 new).0

pub returns-clause-suffixes : goal.returns-clause-suffixes
returns-clause-suffixes c =
    let size = ap (λ (t : KeyedSuffixes). t.spare_capacity) c.self.view_is in
    let spare_capacity : 0 < spare c.self.inside.offsets = let r = c.requires.spare_capacity in omega arith in
    let updates = ok_part _ (c.insert.ensures.succeeds spare_capacity) c.insert.ensures.updates in
    let new : find c.args.self.now.suffixes c.set.new.self.label.items c.set.new.self.parent ≡ None = rw (c.set.ensures.label, c.set.ensures.parent) c.requires.new in
    let label = c.set.ensures.label in
    let parent = c.set.ensures.parent in
    (tabled_push c.self.inside.offsets c.insert.new.self c.self.inside.keys.items _ _ c.set.new.self c.args.offset c.args.self.now.suffixes
    c.self.invariant (ap (λ (t : KeyedSuffixes). t.suffixes) c.self.view_is) c.push_reserved.ensures.items
    (one_key _ _ _ _ c.set-2.ensures.label c.set-2.ensures.parent c.set.ensures.label c.set.ensures.parent) updates.0 new).1
    ∙ (λ i. record { label = label i; parent = parent i; offset = c.args.offset; end = c.args.end } ∷ c.args.self.now.suffixes)
