use Rattle.std.proofs.Common.{◌≡◌, ◌∙◌, ◌<◌, ap, sym, length, List, map, rules, arith}
use Rattle.std.proofs.lemmas.Grind.{common_steps}
use Rattle.std.proofs.lemmas.List.{length-map, length-reverse, nil_from_length}
use Rattle.std.proofs.lemmas.List.Elements.{same_from_all_zip}
use Rattle.std.proofs.lemmas.Map.Entries.{entries_from_clone}
use Rattle.std.proofs.lemmas.Result.{err_from_is_err_and}
use Rattle.dns_target.specs.HashIndex.{KeyedSuffixes, OffsetMap, suffix_of, suffixes_of}
use Rattle.dns_target.specs.declared.suffix_map.EndedKey.{EndedKey}
use Rattle.dns_target.proofs.KeyTables.{tabled_same}
use Rattle.dns_target.proofs.suffix_map.SuffixMap.clone.Goals as goal

as_many : (offsets : OffsetMap) (keys : List EndedKey) → length (suffixes_of offsets keys) ≡ length keys
as_many offsets keys = length-reverse (map (suffix_of offsets) keys) ∙ length-map keys (suffix_of offsets)

pub invariant_of-result : goal.invariant_of-result
invariant_of-result c =
    (tabled_same c.self.inside.offsets c.in_ok-clone.field-0 c.self.inside.keys.items c.in_ok-clone-2.field-0.items c.self.invariant
    (entries_from_clone _ _ (λ x y e. e) (λ x y e. e) _ _ c.in_ok-clone.ensures.cases) (same_from_all_zip _ _ _ c.in_ok-clone-2.ensures.cases.0 (search rules))).0

pub returns-then-is_empty-clause-suffixes : goal.returns-then-is_empty-clause-suffixes
returns-then-is_empty-clause-suffixes c =
    let none : length c.self.inside.keys.items ≡ 0 = grind (arith, common_steps) in
    c.new.ensures ∙ sym (ap (suffixes_of c.self.inside.offsets) (nil_from_length c.self.inside.keys.items none)) ∙ ap (λ (t : KeyedSuffixes). t.suffixes) c.self.view_is

pub returns-in_err-clone-clause-full : goal.returns-in_err-clone-clause-full
returns-in_err-clone-clause-full c =
    let p = err_from_is_err_and c.from_residual.result c.from_residual.ensures.1 in
    let some : 0 < length c.self.inside.keys.items = grind (arith, common_steps) in
    let size = as_many c.self.inside.offsets c.self.inside.keys.items in
    let view = ap (λ (t : KeyedSuffixes). length t.suffixes) c.self.view_is in
    rw p.1 (omega (arith, some, size, view))

pub returns-in_err-clone-2-clause-full : goal.returns-in_err-clone-2-clause-full
returns-in_err-clone-2-clause-full c =
    let p = err_from_is_err_and c.from_residual-in_err-clone-2.result c.from_residual-in_err-clone-2.ensures.1 in
    let some : 0 < length c.self.inside.keys.items = grind (arith, common_steps) in
    let size = as_many c.self.inside.offsets c.self.inside.keys.items in
    let view = ap (λ (t : KeyedSuffixes). length t.suffixes) c.self.view_is in
    rw p.1 (omega (arith, some, size, view))

pub returns-clause-suffixes : goal.returns-clause-suffixes
returns-clause-suffixes c =
    (tabled_same c.self.inside.offsets c.in_ok-clone.field-0 c.self.inside.keys.items c.in_ok-clone-2.field-0.items c.self.invariant
    (entries_from_clone _ _ (λ x y e. e) (λ x y e. e) _ _ c.in_ok-clone.ensures.cases) (same_from_all_zip _ _ _ c.in_ok-clone-2.ensures.cases.0 (search rules))).1
    ∙ ap (λ (t : KeyedSuffixes). t.suffixes) c.self.view_is
