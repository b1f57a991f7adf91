use Rattle.std.proofs.Common.{◌<◌, ◌∙◌, List, ap, sym, subst, arith}
use Rattle.std.specs.Prelude.{slice_get}
use Rattle.std.proofs.lemmas.Bool.Decides.{nat_tests}
use Rattle.dns_target.specs.declared.suffix_map.EndedKey.{EndedKey}
use Rattle.dns_target.specs.TableEntries.{AreOrdered}
use Rattle.dns_target.specs.HashIndex.{KeyedSuffixes, KeyedSuffix, cut_suffixes, table_entries_in}
use Rattle.dns_target.proofs.KeyTables.{first_past}
use Rattle.dns_target.proofs.suffix_map.SuffixMap.ends_past.Goals as goal

pub returns-in-Some : goal.returns-in-Some
returns-in-Some c = λ past.
    let late : c.args.len < c.in-Some.first.now.end = grind (arith, nat_tests) in
    let entries = ap (λ (t : KeyedSuffixes). t.suffixes) c.self.view_is in
    let first = c.in-Some.ensures.value ∙ ap (λ (keys : List EndedKey). slice_get keys 0) c.deref.ensures.value in
    ap (cut_suffixes c.args.len) (sym entries)
    ∙ first_past c.self.inside.offsets c.self.inside.keys.items _ c.args.len first (subst (λ (ss : List KeyedSuffix). AreOrdered (table_entries_in ss)) (sym entries) c.requires) late
