use Rattle.std.proofs.Common.{◌≡◌, ◌∷◌, [], List, Some, ap, codes, map, rules}
use Rattle.std.specs.Fmt.{◌++?◌}
use Rattle.fields_text.proofs.theory.Printing.{none_printed_if, put_two_if, word_printed_if}
use Rattle.fields_lists.specs.Prefixes.{prefixes_text, prefix_word}
use Rattle.fields_lists.specs.ItemsLeft.{prefix_item, prefixes_left}
use Rattle.fields_lists.specs.PrefixItems.{PrefixItem, prefixes_of}
use Rattle.fields_text.specs.Separated.{spaced_if_all}
use Rattle.fields_lists.proofs.prefix.write_prefixes.Goals as goal

pub loop-prefix-init : goal.loop-prefix-init
loop-prefix-init g c =
    let left : prefixes_left c.into_iter-prefix-iterator.result ≡ prefixes_of c.args.octets.now = search rules in
    record { can = tt; finite = tt; utf8 = search rules; printing = none_printed_if _ _ _ _ (ap (λ (items : List PrefixItem). spaced_if_all [] (map prefix_word items)) left) }

pub loop-prefix-preserved : goal.loop-prefix-preserved
loop-prefix-preserved g c =
    let takes = g.W.TextWriter.takes in
    let sep = c.loop-prefix.separator.now in
    let item = prefix_item c.in-Some.prefix in
    let old = prefixes_left c.loop-prefix.prefix-iterator in
    let rest = prefixes_left c.next.new.self in
    let left : old ≡ item ∷ rest = search rules in
    record {
      can = tt;
      finite = tt;
      utf8 = search rules;
      printing =
          word_printed_if takes c.args.f.now c.loop-prefix.f c.write_prefix.new.f c.write_prefix.result (spaced_if_all sep (map prefix_word old))
          (Some sep ++? prefix_word item) (spaced_if_all (codes " ") (map prefix_word rest))
          (prefixes_text c.args.octets.now) c.loop-prefix.invariant.printing
          (put_two_if takes c.loop-prefix.f c.write_text.new.self c.write_prefix.new.f c.write_prefix.result sep (prefix_word item)
          (c.write_text.ensures.text (search rules)) c.write_prefix.ensures.text)
          (search rules)
          (ap (λ (items : List PrefixItem). spaced_if_all sep (map prefix_word items)) left);
    }
