use Rattle.std.proofs.Common.{◌≡◌, ℕ, ◌+◌, length, ◌∙◌, ap, subst, sym, arith}
use Rattle.dns_name.specs.Parsers.{offset}
use Rattle.dns_code.specs.HeaderCounts.{counts}
use Rattle.dnsview_rows.specs.Fields.{item_count}
use Rattle.dnsview_rows.specs.Shown.{counted_items, Begins}
use Rattle.dnsview_rows.specs.Walks.{items, sum_of, AreCountsOf}
use Rattle.dnsview_rows.proofs.Items.{shows_octets}
use Rattle.dnsview_rows.proofs.Tilings.{made_of, tiles_shown}
use Rattle.dnsview_rows.proofs.shown.message_rows.Goals as goal

pub fault_of-requires-clause-counts : goal.fault_of-requires-clause-counts
fault_of-requires-clause-counts c =
    let b = c.args.octets.now in
    let counted = c.counts_of.ensures in
    let there : AreCountsOf b (counts c.counts_of.result) = record {
      questions = counted.questions;
      answers = counted.answers;
      authorities = counted.authorities;
      additionals = counted.additionals;
    } in
    subst (λ b. AreCountsOf b (counts c.counts_of.result)) (sym c.new-walk.ensures.seen) there

pub returns-clause-shows : goal.returns-clause-shows
returns-clause-shows c =
    let b = c.args.octets.now in
    let walk = c.fault_of.new.walk in
    let others = walk.rows.items in
    let stop = c.in_ok-stop.stop in
    let counted = c.counts_of.ensures in
    let sum : sum_of (counts c.counts_of.result) ≡ counted_items b = λ i. counted.questions i + counted.answers i + counted.authorities i + counted.additionals i in
    let none = c.new-walk.ensures.items in
    let all : items c.new-walk.result + sum_of (counts c.counts_of.result) ≡ counted_items b =
    (let whole : items c.new-walk.result + sum_of (counts c.counts_of.result) ≡ sum_of (counts c.counts_of.result) = omega (arith, none) in whole) ∙ sum in
    let P : ℕ → Type 0 = λ n. Begins stop (item_count others) n in
    record {
      others = others;
      stop = stop;
      offset = offset walk.parser;
      made = made_of c.push_rest.new.rows.items c.append.new.self.items c.in_ok-rows.rows.items others stop c.pos.result (offset walk.parser) (length b)
          c.in_ok-push_rest.ensures c.in_ok-append.ensures.items c.in_ok-rows.ensures c.pos.ensures;
      fields = c.fault_of.ensures.comes.marked;
      within =
          let same = ap length (c.fault_of.ensures.comes.input ∙ c.new-walk.ensures.input) in
          omega (arith, same, walk.parser.before_end, walk.parser.within);
      items = subst P all c.in_ok-stop.ensures.begins;
      parts = shows_octets b stop c.new-walk.result walk c.in_ok-stop.ensures.shows c.new-walk.ensures.seen c.new-walk.ensures.offset c.new-walk.ensures.rows;
    }

pub returns-clause-tiles : goal.returns-clause-tiles
returns-clause-tiles c = tiles_shown c.args.octets.now c.push_rest.new.rows.items (returns-clause-shows c)
