use Rattle.std.proofs.Common.{◌≡◌, ◌+◌}
use Rattle.dnsview_rows.specs.Walks.{items, Comes, MarksFirst}
use Rattle.dnsview_rows.specs.declared.row.Part.TheVariants.{Question}
use Rattle.dnsview_rows.proofs.walk.Walk.questions.Given as goal

abbrev pub invariant-loop-index : goal.invariant-loop-index
invariant-loop-index l = record {
  comes : Comes l.index l.fn.self l.self;
  begun : items l.self ≡ items l.fn.self + l.index;
  first : MarksFirst Question l.index l.fn.self l.self;
}
