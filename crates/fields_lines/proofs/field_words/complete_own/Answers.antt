use Rattle.std.proofs.Common.{◌∙◌, ◌+◌, [], inr, refl, sym, ap}
use Rattle.std.specs.Prelude.{option_map}
use Rattle.std.specs.Option.{option_copied}
use Rattle.fields_lines.proofs.CompletingLemmas.{own_end, own_more, own_none}
use Rattle.fields_lines.specs.WordTexts.{text_of}
use Rattle.fields_lines.proofs.field_words.complete_own.Goals as goal

pub returns-in_default-found : goal.returns-in_default-found
returns-in_default-found c =
    let i = c.loop-index.index in
    let none = sym (ap (option_map text_of) c.in_default-found.is) ∙ c.in-Ok.ensures in
    inr (
      c.args.at + i,
      sym c.loop-index.invariant
          ∙ own_none (option_copied c.args.origin) c.args.at c.args.way c.args.own.now i (record { ref_ptr = (0, 0); now = [] }) c.loop-index.completed.items
          c.word_way-way.result c.word_way-way.ensures
          c.loop-index-test.true none,
      refl,
    )

pub loop-index-preserved : goal.loop-index-preserved
loop-index-preserved c =
    let i = c.loop-index.index in
    let some = sym (ap (option_map text_of) c.in-Some.is) ∙ c.in-Ok.ensures in
    own_more (option_copied c.args.origin) c.args.at c.args.way c.args.own.now i (record { ref_ptr = (0, 0); now = [] }) c.loop-index.completed.items c.word_way-way.result c.word_way-way.ensures
    c.loop-index-test.true c.push.new.self.items c.in-Some.found c.in-Ok-push.ensures.items some
    ∙ c.loop-index.invariant

pub returns : goal.returns
returns c =
    sym c.loop-index.invariant
    ∙ own_end (option_copied c.args.origin) c.args.at c.args.way c.args.own.now c.loop-index.index (record { ref_ptr = (0, 0); now = [] }) c.loop-index.completed.items c.loop-index-test.false
