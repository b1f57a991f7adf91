use Rattle.std.proofs.Common.{◌<◌, length, refl, arith, rules}
use Rattle.fields_plain.proofs.LocatorSteps.{locator_of_more}
use Rattle.fields_text.proofs.theory.Printing.{left_printed, none_printed, words_printed}
use Rattle.fields_plain.proofs.locator.write_locator.Goals as goal

pub groups-init : goal.groups-init
groups-init g c = none_printed _ _ _ _ refl

pub groups-preserved : goal.groups-preserved
groups-preserved g c =
    let more : 2 < length c.groups.left.now = omega arith in
    words_printed _ _ _ _ _ _ _ _ _ _ c.groups.invariant (c.write_group.ensures.text (search rules)) (c.write_text.ensures.text (search rules)) (cc (locator_of_more c.groups.left.now more))

pub returns-clause-text : goal.returns-clause-text
returns-clause-text g c = λ ok. left_printed _ _ _ _ _ _ c.groups.invariant (c.write_group-2.ensures.text ok)
