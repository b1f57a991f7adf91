use Rattle.std.proofs.Common.{◌≤◌, length, refl, arith, rules}
use Rattle.fields_text.proofs.Base32Digits.{text_of_five}
use Rattle.fields_text.proofs.theory.Printing.{left_printed, none_printed, word_printed}
use Rattle.fields_text.proofs.base32.write_base32.Goals as goal

pub groups-init : goal.groups-init
groups-init g c = none_printed _ _ _ _ refl

pub groups-preserved : goal.groups-preserved
groups-preserved g c =
    let five : 5 ≤ length c.groups.left.now = omega arith in
    word_printed _ _ _ _ _ _ _ _ c.groups.invariant (c.write_digits.ensures.text (search rules)) (cc (text_of_five c.groups.left.now five))

pub returns-clause-text : goal.returns-clause-text
returns-clause-text g c = λ ok. left_printed _ _ _ _ _ _ c.groups.invariant (c.write_last.ensures.text ok)
