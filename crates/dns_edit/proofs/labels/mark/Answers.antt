use Rattle.std.proofs.Common.{◌/◌, get_or, refl}
use Rattle.dns_edit.proofs.MarkLemmas.{sets_mark}
use Rattle.dns_edit.proofs.labels.mark.Goals as goal

pub returns-then-at-marks : goal.returns-then-at-marks
returns-then-at-marks c = sets_mark c.args.marks.now c.args.at (get_or c.args.marks.now (c.args.at / 8) 0) c.if-at-marks.true refl
