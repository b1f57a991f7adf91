-- A label adds as much to the size as to the offset, and a pointer decreases the offset.
use Rattle.std.proofs.Common.{◌+◌, ◌-◌, ◌*◌}
use Rattle.arrayvec.specs.ArrayVec.{array_vec_len}
use Rattle.tests_plain.proofs.reading.+name_after.Given as goal

abbrev pub decreases-name_after : goal.decreases-name_after
decreases-name_after l = 2 * (255 - array_vec_len l.labels) + l.offset
