use Rattle.std.proofs.Common.{arith}
use Rattle.fields_forms.proofs.theory.LocationLemmas.{digit_rounded, size_small, tens_rounded}
use Rattle.fields_forms.proofs.location_words.+size_octet.Goals as goal

pub returns-then-centimetres-lt10 : goal.returns-then-centimetres-lt10
returns-then-centimetres-lt10 t c = digit_rounded c.args.centimetres (omega arith)

pub overflow_add-result : goal.overflow_add-result
overflow_add-result t c = let small = size_small c.size_octet.result c.size_octet.ensures.0 in omega (arith, small)

pub returns : goal.returns
returns t c = tens_rounded c.args.centimetres c.size_octet.result (omega arith) (omega arith) c.size_octet.ensures
