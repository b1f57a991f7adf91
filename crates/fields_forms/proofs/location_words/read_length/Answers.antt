use Rattle.std.proofs.Common.{arith}
use Rattle.std.specs.Prelude.{None, Some}
use Rattle.std.proofs.lemmas.Str.Pattern.{strip_suffix_char}
use Rattle.fields_forms.proofs.theory.LocationLemmas.{metres_read, number_read}
use Rattle.fields_forms.proofs.location_words.read_length.Goals as goal

pub returns-in-Some-clause-read : goal.returns-in-Some-clause-read
returns-in-Some-clause-read c =
    let whole = strip_suffix_char 109 c.args.word.now (Some c.in-Some.number) c.in-Some.ensures.cases (omega arith) in
    metres_read c.args.word.now c.in-Some.number.now c.read_decimal.result whole c.read_decimal.ensures

pub returns-in-None-clause-read : goal.returns-in-None-clause-read
returns-in-None-clause-read c =
    let other = strip_suffix_char 109 c.args.word.now None c.in-None.ensures.cases (omega arith) in
    number_read c.args.word.now c.read_decimal-in-None.result other c.read_decimal-in-None.ensures
