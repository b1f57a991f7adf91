use Rattle.std.proofs.Common.{◌≡◌, arith}
use Rattle.std.specs.Prelude.{None, Some}
use Rattle.std.proofs.lemmas.Str.Pattern.{split_parts}
use Rattle.fields_forms.proofs.theory.LocationLemmas.{no_back, no_front, no_whole, parts_read, whole_read}
use Rattle.fields_forms.proofs.location_words.read_decimal.Goals as goal

pub returns-in_err-whole : goal.returns-in_err-whole
returns-in_err-whole c =
    let none : c.from_residual.result ≡ None = c.from_residual.ensures in
    let clear = split_parts 46 c.args.word.now None c.in_default.ensures.cases (omega arith) in
    rw none (no_whole c.args.places c.args.most c.args.word.now c.requires.places clear c.in_err-whole.ensures)

pub returns-in_default : goal.returns-in_default
returns-in_default c =
    let clear = split_parts 46 c.args.word.now None c.in_default.ensures.cases (omega arith) in
    whole_read c.args.places c.args.most c.args.word.now c.requires.places clear c.in_ok-whole.whole c.sum_of.result c.in_ok-whole.ensures.0.0 c.in_ok-whole.ensures.1 c.sum_of.ensures

pub returns-in_err-whole-2 : goal.returns-in_err-whole-2
returns-in_err-whole-2 c =
    let none : c.from_residual-in_err-whole-2.result ≡ None = c.from_residual-in_err-whole-2.ensures in
    let split = split_parts 46 c.args.word.now (Some (c.in-Some.whole, c.in-Some.decimals)) c.in-Some.ensures.cases (omega arith) in
    rw none (no_front c.args.places c.args.most c.args.word.now c.requires.places c.in-Some.whole.now c.in-Some.decimals.now split c.in_err-whole-2.ensures)

pub returns-in_err-part : goal.returns-in_err-part
returns-in_err-part c =
    let none : c.from_residual-in_err-part.result ≡ None = c.from_residual-in_err-part.ensures in
    let split = split_parts 46 c.args.word.now (Some (c.in-Some.whole, c.in-Some.decimals)) c.in-Some.ensures.cases (omega arith) in
    rw none (no_back c.args.places c.args.most c.args.word.now c.requires.places c.in-Some.whole.now c.in-Some.decimals.now split c.in_err-part.ensures.read)

pub returns : goal.returns
returns c =
    let split = split_parts 46 c.args.word.now (Some (c.in-Some.whole, c.in-Some.decimals)) c.in-Some.ensures.cases (omega arith) in
    parts_read c.args.places c.args.most c.args.word.now c.requires.places c.in-Some.whole.now c.in-Some.decimals.now split c.in_ok-whole-2.whole c.in_ok-part.part c.sum_of-2.result
    c.in_ok-whole-2.ensures.0.0 c.in_ok-whole-2.ensures.1 c.in_ok-part.ensures.read c.sum_of-2.ensures
