use Rattle.std.proofs.Common.{◌≡◌, arith}
use Rattle.std.specs.Prelude.{None, Some}
use Rattle.std.proofs.lemmas.Str.Pattern.{strip_prefix_char}
use Rattle.fields_forms.proofs.theory.LocationLemmas.{depth_read, height_read, no_depth, no_height}
use Rattle.fields_forms.proofs.location_words.read_altitude.Goals as goal

pub returns-in_err-centimetres : goal.returns-in_err-centimetres
returns-in_err-centimetres c =
    let none : c.from_residual.result ≡ None = c.from_residual.ensures in
    let other = strip_prefix_char 45 c.args.word.now None c.in_default.ensures.cases (omega arith) in
    rw none (no_height c.args.word.now other c.in_err-centimetres.ensures.read)

pub returns-in_default : goal.returns-in_default
returns-in_default c =
    let other = strip_prefix_char 45 c.args.word.now None c.in_default.ensures.cases (omega arith) in
    height_read c.args.word.now other c.in_ok-centimetres.centimetres c.above.result c.in_ok-centimetres.ensures.read c.above.ensures

pub returns-in_err-centimetres-2 : goal.returns-in_err-centimetres-2
returns-in_err-centimetres-2 c =
    let none : c.from_residual-in_err-centimetres-2.result ≡ None = c.from_residual-in_err-centimetres-2.ensures in
    let whole = strip_prefix_char 45 c.args.word.now (Some c.in-Some.length) c.in-Some.ensures.cases (omega arith) in
    rw none (no_depth c.args.word.now c.in-Some.length.now whole c.in_err-centimetres-2.ensures.read)

pub returns : goal.returns
returns c =
    let whole = strip_prefix_char 45 c.args.word.now (Some c.in-Some.length) c.in-Some.ensures.cases (omega arith) in
    depth_read c.args.word.now c.in-Some.length.now whole c.in_ok-centimetres-2.centimetres c.below.result c.in_ok-centimetres-2.ensures.read c.below.ensures
