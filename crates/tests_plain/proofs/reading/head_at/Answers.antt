use Rattle.std.proofs.Common.{◌≡◌, ◌+◌, ◌*◌, ◌-◌, ◌<◌, ◌≤◌, ◌∙◌, arith, length, sym}
use Rattle.std.specs.Prelude.{Some, None, Ok, slice_get}
use Rattle.std.proofs.lemmas.Result.{err_from_is_err_and}
use Rattle.std.proofs.lemmas.Option.{slice_get_within}
use Rattle.dns_octets.specs.declared.error.ParseError.TheVariants as errors
use Rattle.dns_name.specs.Names.{SkipFaulty}
use Rattle.dns_name.specs.declared.head.Head.TheVariants.{Pointer}
use Rattle.dns_name.proofs.theory.HeadLemmas.{root_begins, label_begins}
use Rattle.tests_plain.proofs.NameSteps.{octet_there, octet_missing, missing_error, begins_nothing, begins_no_label, begins_pointer}
use Rattle.tests_plain.proofs.reading.head_at.Goals as goal

pub returns-in_err-first : goal.returns-in_err-first
returns-in_err-first c =
    let p = err_from_is_err_and c.from_residual.result c.from_residual.ensures.1 in
    let gone = c.in_err-first.ensures.ok_part in
    let same : c.in_err-first.field-0.0 ≡ errors.ShortInput = missing_error c.get.result c.in_err-first.field-0.0 (sym c.in_err-first.ensures.value) gone in
    rw (p.1, p.2, same) (SkipFaulty.head (begins_nothing _ _ (octet_missing _ _ c.get.result c.get.ensures.lookup.3 gone)))

pub returns-in-0 : goal.returns-in-0
returns-in-0 c =
    let first = octet_there c.args.octets.now c.args.offset c.get.result c.in_ok-first.field-0 c.get.ensures.lookup.3 c.in_ok-first.ensures.ok_part in
    let zero : slice_get c.args.octets.now c.args.offset ≡ Some 0 = cc (first, c.in-0.is) in
    record {
      there = root_begins _ _ zero;
      within = slice_get_within _ _ _ zero;
      short = λ n e. absurd (cc e);
      fits = λ n e. absurd (cc e);
    }

pub returns-in-1-to-63 : goal.returns-in-1-to-63
returns-in-1-to-63 c =
    let first = octet_there c.args.octets.now c.args.offset c.get.result c.in_ok-first.field-0 c.get.ensures.lookup.3 c.in_ok-first.ensures.ok_part in
    let n = c.in_ok-first.field-0.now in
    let some : 1 ≤ n = omega (arith, c.in-1-to-63) in
    let short : n ≤ 63 = omega (arith, c.in-1-to-63) in
    SkipFaulty.long (label_begins _ _ n some short first) (omega arith)

pub returns-in-1-to-63-2 : goal.returns-in-1-to-63-2
returns-in-1-to-63-2 c =
    let first = octet_there c.args.octets.now c.args.offset c.get.result c.in_ok-first.field-0 c.get.ensures.lookup.3 c.in_ok-first.ensures.ok_part in
    let n = c.in_ok-first.field-0.now in
    let some : 1 ≤ n = omega (arith, c.in-1-to-63) in
    let short : n ≤ 63 = omega (arith, c.in-1-to-63) in
    let within : c.args.offset < length c.args.octets.now = slice_get_within _ _ _ first in
    SkipFaulty.cut (label_begins _ _ n some short first) (omega arith) (omega arith)

pub returns-in-1-to-63-3 : goal.returns-in-1-to-63-3
returns-in-1-to-63-3 c =
    let first = octet_there c.args.octets.now c.args.offset c.get.result c.in_ok-first.field-0 c.get.ensures.lookup.3 c.in_ok-first.ensures.ok_part in
    let n = c.in_ok-first.field-0.now in
    let some : 1 ≤ n = omega (arith, c.in-1-to-63) in
    let short : n ≤ 63 = omega (arith, c.in-1-to-63) in
    let within : c.args.offset < length c.args.octets.now = slice_get_within _ _ _ first in
    record {
      there = label_begins _ _ n some short first;
      within = within;
      short = λ m e. let same : n ≡ m = cc e in omega arith;
      fits = λ m e. let same : n ≡ m = cc e in omega arith;
    }

pub returns-in-64-to-191 : goal.returns-in-64-to-191
returns-in-64-to-191 c =
    let first = octet_there c.args.octets.now c.args.offset c.get.result c.in_ok-first.field-0 c.get.ensures.lookup.3 c.in_ok-first.ensures.ok_part in
    SkipFaulty.head (begins_no_label _ _ c.in_ok-first.field-0.now first (omega (arith, c.in-64-to-191)) (omega (arith, c.in-64-to-191)))

pub returns-in_err-second-in-192-to-255 : goal.returns-in_err-second-in-192-to-255
returns-in_err-second-in-192-to-255 c =
    let error = c.from_residual-in_err-second-in-192-to-255 in
    let p = err_from_is_err_and error.result error.ensures.1 in
    let first = octet_there c.args.octets.now c.args.offset c.get.result c.in_ok-first.field-0 c.get.ensures.lookup.3 c.in_ok-first.ensures.ok_part in
    let high : 192 ≤ c.in_ok-first.field-0.now = omega (arith, c.in-192-to-255) in
    let second = c.get-in-192-to-255 in
    let gone = c.in_err-second-in-192-to-255.ensures.ok_part in
    let missing = octet_missing c.args.octets.now (c.args.offset + 1) second.result second.ensures.lookup.3 gone in
    let same : c.in_err-second-in-192-to-255.field-0.0 ≡ errors.ShortInput = missing_error second.result _ (sym c.in_err-second-in-192-to-255.ensures.value) gone in
    rw (p.1, p.2, same) (SkipFaulty.head (begins_pointer _ _ c.in_ok-first.field-0.now None first high missing))

pub returns-in_ok-second-in-192-to-255 : goal.returns-in_ok-second-in-192-to-255
returns-in_ok-second-in-192-to-255 c =
    let first = octet_there c.args.octets.now c.args.offset c.get.result c.in_ok-first.field-0 c.get.ensures.lookup.3 c.in_ok-first.ensures.ok_part in
    let high : 192 ≤ c.in_ok-first.field-0.now = omega (arith, c.in-192-to-255) in
    let got = c.get-in-192-to-255 in
    let second = octet_there c.args.octets.now (c.args.offset + 1) got.result c.in_ok-second-in-192-to-255.field-0 got.ensures.lookup.3 c.in_ok-second-in-192-to-255.ensures.ok_part in
    let low : c.in_ok-first.field-0.now - 192 ≡ c.from-in-192-to-255.result = sym c.from-in-192-to-255.ensures in
    let last : c.in_ok-second-in-192-to-255.field-0.now ≡ c.from-in-192-to-255-2.result = sym c.from-in-192-to-255-2.ensures in
    let there = begins_pointer _ _ c.in_ok-first.field-0.now (Some c.in_ok-second-in-192-to-255.field-0.now) first high second in
    record {
      there = there ∙ (λ i. Ok (Pointer (low i * 256 + last i)));
      within = slice_get_within _ _ _ first;
      short = λ n e. absurd (cc e);
      fits = λ n e. absurd (cc e);
    }
