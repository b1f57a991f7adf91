use Rattle.std.proofs.Common.{◌∙◌, ap, sym, subst, arith, ltb-false, ltb-true}
use Rattle.dnsmsg_tool.specs.ScriptRecords.{IsAddressWord}
use Rattle.dnsmsg_tool.specs.ScriptWords.{texts}
use Rattle.dnsmsg_tool.proofs.RecordLemmas.{address_word, no_part, parts_four}
use Rattle.dnsmsg_tool.proofs.record_line.address.Goals as goal
use Rattle.dnsmsg_tool.proofs.record_line.address.Goals.{in_default-via-then-as_slice-lt4, in_default-via-else-as_slice-lt4+else-this-lt5}

pub returns-in_default : goal.returns-in_default
returns-in_default c = λ octets is.
    let four = parts_four c.args.word.now c.as_slice.result.now octets (ap texts c.as_slice.ensures.value ∙ c.in_ok-parts.ensures) is in
    elim c.in_default.branch [
      | in_default-via-then-as_slice-lt4 w ↦ absurd (omega (arith, four, ltb-true))
      | in_default-via-else-as_slice-lt4+else-this-lt5 w ↦ absurd (omega (arith, four, ltb-false))
    ]

pub returns-in_default-number_of_8_bits : goal.returns-in_default-number_of_8_bits
returns-in_default-number_of_8_bits c =
    no_part c.args.word.now c.as_slice.result.now 0 (ap texts c.as_slice.ensures.value ∙ c.in_ok-parts.ensures) (omega arith) c.in_default-number_of_8_bits.ensures

pub returns-in_default-number_of_8_bits-2 : goal.returns-in_default-number_of_8_bits-2
returns-in_default-number_of_8_bits-2 c =
    no_part c.args.word.now c.as_slice.result.now 1 (ap texts c.as_slice.ensures.value ∙ c.in_ok-parts.ensures) (omega arith) c.in_default-number_of_8_bits-2.ensures

pub returns-in_default-number_of_8_bits-3 : goal.returns-in_default-number_of_8_bits-3
returns-in_default-number_of_8_bits-3 c =
    no_part c.args.word.now c.as_slice.result.now 2 (ap texts c.as_slice.ensures.value ∙ c.in_ok-parts.ensures) (omega arith) c.in_default-number_of_8_bits-3.ensures

pub returns-in_default-number_of_8_bits-4 : goal.returns-in_default-number_of_8_bits-4
returns-in_default-number_of_8_bits-4 c =
    no_part c.args.word.now c.as_slice.result.now 3 (ap texts c.as_slice.ensures.value ∙ c.in_ok-parts.ensures) (omega arith) c.in_default-number_of_8_bits-4.ensures

pub returns : goal.returns
returns c =
    subst (IsAddressWord c.args.word.now) (sym c.from_octets.ensures)
    (address_word c.args.word.now c.as_slice.result.now c.in-Some.a c.in-Some-number_of_8_bits.b c.in-Some-number_of_8_bits-2.c c.in-Some-number_of_8_bits-3.d
    (ap texts c.as_slice.ensures.value ∙ c.in_ok-parts.ensures) c.in-len4.len_at_least c.in-len4.len_below c.in-Some.ensures c.in-Some-number_of_8_bits.ensures
    c.in-Some-number_of_8_bits-2.ensures c.in-Some-number_of_8_bits-3.ensures)
