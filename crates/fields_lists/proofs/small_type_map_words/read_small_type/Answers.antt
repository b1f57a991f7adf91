use Rattle.std.proofs.Common.{◌≡◌, ◌∙◌, ◌<◌, sym, arith}
use Rattle.std.specs.Prelude.{nat_lt, true, false}
use Rattle.std.proofs.lemmas.Bool.{and_parts, ltb-true}
use Rattle.fields_lists.specs.TypeBits.{is_small_type}
use Rattle.fields_lists.proofs.SmallMarks.{large_word, small_word}
use Rattle.fields_lists.proofs.small_type_map_words.read_small_type.Goals as goal

pub returns-in_default : goal.returns-in_default
returns-in_default c = λ n. (λ s. (c.in_default.ensures n).0 s.0, λ e. absurd (cc e))

pub returns-then-not-is_small_type : goal.returns-then-not-is_small_type
returns-then-not-is_small_type c =
    let large : is_small_type c.to_int-number.result ≡ false = sym c.is_small_type.ensures ∙ c.if-not-is_small_type.true in
    large_word c.args.word.now c.in-Some.rtype c.to_int-number.result c.in-Some.ensures c.to_int-number.ensures large

pub returns : goal.returns
returns c =
    let small : is_small_type c.to_int-number.result ≡ true = sym c.is_small_type.ensures ∙ c.if-not-is_small_type.false in
    small_word c.args.word.now c.in-Some.rtype c.to_int-number.result c.in-Some.ensures c.to_int-number.ensures small

pub overflow_cast-result : goal.overflow_cast-result
overflow_cast-result c =
    let small : is_small_type c.to_int-number.result ≡ true = sym c.is_small_type.ensures ∙ c.if-not-is_small_type.false in
    let high : c.to_int-number.result < 128 = ltb-true c.to_int-number.result 128 (and_parts (nat_lt 0 c.to_int-number.result) (nat_lt c.to_int-number.result 128) small).1 in
    omega arith
