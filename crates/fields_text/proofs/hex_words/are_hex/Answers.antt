use Rattle.std.proofs.Common.{◌∙◌, [], get_or, sym, ap, arith}
use Rattle.std.specs.Char.{is_ascii_hexdigit}
use Rattle.std.specs.List.{list_all}
use Rattle.std.proofs.lemmas.Bool.{eq-eqb, eqb-true, false≢true}
use Rattle.fields_text.specs.JoinedWords.{joined}
use Rattle.fields_text.proofs.HexDigits.{digits_refused, digits_taken, hex_is_even, no_digits_left}
use Rattle.fields_text.proofs.hex_words.are_hex.Goals as goal

pub loop-word-init : goal.loop-word-init
loop-word-init c = (omega arith, hex_is_even (joined c.args.words.now))

pub loop-word-preserved : goal.loop-word-preserved
loop-word-preserved c =
    let words = c.args.words.now in
    let i = c.loop-word.word-index in
    let word = get_or words i (record { ref_ptr = (0, 0); now = [] }) in
    let before = c.loop-word.invariant.0 in (
      omega arith,
      digits_taken words i c.loop-word.odd _ (record { ref_ptr = (0, 0); now = [] }) c.loop-word-test.true c.loop-word.invariant.1
          (ap (list_all is_ascii_hexdigit) (sym c.as_bytes.ensures.value) ∙ sym c.are_digits.ensures ∙ c.if-not-are_digits.false) (omega arith),
    )

pub returns-then-not-are_digits : goal.returns-then-not-are_digits
returns-then-not-are_digits c =
    let refused =
    digits_refused c.args.words.now c.loop-word.word-index c.loop-word.odd (record { ref_ptr = (0, 0); now = [] }) c.loop-word-test.true c.loop-word.invariant.1
    (ap (list_all is_ascii_hexdigit) (sym c.as_bytes.ensures.value) ∙ sym c.are_digits.ensures ∙ c.if-not-are_digits.true) in
    (λ h. absurd (false≢true h), λ has. absurd (refused has))

pub returns : goal.returns
returns c =
    let small = c.loop-word.invariant.0 in
    let both = no_digits_left c.args.words.now c.loop-word.word-index c.loop-word.odd c.loop-word-test.false c.loop-word.invariant.1 in (
      λ h. let zero = eqb-true c.loop-word.odd 0 h in both.1 (omega arith),
      λ has. let even = both.0 has in eq-eqb c.loop-word.odd 0 (omega arith),
    )
