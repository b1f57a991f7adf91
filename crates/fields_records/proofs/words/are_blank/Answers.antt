use Rattle.std.proofs.Common.{◌∙◌, [], length, get_or, refl, sym, ap}
use Rattle.std.proofs.lemmas.Bool.{eqb-false, eqb-true}
use Rattle.std.proofs.lemmas.List.{nil_from_length}
use Rattle.fields_records.proofs.JoinedDigits.{all_blank, blank_taken, other_word}
use Rattle.fields_records.proofs.words.are_blank.Goals as goal

pub loop-word-init : goal.loop-word-init
loop-word-init c = refl

pub loop-word-preserved : goal.loop-word-preserved
loop-word-preserved c =
    let word = get_or c.args.words.now c.loop-word.word-index (record { ref_ptr = (0, 0); now = [] }) in
    blank_taken c.args.words.now c.loop-word.word-index (record { ref_ptr = (0, 0); now = [] }) c.loop-word-test.true
    (nil_from_length word.now (eqb-true (length word.now) 0 (sym c.is_empty.ensures ∙ c.if-not-is_empty.false))) c.loop-word.invariant

pub returns-then-not-is_empty : goal.returns-then-not-is_empty
returns-then-not-is_empty c =
    let word = get_or c.args.words.now c.loop-word.word-index (record { ref_ptr = (0, 0); now = [] }) in
    other_word c.args.words.now c.loop-word.word-index (record { ref_ptr = (0, 0); now = [] }) c.loop-word-test.true
    (λ none. eqb-false (length word.now) 0 (sym c.is_empty.ensures ∙ c.if-not-is_empty.true) (ap length none)) c.loop-word.invariant

pub returns : goal.returns
returns c = all_blank c.args.words.now c.loop-word.word-index c.loop-word-test.false c.loop-word.invariant
