use Rattle.std.proofs.Common.{Bool, ℕ, List, [], get_or, subst}
use Rattle.std.proofs.lemmas.Bool.{false≢true}
use Rattle.fields_text.specs.Base64Characters.{TakesCharacters}
use Rattle.fields_text.proofs.Base64Taken.{all_left, none_left, word_refused, word_taken}
use Rattle.fields_text.proofs.base64_words.are_base64.Goals as goal

pub loop-word-init : goal.loop-word-init
loop-word-init c = all_left c.args.words.now c.new-group.result.items c.new-group.ensures

pub loop-word-preserved : goal.loop-word-preserved
loop-word-preserved c =
    let words = c.args.words.now in
    let i = c.loop-word.word-index in
    let word = get_or words i (record { ref_ptr = (0, 0); now = [] }) in
    let group = c.loop-word.group.items in
    let new = c.take_word.new.group.items in
    word_taken words i (record { ref_ptr = (0, 0); now = [] }) group new c.loop-word-test.true c.loop-word.invariant
    (subst (λ (b : Bool). TakesCharacters word.now group new b) c.if-not-take_word.false
    (subst (λ (text : List ℕ). TakesCharacters text group new c.take_word.result) c.as_bytes.ensures.value c.take_word.ensures))

pub returns-then-not-take_word : goal.returns-then-not-take_word
returns-then-not-take_word c =
    let words = c.args.words.now in
    let i = c.loop-word.word-index in
    let word = get_or words i (record { ref_ptr = (0, 0); now = [] }) in
    let group = c.loop-word.group.items in
    let new = c.take_word.new.group.items in
    let refused =
    word_refused words i (record { ref_ptr = (0, 0); now = [] }) group new c.loop-word-test.true c.loop-word.invariant
    (subst (λ (b : Bool). TakesCharacters word.now group new b) c.if-not-take_word.true
    (subst (λ (text : List ℕ). TakesCharacters text group new c.take_word.result) c.as_bytes.ensures.value c.take_word.ensures)) in
    (λ h. absurd (false≢true h), λ has. absurd (refused has))

pub returns : goal.returns
returns c = none_left c.args.words.now c.loop-word.word-index c.loop-word.group.items c.as_slice.result.now c.is_base64.result c.loop-word-test.false c.loop-word.invariant
    c.as_slice.ensures.value c.is_base64.ensures
