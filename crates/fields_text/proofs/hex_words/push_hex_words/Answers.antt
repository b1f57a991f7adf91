use Rattle.std.proofs.Common.{Bool, ◌++◌, [], List, ℕ, get_or, subst}
use Rattle.std.specs.Option.{option_to_list}
use Rattle.fields_text.specs.HexCharacters.{TakesDigits}
use Rattle.fields_text.proofs.HexTaken.{all_left, word_refused, word_taken, words_taken}
use Rattle.fields_text.proofs.hex_words.push_hex_words.Goals as goal

pub loop-word-init : goal.loop-word-init
loop-word-init g c = all_left [] c.args.octets.now.items g.row.N

pub loop-word-preserved : goal.loop-word-preserved
loop-word-preserved g c =
    let words = c.args.words.now in
    let i = c.loop-word.word-index in
    let word = get_or words i (record { ref_ptr = (0, 0); now = [] }) in
    let left = option_to_list c.loop-word.first in
    let last = option_to_list c.push_digits.new.first in
    let middle = c.loop-word.octets.items in
    let new = c.push_digits.new.octets.items in
    word_taken words i (record { ref_ptr = (0, 0); now = [] }) left last c.args.octets.now.items middle new g.row.N c.loop-word-test.true c.loop-word.invariant
    (subst (λ (b : Bool). TakesDigits (left ++ word.now) last g.row.N middle new b) c.if-not-push_digits.false
    (subst (λ (text : List ℕ). TakesDigits (left ++ text) last g.row.N middle new c.push_digits.result) c.as_bytes.ensures.value c.push_digits.ensures))

pub returns-then-not-push_digits : goal.returns-then-not-push_digits
returns-then-not-push_digits g c =
    let words = c.args.words.now in
    let i = c.loop-word.word-index in
    let word = get_or words i (record { ref_ptr = (0, 0); now = [] }) in
    let left = option_to_list c.loop-word.first in
    let last = option_to_list c.push_digits.new.first in
    let middle = c.loop-word.octets.items in
    let new = c.push_digits.new.octets.items in
    word_refused words i (record { ref_ptr = (0, 0); now = [] }) left last c.args.octets.now.items middle new g.row.N c.loop-word-test.true c.loop-word.invariant
    (subst (λ (b : Bool). TakesDigits (left ++ word.now) last g.row.N middle new b) c.if-not-push_digits.true
    (subst (λ (text : List ℕ). TakesDigits (left ++ text) last g.row.N middle new c.push_digits.result) c.as_bytes.ensures.value c.push_digits.ensures))

pub returns : goal.returns
returns g c =
    words_taken c.args.words.now c.loop-word.word-index c.loop-word.first c.is_none.result c.args.octets.now.items c.loop-word.octets.items g.row.N c.loop-word-test.false
    c.loop-word.invariant c.is_none.ensures
