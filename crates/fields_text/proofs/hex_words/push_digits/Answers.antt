use Rattle.std.proofs.Common.{Bool, true, ◌++◌, ◌∷◌, [], List, ℕ, get_or, sym, subst, append-nil}
use Rattle.std.specs.Option.{option_to_list}
use Rattle.fields_text.specs.HexCharacters.{TakesDigits}
use Rattle.fields_text.proofs.HexTaken.{all_left, all_taken, one_refused, one_taken}
use Rattle.fields_text.proofs.hex_words.push_digits.Goals as goal

pub loop-digit-init : goal.loop-digit-init
loop-digit-init g c =
    let start = option_to_list c.args.first.now in
    let old = c.args.octets.now.items in
    subst (λ (s : List ℕ). TakesDigits s start g.row.N old old true) (sym (append-nil start)) (all_left start old g.row.N)

pub loop-digit-preserved : goal.loop-digit-preserved
loop-digit-preserved g c =
    let start = option_to_list c.args.first.now in
    let word = c.args.word.now in
    let i = c.loop-digit.digit-index in
    let left = option_to_list c.loop-digit.first in
    let last = option_to_list c.push_digit.new.first in
    let middle = c.loop-digit.octets.items in
    let new = c.push_digit.new.octets.items in
    one_taken start word left last c.args.octets.now.items middle new i g.row.N c.loop-digit-test.true c.loop-digit.invariant
    (subst (λ (b : Bool). TakesDigits (left ++ get_or word i 0 ∷ []) last g.row.N middle new b) c.if-not-push_digit.false c.push_digit.ensures)

pub returns-then-not-push_digit : goal.returns-then-not-push_digit
returns-then-not-push_digit g c =
    let start = option_to_list c.args.first.now in
    let word = c.args.word.now in
    let i = c.loop-digit.digit-index in
    let left = option_to_list c.loop-digit.first in
    let last = option_to_list c.push_digit.new.first in
    let middle = c.loop-digit.octets.items in
    let new = c.push_digit.new.octets.items in
    one_refused start word left last c.args.octets.now.items middle new i g.row.N c.loop-digit-test.true c.loop-digit.invariant
    (subst (λ (b : Bool). TakesDigits (left ++ get_or word i 0 ∷ []) last g.row.N middle new b) c.if-not-push_digit.true c.push_digit.ensures)

pub returns : goal.returns
returns g c =
    all_taken (option_to_list c.args.first.now) c.args.word.now (option_to_list c.loop-digit.first) c.args.octets.now.items c.loop-digit.octets.items c.loop-digit.digit-index g.row.N
    c.loop-digit-test.false c.loop-digit.invariant
