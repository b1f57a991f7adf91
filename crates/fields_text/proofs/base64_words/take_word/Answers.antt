use Rattle.std.proofs.Common.{◌∷◌, [], Bool, get_or, subst}
use Rattle.fields_text.specs.Base64Characters.{TakesCharacters}
use Rattle.fields_text.proofs.Base64Taken.{all_taken, none_taken, one_refused, one_taken}
use Rattle.fields_text.proofs.base64_words.take_word.Goals as goal

pub loop-character-init : goal.loop-character-init
loop-character-init c = none_taken c.args.word.now c.args.group.now.items

pub loop-character-preserved : goal.loop-character-preserved
loop-character-preserved c =
    let word = c.args.word.now in
    let i = c.loop-character.character-index in
    let middle = c.loop-character.group.items in
    let new = c.take_character.new.group.items in
    one_taken word c.args.group.now.items i 0 middle new c.loop-character-test.true c.loop-character.invariant
    (subst (λ (b : Bool). TakesCharacters (get_or word i 0 ∷ []) middle new b) c.if-not-take_character.false c.take_character.ensures)

pub returns-then-not-take_character : goal.returns-then-not-take_character
returns-then-not-take_character c =
    let word = c.args.word.now in
    let i = c.loop-character.character-index in
    let middle = c.loop-character.group.items in
    let new = c.take_character.new.group.items in
    one_refused word c.args.group.now.items i 0 middle new c.loop-character-test.true c.loop-character.invariant
    (subst (λ (b : Bool). TakesCharacters (get_or word i 0 ∷ []) middle new b) c.if-not-take_character.true c.take_character.ensures)

pub returns : goal.returns
returns c = all_taken c.args.word.now c.args.group.now.items c.loop-character.character-index c.loop-character.group.items c.loop-character-test.false c.loop-character.invariant
