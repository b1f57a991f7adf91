use Rattle.std.proofs.Common.{◌≡◌, ◌∙◌, ℕ, List, ◌++◌, ◌∷◌, [], length, sym, ap, arith}
use Rattle.std.specs.List.{list_all}
use Rattle.fields_text.specs.Base64Characters.{is_symbol}
use Rattle.fields_text.proofs.Base64Taken.{next_group, no_group}
use Rattle.fields_text.proofs.base64_words.take_character.Goals as goal

pub returns-then-not-are_symbols : goal.returns-then-not-are_symbols
returns-then-not-are_symbols c =
    let group = c.args.group.now.items in
    let size = c.len.ensures.value in
    let fits = c.len.ensures.fits in
    let low = c.if-len-lt4.false in
    let four : length group ≡ 4 = omega arith in
    no_group c.args.character group group four (ap (list_all is_symbol) (sym c.as_slice.ensures.value) ∙ sym c.are_symbols.ensures ∙ c.if-not-are_symbols.true)

pub returns : goal.returns
returns c =
    let group = c.args.group.now.items in
    let size = c.len.ensures.value in
    let fits = c.len.ensures.fits in
    let low = c.if-len-lt4.false in
    let four : length group ≡ 4 = omega arith in
    next_group c.args.character group c.push-2.new.self.items four (ap (list_all is_symbol) (sym c.as_slice.ensures.value) ∙ sym c.are_symbols.ensures ∙ c.if-not-are_symbols.false)
    (c.push-2.ensures.items ∙ ap (λ (s : List ℕ). s ++ (c.args.character ∷ [])) c.clear.ensures)
