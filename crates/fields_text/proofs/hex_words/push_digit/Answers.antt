use Rattle.std.proofs.Common.{true, ◌++◌, ◌∷◌, [], ℕ, sym, subst}
use Rattle.std.specs.Prelude.{Option}
use Rattle.std.specs.Option.{option_to_list}
use Rattle.fields_text.specs.HexCharacters.{TakesDigits}
use Rattle.fields_text.proofs.HexTaken.{all_left, pair_taken}
use Rattle.fields_text.proofs.hex_words.push_digit.Goals as goal

pub returns-in_default : goal.returns-in_default
returns-in_default g c =
    let old = c.args.octets.now.items in
    let digit = c.args.digit in
    subst (λ (first : Option ℕ). TakesDigits (option_to_list first ++ digit ∷ []) (digit ∷ []) g.row.N old old true) (sym c.in_default.is) (all_left (digit ∷ []) old g.row.N)

pub returns : goal.returns
returns g c =
    let old = c.args.octets.now.items in
    let new = c.push_octet.new.octets.items in
    let digit = c.args.digit in
    subst (λ (first : Option ℕ). TakesDigits (option_to_list first ++ digit ∷ []) [] g.row.N old new c.push_octet.result) (sym c.in-Some.is)
    (pair_taken c.in-Some.high digit g.row.N old new c.push_octet.result c.push_octet.ensures)
