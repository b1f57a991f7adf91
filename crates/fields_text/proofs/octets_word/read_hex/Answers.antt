use Rattle.std.proofs.Common.{◌≡◌, ◌∙◌, ◌<◌, ◌%◌, true, false, length, refl, sym, ap, inl, inr, arith}
use Rattle.std.proofs.lemmas.Bool.{cases_eq}
use Rattle.std.proofs.lemmas.Grind.{common_steps}
use Rattle.std.specs.Char.{is_ascii_hexdigit}
use Rattle.std.specs.List.{list_all}
use Rattle.fields_text.proofs.HexWords.{digits_take_memory, empty_is_hex, not_hex}
use Rattle.fields_text.proofs.octets_word.read_hex.Goals as goal

pub returns-then-is_empty-clause-reads : goal.returns-then-is_empty-clause-reads
returns-then-is_empty-clause-reads c =
    let none : length c.args.word.now ≡ 0 = grind (arith, common_steps) in
    empty_is_hex c.args.word.now c.new.result.items none c.new.ensures.items

pub returns-then-are_hex_digits-clause-full : goal.returns-then-are_hex_digits-clause-full
returns-then-are_hex_digits-clause-full c =
    let some : 0 < length c.args.word.now = grind (arith, common_steps) in
    let all : list_all is_ascii_hexdigit c.args.word.now ≡ true = ap (list_all is_ascii_hexdigit) (sym c.as_bytes.ensures.value) ∙ sym c.are_hex_digits.ensures ∙ c.if-are_hex_digits.true in
    let even : length c.args.word.now % 2 ≡ 0 = elim (cases_eq (length c.args.word.now % 2) 1) [
      | inl odd ↦ cc (c.decode.ensures.odd odd, c.in-Err-OutOfMemory.is, c.in-Err-OutOfMemory.field-0-is)
      | inr even ↦ omega arith
    ] in
    λ is. digits_take_memory c.args.word.now even some all

pub returns-else-are_hex_digits-clause-reads : goal.returns-else-are_hex_digits-clause-reads
returns-else-are_hex_digits-clause-reads c =
    let other : list_all is_ascii_hexdigit c.args.word.now ≡ false = ap (list_all is_ascii_hexdigit) (sym c.as_bytes.ensures.value) ∙ sym c.are_hex_digits.ensures ∙ c.if-are_hex_digits.false in
    inr (refl, not_hex c.args.word.now other)
