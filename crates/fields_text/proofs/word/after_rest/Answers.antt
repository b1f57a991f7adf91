use Rattle.std.proofs.Common.{◌≡◌, ◌∙◌, true, false, get_or, sym, inl, inr, arith}
use Rattle.std.specs.Prelude.{◌||◌}
use Rattle.std.proofs.lemmas.Bool.{or_from, or_left, or_right}
use Rattle.fields_text.specs.LineWords.{ends_word}
use Rattle.fields_text.proofs.theory.WordLemmas.{all_ends, all_open, word_ends}
use Rattle.fields_text.proofs.word.after_rest.Goals as goal

pub returns-then-ends_word : goal.returns-then-ends_word
returns-then-ends_word c =
    let ends : ends_word (get_or c.characters.left.now 0 0) ≡ true = sym c.ends_word.ensures ∙ c.if-ends_word.true in
    let outside : c.characters.quoted ≡ false = first_of (cc, grind arith) in
    word_ends c.characters.quoted c.characters.escaped c.args.text.now c.characters.left.now c.characters.invariant outside c.if-escaped.false (omega arith) ends

pub returns-then-escaped-2 : goal.returns-then-escaped-2
returns-then-escaped-2 c =
    let unclosed : c.characters.quoted || c.characters.escaped ≡ true =
    elim c.if-escaped-2.either [ inl e ↦ or_left c.characters.quoted c.characters.escaped e | inr e ↦ or_right c.characters.quoted c.characters.escaped e.1 ] in
    all_open c.characters.quoted c.characters.escaped c.args.text.now c.characters.left.now c.characters.invariant c.in_default.len_below unclosed

pub returns-else-escaped-2 : goal.returns-else-escaped-2
returns-else-escaped-2 c =
    all_ends c.characters.quoted c.characters.escaped c.args.text.now c.characters.left.now c.characters.invariant c.in_default.len_below
    (or_from c.characters.quoted c.characters.escaped c.if-escaped-2.false.0 c.if-escaped-2.false.1)
