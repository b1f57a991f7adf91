use Rattle.std.proofs.Common.{ℕ, List, arith, subst}
use Rattle.fields_text.specs.LineWords.{SplitsString}
use Rattle.fields_text.proofs.theory.WordLemmas.{after_first_is, string_ends, string_open}
use Rattle.fields_text.proofs.word.after_string.Goals as goal

pub returns-then-character-eq34 : goal.returns-then-character-eq34
returns-then-character-eq34 c =
    let h = string_ends c.characters.escaped c.args.text.now c.characters.left.now c.characters.invariant c.if-escaped.false (omega arith) c.if-character-eq34.true in
    (h.0, subst (λ (after : List ℕ). SplitsString c.args.text.now h.0 after) (after_first_is c.characters.left.now) h.1)

pub returns : goal.returns
returns c = string_open c.characters.escaped c.args.text.now c.characters.left.now c.characters.invariant c.in_default.len_below
