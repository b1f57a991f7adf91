use Rattle.std.proofs.Common.{ℕ, List, subst}
use Rattle.fields_text.specs.LineWords.{SplitsWord}
use Rattle.fields_text.proofs.theory.WordLemmas.{word_boundary}
use Rattle.fields_text.proofs.word.split_word.Goals as goal

pub split_at-requires : goal.split_at-requires
split_at-requires c =
    let h = c.in-Some.ensures in
    word_boundary c.args.text.now h.0 c.in-Some.after.now c.utf8.text (subst (λ (text : List ℕ). SplitsWord text h.0 c.in-Some.after.now) c.as_bytes.ensures.value h.1)
