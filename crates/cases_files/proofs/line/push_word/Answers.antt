use Rattle.std.proofs.Common.{◌∙◌, ◌++◌, ℕ, List, ap}
use Rattle.std.specs.List.{repeat}
use Rattle.cases_files.proofs.OctetWords.{appends_word, no_count, no_digits}
use Rattle.cases_files.proofs.line.push_word.Goals as goal

pub returns-in_default : goal.returns-in_default
returns-in_default c = no_digits c.args.word.now _ c.digits_and_count.ensures.digits (rw c.in_default.is at c.in_ok-part.ensures)

pub returns-in_default-count_of : goal.returns-in_default-count_of
returns-in_default-count_of c = no_count c.args.word.now _ c.digits_and_count.ensures.count (rw c.in_default-count_of.is at c.count_of.ensures)

pub returns : goal.returns
returns c =
    let appended =
    c.in_ok-push_times.ensures ∙ ap (λ (part : List ℕ). c.args.octets.now.items ++ repeat c.in-Some-count_of.count part) c.as_slice.ensures.value in
    appends_word c.args.word.now _ _ _ c.args.octets.now.items _ _ c.digits_and_count.ensures.digits c.digits_and_count.ensures.count
    (rw c.in-Some.is at c.in_ok-part.ensures) c.in-Some-count_of.ensures appended
