use Rattle.std.proofs.Common.{◌≡◌, ◌∙◌, ◌<◌, ◌==◌, ℕ, List, Bool, true, length, get_or, ap, sym, subst, arith}
use Rattle.std.specs.Prelude.{◌||◌}
use Rattle.std.proofs.lemmas.Bool.{or_left}
use Rattle.std.proofs.lemmas.Bool.Decides.{nat_tests}
use Rattle.fields_text.specs.LineWords.{SkipsBlank, is_blank, left_parenthesis, newline, right_parenthesis, semicolon}
use Rattle.fields_text.proofs.theory.LineLemmas.{first_and, skip_character, skip_comment, skip_left, skip_newline, skip_right}
use Rattle.fields_text.proofs.line_words.skip_blank.Goals as goal
use Rattle.fields_text.proofs.line_words.skip_blank.Goals.{then-ended, else-ended}

pub returns-in-32 : goal.returns-in-32
returns-in-32 c =
    let text : List ℕ = c.args.left.text.now in
    let some : 0 < length text = omega arith in
    let same : get_or text 0 0 ≡ get_or c.as_bytes.result.now 0 0 = ap (λ (xs : List ℕ). get_or xs 0 0) (sym c.as_bytes.ensures.value) in
    let read = c.in-32.is in
    let is : is_blank (get_or c.as_bytes.result.now 0 0) ≡ true = grind (arith, nat_tests) in
    skip_character c.args.left c.after_first.result (get_or text 0 0) (first_and text c.after_first.result.now some c.after_first.ensures) (ap is_blank same ∙ is)

pub returns-in-59 : goal.returns-in-59
returns-in-59 c =
    let text : List ℕ = c.args.left.text.now in
    let some : 0 < length text = omega arith in
    let first : get_or text 0 0 ≡ semicolon = ap (λ (xs : List ℕ). get_or xs 0 0) (sym c.as_bytes.ensures.value) ∙ c.in-59.is in
    skip_comment c.args.left c.from_newline.result some first c.from_newline.ensures

pub returns-after-ended : goal.returns-after-ended
returns-after-ended c =
    let text : List ℕ = c.args.left.text.now in
    let some : 0 < length text = omega arith in
    let first : get_or text 0 0 ≡ newline = ap (λ (xs : List ℕ). get_or xs 0 0) (sym c.as_bytes.ensures.value) ∙ c.in-10.is in
    let ended : c.args.left.ended || (c.args.left.depth == 0) ≡ c.if-ended.result =
    elim c.if-ended.branch [
      | then-ended w ↦ or_left c.args.left.ended (c.args.left.depth == 0) w.if-ended.true ∙ (sym w.if-ended.true ∙ sym w.result-is)
      | else-ended w ↦ ap (λ (b : Bool). b || (c.args.left.depth == 0)) w.if-ended.false ∙ sym w.result-is
    ] in
    subst (λ (b : Bool). SkipsBlank c.args.left (record { text = c.after_first-in-10.result; depth = c.args.left.depth; ended = b })) ended
    (skip_newline c.args.left c.after_first-in-10.result (get_or text 0 0) (first_and text c.after_first-in-10.result.now some c.after_first-in-10.ensures) first)

pub returns-in-40 : goal.returns-in-40
returns-in-40 c =
    let text : List ℕ = c.args.left.text.now in
    let some : 0 < length text = omega arith in
    let first : get_or text 0 0 ≡ left_parenthesis = ap (λ (xs : List ℕ). get_or xs 0 0) (sym c.as_bytes.ensures.value) ∙ c.in-40.is in
    skip_left c.args.left c.after_first-in-40.result (get_or text 0 0) (first_and text c.after_first-in-40.result.now some c.after_first-in-40.ensures) first

pub returns-in-41 : goal.returns-in-41
returns-in-41 c =
    let text : List ℕ = c.args.left.text.now in
    let some : 0 < length text = omega arith in
    let first : get_or text 0 0 ≡ right_parenthesis = ap (λ (xs : List ℕ). get_or xs 0 0) (sym c.as_bytes.ensures.value) ∙ c.in-41.is in
    skip_right c.args.left c.after_first-in-41.result (get_or text 0 0) (first_and text c.after_first-in-41.result.now some c.after_first-in-41.ensures) first c.if-depth-gt0.true
