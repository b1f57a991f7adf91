use Rattle.std.proofs.Common.{◌∙◌, [], ℕ, List, drop, inr, refl, sym, ap, arith}
use Rattle.std.specs.Prelude.{Ok, Option}
use Rattle.std.specs.Option.{option_copied}
use Rattle.std.proofs.lemmas.List.{take_rest}
use Rattle.fields_records.specs.FieldWords.{Words}
use Rattle.fields_text.specs.LineWords.{texts}
use Rattle.fields_lines.proofs.LineLemmas.{named_empty, named_first}
use Rattle.fields_lines.specs.Lines.{owner_or}
use Rattle.fields_lines.specs.declared.line_error.WordReason.TheVariants.{Missing, Relative}
use Rattle.std.specs.Prelude.{string_bytes}
use Rattle.fields_lines.proofs.line.take_named.Goals as goal

pub returns-in_default : goal.returns-in_default
returns-in_default c = inr ((0, Missing), named_empty (option_copied c.args.origin) c.args.words.now (omega arith), c.bad_word.ensures)

pub returns-in-Ok-Some : goal.returns-in-Ok-Some
returns-in-Ok-Some c =
    let words = c.args.words.now in
    let found = rw c.in-Ok-Some.field-0-is at c.in-Ok-Some.ensures in
    named_first (option_copied c.args.origin) words (drop 1 words) (record { ref_ptr = (0, 0); now = [] }) c.in-len1-up.len_at_least refl
    ∙ ap (λ (owner : Option (List ℕ)). owner_or Relative (texts (drop 1 words)) owner) (sym found)
    ∙ ap (λ (ws : Words). Ok (string_bytes c.in-Ok-Some.owner, texts ws)) (sym (take_rest words 1))

pub returns-in-Ok-None : goal.returns-in-Ok-None
returns-in-Ok-None c =
    let words = c.args.words.now in
    let found = rw c.in-Ok-None.field-0-is at c.in-Ok-None.ensures in
    inr (
      (0, Relative),
      named_first (option_copied c.args.origin) words (drop 1 words) (record { ref_ptr = (0, 0); now = [] }) c.in-len1-up.len_at_least refl
          ∙ ap (λ (owner : Option (List ℕ)). owner_or Relative (texts (drop 1 words)) owner) (sym found),
      c.bad_word-in-Ok-None.ensures,
    )
