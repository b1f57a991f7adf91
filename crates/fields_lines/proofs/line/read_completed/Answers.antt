use Rattle.std.proofs.Common.{◌∙◌, inr, ap}
use Rattle.fields_text.specs.LineWords.{texts}
use Rattle.fields_lines.proofs.LineLemmas.{no_record, reports_which}
use Rattle.fields_lines.specs.Completing.{texts_of}
use Rattle.fields_lines.proofs.line.read_completed.Goals as goal

pub returns-in-Ok-read_record : goal.returns-in-Ok-read_record
returns-in-Ok-read_record c = (c.as_slice-words.result.now, ap texts c.as_slice-words.ensures.value ∙ c.in-Ok.ensures, c.in-Ok-read_record.ensures)

pub returns : goal.returns
returns c =
    inr (
      c.as_slice-words.result.now,
      ap texts c.as_slice-words.ensures.value ∙ c.in-Ok.ensures,
      no_record c.as_slice-words.result.now c.in-Err-BadWord.field-0 c.in-Err-BadWord.field-0-is c.in-Err-BadWord.ensures,
      reports_which c.bad_word.result (texts_of c.args.completed.now) (texts c.as_slice-words.result.now) c.bad_index.result c.args.at
          (ap texts c.as_slice-words.ensures.value ∙ c.in-Ok.ensures) c.bad_index.ensures
          c.bad_word.ensures,
    )
