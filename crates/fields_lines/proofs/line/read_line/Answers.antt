use Rattle.std.proofs.Common.{inl, inr, List, sym, subst}
use Rattle.std.specs.Prelude.{Ok}
use Rattle.fields_text.specs.LineWords.{texts}
use Rattle.fields_lines.proofs.LineLemmas.{line_bad, line_read}
use Rattle.fields_lines.specs.Completing.{texts_of}
use Rattle.fields_lines.specs.Lines.{IsLine}
use Rattle.fields_lines.specs.declared.word.Word.{Word}
use Rattle.fields_lines.proofs.line.read_line.Goals as goal

pub returns-in-Some : goal.returns-in-Some
returns-in-Some c = inr (inl ((c.in-Some.index, c.in-Some.reason), c.in-Some.ensures, c.bad_word.ensures))

pub returns-in-Ok : goal.returns-in-Ok
returns-in-Ok c =
    line_read c.args.defaults.now c.args.named c.args.words.now (texts_of c.as_slice.result.now) c.in-Ok.at c.read_completed.result
    (subst (λ (ws : List Word). IsLine c.args.defaults.now c.args.named (texts c.args.words.now) (Ok (c.in-Ok.at, texts_of ws))) (sym c.as_slice.ensures.value)
    c.in-Ok.ensures) c.read_completed.ensures

pub returns : goal.returns
returns c = line_bad c.args.defaults.now c.args.named c.args.words.now c.in-Err.error c.in_default.ensures c.in-Err.ensures
