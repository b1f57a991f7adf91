use Rattle.std.proofs.Common.{refl}
use Rattle.std.specs.Prelude.{string_bytes}
use Rattle.fields_text.specs.LineWords.{texts}
use Rattle.fields_lines.proofs.LineLemmas.{line_after, line_fails}
use Rattle.fields_lines.specs.Completing.{texts_of}
use Rattle.fields_lines.proofs.line.complete_line.Goals as goal

pub returns-in-Ok-take_owner : goal.returns-in-Ok-take_owner
returns-in-Ok-take_owner c =
    line_after c.args.defaults.now c.args.named c.args.words.now _ (string_bytes c.in-Ok-take_owner.owner) (texts c.in-Ok-take_owner.after.now) (texts_of c.complete_after.new.completed.items)
    c.complete_after.result refl c.in-Ok-take_owner.ensures c.complete_after.ensures

pub returns : goal.returns
returns c = line_fails c.args.defaults.now c.args.named c.args.words.now c.in-Err.error c.in-Err.ensures
