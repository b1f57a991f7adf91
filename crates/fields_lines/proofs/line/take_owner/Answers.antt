use Rattle.std.proofs.Common.{inr, subst}
use Rattle.std.specs.Prelude.{Some, None, string_bytes}
use Rattle.std.specs.Option.{option_copied}
use Rattle.fields_text.specs.LineWords.{texts}
use Rattle.fields_lines.proofs.LineLemmas.{owner_given, owner_named}
use Rattle.fields_lines.specs.Lines.{Owner, TakesOwner}
use Rattle.fields_lines.specs.declared.line_error.WordReason.TheVariants.{NoOwner}
use Rattle.fields_lines.proofs.line.take_owner.Goals as goal

pub returns-then-named : goal.returns-then-named
returns-then-named c =
    subst (λ (owner : Owner). TakesOwner owner c.take_named.result)
    (owner_named c.args.defaults.now c.args.named (option_copied c.args.origin) (texts c.args.words.now) c.if-named.true c.requires) c.take_named.ensures

pub returns-in-Ok-Some : goal.returns-in-Ok-Some
returns-in-Ok-Some c =
    let found = rw c.in-Ok-Some.field-0-is at c.in-Ok-Some.ensures in
    owner_given c.args.defaults.now c.args.named (Some (string_bytes c.in-Ok-Some.owner)) (texts c.args.words.now) c.if-named.false found

pub returns-in-Ok-None : goal.returns-in-Ok-None
returns-in-Ok-None c =
    let found = rw c.in-Ok-None.field-0-is at c.in-Ok-None.ensures in
    inr ((0, NoOwner), owner_given c.args.defaults.now c.args.named None (texts c.args.words.now) c.if-named.false found, c.bad_word.ensures)
