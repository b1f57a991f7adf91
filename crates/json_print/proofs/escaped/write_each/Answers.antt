use Rattle.std.proofs.Common.{◌∙◌, ℕ, List, ap, map-id, rules, subst, sym}
use Rattle.std.proofs.lemmas.Iterator.{YieldsList-from_chars}
use Rattle.std.proofs.lemmas.Iterator.Consumers.{YieldsList-end}
use Rattle.std.specs.Fmt.{WritesInCalls}
use Rattle.dns_print.proofs.theory.Prints.{print_none, print_two}
use Rattle.json_print.proofs.Escapes.{content_of, content_more, content_of-chars}
use Rattle.json_print.proofs.escaped.write_each.Goals as goal

pub loop-c-init : goal.loop-c-init
loop-c-init g c = print_none _ _

pub loop-c-preserved : goal.loop-c-preserved
loop-c-preserved g c = print_two _ _ _ _ _ _ _ c.loop-c.invariant (c.write_character.ensures.text (search rules)) (sym (content_more c.loop-c.yielded c.in-Some.c))

pub returns-clause-text : goal.returns-clause-text
returns-clause-text g c = λ ok.
    let end = YieldsList-end (YieldsList-from_chars c.args.text.now c.utf8.text cc) c.loop-c.yielded _ c.loop-c.yielded_by _ _ c.in-None.is c.next.ensures.steps in
    subst (λ (t : List ℕ). WritesInCalls g.T.TextWriter.takes c.args.writer.now t c.loop-c.writer)
    (ap content_of (sym (map-id c.loop-c.yielded) ∙ end.0) ∙ content_of-chars c.args.text.now c.utf8.text) c.loop-c.invariant
