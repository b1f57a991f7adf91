use Rattle.std.proofs.Common.{◌∙◌, ℕ, List, [], arith, refl, subst, sym}
use Rattle.std.specs.Fmt.{WritesInCalls}
use Rattle.dns_lines.proofs.theory.ShownRecords.{given_read, given_short}
use Rattle.dns_print.proofs.theory.Prints.{print_append, print_none}
use Rattle.dns_read.specs.RecordSection.{record_result, records_left}
use Rattle.dns_dig.proofs.OptItems.{first_here, first_later, first_none}
use Rattle.dns_dig.proofs.opt.write_first.Goals as goal

pub loop-parsed-init : goal.loop-parsed-init
loop-parsed-init g c = record { wrote = print_none _ _; rest = refl }

pub is_opt_item-requires-clause-read : goal.is_opt_item-requires-clause-read
is_opt_item-requires-clause-read g c = given_read c.loop-parsed.records c.next.new.self c.in-Some.parsed c.in-Some.ensures.moves

pub is_opt_item-requires-clause-short : goal.is_opt_item-requires-clause-short
is_opt_item-requires-clause-short g c = given_short c.in-Some.parsed (λ p e. let t = rw (c.in-Some.is, e) at c.next.type_inv in omega (arith, t))

pub returns-then-is_opt_item-clause-text : goal.returns-then-is_opt_item-clause-text
returns-then-is_opt_item-clause-text g c = λ ok.
    let text =
    sym (first_here (records_left c.loop-parsed.records) (records_left c.next.new.self) (record_result c.in-Some.parsed) c.in-Some.ensures.steps c.is_opt_item.result c.is_opt_item.ensures
    c.if-is_opt_item.true) ∙ c.loop-parsed.invariant.rest in
    subst (λ (t : List ℕ). WritesInCalls g.T.TextWriter.takes c.args.writer.now t c.write_item.new.writer) text
    (print_append g.T.TextWriter.takes c.args.writer.now c.loop-parsed.writer c.write_item.new.writer [] _ c.loop-parsed.invariant.wrote (c.write_item.ensures.text ok))

pub loop-parsed-preserved : goal.loop-parsed-preserved
loop-parsed-preserved g c = record {
  wrote = c.loop-parsed.invariant.wrote;
  rest =
      sym (first_later (records_left c.loop-parsed.records) (records_left c.next.new.self) (record_result c.in-Some.parsed) c.in-Some.ensures.steps c.is_opt_item.result c.is_opt_item.ensures
      c.if-is_opt_item.false) ∙ c.loop-parsed.invariant.rest;
}

pub returns-clause-text : goal.returns-clause-text
returns-clause-text g c = λ ok.
    subst (λ (t : List ℕ). WritesInCalls g.T.TextWriter.takes c.args.writer.now t c.loop-parsed.writer)
    (sym (first_none (records_left c.loop-parsed.records) c.in_default.ensures.steps.0) ∙ c.loop-parsed.invariant.rest) c.loop-parsed.invariant.wrote
