use Rattle.std.proofs.Common.{arith}
use Rattle.dns_lines.proofs.theory.PrintedLines.{none_printed, more_printed, all_printed}
use Rattle.dns_lines.proofs.theory.ShownRecords.{given_read, given_short}
use Rattle.dns_lines.proofs.WalkLemmas.{no_record_read, record_read}
use Rattle.dns_lines.proofs.record_lines.print_section.Goals as goal
use Rattle.dns_lines.proofs.record_lines.print_section.Goals.{then-is_ok, else-is_ok}

pub loop-parsed-init : goal.loop-parsed-init
loop-parsed-init g c = record { printed = none_printed (g.L.RecordLines.item_text c.args.section) _ _; read = no_record_read _ }

pub print_record-requires-clause-read : goal.print_record-requires-clause-read
print_record-requires-clause-read g c = given_read c.loop-parsed.records c.next.new.self c.in-Some.parsed c.in-Some.ensures.moves

pub print_record-requires-clause-short : goal.print_record-requires-clause-short
print_record-requires-clause-short g c = given_short c.in-Some.parsed (λ p e. let t = rw (c.in-Some.is, e) at c.next.type_inv in omega (arith, t))

pub loop-parsed-preserved : goal.loop-parsed-preserved
loop-parsed-preserved g c = record {
  printed = more_printed (g.L.RecordLines.item_text c.args.section) _ _ _ _ _ _ _ c.loop-parsed.invariant.printed c.in-Some.ensures.steps c.in_ok-print_record.ensures;
  read = record_read _ _ _ _ _ c.in-Some.parsed
      (λ is. elim c.if-is_ok.branch [ then-is_ok w ↦ w.readable-is | else-is_ok w ↦ absurd (cc (c.is_ok.ensures.value, is, w.if-is_ok.false)) ])
      (λ is. elim c.if-is_ok.branch [ then-is_ok w ↦ absurd (cc (c.is_ok.ensures.value, is, w.if-is_ok.true)) | else-is_ok w ↦ w.readable-is ])
      c.in-Some.ensures.moves c.in-Some.ensures.counts c.in-Some.ensures.octets c.in-Some.ensures.section c.loop-parsed.invariant.read;
}

pub returns-clause-printed : goal.returns-clause-printed
returns-clause-printed g c = all_printed (g.L.RecordLines.item_text c.args.section) _ _ _ _ c.loop-parsed.invariant.printed c.in_default.ensures.steps.0
