use Rattle.std.proofs.Common.{◌∙◌, Bool, ◌++◌, [], codes, sym, subst}
use Rattle.std.specs.Fmt.{WritesInCalls}
use Rattle.std.specs.Prelude.{if◌then◌else◌}
use Rattle.dns_item.specs.ParsedRecord.{encoded_record}
use Rattle.dns_print.proofs.theory.Prints.{print_none}
use Rattle.dns_dig.specs.Records.{record_line}
use Rattle.dns_dig.specs.Sections.{signature_heading}
use Rattle.dns_dig.proofs.signature.Signature.write_if_it_signs.Goals as goal

pub returns-then-is_of-clause-text : goal.returns-then-is_of-clause-text
returns-then-is_of-clause-text g c = λ ok.
    subst
    (λ (b : Bool). WritesInCalls g.T.TextWriter.takes c.args.writer.now
    (if b then signature_heading c.args.self ++ (record_line (encoded_record c.args.parsed.now) ++ codes "\n") else []) c.write_record.new.writer)
    (sym (sym c.is_of.ensures ∙ c.if-is_of.true)) (c.write_record.ensures.text ok)

pub returns-clause-text : goal.returns-clause-text
returns-clause-text g c = λ ok.
    subst
    (λ (b : Bool). WritesInCalls g.T.TextWriter.takes c.args.writer.now
    (if b then signature_heading c.args.self ++ (record_line (encoded_record c.args.parsed.now) ++ codes "\n") else []) c.args.writer.now)
    (sym (sym c.is_of.ensures ∙ c.if-is_of.false)) (print_none _ _)
