use Rattle.std.proofs.Common.{◌≡◌, ◌∙◌, ℕ, List, ◌∷◌, [], ◌++◌, true, false, ap, codes, drop, rules, subst, sym}
use Rattle.std.specs.Fmt.{WritesInCalls}
use Rattle.std.specs.List.{flat_map}
use Rattle.dns_data.specs.UnknownData.{unknown_rtype_of, unknown_octets}
use Rattle.dns_edns.specs.OptHeader.{fields_in}
use Rattle.dns_edns.specs.OptionsOf.{are_options, options_in}
use Rattle.dns_item.specs.ParsedRecord.{encoded_record}
use Rattle.dns_item.specs.Record.{data_of}
use Rattle.dns_item.specs.RecordReading.{up_to_rdata_end}
use Rattle.dns_wire.specs.Parts.Part.{Octets}
use Rattle.dns_lines.proofs.theory.ShownRecords.{there, opaque_is_ok}
use Rattle.dns_print.proofs.theory.Prints.{print_none}
use Rattle.dns_dig.specs.Opt.{edns_line}
use Rattle.dns_dig.specs.OptionTexts.{option_line}
use Rattle.dns_dig.proofs.OptTexts.{no_opt, no_options, with_options}
use Rattle.dns_dig.proofs.opt.write_if_opt.Goals as goal

pub returns-then-not-is_of_root-clause-text : goal.returns-then-not-is_of_root-clause-text
returns-then-not-is_of_root-clause-text g c = λ ok.
    let no : c.is_of_root.result ≡ false = search rules in
    subst (λ (t : List ℕ). WritesInCalls g.T.TextWriter.takes c.args.writer.now t c.args.writer.now) (no_opt (encoded_record c.args.parsed.now) (sym c.is_of_root.ensures ∙ no))
    (print_none _ _)

pub unwrap-found-requires : goal.unwrap-found-requires
unwrap-found-requires g c =
    opaque_is_ok unknown_rtype_of (λ unknown. Octets (unknown_octets unknown) ∷ []) (encoded_record c.args.parsed.now) c.requires.read c.requires.short
    c.to_any_record.result c.to_any_record.ensures.returned

pub returns-in-Some-clause-text : goal.returns-in-Some-clause-text
returns-in-Some-clause-text g c = λ ok.
    let x = encoded_record c.args.parsed.now in
    let r = c.unwrap-found.result in
    let returned = rw c.unwrap-found.ensures at c.to_any_record.ensures.returned in
    let given = returned.gives (there x c.requires.read) in
    let octets : unknown_octets (data_of r) ≡ drop x.entry.rdata_start (up_to_rdata_end x.octets x.entry) = let e = given.1.1 in cc e in
    let rdata = ap (λ b. b.now) c.data-2.ensures ∙ (ap unknown_octets c.data.ensures ∙ octets) in
    let yes : c.is_of_root.result ≡ true = search rules in
    let list = rw c.in-Some.is at c.new.ensures.list in
    let options = rw c.in-Some.is at c.new.ensures.options in
    let class = c.from_fields-header.ensures.class ∙ c.class.ensures in
    let ttl = c.from_fields-header.ensures.ttl ∙ (c.as_secs.ensures ∙ c.ttl.ensures) in
    let o = options ∙ ap options_in rdata in
    subst (λ (t : List ℕ). WritesInCalls g.T.TextWriter.takes c.args.writer.now t c.write_opt.new.writer)
    ((λ i. codes ";; OPT PSEUDOSECTION:\n" ++ (edns_line (fields_in (class i) (ttl i)) ++ flat_map option_line (o i)))
    ∙ with_options x (sym c.is_of_root.ensures ∙ yes) (sym (list ∙ ap are_options rdata)))
    (c.write_opt.ensures.text ok)

pub returns-in-None-clause-text : goal.returns-in-None-clause-text
returns-in-None-clause-text g c = λ ok.
    let x = encoded_record c.args.parsed.now in
    let r = c.unwrap-found.result in
    let returned = rw c.unwrap-found.ensures at c.to_any_record.ensures.returned in
    let given = returned.gives (there x c.requires.read) in
    let octets : unknown_octets (data_of r) ≡ drop x.entry.rdata_start (up_to_rdata_end x.octets x.entry) = let e = given.1.1 in cc e in
    let rdata = ap (λ b. b.now) c.data-2.ensures ∙ (ap unknown_octets c.data.ensures ∙ octets) in
    let yes : c.is_of_root.result ≡ true = search rules in
    let list = rw c.in-None.is at c.new.ensures.list in
    subst (λ (t : List ℕ). WritesInCalls g.T.TextWriter.takes c.args.writer.now t c.args.writer.now)
    (no_options x (sym c.is_of_root.ensures ∙ yes) (sym (list ∙ ap are_options rdata))) (print_none _ _)
