use Rattle.std.proofs.Common.{◌∙◌, refl}
use Rattle.std.proofs.lemmas.Result.{err_from_is_err_and}
use Rattle.dns_item.proofs.RecordLemmas.{with_data, without_data, without_header}
use Rattle.dns_item.proofs.parsed_record.parse_record_cached.Goals as goal

pub returns-in_err-header-clause-parses : goal.returns-in_err-header-clause-parses
returns-in_err-header-clause-parses c =
    let p = err_from_is_err_and c.from_residual.result c.from_residual.ensures.1 in
    rw (p.1, p.2) (without_header _ _ _ c.in_err-header.ensures.reads, refl)

pub returns-in_err-advance-clause-parses : goal.returns-in_err-advance-clause-parses
returns-in_err-advance-clause-parses c =
    let p = err_from_is_err_and c.from_residual-in_err-advance.result c.from_residual-in_err-advance.ensures.1 in
    let h = c.in_err-advance.ensures in
    rw (p.1, p.2) (without_data _ c.in_ok-header.data c.in_ok-header.header _ _ c.in_ok-header.ensures.reads (c.from.ensures ∙ c.rdlen.ensures) h.0 h.1, refl)

pub returns-clause-parses : goal.returns-clause-parses
returns-clause-parses c =
    let h = c.in_ok-advance.ensures in
    let r = with_data c.args.parser.now c.in_ok-header.data c.advance.new.self c.in_ok-header.header _ c.in_ok-header.ensures.reads (c.from.ensures ∙ c.rdlen.ensures) h.0 h.1 in
    (r.0, r.1, c.in_ok-header.ensures.reads.1)
