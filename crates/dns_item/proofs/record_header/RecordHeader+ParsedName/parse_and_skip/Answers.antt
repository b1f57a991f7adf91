use Rattle.std.proofs.Common.{refl}
use Rattle.std.proofs.lemmas.Result.{err_from_is_err_and}
use Rattle.dns_name.specs.Parsers.{offset}
use Rattle.dns_item.proofs.RecordLemmas.{with_data, without_data, without_header}
use Rattle.dns_item.proofs.record_header.RecordHeader+ParsedName.parse_and_skip.Goals as goal

pub returns-in_err-header : goal.returns-in_err-header
returns-in_err-header c =
    let p = err_from_is_err_and c.from_residual.result c.from_residual.ensures.1 in
    rw (p.1, p.2) (without_header _ _ _ c.in_err-header.ensures.reads, refl)

pub returns-in_err-advance : goal.returns-in_err-advance
returns-in_err-advance c =
    let p = err_from_is_err_and c.from_residual-in_err-advance.result c.from_residual-in_err-advance.ensures.1 in
    let h = c.in_err-advance.ensures in
    rw (p.1, p.2) (without_data _ c.in_ok-header.after c.in_ok-header.header _ _ c.in_ok-header.ensures.reads c.from.ensures h.0 h.1, refl)

pub returns : goal.returns
returns c =
    let h = c.in_ok-advance.ensures in
    let r = with_data c.args.parser.now c.in_ok-header.after c.advance.new.self c.in_ok-header.header _ c.in_ok-header.ensures.reads c.from.ensures h.0 h.1 in
    ((offset c.in_ok-header.after, r.0), r.1)
