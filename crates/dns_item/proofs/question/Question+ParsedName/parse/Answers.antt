use Rattle.std.proofs.Common.{◌∙◌, ap, length, refl, arith, sym, subst, ◌≡◌}
use Rattle.std.proofs.lemmas.Result.{err_from_is_err_and}
use Rattle.dns_item.specs.AfterNames.FieldsFaultAt.{name}
use Rattle.dns_item.proofs.QuestionLemmas.{short, reads_fields}
use Rattle.dns_item.specs.Question.{qname_of, parsed_question}
use Rattle.dns_name.specs.Names.{Labels, NameAt}
use Rattle.dns_name.specs.ParsedName.{labels}
use Rattle.dns_name.specs.Parsers.{seen, offset}
use Rattle.dns_item.proofs.question.Question+ParsedName.parse.Goals as goal

pub returns-in_err-qname : goal.returns-in_err-qname
returns-in_err-qname c =
    let p = err_from_is_err_and c.from_residual.result c.from_residual.ensures.1 in
    rw (p.1, p.2) (name c.in_err-qname.ensures.reads.0, refl)

pub returns-in_err-parse_u16_be : goal.returns-in_err-parse_u16_be
returns-in_err-parse_u16_be c =
    let p = err_from_is_err_and c.from_residual-in_err-parse_u16_be.result c.from_residual-in_err-parse_u16_be.ensures.1 in
    let h = c.in_err-parse_u16_be.ensures in
    rw (p.1, p.2) (short _ _ _ _ _ c.in_ok-qname.ensures.reads.0 c.in_ok-qname.ensures.reads.1 (omega (arith, h.0)) refl h.1, refl)

pub returns-in_err-parse_u16_be-2 : goal.returns-in_err-parse_u16_be-2
returns-in_err-parse_u16_be-2 c =
    let p = err_from_is_err_and c.from_residual-in_err-parse_u16_be-2.result c.from_residual-in_err-parse_u16_be-2.ensures.1 in
    let h = c.in_err-parse_u16_be-2.ensures in
    let first = c.in_ok-parse_u16_be.ensures in
    let at = first.1.offset in
    rw (p.1, p.2) (short _ _ _ _ _ c.in_ok-qname.ensures.reads.0 c.in_ok-qname.ensures.reads.1 (omega (arith, h.0, at)) (ap length first.1.seen) h.1, refl)

pub returns : goal.returns
returns c =
    let first = c.in_ok-parse_u16_be.ensures in
    let second = c.in_ok-parse_u16_be-2.ensures in
    let q = c.new.ensures in
    let n : labels (qname_of c.new.result) ≡ labels c.in_ok-qname.qname = ap labels q.qname in
    reads_fields c.args.parser.now c.parse.new.parser c.parse_u16_be.new.self c.parse_u16_be-2.new.self (parsed_question c.new.result)
    (subst (λ (name : Labels). NameAt (seen c.args.parser.now) (offset c.args.parser.now) name) (sym n) c.in_ok-qname.ensures.reads.0)
    c.in_ok-qname.ensures.reads.1
    first.1 (q.qtype ∙ c.from_int-qtype.ensures ∙ first.2) second.0 second.1 (q.qclass ∙ c.from_int-qclass.ensures ∙ second.2)
