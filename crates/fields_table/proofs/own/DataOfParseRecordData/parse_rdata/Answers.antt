use Rattle.std.proofs.Common.{◌≡◌, ap, sym, rules}
use Rattle.std.proofs.lemmas.Bool.{eq-eqb}
use Rattle.fields_table.specs.Table.{kinds_in}
use Rattle.fields_table.proofs.Skipped.{skipped_data}
use Rattle.fields_table.proofs.own.DataOfParseRecordData.parse_rdata.Goals as goal

pub invariant_of-data : goal.invariant_of-data
invariant_of-data g c =
    let d = skipped_data c.fields.result.now _ (ap kinds_in c.fields.ensures.defined) c.args.parser.now c.in_ok-skipped.skipped c.in_ok-skipped.ensures c.if-skipped-gt-MAX_OCTETS.false in
    record { encoded = d.there; short = d.short }

pub returns : goal.returns
returns g c =
    let d = skipped_data c.fields.result.now _ (ap kinds_in c.fields.ensures.defined) c.args.parser.now c.in_ok-skipped.skipped c.in_ok-skipped.ensures c.if-skipped-gt-MAX_OCTETS.false in
    let is : c.args.rtype ≡ g.T.RecordFields.number = search rules in
    rw (eq-eqb c.args.rtype g.T.RecordFields.number is) (sym is, d.encoded, d.moves)
