use Rattle.std.proofs.Common.{◌++◌, codes, rules}
use Rattle.dns_print.proofs.theory.Prints.{print_four}
use Rattle.json_print.proofs.theory.Pieces.{string_member_made}
use Rattle.dns_json.proofs.record.write_data.Goals as goal
use Rattle.fields_table.specs.Data.{rtype_of}
use Rattle.fields_records.specs.DataTexts.{data_line}
use Rattle.fields_plain.specs.TypeNames.{type_word}

pub returns-clause-text : goal.returns-clause-text
returns-clause-text g c = λ ok.
    let comma = c.write_text.ensures.text (search rules) in
    let name = rw c.rtype.ensures at (c.write_string.ensures.text (search rules)) in
    let colon = c.write_text-2.ensures.text (search rules) in
    let text = c.write_string-2.ensures.text ok in
    print_four _ _ _ _ _ _ _ _ _ _ _ comma name colon text (string_member_made (codes "rdata" ++ type_word (rtype_of c.args.«data».now)) (data_line c.args.«data».now))
