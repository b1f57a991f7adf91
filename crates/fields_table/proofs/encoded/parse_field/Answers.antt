use Rattle.std.proofs.Common.{arith}
use Rattle.dns_name.proofs.theory.ExtentLaws.{ends_after}
use Rattle.fields_table.proofs.encoded.parse_field.Goals as goal

pub may_be_encoded-requires : goal.may_be_encoded-requires
may_be_encoded-requires c =
    let rises = ends_after c.in_ok-name-in-UncompressedName.ensures.reads.1.0 in
    let start = c.pos-start.ensures in
    let end = c.pos.ensures in
    omega arith
