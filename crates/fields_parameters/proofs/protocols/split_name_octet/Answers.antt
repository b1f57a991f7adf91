use Rattle.fields_parameters.proofs.ProtocolLemmas.{escaped_name, is_comma, is_slash}
use Rattle.fields_parameters.proofs.protocols.split_name_octet.Goals as goal

pub returns-then-octet-eq44 : goal.returns-then-octet-eq44
returns-then-octet-eq44 c =
    escaped_name c.args.first c.args.text.now c.in-Some.left.now c.in-Some.octet c.if-first-ne92.false (is_comma c.in-Some.octet c.if-octet-eq44.true) c.in-Some.ensures

pub returns-then-octet-eq92 : goal.returns-then-octet-eq92
returns-then-octet-eq92 c =
    escaped_name c.args.first c.args.text.now c.in-Some.left.now c.in-Some.octet c.if-first-ne92.false (is_slash c.in-Some.octet c.if-octet-eq92.true) c.in-Some.ensures
