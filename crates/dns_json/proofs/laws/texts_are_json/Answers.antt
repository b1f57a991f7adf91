use Rattle.dns_json.proofs.Lines.{octets_are_lines, texts_are_lines}
use Rattle.dns_json.proofs.Sound.{octets_are_json, texts_are_json}
use Rattle.dns_json.proofs.laws.texts_are_json.Goals as goal

pub returns-clause-json : goal.returns-clause-json
returns-clause-json c = texts_are_json

pub returns-clause-octets : goal.returns-clause-octets
returns-clause-octets c = octets_are_json

pub returns-clause-lines : goal.returns-clause-lines
returns-clause-lines c = texts_are_lines

pub returns-clause-octet_lines : goal.returns-clause-octet_lines
returns-clause-octet_lines c = octets_are_lines
