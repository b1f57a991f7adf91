use Rattle.std.proofs.Common.{List, ℕ, refl, subst, arith}
use Rattle.std.specs.Net.Grammar.{IsDotted}
use Rattle.fields_plain.specs.Addresses.{IsIpv6Word}
use Rattle.fields_text.specs.Reading.{Reads}
use Rattle.fields_forms.proofs.GatewayLemmas.{name_read, tested_ipv4, tested_ipv6, tested_name, tested_none, tested_other}
use Rattle.fields_text.proofs.theory.WordLists.{is_read}
use Rattle.fields_forms.proofs.gateway_words.is_gateway.Goals as goal

pub returns-in-0 : goal.returns-in-0
returns-in-0 c = tested_none c.args.gateway_type c.args.word.now c.eq.result (omega arith) c.eq.ensures

pub returns-in-1 : goal.returns-in-1
returns-in-1 c =
    let read = subst (λ (text : List ℕ). Reads (IsDotted text) c.read_ipv4.result) c.as_bytes.ensures.value c.read_ipv4.ensures in
    tested_ipv4 c.args.gateway_type c.args.word.now c.is_some.result (omega arith) (is_read (IsDotted c.args.word.now) c.read_ipv4.result c.is_some.result c.is_some.ensures read)

pub returns-in-2 : goal.returns-in-2
returns-in-2 c =
    let read = subst (λ (text : List ℕ). Reads (IsIpv6Word text) c.read_ipv6.result) c.as_bytes-in-2.ensures.value c.read_ipv6.ensures in
    tested_ipv6 c.args.gateway_type c.args.word.now c.is_some-in-2.result (omega arith) (is_read (IsIpv6Word c.args.word.now) c.read_ipv6.result c.is_some-in-2.result c.is_some-in-2.ensures read)

pub returns-in-3 : goal.returns-in-3
returns-in-3 c =
    tested_name c.args.gateway_type c.args.word.now c.is_some-in-3.result (omega arith) (name_read c.args.word.now c.read_name.result c.is_some-in-3.result c.is_some-in-3.ensures c.read_name.ensures)

pub returns-in_default : goal.returns-in_default
returns-in_default c = tested_other c.args.gateway_type c.args.word.now _ refl (omega arith) (omega arith) (omega arith) (omega arith)
