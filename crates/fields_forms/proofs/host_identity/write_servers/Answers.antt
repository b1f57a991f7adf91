use Rattle.std.proofs.Common.{refl, rules}
use Rattle.std.specs.Prelude.{Some}
use Rattle.dns_name.specs.NameReading.{name_labels}
use Rattle.fields_forms.specs.HostIdentities.{servers_text}
use Rattle.fields_forms.proofs.HostLemmas.{after_name, server, server_first}
use Rattle.fields_text.proofs.theory.Printing.{none_printed_if, word_printed_if}
use Rattle.fields_forms.proofs.host_identity.write_servers.Goals as goal

pub servers-init : goal.servers-init
servers-init g c = none_printed_if _ _ _ _ refl

pub servers-preserved : goal.servers-preserved
servers-preserved g c =
    let name = name_labels c.in-Some.server in
    let octets = c.servers.left.now in
    let after = c.in-Some.after.now in
    word_printed_if _ _ _ _ c.write_server.result (servers_text octets) (Some (server name)) (servers_text after) _ c.servers.invariant c.write_server.ensures.text (search rules)
    (server_first octets after name c.in-Some.ensures)

pub servers-smaller : goal.servers-smaller
servers-smaller g c = after_name c.servers.left.now c.in-Some.after.now (name_labels c.in-Some.server) c.in-Some.ensures
