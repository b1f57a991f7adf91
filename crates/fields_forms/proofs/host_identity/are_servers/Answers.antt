use Rattle.std.proofs.Common.{◌∙◌, ap}
use Rattle.std.specs.Prelude.{is_some}
use Rattle.dns_name.specs.NameReading.{name_labels}
use Rattle.fields_forms.specs.HostIdentities.{servers_text}
use Rattle.fields_forms.proofs.HostLemmas.{after_name, server, server_first}
use Rattle.fields_text.proofs.theory.Options.{some_after}
use Rattle.fields_forms.proofs.host_identity.are_servers.Goals as goal

pub servers-preserved : goal.servers-preserved
servers-preserved c =
    let name = name_labels c.in-Some.field-0-0 in
    c.servers.invariant ∙ ap is_some (server_first c.servers.left.now c.in-Some.after.now name c.in-Some.ensures) ∙ some_after (server name) (servers_text c.in-Some.after.now)

pub servers-smaller : goal.servers-smaller
servers-smaller c = after_name c.servers.left.now c.in-Some.after.now (name_labels c.in-Some.field-0-0) c.in-Some.ensures
