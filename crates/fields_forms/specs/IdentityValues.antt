-- What a host identity prints.
use Rattle.std.specs.Prelude.{ℕ, List, Option}
use Rattle.fields_forms.specs.declared.host_identity.HostIdentity.{HostIdentity}
use Rattle.fields_forms.specs.HostIdentities.{identity_parts}

abbrev pub identity_shown : HostIdentity → Option (List ℕ)
identity_shown value = identity_parts value.algorithm value.tag.now value.key.now value.servers.now
