use Rattle.std.proofs.Common.{subst, sym}
use Rattle.fields_values.specs.Appending.{AppendsValue}
use Rattle.fields_values.specs.declared.new_value.NewValue.{NewValue}
use Rattle.fields_values.proofs.push.push_value.Goals as goal

pub returns-in-Strings : goal.returns-in-Strings
returns-in-Strings c =
    subst (λ (v : NewValue). AppendsValue c.args.kind v c.args.octets.now.items c.push_some_strings.new.octets.items c.push_some_strings.result) (sym c.in-Strings.is) c.push_some_strings.ensures

pub returns-in-Parameters : goal.returns-in-Parameters
returns-in-Parameters c = subst (λ (v : NewValue). AppendsValue c.args.kind v c.args.octets.now.items c.push_service.new.octets.items c.push_service.result)
    (sym c.in-Parameters.is) c.push_service.ensures

pub returns-in-Prefixes : goal.returns-in-Prefixes
returns-in-Prefixes c =
    subst (λ (v : NewValue). AppendsValue c.args.kind v c.args.octets.now.items c.push_address_prefixes.new.octets.items c.push_address_prefixes.result)
    (sym c.in-Prefixes.is) c.push_address_prefixes.ensures
