-- Searches for the first record with an owner, as functions of a reading.
use Rattle.std.specs.Prelude.{◌&&◌, ◌||◌, ℕ, Bool, List, find, Option, Result}
use Rattle.dns_name.specs.Names.{Fault, Labels}
use Rattle.dns_name.specs.NameOrders.{names_equal}
use Rattle.dns_item.specs.Items.{RecordItem}
use Rattle.dns_reply.specs.Owners.{is_within, is_below, asks_for_class}
use Rattle.dns_reply.specs.Records.{values}
use Rattle.dns_reply.specs.declared.find.Owner.{Owner}
use Rattle.dns_reply.specs.declared.find.Owner.TheVariants.{Name, Above, OfZone, OfCut, Related}

-- whether a name is such an owner, for a zone and a name within it
abbrev pub is_owner : Owner → Labels → Labels → Labels → Bool
is_owner Name zone name owner = names_equal owner name
is_owner Above zone name owner = is_below name owner && is_within owner zone
is_owner OfZone zone name owner = is_within name owner && is_within owner zone
is_owner OfCut zone name owner = is_within name owner && is_below owner zone
is_owner Related zone name owner = is_within name owner || is_within owner zone

-- whether a record has such an owner, in the classes of a question
abbrev pub is_found : Owner → ℕ → Labels → Labels → RecordItem → Bool
is_found owner qclass zone name x = is_owner owner zone name x.owner && asks_for_class qclass x.class

-- the first record with such an owner
abbrev pub first_found : Owner → ℕ → Labels → Labels → List (Result RecordItem Fault) → Option RecordItem
first_found owner qclass zone name xs = find (is_found owner qclass zone name) (values xs)
