-- Zones, and which case of RFC 1034 section 4.3.2 a question for the records of a name is.
--
-- `name` is the name, and `qtype` the type that is asked for.
use Rattle.std.specs.Prelude.{◌==◌, ◌&&◌, ◌||◌, not, nat_le, if◌then◌else◌, ℕ, Bool, [], ◌∷◌, find, Option, Some, None, option_and_then}
use Rattle.std.specs.List.{list_any}
use Rattle.dns_message.specs.Names.{Labels, max_size, name_labels, name_size, names_equal, suffixes}
use Rattle.dns_message.specs.Replies.{is_below, is_within}
use Rattle.example_response.specs.declared.zone.Case.{Case}
use Rattle.example_response.specs.declared.zone.Case.TheVariants as cases
use Rattle.example_response.specs.declared.zone.Match.{Match}
use Rattle.example_response.specs.declared.zone.Match.TheVariants.{Exact, Wildcard}
use Rattle.example_response.specs.declared.zone.Rrset.{Rrset}
use Rattle.example_response.specs.declared.zone.Zone.{Zone}

-- The cases.
pub data CaseItem : Type 0 where
  -- the name isn't in the zone
  Refused : CaseItem
  -- step 3b: the name is in a zone that these NS records delegate
  Delegated : Rrset → CaseItem
  -- RFC 6672 section 3.2: the name is below the owner of this DNAME record
  Redirected : Rrset → CaseItem
  -- step 3a, or 3c by a wildcard: there are records of the type
  Found : Rrset → Match → CaseItem
  -- the same: the name is an alias, by this CNAME record
  Alias : Rrset → Match → CaseItem
  -- the name or its wildcard exists, but has no records of the type
  NoData : Match → CaseItem
  -- the name doesn't exist
  NoName : CaseItem

-- what a `Case` shows
abbrev pub case_shown : Case → CaseItem
case_shown cases.Refused = Refused
case_shown (cases.Delegated s) = Delegated s.now
case_shown (cases.Redirected s) = Redirected s.now
case_shown (cases.Found s by) = Found s.now by
case_shown (cases.Alias s by) = Alias s.now by
case_shown (cases.NoData by) = NoData by
case_shown cases.NoName = NoName

-- the owner of a set
abbrev pub owner_of_set : Rrset → Labels
owner_of_set s = name_labels s.owner

-- whether a name owns a set, and its type is asked for: ANY (255) asks for each type (RFC 1035 section 3.2.3)
abbrev pub is_asked : Labels → ℕ → Rrset → Bool
is_asked name qtype s = names_equal (owner_of_set s) name && ((s.rtype == qtype) || (qtype == 255))

-- the first set that is asked for: of type ANY one is enough (RFC 8482 section 4.1)
abbrev pub set_at : Zone → Labels → ℕ → Option Rrset
set_at zone name qtype = find (is_asked name qtype) zone.sets.items

-- whether a name exists: it owns records, or a name below it does (RFC 4592 section 2.2.2)
abbrev pub name_exists : Zone → Labels → Bool
name_exists zone name = list_any (λ (s : Rrset). is_within (owner_of_set s) name) zone.sets.items

-- whether NS records (2) below the apex delegate a name: that of their owner, or one below it (step 3b). DS records (43) of their owner are in this zone (RFC 4035 section 3.1.4.1).
abbrev pub delegates : Zone → Labels → ℕ → Rrset → Bool
delegates zone name qtype s = is_below (owner_of_set s) (name_labels zone.apex) && is_within name (owner_of_set s) && not ((qtype == 43) && names_equal name (owner_of_set s))

-- whether a set ends the search on the way down to a name: it delegates the name, or is a DNAME record (39) above it (RFC 6672 section 3.2)
abbrev pub stops : Zone → Labels → ℕ → Rrset → Bool
stops zone name qtype s = if s.rtype == 2 then delegates zone name qtype s else ((s.rtype == 39) && is_below name (owner_of_set s))

-- the first set that does so: the nearest to the apex if the sets are in canonical order, in which a name comes before those below it (RFC 4034 section 6.1)
abbrev pub stop_of : Zone → Labels → ℕ → Option Rrset
stop_of zone name qtype = find (stops zone name qtype) zone.sets.items

abbrev pub case_of_stop : Rrset → CaseItem
case_of_stop s = if s.rtype == 2 then Delegated s else Redirected s

-- the name with the label `*` (42) below another, unless it is too long for a name (RFC 1035 section 2.3.4)
abbrev pub wildcard_below : Labels → Option Labels
wildcard_below encloser = let name = (42 ∷ []) ∷ encloser in if nat_le (name_size name) max_size then Some name else None

-- The source of synthesis for a name that doesn't exist: the wildcard below its closest encloser, which is the nearest existing name above it (RFC 4592 section 3.3.1).
abbrev pub source_of : Zone → Labels → Option Labels
source_of zone name = option_and_then wildcard_below (find (name_exists zone) (suffixes name))

-- the case of a CNAME record (5) of a name without records of the type
abbrev pub alias_or_none : Option Rrset → Match → CaseItem
alias_or_none (Some alias) by = Alias alias by
alias_or_none None by = NoData by

-- the case of an existing name, by the records that it owns
abbrev pub found_or : Option Rrset → Option Rrset → Match → CaseItem
found_or (Some s) alias by = Found s by
found_or None alias by = alias_or_none alias by

abbrev pub case_at : Zone → Labels → ℕ → Match → CaseItem
case_at zone owner qtype by = found_or (set_at zone owner qtype) (set_at zone owner 5) by

-- the case of a name that doesn't exist, by its source of synthesis
abbrev pub case_by_wildcard : Zone → ℕ → Option Labels → CaseItem
case_by_wildcard zone qtype None = NoName
case_by_wildcard zone qtype (Some source) = if name_exists zone source then case_at zone source qtype Wildcard else NoName

-- the case of a name at which no set stops the search
abbrev pub matched : Zone → Labels → ℕ → CaseItem
matched zone name qtype = if name_exists zone name then case_at zone name qtype Exact else case_by_wildcard zone qtype (source_of zone name)

abbrev pub stopped_or : CaseItem → Option Rrset → CaseItem
stopped_or other None = other
stopped_or other (Some s) = case_of_stop s

-- The case of RFC 1034 section 4.3.2.
abbrev pub case_of : Zone → Labels → ℕ → CaseItem
case_of zone name qtype = if is_within name (name_labels zone.apex) then stopped_or (matched zone name qtype) (stop_of zone name qtype) else Refused
