-- What the cases of a question say of a zone, without the definitions of `Zones`. RFC 1034 sections 4.2.1 and 4.3.2, RFC 4592 sections 2.2.2 and 3.3.1, RFC 6672 section 2.2.
--
-- ASCII case is ignored. `NameEndsWith name other`: a name is another name or below it.
use Rattle.std.specs.Prelude.{◌≡◌, ◌↔◌, ℕ, ◌≤◌, ◌⊎◌, true, [], ◌∷◌, ◌++◌, length, AllPairs, Contains, Option}
use Rattle.std.specs.List.Sorted.{IsSortedByKey}
use Rattle.dns_message.specs.Names.{Labels, NameEndsWith, lowered, max_size, name_labels, name_order, name_size}
use Rattle.example_response.specs.Answers.{StepItem, has_authority, steps_from}
use Rattle.example_response.specs.Zones.{CaseItem, case_of, owner_of_set}
use Rattle.example_response.specs.Zones.CaseItem.{Refused, Delegated, Redirected, Found, Alias, NoData, NoName}
use Rattle.example_response.specs.declared.zone.Match.{Match}
use Rattle.example_response.specs.declared.zone.Match.TheVariants.{Exact, Wildcard}
use Rattle.example_response.specs.declared.zone.Rrset.{Rrset}
use Rattle.example_response.specs.declared.zone.Zone.{Zone}

-- two names are the same
abbrev pub SameName : Labels → Labels → Type 0
SameName name other = lowered name ≡ lowered other

-- a name is below another
abbrev pub IsBelow : Labels → Labels → Type 0
IsBelow name other = NameEndsWith name other × ¬ SameName name other

-- a name is in the zone: it is the apex or below it
abbrev pub IsInZone : Zone → Labels → Type 0
IsInZone zone name = NameEndsWith name (name_labels zone.apex)

-- a set of records is one of the zone
abbrev pub IsSetOf : Zone → Rrset → Type 0
IsSetOf zone s = Contains zone.sets.items s

-- a name owns a set of the zone
abbrev pub Owns : Zone → Labels → Rrset → Type 0
Owns zone name s = IsSetOf zone s × SameName (owner_of_set s) name

-- a name exists: it owns records, or a name below it does (RFC 4592 section 2.2.2)
abbrev pub Exists : Zone → Labels → Type 0
Exists zone name = (s : Rrset) × IsSetOf zone s × NameEndsWith (owner_of_set s) name

-- NS records (2) below the apex delegate a question: its name is that of their owner, or below it. DS records (43) of their owner are in this zone (RFC 4035 section 3.1.4.1).
pub record Delegates (zone : Zone) (name : Labels) (qtype : ℕ) (s : Rrset) : Type 0 where
  pub among : IsSetOf zone s
  pub records : s.rtype ≡ 2
  pub cut : IsBelow (owner_of_set s) (name_labels zone.apex)
  pub within : NameEndsWith name (owner_of_set s)
  pub not_ds : qtype ≡ 43 → ¬ SameName name (owner_of_set s)

-- a DNAME record (39) redirects the names below its owner (RFC 6672 section 2.2)
pub record Redirects (zone : Zone) (name : Labels) (s : Rrset) : Type 0 where
  pub among : IsSetOf zone s
  pub records : s.rtype ≡ 39
  pub below : IsBelow name (owner_of_set s)

-- a question is neither delegated nor redirected
abbrev pub IsHere : Zone → Labels → ℕ → Type 0
IsHere zone name qtype = (s : Rrset) → ¬ Delegates zone name qtype s × ¬ Redirects zone name s

-- the closest encloser of a name: the longest existing name among it and those above it (RFC 4592 section 3.3.1)
pub record IsClosestEncloser (zone : Zone) (name encloser : Labels) : Type 0 where
  pub before : Labels
  pub above : name ≡ before ++ encloser
  pub exists : Exists zone encloser
  pub longest : (first last : Labels) → name ≡ first ++ last → Exists zone last → length last ≤ length encloser

-- the source of synthesis of a name: the label `*` (42) below its closest encloser (RFC 4592 section 3.3.1), if that is short enough for a name
pub record IsSource (zone : Zone) (name source : Labels) : Type 0 where
  pub encloser : Labels
  pub closest : IsClosestEncloser zone name encloser
  pub made : source ≡ (42 ∷ []) ∷ encloser
  pub short : name_size source ≤ max_size

-- the name whose records answer for a name: the name itself, if it exists, else its source of synthesis
abbrev pub AnswersFor : Zone → Labels → Match → Labels → Type 0
AnswersFor zone name Exact owner = Exists zone name × (owner ≡ name)
AnswersFor zone name Wildcard owner = ¬ Exists zone name × IsSource zone name owner × Exists zone owner

-- a set has the type that is asked for: ANY (255) asks for each
abbrev pub HasType : ℕ → Rrset → Type 0
HasType qtype s = (s.rtype ≡ qtype) ⊎ (qtype ≡ 255)

-- no set of a name has the type that is asked for
abbrev pub LacksType : Zone → Labels → ℕ → Type 0
LacksType zone owner qtype = (s : Rrset) → Owns zone owner s → ¬ HasType qtype s

-- What each case says of a question.
abbrev pub IsCase : Zone → Labels → ℕ → CaseItem → Type 0
IsCase zone name qtype Refused = ¬ IsInZone zone name
IsCase zone name qtype (Delegated s) = IsInZone zone name × Delegates zone name qtype s
IsCase zone name qtype (Redirected s) = IsInZone zone name × Redirects zone name s
IsCase zone name qtype (Found s by) =
    IsInZone zone name × IsHere zone name qtype × ((owner : Labels) × AnswersFor zone name by owner × Owns zone owner s × HasType qtype s)
IsCase zone name qtype (Alias s by) =
    IsInZone zone name × IsHere zone name qtype × ((owner : Labels) × AnswersFor zone name by owner × LacksType zone owner qtype × Owns zone owner s × (s.rtype ≡ 5))
IsCase zone name qtype (NoData by) =
    IsInZone zone name × IsHere zone name qtype × ((owner : Labels) × AnswersFor zone name by owner × LacksType zone owner qtype × LacksType zone owner 5)
IsCase zone name qtype NoName =
    IsInZone zone name × IsHere zone name qtype × ¬ Exists zone name × ((source : Labels) → IsSource zone name source → ¬ Exists zone source)

-- The case of a question is so.
abbrev pub CasesAreMeant : Type 0
CasesAreMeant = (zone : Zone) (name : Labels) (qtype : ℕ) → IsCase zone name qtype (case_of zone name qtype)

-- For a name that no DNAME record redirects, a response has AA exactly if the name is in the zone, and no cut at or above it delegates the question.
abbrev pub AuthorityEndsAtCuts : Type 0
AuthorityEndsAtCuts = (zone : Zone) (name : Labels) (qtype : ℕ) → ((s : Rrset) → ¬ Redirects zone name s)
    → (has_authority (case_of zone name qtype) ≡ true) ↔ (IsInZone zone name × ((s : Rrset) → ¬ Delegates zone name qtype s))

-- the sets of a zone are in canonical order: no owner precedes that of a set before (RFC 4034 section 6.1)
abbrev pub IsInOrder : Zone → Type 0
IsInOrder zone = IsSortedByKey owner_of_set name_order zone.sets.items

-- what delegates or redirects a question isn't nearer to the apex than a set
abbrev pub NothingIsNearer : Zone → Labels → ℕ → Rrset → Type 0
NothingIsNearer zone name qtype s = (t : Rrset) → Delegates zone name qtype t ⊎ Redirects zone name t → NameEndsWith (owner_of_set t) (owner_of_set s)

abbrev pub IsNearest : Zone → Labels → ℕ → CaseItem → Type 0
IsNearest zone name qtype (Delegated s) = NothingIsNearer zone name qtype s
IsNearest zone name qtype (Redirected s) = NothingIsNearer zone name qtype s
IsNearest zone name qtype Refused = Unit {0}
IsNearest zone name qtype (Found s by) = Unit {0}
IsNearest zone name qtype (Alias s by) = Unit {0}
IsNearest zone name qtype (NoData by) = Unit {0}
IsNearest zone name qtype NoName = Unit {0}

-- In a zone in order, what delegates or redirects a question is the nearest to the apex that does so.
abbrev pub NearestCounts : Type 0
NearestCounts = (zone : Zone) (name : Labels) (qtype : ℕ) → IsInOrder zone → IsNearest zone name qtype (case_of zone name qtype)

-- No name of an answer is there twice.
abbrev pub NamesAreOnce : Type 0
NamesAreOnce = (zone : Zone) (qtype n : ℕ) (next : Option Labels) → AllPairs (λ (x y : StepItem). ¬ SameName x.name y.name) (steps_from zone qtype n [] next)
