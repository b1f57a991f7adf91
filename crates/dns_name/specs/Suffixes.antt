-- The suffixes of a name, and names that start or end with the labels of another. RFC 1034 section 3.1.
use Rattle.std.specs.Prelude.{◌≡◌, List, [], ◌∷◌, ◌++◌, Option, Some, None}
use Rattle.dns_name.specs.Names.{Labels, lowered}
use Rattle.dns_name.specs.ParsedName.{labels}
use Rattle.dns_name.specs.declared.parsed_name.ParsedName.{ParsedName}
use Rattle.dns_name.specs.declared.suffix_iter.SuffixIter.{SuffixIter}

-- The suffixes of a name: the name itself, its parent, and so on, the root last.
abbrev pub suffixes : Labels → List Labels
suffixes [] = [] ∷ []
suffixes (label ∷ name) = (label ∷ name) ∷ suffixes name

-- The suffixes of a name, if there is one.
abbrev pub suffixes_of : Option ParsedName → List Labels
suffixes_of None = []
suffixes_of (Some name) = suffixes (labels name)

-- The remaining suffixes of an iterator, the root last.
abbrev pub suffixes_left : SuffixIter → List Labels
suffixes_left it = suffixes_of it.name

-- The first labels of a name are those of `base`, ignoring ASCII case. The root labels don't count.
abbrev pub NameStartsWith : Labels → Labels → Type 0
NameStartsWith name base = (after : Labels) × (lowered name ≡ lowered base ++ after)

-- The last labels of a name are those of `base`, ignoring ASCII case: the name is `base` or a subdomain of it. RFC 1034 section 3.1.
abbrev pub NameEndsWith : Labels → Labels → Type 0
NameEndsWith name base = (before : Labels) × (lowered name ≡ before ++ lowered base)
