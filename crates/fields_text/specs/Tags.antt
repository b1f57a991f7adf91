-- Tags. RFC 8659 section 4.1.
use Rattle.std.specs.Prelude.{ℕ, List}
use Rattle.fields_text.specs.declared.string.Tag.{Tag}

-- the octets of a tag
abbrev pub tag_octets : Tag → List ℕ
tag_octets tag = tag.octets.now
