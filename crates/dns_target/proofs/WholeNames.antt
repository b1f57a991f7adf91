-- Octets that are exactly one uncompressed name.
use Rattle.std.proofs.Common.{◌≡◌, ℕ, List, sym, ◌∙◌, ap, subst}
use Rattle.dns_name.specs.Names.{IsName, Labels, uncompressed}
use Rattle.dns_name.specs.Uncompressed.{IsUncompressed}
use Rattle.dns_name.proofs.theory.UncompressedNames.{name_at_uncompressed}
use Rattle.dns_target.specs.TableEntries.{name_in}
use Rattle.dns_target.proofs.EntryLemmas.{name_in-encoded}

-- the name that they encode
pub name_in-whole : (b : List ℕ) (name : Labels) → IsName name → uncompressed name ≡ b → name_in b 0 ≡ name
name_in-whole b name is e = name_in-encoded b 0 name (name_at_uncompressed b 0 name is e)

-- it is a name
pub whole_is : (b : List ℕ) → IsUncompressed b → IsName (name_in b 0)
whole_is b u = subst IsName (sym (name_in-whole b u.0 u.1 u.2)) u.1

-- and the octets are those of this name
pub whole_octets : (b : List ℕ) → IsUncompressed b → b ≡ uncompressed (name_in b 0)
whole_octets b u = sym u.2 ∙ ap uncompressed (sym (name_in-whole b u.0 u.1 u.2))
