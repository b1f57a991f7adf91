-- Which octets the reading of a name uses. RFC 1035 section 4.1.4.
use Rattle.std.specs.Prelude.{◌≡◌, ℕ, ◌+◌, ◌≤◌, ◌⊎◌, List, All, Ok}
use Rattle.dns_name.specs.Names.{head_at}
use Rattle.dns_name.specs.declared.head.Head.TheVariants.{Root, Label, Pointer}

-- No octet from lo to hi is one of these TTL fields, which are four octets each.
abbrev pub Apart : List ℕ → ℕ → ℕ → Type 0
Apart fields lo hi = All (λ f. (f + 4 ≤ lo) ⊎ (hi ≤ f)) fields

-- Reading a name at offset p ends, and uses no octet of the fields: not in its labels, and not where its pointers lead.
pub data NameApart (b fields : List ℕ) : ℕ → Type 0 where
  root : {p : ℕ} → head_at b p ≡ Ok Root → Apart fields p (p + 1) → NameApart b fields p
  label : {p n : ℕ} → head_at b p ≡ Ok (Label n) → Apart fields p (p + 1 + n) → NameApart b fields (p + 1 + n) → NameApart b fields p
  pointer : {p t : ℕ} → head_at b p ≡ Ok (Pointer t) → Apart fields p (p + 2) → NameApart b fields t → NameApart b fields p
