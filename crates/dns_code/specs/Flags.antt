-- The text of flags: tokens separated by single spaces, each empty or the name of a flag, ignoring ASCII case.
use Rattle.std.specs.Prelude.{ℕ, Bool, true, false, ◌==◌, ◌||◌, List, [], ◌∷◌, length, codes, Option, Some, None, if◌then◌else◌}
use Rattle.std.specs.Borrow.{Bor}
use Rattle.std.specs.Hash as fed
use Rattle.std.specs.List.{flat_map, list_all, list_any, slice_split, join_with_byte}
use Rattle.std.specs.Str.{str_eq_ignore_ascii_case}
use Rattle.dns_code.specs.declared.flags.Flags.{Flags}

-- the octet of a space
abbrev pub space : ℕ
space = 0x20

-- the names of the flags, in the order in which they are printed
abbrev pub flag_names : List (List ℕ)
flag_names = codes "QR" ∷ codes "AA" ∷ codes "TC" ∷ codes "RD" ∷ codes "RA" ∷ codes "AD" ∷ codes "CD" ∷ []

-- the tokens of a text
abbrev pub tokens : List ℕ → List (List ℕ)
tokens text = slice_split (λ c. c == space) text

-- whether a token is allowed in a text of flags: it is empty or the name of a flag
abbrev pub is_flags_token : List ℕ → Bool
is_flags_token token = (length token == 0) || list_any (str_eq_ignore_ascii_case token) flag_names

-- whether one of the tokens is the name, ignoring ASCII case
abbrev pub is_named : List (List ℕ) → List ℕ → Bool
is_named ts name = list_any (λ token. str_eq_ignore_ascii_case token name) ts

-- the flags that tokens denote: a flag is set if and only if a token is its name
abbrev pub flags_named : List (List ℕ) → Flags
flags_named ts = record {
  qr = is_named ts (codes "QR");
  aa = is_named ts (codes "AA");
  tc = is_named ts (codes "TC");
  rd = is_named ts (codes "RD");
  ra = is_named ts (codes "RA");
  ad = is_named ts (codes "AD");
  cd = is_named ts (codes "CD");
}

-- the flags that a text denotes, if each of its tokens is allowed
abbrev pub flags_read : List ℕ → Option Flags
flags_read text = if list_all is_flags_token (tokens text) then Some (flags_named (tokens text)) else None

-- the name, if its flag is set
abbrev pub name_if_set : Bool → List ℕ → List (List ℕ)
name_if_set true name = name ∷ []
name_if_set false name = []

-- the names of the flags that are set
abbrev pub set_names : Flags → List (List ℕ)
set_names flags = flat_map (λ (set, name). name_if_set set name) (
    (flags.qr, codes "QR")
    ∷ (flags.aa, codes "AA")
    ∷ (flags.tc, codes "TC")
    ∷ (flags.rd, codes "RD")
    ∷ (flags.ra, codes "RA")
    ∷ (flags.ad, codes "AD")
    ∷ (flags.cd, codes "CD")
    ∷ []
    )

-- as `set_names`, of any flags with their names
abbrev pub names_shown : List (Bool × Bor (List ℕ)) → List (List ℕ)
names_shown names = flat_map (λ (set, name). name_if_set set name.now) names

-- the tokens, separated by single spaces
abbrev pub joined : List (List ℕ) → List ℕ
joined ts = join_with_byte space ts

-- the printed text of flags
abbrev pub flags_text : Flags → List ℕ
flags_text flags = joined (set_names flags)

-- no flag is set
abbrev pub no_flags : Flags
no_flags = record { qr = false; aa = false; tc = false; rd = false; ra = false; ad = false; cd = false }

-- what flags feed a hasher: each of them, in the order in which they are printed
abbrev pub flags_hash_input : Flags → fed.HashWrites
flags_hash_input flags = flat_map fed.bool (flags.qr ∷ flags.aa ∷ flags.tc ∷ flags.rd ∷ flags.ra ∷ flags.ad ∷ flags.cd ∷ [])
