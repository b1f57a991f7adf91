-- Where the names in RDATA are, by the record type: in each type of `fields_table` with names at known offsets. A server may point to them, also in types whose
-- own names are never compressed, as in RRSIG.
use Rattle.std.specs.Prelude.{◌≡◌, ℕ, ◌+◌, ◌≤◌, ◌⊎◌, List, [], ◌∷◌, Bool, true, false, cond, nat_eq, get_or}
use Rattle.dns_name.specs.Names.{NameEndsAt}
use Rattle.dns_read.specs.Reading.{Skipped}
use Rattle.dns_edit.specs.Uses.{NameApart}

-- Whether a number is in a list.
abbrev pub is_among : ℕ → List ℕ → Bool
is_among n [] = false
is_among n (m ∷ ms) = cond (nat_eq n m) true (is_among n ms)

-- The octets before the names: 2 in MX (15), AFSDB (18), RT (21), PX (26), KX (36), SVCB (64), HTTPS (65) and LP (107), 6 in SRV (33), 5 in DSYNC (66), 18 in SIG (24) and RRSIG (46).
abbrev pub octets_before : ℕ → ℕ
octets_before rtype = cond (is_among rtype (15 ∷ 18 ∷ 21 ∷ 26 ∷ 36 ∷ 64 ∷ 65 ∷ 107 ∷ [])) 2 (cond (nat_eq rtype 33) 6 (cond (nat_eq rtype 66) 5 (cond (is_among rtype (24 ∷ 46 ∷ [])) 18 0)))

-- The end of the character string at offset p, which is a length octet and that number of octets.
abbrev pub string_end : List ℕ → ℕ → ℕ
string_end b p = p + 1 + get_or b p 0

-- Where the names begin in RDATA that begins at `start`: in NAPTR after four octets and three character strings.
abbrev pub names_start : List ℕ → ℕ → ℕ → ℕ
names_start b rtype start = cond (nat_eq rtype 35) (string_end b (string_end b (string_end b (start + 4)))) (start + octets_before rtype)

-- Types with one name in RDATA: NS (2), MD, MF, CNAME (5), MB (7), MG, MR (9), PTR (12), MX, AFSDB, RT, NSAP-PTR (23), SIG, NXT (30), SRV, NAPTR (35), KX, DNAME (39), RRSIG (46),
-- NSEC (47), SVCB, HTTPS, DSYNC, LP, TKEY (249) and TSIG (250).
abbrev pub one_name_types : List ℕ
one_name_types =
    2 ∷ 3 ∷ 4 ∷ 5 ∷ 7 ∷ 8 ∷ 9 ∷ 12 ∷ 15 ∷ 18 ∷ 21 ∷ 23 ∷ 24 ∷ 30 ∷ 33 ∷ 35 ∷ 36 ∷ 39 ∷ 46 ∷ 47 ∷ 64 ∷ 65 ∷ 66 ∷ 107 ∷ 249 ∷ 250 ∷ []

-- Types with two: SOA (6), MINFO (14), RP (17), PX and TALINK (58).
abbrev pub two_name_types : List ℕ
two_name_types = 6 ∷ 14 ∷ 17 ∷ 26 ∷ 58 ∷ []

-- The number of names that follow.
abbrev pub name_count : ℕ → ℕ
name_count rtype = cond (is_among rtype one_name_types) 1 (cond (is_among rtype two_name_types) 2 0)

-- The RDATA from `start` to `end` is empty, or its consecutive names are within it and use no octet of the fields.
abbrev pub DataApart : List ℕ → List ℕ → ℕ → ℕ → ℕ → Type 0
DataApart b fields rtype start end =
    (start ≡ end) ⊎ ((stop : ℕ) × (stop ≤ end)
    × Skipped (λ p q. NameEndsAt b p q × NameApart b fields p) (name_count rtype) (names_start b rtype start) stop)
