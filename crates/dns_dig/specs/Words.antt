-- The words for numbers that `dig` of BIND 9.18 has.
use Rattle.std.specs.Prelude.{ℕ, nat_lt, if◌then◌else◌, List, [], ◌∷◌, ◌++◌, unwrap_or, codes, decimal}
use Rattle.dns_iana.specs.Mnemonics.{Mnemonics, mnemonic}

-- the opcodes with a word: RFC 1035 section 4.1.1, RFC 1996 (NOTIFY), RFC 2136 (UPDATE)
unfoldable pub opcode_words : Mnemonics
opcode_words = (0, codes "QUERY") ∷ (1, codes "IQUERY") ∷ (2, codes "STATUS") ∷ (4, codes "NOTIFY") ∷ (5, codes "UPDATE") ∷ []

-- the extended RCODEs with a word: RFC 1035 section 4.1.1, RFC 2136 section 2.2, RFC 6891 section 9 (BADVERS), RFC 7873 section 8 (BADCOOKIE)
unfoldable pub rcode_words : Mnemonics
rcode_words =
    (0, codes "NOERROR")
    ∷ (1, codes "FORMERR")
    ∷ (2, codes "SERVFAIL")
    ∷ (3, codes "NXDOMAIN")
    ∷ (4, codes "NOTIMP")
    ∷ (5, codes "REFUSED")
    ∷ (6, codes "YXDOMAIN")
    ∷ (7, codes "YXRRSET")
    ∷ (8, codes "NXRRSET")
    ∷ (9, codes "NOTAUTH")
    ∷ (10, codes "NOTZONE")
    ∷ (16, codes "BADVERS")
    ∷ (23, codes "BADCOOKIE")
    ∷ []

-- the options with a word: RFC 5001 (NSID), RFC 7871, RFC 7314, RFC 7873, RFC 7828, RFC 7830 (PAD), RFC 8914 (EDE)
unfoldable pub option_words : Mnemonics
option_words =
    (3, codes "NSID")
    ∷ (8, codes "CLIENT-SUBNET")
    ∷ (9, codes "EXPIRE")
    ∷ (10, codes "COOKIE")
    ∷ (11, codes "TCP KEEPALIVE")
    ∷ (12, codes "PAD")
    ∷ (15, codes "EDE")
    ∷ []

-- the word of a number; if it has none, another text and the number
abbrev pub word_or : Mnemonics → List ℕ → ℕ → List ℕ
word_or words other n = unwrap_or (mnemonic words n) (other ++ decimal n)

-- an opcode
abbrev pub opcode_word : ℕ → List ℕ
opcode_word opcode = word_or opcode_words (codes "RESERVED") opcode

-- an RCODE, which is extended above 15
abbrev pub rcode_word : ℕ → List ℕ
rcode_word rcode = word_or rcode_words (if nat_lt rcode 16 then codes "RESERVED" else codes "?") rcode

-- the code of an option
abbrev pub option_word : ℕ → List ℕ
option_word code = word_or option_words (codes "OPT=") code
