-- How long the texts of numbers are.
use Rattle.std.proofs.Common.{◌≡◌, ℕ, ◌+◌, ◌^◌, ◌<◌, ◌==◌, true, Bool, List, [], ◌∷◌, ◌++◌, length, length-append, refl, arith}
use Rattle.std.proofs.lemmas.Bool.{and_parts, cond_both, ltb-true}
use Rattle.std.proofs.lemmas.Fmt.{length-decimal-le}
use Rattle.std.specs.List.{list_all}
use Rattle.std.specs.Prelude.{Some, codes, decimal, find, nat_lt, option_map, unwrap_or}
use Rattle.dns_iana.specs.Mnemonics.{Mnemonics, mnemonic}
use Rattle.dns_iana.specs.NumberTexts.{number_text}
use Rattle.dnsm_status.specs.CallerBuffers.{Holds}
use Rattle.dnsm_status.specs.Statuses.{status_sentences, status_text}

-- whether each text of a table has fewer than n octets
abbrev pub are_shorter : ℕ → Mnemonics → Bool
are_shorter n names = list_all (λ entry. nat_lt (length entry.1) n) names

found_short : (size : ℕ) (names : Mnemonics) (n : ℕ) (other : List ℕ) → are_shorter size names ≡ true → length other < size → length (unwrap_or (mnemonic names n) other) < size
found_short size [] n other all short = short
found_short size (entry ∷ names) n other all short =
    let parts = and_parts (nat_lt (length entry.1) size) (are_shorter size names) all in
    cond_both (entry.0 == n) (Some entry) (find (λ next. next.0 == n) names) (λ found. length (unwrap_or (option_map (λ next. next.1) found) other) < size)
    (λ same. ltb-true (length entry.1) size parts.0)
    (λ differs. found_short size names n other parts.1 short)

-- The text of a number of up to k digits has fewer than `size` octets if those of the table have, and the word with k digits.
pub number_text_short : (names : Mnemonics) (word : List ℕ) (size k n : ℕ) → are_shorter size names ≡ true → 0 < k → n < 10 ^ k → n < 2 ^ 64 → length word + k < size
    → length (number_text names word n) < size
number_text_short names word size k n all some few fits short =
    let digits = length-decimal-le k n some few fits in
    let both = length-append word (decimal n) in
    found_short size names n (word ++ decimal n) all (omega (arith, digits, both))

-- A buffer that holds a short text counts few octets.
pub held_short : (out text : List ℕ) (end size : ℕ) → Holds out text end → length text < size → end < size
held_short out text end size held short = let counted = held.counted in omega arith

-- The text of a status has fewer than 100 octets.
pub status_text_short : (n : ℕ) → n < 2 ^ 32 → length (status_text n) < 100
unfolding status_sentences
status_text_short n fits = number_text_short status_sentences (codes "unknown status ") 100 10 n refl (omega arith) (omega arith) (omega arith) (omega arith)
