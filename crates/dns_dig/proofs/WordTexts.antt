-- The word of a number, by the entries of a table as the code stores them.
use Rattle.std.proofs.Common.{◌≡◌, ◌∙◌, ℕ, ◌==◌, ◌<◌, ◌≤◌, List, ◌++◌, ap, codes}
use Rattle.std.proofs.lemmas.Bool.{le-ltb, lt-ltb}
use Rattle.std.specs.Borrow.{Bor}
use Rattle.std.specs.Prelude.{Option, Some, None, decimal, find, option_map, unwrap_or}
use Rattle.dns_iana.specs.Mnemonics.{mnemonic}
use Rattle.dns_iana.specs.Tables.{table}
use Rattle.dns_iana.proofs.theory.MnemonicLemmas.{find_mapped}
use Rattle.dns_dig.specs.Words.{rcode_word, rcode_words, word_or}

-- an entry of a table as the code stores it
abbrev Entry : Type 0
Entry = ℕ × Bor (List ℕ)

module _ (entries : List Entry) (n : ℕ) where
  stored : mnemonic (table entries) n ≡ option_map (λ entry. entry.1.now) (find (λ entry. entry.0 == n) entries)
  stored = find_mapped (λ (entry : Entry). let pair : ℕ × List ℕ = (entry.0, entry.1.now) in pair) (λ entry. entry.1) (λ entry. entry.0 == n) entries

  by_entry : (o : Option Entry) → find (λ entry. entry.0 == n) entries ≡ o → (other : List ℕ) → word_or (table entries) other n ≡ unwrap_or (option_map (λ entry. entry.1.now) o) (other ++ decimal n)
  by_entry o is other = ap (λ (name : Option (List ℕ)). unwrap_or name (other ++ decimal n)) (stored ∙ ap (option_map (λ (entry : Entry). entry.1.now)) is)

  -- The word of an entry that is found.
  pub word_there : (entry : Entry) → find (λ entry. entry.0 == n) entries ≡ Some entry → (other : List ℕ) → word_or (table entries) other n ≡ entry.1.now
  word_there entry is other = by_entry (Some entry) is other

  -- If none is found, it is the other text and the number.
  pub word_missing : find (λ entry. entry.0 == n) entries ≡ None → (other : List ℕ) → word_or (table entries) other n ≡ other ++ decimal n
  word_missing is other = by_entry None is other

-- An RCODE of a header, and one that is extended.
pub rcode_low : (n : ℕ) → n < 16 → word_or rcode_words (codes "RESERVED") n ≡ rcode_word n
rcode_low n low = rw (lt-ltb n 16 low)

-- An RCODE that is extended has another word if it is unknown.
pub rcode_high : (n : ℕ) → 16 ≤ n → word_or rcode_words (codes "?") n ≡ rcode_word n
rcode_high n high = rw (le-ltb n 16 high)
