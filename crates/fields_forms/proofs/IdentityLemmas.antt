-- Host identities and their words.
use Rattle.std.proofs.Common.{◌≡◌, ◌∙◌, ◌↔◌, ◌++◌, ◌≤◌, ℕ, Bool, false, List, [], ◌∷◌, length, get_or, drop, refl, subst, arith, inl, inr}
use Rattle.std.specs.Borrow.{Bor}
use Rattle.std.specs.Global.{Vec}
use Rattle.std.specs.Prelude.{IsTrue, Result, Ok, Err}
use Rattle.fields_text.specs.declared.text_error.TextError.{TextError}
use Rattle.fields_forms.specs.GatewayWords.{IsNumberTo}
use Rattle.fields_forms.specs.IdentityWords.{AreNames, IsHostIdentity, IsIdentity, identity_octets}
use Rattle.fields_plain.specs.Salts.{IsCountedHex}
use Rattle.fields_plain.specs.NameWords.{IsNameWord}
use Rattle.fields_text.specs.Reading.{Fails, FailsFirst, HasValue, ReadsWords}
use Rattle.fields_plain.specs.SizedWords.{IsCountedBase64}
use Rattle.fields_text.proofs.theory.WordLists.{AreInOrder}

-- a word that is a name
abbrev pub IsName : Bor (List ℕ) → List ℕ → Type 0
IsName word octets = IsNameWord word.now octets

-- the names of words
pub names_in_order : AreInOrder IsName AreNames
names_in_order = record {
  none = refl;
  both = λ word words first after own others. (first, after, own, refl, others);
  parts = λ word words octets is. ((is.0, is.2), (is.1, is.4));
}

-- why no host identity is read
module _ (algorithm_word tag_word key_word : List ℕ) (server_words : List (Bor (List ℕ))) where
  -- why these words aren't read as a host identity: an allocation fails, or they represent none
  abbrev pub FailsSo : TextError → Type 0
  FailsSo e = Fails (IsIdentity algorithm_word tag_word key_word server_words) e

  -- if each of the words is right, they represent a host identity
  pub identity_there : HasValue (IsNumberTo 255 algorithm_word) → HasValue (IsCountedHex tag_word) → HasValue (IsCountedBase64 key_word) → HasValue (AreNames server_words)
      → HasValue (IsIdentity algorithm_word tag_word key_word server_words)
  identity_there algorithm tag key servers = (
    identity_octets algorithm.0 tag.0 key.0 ++ servers.0,
    record {
      algorithm = algorithm.0;
      tag = tag.0;
      key = key.0;
      servers = servers.0;
      is_algorithm = algorithm.1;
      is_tag = tag.1;
      is_key = key.1;
      are_servers = servers.1;
      whole = refl;
    },
  )

  -- if the words of the servers aren't all names, the words represent no host identity
  pub no_servers : (b : Bool) → b ≡ false → IsTrue b ↔ HasValue (AreNames server_words) → (octets : List ℕ) → ¬ (IsIdentity algorithm_word tag_word key_word server_words octets)
  no_servers b is_false tested octets is = let is_true = tested.1 (is.servers, is.are_servers) in absurd (cc (is_false, is_true))

  -- if reading the tag fails, reading the host identity fails for the same reason, or as a bad word if the key is one
  pub tag_fails : (e first : TextError) (key : Result (Vec ℕ) TextError) → HasValue (IsNumberTo 255 algorithm_word) → HasValue (AreNames server_words) → Fails (IsCountedHex tag_word) first
      → ReadsWords (IsCountedBase64 key_word) key → FailsFirst first key e → FailsSo e
  tag_fails e first (Ok key) number servers (inl memory) is why = inl (why ∙ memory.0, identity_there number memory.1 (key.items, is) servers)
  tag_fails e first (Ok key) number servers (inr bad) is why = inr (why ∙ bad.0, λ octets is. bad.1 is.tag is.is_tag)
  tag_fails e first (Err f) number servers fails (inl full) (inl why) = absurd (cc (full.0, why.0))
  tag_fails e first (Err f) number servers (inl memory) (inl full) (inr why) = inl (why.1 ∙ memory.0, identity_there number memory.1 full.1 servers)
  tag_fails e first (Err f) number servers (inr bad) (inl full) (inr why) = inr (why.1 ∙ bad.0, λ octets is. bad.1 is.tag is.is_tag)
  tag_fails e first (Err f) number servers fails (inr none) (inl why) = inr (why.1, λ octets is. none.1 is.key is.is_key)
  tag_fails e first (Err f) number servers fails (inr none) (inr why) = absurd (cc (none.0, why.0))

  -- if the other words are right and reading the key fails, reading the host identity fails for the same reason
  pub key_fails : (e : TextError) → HasValue (IsNumberTo 255 algorithm_word) → HasValue (IsCountedHex tag_word) → HasValue (AreNames server_words)
      → Fails (IsCountedBase64 key_word) e → FailsSo e
  key_fails e number tag servers (inl memory) = inl (memory.0, identity_there number tag memory.1 servers)
  key_fails e number tag servers (inr bad) = inr (bad.0, λ octets is. bad.1 is.key is.is_key)

  -- if reading the servers' names fails, reading the host identity fails for the same reason
  pub servers_fail : (e : TextError) → HasValue (IsIdentity algorithm_word tag_word key_word server_words) → Fails (AreNames server_words) e → FailsSo e
  servers_fail e there (inl memory) = inl (memory.0, there)
  servers_fail e there (inr bad) = inr (bad.0, λ octets is. bad.1 is.servers is.are_servers)

-- Three words and those of the servers.
pub identity_words : (words servers : List (Bor (List ℕ))) (a b c : Bor (List ℕ)) (result : Result (Vec ℕ) TextError) → 3 ≤ length words → servers ≡ drop 3 words
    → ReadsWords (IsIdentity (get_or words 0 a).now (get_or words 1 b).now (get_or words 2 c).now servers) result → ReadsWords (IsHostIdentity words) result
identity_words [] servers a b c result least same reads = absurd (omega arith)
identity_words (w ∷ []) servers a b c result least same reads = absurd (omega arith)
identity_words (w ∷ x ∷ []) servers a b c result least same reads = absurd (omega arith)
identity_words (w ∷ x ∷ y ∷ words) servers a b c result least same reads = subst (λ (ws : List (Bor (List ℕ))). ReadsWords (IsIdentity w.now x.now y.now ws) result) same reads
