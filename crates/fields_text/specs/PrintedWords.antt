-- Printed texts as words. RFC 1035 section 5.1.
use Rattle.std.specs.Prelude.{◌≡◌, ◌≢◌, ℕ, List, ◌++◌, All, codes}
use Rattle.std.specs.Borrow.{Bor}
use Rattle.std.specs.List.{flat_map}

-- the word has no space
abbrev pub HasNoSpace : List ℕ → Type 0
HasNoSpace word = All (λ octet. octet ≢ 32) word

-- the text is these words, each after a space; no word has a space
pub record AreWords (text : List ℕ) (words : List (Bor (List ℕ))) : Type 0 where
  pub text_is : text ≡ flat_map (λ word. codes " " ++ word.now) words
  pub separate : All (λ word. HasNoSpace word.now) words
