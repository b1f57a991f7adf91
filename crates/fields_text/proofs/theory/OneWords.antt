-- A word, or words, represent one value.
use Rattle.std.proofs.Common.{◌≡◌, ◌∙◌, sym, lit≤}
use Rattle.std.specs.Prelude.{Result, Ok}
use Rattle.fields_text.specs.JoinedWords.{AreBase64, AreHex}
use Rattle.fields_text.specs.Laws.{RepresentsOne}

-- a result is one value
pub same_value : {X E : Type 0} (r : Result X E) (x y : X) → r ≡ Ok x → r ≡ Ok y → x ≡ y
same_value r x y a b = let both : Ok x ≡ Ok y = sym a ∙ b in cc

-- octets in digits
pub one_hex : RepresentsOne AreHex
one_hex words xs ys a b = same_value _ xs ys a b

-- Words represent at most one list of octets in base64.
pub one_base64 : RepresentsOne AreBase64
one_base64 words xs ys a b = same_value _ xs ys a b
