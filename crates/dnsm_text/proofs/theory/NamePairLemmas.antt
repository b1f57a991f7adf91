-- What follows from properties of two names.
use Rattle.std.proofs.Common.{◌≡◌, ◌↔◌, ℕ, Bool, true, false, List, inl, inr, refl}
use Rattle.std.specs.Prelude.{IsTrue}
use Rattle.std.specs.Int.{from_bool}
use Rattle.dns_name.specs.Names.{Labels}
use Rattle.dnsm_text.specs.NamePairs.{AreNamesAt, IsFlagOf}

-- A property of two names is one of the same names that it implies.
pub names_with : (b : List ℕ) (p : ℕ) (c : List ℕ) (q : ℕ) (P Q : Labels → Labels → Type 0) → ((m n : Labels) → P m n → Q m n) → AreNamesAt b p c q P
    → AreNamesAt b p c q Q
names_with b p c q P Q f names = (names.0, names.1, names.2, names.3, f names.0 names.1 names.4)

-- The number of a `bool` says what the `bool` does.
pub flag_of : (b : Bool) (P : Type 0) (n : ℕ) → n ≡ from_bool b → IsTrue b ↔ P → IsFlagOf P n
flag_of true P n is h = inl (is, h.0 refl)
flag_of false P n is h = inr (is, λ holds. let wrong = h.1 holds in cc wrong)
