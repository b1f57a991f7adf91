-- What is wrong with malformed octets.
use Rattle.std.specs.Prelude.{List, [], ◌∷◌}
use Rattle.dns_octets.specs.declared.error.FormError.{FormError}
use Rattle.dns_octets.specs.declared.error.TheConstants.FormError.{BAD_LABEL, BAD_POINTER, LONG_NAME, TRAILING_DATA, NO_QUESTION, MULTIPLE_QUESTIONS}

-- The constants of `FormError`, in the order of their declarations.
abbrev pub causes : List FormError
causes = BAD_LABEL ∷ BAD_POINTER ∷ LONG_NAME ∷ TRAILING_DATA ∷ NO_QUESTION ∷ MULTIPLE_QUESTIONS ∷ []
