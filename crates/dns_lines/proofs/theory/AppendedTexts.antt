-- Texts that are appended one after another.
use Rattle.std.proofs.Common.{◌≡◌, ℕ, Option, Result, List, [], ◌++◌, OnOk, Ok, Err, None, Some, ap, subst, ◌∙◌, append_assoc, append-nil, sym}
use Rattle.std.specs.Io.KnownBytes.{Appends}

-- a text is appended after another
pub appends_both : (a b c : Option (List ℕ)) (xs ys : List ℕ) → Appends a b xs → Appends b c ys → Appends a c (xs ++ ys)
appends_both None b c xs ys h k = tt
appends_both (Some front) None c xs ys h k = absurd h
appends_both (Some front) (Some bs) None xs ys h k = absurd k
appends_both (Some front) (Some bs) (Some cs) xs ys h k = k ∙ ap (λ l. l ++ ys) h ∙ append_assoc front xs ys

-- a text is printed, and then another
pub prints_both : {E X : Type 0} (a b c : Option (List ℕ)) (text xs ys : List ℕ) (r : Result X E) → xs ≡ text → Appends a b xs → OnOk r (Appends b c ys) → OnOk r (Appends a c (text ++ ys))
prints_both a b c text xs ys (Ok x) is h k = appends_both a b c text ys (subst (λ l. Appends a b l) is h) k
prints_both a b c text xs ys (Err e) is h k = k

-- nothing is appended if nothing changes
pub appends_none : (a : Option (List ℕ)) → Appends a a []
appends_none None = tt
appends_none (Some xs) = sym (append-nil xs)
