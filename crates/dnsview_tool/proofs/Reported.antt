-- What is printed before a failure, and then of it.
use Rattle.std.proofs.Common.{◌≡◌, ◌∙◌, ap, arith, codes, inl, inr, ℕ, List, ◌++◌, Option, Some, None, Result, Ok, Err, OnOk, IfErr, IfOk, IfSome, subst, sym}
use Rattle.std.specs.Io.KnownBytes.{Appends, Keeps}
use Rattle.std.proofs.lemmas.Result.{IfOk-weaker}
use Rattle.dnsview_tool.proofs.Viewed.{failure_reports, keeps_same}
use Rattle.dnsview_tool.specs.Failures.{IsFailureText, IsPrintingFailure, IsReportingFailure, PrintsBefore, ReportsFailure}
use Rattle.dnsview_tool.specs.Failures.ReportsFailure.{reading, printing}
use Rattle.dnsview_tool.specs.Printed.{Prints}
use Rattle.dnsview_tool.specs.Requests.{Words}
use Rattle.dnsview_tool.specs.Viewing.{CanEnd, Reports}
use Rattle.dnsview_tool.specs.declared.failure.Failure.{Failure}
use Rattle.dnsview_tool.specs.declared.failure.Failure.TheVariants.{Reading, Printing, Reporting}
use Rattle.dnsview_tool.specs.declared.request.Request.{Request}
use Rattle.dnsview_tool.specs.declared.request.Request.TheVariants.{Help, Version, View, Wrong}

-- a function ends with the status n, and then P holds of n
pub ends_in : {E : Type 0} (r : Result ℕ E) (n : ℕ) (P : ℕ → Type 0) → IfOk r (λ status. status ≡ n) → OnOk r (P n) → IfOk r P
ends_in (Ok status) n P e h = subst P (sym e) h
ends_in (Err error) n P e h = tt

-- if only standard output can't be written, nothing was printed to standard error
pub before_printing : (r : Result ℕ Failure) (a b c : Option (List ℕ)) → IfErr r IsPrintingFailure → IfErr r (λ failure. PrintsBefore failure a b c c)
before_printing (Ok status) a b c h = tt
before_printing (Err (Reading error)) a b c h = absurd h
before_printing (Err (Printing error)) a b c h = keeps_same c
before_printing (Err (Reporting error)) a b c h = absurd h

-- if standard error can't be written, nothing was printed to standard output
pub before_reporting : (r : Result ℕ Failure) (a c d : Option (List ℕ)) → IfErr r IsReportingFailure → IfErr r (λ failure. PrintsBefore failure a a c d)
before_reporting (Ok status) a c d h = tt
before_reporting (Err (Reading error)) a c d h = absurd h
before_reporting (Err (Printing error)) a c d h = absurd h
before_reporting (Err (Reporting error)) a c d h = keeps_same a

appends_after : (a b c : Option (List ℕ)) (xs : List ℕ) → Keeps a b → Appends b c xs → Appends a c xs
appends_after None b c xs k h = tt
appends_after (Some front) None c xs k h = absurd k
appends_after (Some front) (Some bs) None xs k h = absurd h
appends_after (Some front) (Some bs) (Some cs) xs k h = h ∙ ap (λ (l : List ℕ). l ++ xs) k

-- a text is printed after nothing was
prints_after : (IsText : List ℕ → Type 0) (a b c : Option (List ℕ)) → Keeps a b → Prints IsText b c → Prints IsText a c
prints_after IsText a b c k p = (p.0, p.1, appends_after a b c p.0 k p.2)

-- It is reported that reading failed, and nothing was printed before.
pub reading_reported : {E : Type 0} (r : Result ℕ E) (a b c d e : Option (List ℕ)) → Keeps a b × Keeps c d → OnOk r (Prints (IsFailureText (codes "reading failed")) d e)
    → IfOk r (λ status. status ≡ 3 → ReportsFailure a b c e)
reading_reported (Ok status) a b c d e k p = λ _. reading k.0 (prints_after (IsFailureText (codes "reading failed")) c d e k.1 p)
reading_reported (Err error) a b c d e k p = tt

-- It is reported that printing failed, and nothing else to standard error.
pub printing_reported : {E : Type 0} (r : Result ℕ E) (a b c d e : Option (List ℕ)) → Keeps c d → OnOk r (Prints (IsFailureText (codes "printing failed")) d e)
    → IfOk r (λ status. status ≡ 3 → ReportsFailure a b c e)
printing_reported (Ok status) a b c d e k p = λ _. printing (prints_after (IsFailureText (codes "printing failed")) c d e k p)
printing_reported (Err error) a b c d e k p = tt

-- nothing that is asked for ends with the status 3 if nothing fails
pub never_fails : (request : Request) (status : ℕ) → CanEnd request status → status ≡ 3 → ⊥
never_fails (View form) status h e = elim h [ inl few ↦ absurd (omega (arith, few, e)) | inr four ↦ absurd (omega (arith, four, e)) ]
never_fails Help status h e = absurd (omega (arith, h, e))
never_fails Version status h e = absurd (omega (arith, h, e))
never_fails Wrong status h e = absurd (omega (arith, h, e))

-- the exit status 3 says nothing of the input
pub failed_reports : {E : Type 0} (r : Result ℕ E) (remaining : Option (List ℕ)) (words : Words) → IfOk r (λ status. status ≡ 3)
    → IfOk r (λ status. IfSome remaining (λ xs. Reports words xs status))
failed_reports r remaining words h =
    let P : ℕ → Type 0 = λ status. IfSome remaining (λ xs. Reports words xs status) in
    IfOk-weaker r (λ status. status ≡ 3) P (λ status e. subst P (sym e) (failure_reports remaining words)) h
