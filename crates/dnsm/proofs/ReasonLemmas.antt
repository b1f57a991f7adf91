-- The number that reports why no response begins.
use Rattle.std.proofs.Common.{◌≡◌, ◌∙◌, ℕ, List, ap, refl, sym}
use Rattle.std.proofs.lemmas.Bool.{true≢false}
use Rattle.std.specs.Prelude.{◌==◌, Result, Ok, Err, is_ok}
use Rattle.dnsm_status.specs.Codes.{number_of}
use Rattle.dnsm_status.specs.declared.code.CallError.{CallError}
use Rattle.dnsm_status.proofs.theory.FaultLemmas.{reported_fields}
use Rattle.dnsm_put.specs.Responses.{IsReason, ReportsNumber, ReportsReason}
use Rattle.dnsm_put.specs.Refusals.{put_fault}
use Rattle.dnsm_put.specs.Responding.{RefusesQuery}
use Rattle.dnsm_put.specs.Sets.{is_no_room}
use Rattle.dnsm_put.specs.declared.draft.PutError.TheVariants as put
use Rattle.dnsm_put.specs.declared.draft.PutError.{PutError}
use Rattle.dnsm_put.specs.declared.response.ResponseError.{ResponseError}
use Rattle.dnsm_put.specs.declared.response.ResponseError.TheVariants.{ShortInput, IsResponse, NoQuestion, BadQuestion, NoRoom}

-- the fault that reports a reason has its number
pub reason_reported : (b : List ℕ) (n : ℕ) (error : ResponseError) (fault : CallError) → IsReason b n error → ReportsReason error fault
    → ReportsNumber error (number_of fault)
reason_reported b n ShortInput fault reason is = ap number_of is
reason_reported b n IsResponse fault reason is = ap number_of is
reason_reported b n NoQuestion fault reason is = ap number_of is
reason_reported b n (BadQuestion error) fault reason reports = reports (reported_fields reason)
reason_reported b n NoRoom fault reason is = ap number_of is

-- the same of the reason why any query gets no response
pub refusal_reported : (b : List ℕ) (n : ℕ) (error : ResponseError) (fault : CallError) → RefusesQuery b n error → ReportsReason error fault
    → ReportsNumber error (number_of fault)
refusal_reported b n ShortInput fault refuses is = ap number_of is
refusal_reported b n IsResponse fault refuses is = ap number_of is
refusal_reported b n NoQuestion fault refuses is = absurd refuses
refusal_reported b n (BadQuestion error) fault refuses is = absurd refuses
refusal_reported b n NoRoom fault refuses is = ap number_of is

-- Of the errors of items only that there is no room has its number.
pub no_room_number : (error : PutError) → (number_of (put_fault error) == 7) ≡ is_no_room error
no_room_number put.BadSection = refl
no_room_number put.BadName = refl
no_room_number put.LongData = refl
no_room_number put.BadData = refl
no_room_number put.TooMany = refl
no_room_number put.NoRoom = refl

abbrev error_of : PutError → Result (Unit {0}) PutError → PutError
error_of other (Ok done) = other
error_of other (Err error) = error

-- Equal results have the same error.
pub same_error : (a b : PutError) (r : Result (Unit {0}) PutError) → r ≡ Err a → r ≡ Err b → a ≡ b
same_error a b r first second = sym (ap (error_of a) first) ∙ ap (error_of a) second

-- A result isn't both.
pub not_both : (r : Result (Unit {0}) PutError) (done : Unit {0}) (error : PutError) → r ≡ Ok done → r ≡ Err error → ⊥
not_both r done error first second = true≢false (sym (ap is_ok first) ∙ ap is_ok second)
