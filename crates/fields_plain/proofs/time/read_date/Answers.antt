use Rattle.std.proofs.Common.{◌≡◌, ℕ, List, subst, arith, rules}
use Rattle.std.proofs.lemmas.Grind.{common_steps}
use Rattle.std.specs.Prelude.{None}
use Rattle.fields_plain.specs.TimeWords.{IsClockWord}
use Rattle.fields_plain.proofs.Calendar.{back_is, date_late, date_word, no_clock}
use Rattle.fields_plain.proofs.time.read_date.Goals as goal

pub returns-in_err-seconds : goal.returns-in_err-seconds
returns-in_err-seconds c =
    let none : c.from_residual-in_err-seconds.result ≡ None = grind (arith, common_steps) in
    no_clock c.args.word.now _ none
    (subst (λ (back : List ℕ). (seconds : ℕ) → ¬ (IsClockWord back seconds)) (back_is c.args.word.now) c.in_err-seconds.ensures)

pub returns-then-total-gt4294967295 : goal.returns-then-total-gt4294967295
returns-then-total-gt4294967295 c = λ n w.
    let days : c.from.result ≡ c.in_ok-days.days = search rules in
    let seconds : c.from-2.result ≡ c.in_ok-seconds.seconds = search rules in
    date_late c.args.word.now c.in_ok-days.days c.in_ok-seconds.seconds n c.in_ok-days.ensures
    (subst (λ (back : List ℕ). IsClockWord back c.in_ok-seconds.seconds) (back_is c.args.word.now) c.in_ok-seconds.ensures)
    (omega (arith, days, seconds, c.if-total-gt4294967295.true)) w

pub returns : goal.returns
returns c =
    let days : c.from.result ≡ c.in_ok-days.days = search rules in
    let seconds : c.from-2.result ≡ c.in_ok-seconds.seconds = search rules in
    date_word c.args.word.now c.in_ok-days.days c.in_ok-seconds.seconds _ c.in_ok-days.ensures
    (subst (λ (back : List ℕ). IsClockWord back c.in_ok-seconds.seconds) (back_is c.args.word.now) c.in_ok-seconds.ensures)
    (omega (arith, days, seconds)) (omega (arith, c.if-total-gt4294967295.false))
