use Rattle.std.proofs.Common.{◌≡◌, arith, inl, inr, refl, rules}
use Rattle.std.specs.Prelude.{true}
use Rattle.dnsm_put.proofs.RespondingLemmas.{is_query, unasked}
use Rattle.dnsm_put.proofs.responding.begin_asked.Goals as goal

pub returns-in-Ok-clause-wants : goal.returns-in-Ok-clause-wants
returns-in-Ok-clause-wants c =
    let is : c.lacks_question.result ≡ true = search rules in
    let lacks = c.lacks_question.ensures.yes is in
    inr (record { unasked = unasked c.args.query.now _ c.in-Err.error c.in-Err.ensures.refused lacks.1; holds = c.in-Ok.ensures.begun; formerr = refl })

pub returns-in-Err-begin-clause-refused : goal.returns-in-Err-begin-clause-refused
returns-in-Err-begin-clause-refused c =
    let is : c.lacks_question.result ≡ true = search rules in
    let lacks = c.lacks_question.ensures.yes is in
    let short = c.in-Err-begin.ensures.no_room.1 in
    let long = c.begin_response.ensures.length in
    (is_query c.args.query.now _ c.in-Err.error c.in-Err.ensures.refused lacks.0, inl (omega (arith, short, long)))
