use Rattle.dns_build.proofs.answer.Builder+T+AtBuilder.start_answer.Goals as goal

pub returns-in-Ok : goal.returns-in-Ok
returns-in-Ok g c s represents =
    let asks = rw c.in-Ok.is at c.push_questions.ensures _ (c.answering-builder.ensures s represents) in
    (asks.0, c.answer.ensures _ asks.1)

pub returns-in-Err : goal.returns-in-Err
returns-in-Err g c s represents =
    let asks = rw c.in-Err.is at c.push_questions.ensures _ (c.answering-builder.ensures s represents) in
    (asks.0, asks.1)
