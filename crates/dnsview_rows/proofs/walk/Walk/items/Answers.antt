use Rattle.std.proofs.Common.{[], ◌∷◌, Some, None, rules, subst}
use Rattle.dns_code.specs.HeaderCounts.{counts}
use Rattle.dnsview_rows.specs.Entries.{all_parts}
use Rattle.dnsview_rows.specs.Walks.{MarksAmong, MarksFirst, MarksParts}
use Rattle.dnsview_rows.specs.declared.row.Part.TheVariants.{Question, Answer, Authority, Additional}
use Rattle.dnsview_rows.proofs.Items.{additionals_ready, answers_ready, authorities_ready, no_parts, part_stops, part_then, Ready}
use Rattle.dnsview_rows.proofs.Stops.{on_fault}
use Rattle.dnsview_rows.proofs.walk.Walk.items.Goals as goal

pub returns-in_err-questions-clause-stops : goal.returns-in_err-questions-clause-stops
returns-in_err-questions-clause-stops c =
    let n = counts c.args.all in
    let old = c.args.self.now in
    let new = c.questions.new.self in
    let start : Ready n Question old = record { starts = c.requires.start; counts = c.requires.counts } in
    on_fault c.from_residual.result (MarksAmong Question n.qdcount old new) (λ fault. MarksParts all_parts (Some fault) old new)
    (λ fault h. part_stops n Question (Answer ∷ Authority ∷ Additional ∷ []) old new fault start h) (search rules)

pub returns-in_err-records-clause-stops : goal.returns-in_err-records-clause-stops
returns-in_err-records-clause-stops c =
    let n = counts c.args.all in
    let old = c.args.self.now in
    let mid = c.questions.new.self in
    let new = c.records.new.self in
    let start : Ready n Question old = record { starts = c.requires.start; counts = c.requires.counts } in
    let questions = subst (λ n. MarksFirst Question n old mid) c.qdcount.ensures c.in_ok-questions.ensures.shows in
    let answers_start = answers_ready n old mid start questions in
    on_fault c.from_residual-in_err-records.result (MarksAmong Answer n.ancount mid new) (λ fault. MarksParts all_parts (Some fault) old new)
    (λ fault h. part_then n Question (Answer ∷ Authority ∷ Additional ∷ []) (Some fault) old mid new start questions
    (part_stops n Answer (Authority ∷ Additional ∷ []) mid new fault answers_start h)) (search rules)

pub returns-in_err-records-2-clause-stops : goal.returns-in_err-records-2-clause-stops
returns-in_err-records-2-clause-stops c =
    let n = counts c.args.all in
    let old = c.args.self.now in
    let mid = c.questions.new.self in
    let last = c.records.new.self in
    let new = c.records-2.new.self in
    let start : Ready n Question old = record { starts = c.requires.start; counts = c.requires.counts } in
    let questions = subst (λ n. MarksFirst Question n old mid) c.qdcount.ensures c.in_ok-questions.ensures.shows in
    let answers = subst (λ n. MarksFirst Answer n mid last) c.ancount.ensures c.in_ok-records.ensures.shows in
    let answers_start = answers_ready n old mid start questions in
    let authorities_start = authorities_ready n mid last answers_start answers in
    on_fault c.from_residual-in_err-records-2.result (MarksAmong Authority n.nscount last new) (λ fault. MarksParts all_parts (Some fault) old new)
    (λ fault h. part_then n Question (Answer ∷ Authority ∷ Additional ∷ []) (Some fault) old mid new start questions
    (part_then n Answer (Authority ∷ Additional ∷ []) (Some fault) mid last new answers_start answers
    (part_stops n Authority (Additional ∷ []) last new fault authorities_start h))) (search rules)

pub returns-in_err-records-3-clause-stops : goal.returns-in_err-records-3-clause-stops
returns-in_err-records-3-clause-stops c =
    let n = counts c.args.all in
    let old = c.args.self.now in
    let mid = c.questions.new.self in
    let next = c.records.new.self in
    let last = c.records-2.new.self in
    let new = c.records-3.new.self in
    let start : Ready n Question old = record { starts = c.requires.start; counts = c.requires.counts } in
    let questions = subst (λ n. MarksFirst Question n old mid) c.qdcount.ensures c.in_ok-questions.ensures.shows in
    let answers = subst (λ n. MarksFirst Answer n mid next) c.ancount.ensures c.in_ok-records.ensures.shows in
    let authorities = subst (λ n. MarksFirst Authority n next last) c.nscount.ensures c.in_ok-records-2.ensures.shows in
    let answers_start = answers_ready n old mid start questions in
    let authorities_start = authorities_ready n mid next answers_start answers in
    let additionals_start = additionals_ready n next last authorities_start authorities in
    on_fault c.from_residual-in_err-records-3.result (MarksAmong Additional n.arcount last new) (λ fault. MarksParts all_parts (Some fault) old new)
    (λ fault h. part_then n Question (Answer ∷ Authority ∷ Additional ∷ []) (Some fault) old mid new start questions
    (part_then n Answer (Authority ∷ Additional ∷ []) (Some fault) mid next new answers_start answers
    (part_then n Authority (Additional ∷ []) (Some fault) next last new authorities_start authorities
    (part_stops n Additional [] last new fault additionals_start h)))) (search rules)

pub returns-clause-shows : goal.returns-clause-shows
returns-clause-shows c =
    let n = counts c.args.all in
    let old = c.args.self.now in
    let mid = c.questions.new.self in
    let next = c.records.new.self in
    let last = c.records-2.new.self in
    let new = c.records-3.new.self in
    let start : Ready n Question old = record { starts = c.requires.start; counts = c.requires.counts } in
    let questions = subst (λ n. MarksFirst Question n old mid) c.qdcount.ensures c.in_ok-questions.ensures.shows in
    let answers = subst (λ n. MarksFirst Answer n mid next) c.ancount.ensures c.in_ok-records.ensures.shows in
    let authorities = subst (λ n. MarksFirst Authority n next last) c.nscount.ensures c.in_ok-records-2.ensures.shows in
    let additionals = subst (λ n. MarksFirst Additional n last new) c.arcount.ensures c.in_ok-records-3.ensures.shows in
    let answers_start = answers_ready n old mid start questions in
    let authorities_start = authorities_ready n mid next answers_start answers in
    let additionals_start = additionals_ready n next last authorities_start authorities in
    part_then n Question (Answer ∷ Authority ∷ Additional ∷ []) None old mid new start questions
    (part_then n Answer (Authority ∷ Additional ∷ []) None mid next new answers_start answers
    (part_then n Authority (Additional ∷ []) None next last new authorities_start authorities
    (part_then n Additional [] None last new new additionals_start additionals (no_parts new))))
