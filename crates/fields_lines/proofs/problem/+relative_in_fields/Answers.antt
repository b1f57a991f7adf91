use Rattle.std.proofs.Common.{ℕ, ◌++◌, ◌+◌, List, arith, drop, length, subst}
use Rattle.std.proofs.lemmas.List.{take_rest}
use Rattle.fields_table.specs.Table.{Field, kinds}
use Rattle.fields_text.specs.LineWords.{texts}
use Rattle.fields_lines.proofs.CompletingLemmas.{fields_split, others}
use Rattle.fields_lines.proofs.ProblemLemmas.{ends_here, goes_on, no_fields}
use Rattle.fields_lines.specs.Completing.{FindsRelative, completed_fields}
use Rattle.fields_lines.specs.Lines.{text_of_name}
use Rattle.fields_lines.proofs.problem.+relative_in_fields.Goals as goal

pub returns-in_default : goal.returns-in_default
returns-in_default t c = λ done.
    (done ++ texts c.args.words.now, no_fields (text_of_name c.args.origin) c.args.at c.args.rtype c.args.index c.args.fields.now done (texts c.args.words.now) (omega arith))

pub returns-in-Some : goal.returns-in-Some
returns-in-Some t c = λ done.
    ends_here _ _ _ c.in-Some.relative
    (fields_split (text_of_name c.args.origin) c.args.at c.args.rtype c.args.index c.args.fields.now _ c.in-len1-up.len_at_least done c.args.words.now
    c.split_at.result.0.now c.split_at.result.1.now c.own_count.result c.own_count.ensures.value c.split_at.ensures.front c.split_at.ensures.back c.way_of-way.result
    c.way_of-way.ensures) (c.in-Some.ensures done)

pub returns : goal.returns
returns t c = λ done.
    let fields = c.args.fields.now in
    let origin = text_of_name c.args.origin in
    let after = c.split_at.result.1.now in
    let first = c.in_default-relative_in_own.ensures done in
    let later =
    subst (λ (fs : List Field). FindsRelative
    (completed_fields origin (c.args.at + length c.split_at.result.0.now) c.args.rtype (c.args.index + 1) (kinds fs) first.0 (texts after)) c.relative_in_fields.result)
    (take_rest fields 1) (c.relative_in_fields.ensures first.0) in
    let rest =
    subst (λ (m : ℕ). FindsRelative (completed_fields origin (c.args.at + m) c.args.rtype (c.args.index + 1) (kinds (drop 1 fields)) first.0 (texts after)) c.relative_in_fields.result)
    c.split_at.ensures.front_len later in
    goes_on _ _
    (others origin c.args.at c.args.rtype c.args.index fields _ c.in-len1-up.len_at_least done c.args.words.now c.split_at.result.0.now after c.own_count.result
    c.own_count.ensures.value c.split_at.ensures.front c.split_at.ensures.back c.way_of-way.result c.way_of-way.ensures)
    first.0 c.relative_in_fields.result
    (fields_split origin c.args.at c.args.rtype c.args.index fields _ c.in-len1-up.len_at_least done c.args.words.now c.split_at.result.0.now after c.own_count.result
    c.own_count.ensures.value c.split_at.ensures.front c.split_at.ensures.back c.way_of-way.result c.way_of-way.ensures) first.1 rest
