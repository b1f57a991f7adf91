use Rattle.std.proofs.Common.{ℕ, ◌+◌, List, length, drop, subst}
use Rattle.std.specs.Option.{option_copied}
use Rattle.std.proofs.lemmas.List.{take_rest}
use Rattle.fields_table.specs.Table.{Field, kinds}
use Rattle.fields_text.specs.LineWords.{texts}
use Rattle.fields_lines.proofs.CompletingLemmas.{fields_bad, fields_more}
use Rattle.fields_lines.specs.Completing.{PushesWords, completed_fields, texts_of}
use Rattle.fields_lines.proofs.field_words.+complete_fields.Goals as goal

pub returns-in-Err : goal.returns-in-Err
returns-in-Err t c =
    fields_bad (option_copied c.args.origin) c.args.at c.args.rtype c.args.index c.args.fields.now _ c.in-len1-up.len_at_least (texts_of c.args.completed.now.items) c.args.words.now
    c.split_at.result.0.now c.split_at.result.1.now c.own_count.result c.own_count.ensures.value c.split_at.ensures.front c.split_at.ensures.back
    c.way_of-way.result c.way_of-way.ensures c.complete_own.new.completed.items c.in-Err.error
    c.in-Err.ensures

pub returns : goal.returns
returns t c =
    let fields = c.args.fields.now in
    let origin = option_copied c.args.origin in
    let done = texts_of c.complete_own.new.completed.items in
    let after = c.split_at.result.1.now in
    let new = c.complete_fields.new.completed.items in
    let others =
    subst (λ (fs : List Field). PushesWords
    (completed_fields origin (c.args.at + length c.split_at.result.0.now) c.args.rtype (c.args.index + 1) (kinds fs) done (texts after)) new c.complete_fields.result)
    (take_rest fields 1) c.complete_fields.ensures in
    let rest =
    subst (λ (m : ℕ). PushesWords (completed_fields origin (c.args.at + m) c.args.rtype (c.args.index + 1) (kinds (drop 1 fields)) done (texts after)) new c.complete_fields.result)
    c.split_at.ensures.front_len others in
    fields_more origin c.args.at c.args.rtype c.args.index fields _ c.in-len1-up.len_at_least (texts_of c.args.completed.now.items) c.args.words.now
    c.split_at.result.0.now after c.own_count.result c.own_count.ensures.value c.split_at.ensures.front c.split_at.ensures.back c.way_of-way.result
    c.way_of-way.ensures c.complete_own.new.completed.items new
    c.complete_fields.result c.in_default-complete_own.ensures rest
