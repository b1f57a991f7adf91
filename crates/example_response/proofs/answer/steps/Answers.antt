use Rattle.std.proofs.Common.{◌≡◌, ◌∙◌, ◌+◌, ◌++◌, ◌-◌, ◌∷◌, [], false, true, List, Some, ap, map, sym}
use Rattle.std.proofs.lemmas.List.{map-append}
use Rattle.std.specs.List.{list_any}
use Rattle.std.specs.Prelude.{option_map}
use Rattle.dns_message.specs.Names.{labels, name_labels}
use Rattle.example_response.specs.Answers.{StepItem, is_among, is_named, repeats_dname, step_shown, steps_from}
use Rattle.example_response.specs.Zones.{case_shown}
use Rattle.example_response.specs.declared.answer.Step.{Step}
use Rattle.example_response.proofs.StepLemmas.{any_shown, cloned, ends_early, ends_in_loop, ends_late, same_after, step_is}
use Rattle.example_response.proofs.answer.steps.Goals as goal

pub returns-in_default : goal.returns-in_default
returns-in_default c =
    ends_early c.args.zone.now c.args.qtype _ _ _ _ (ap (option_map name_labels) c.in_default.is) c.loop-count.invariant
    ∙ ap (λ n. steps_from c.args.zone.now c.args.qtype n [] (Some (name_labels c.args.name))) c.most_names-most.ensures

pub returns-then-is_among : goal.returns-then-is_among
returns-then-is_among c =
    let before = map step_shown c.loop-count.steps.items in
    let name = name_labels c.in-Some.name in
    let among : is_among name before ≡ true =
    any_shown step_shown (is_named name) c.loop-count.steps.items ∙ ap (list_any (λ (step : Step). is_named name (step_shown step))) (sym c.deref.ensures.value)
    ∙ sym c.is_among.ensures ∙ c.if-is_among.true in
    ends_in_loop c.args.zone.now c.args.qtype c.most_names-most.result c.loop-count._count before _ name _
    c.loop-count-test.true (ap (option_map name_labels) c.in-Some.is) among c.loop-count.invariant
    ∙ ap (λ n. steps_from c.args.zone.now c.args.qtype n [] (Some (name_labels c.args.name))) c.most_names-most.ensures

pub loop-count-preserved : goal.loop-count-preserved
loop-count-preserved c =
    let zone = c.args.zone.now in
    let name = name_labels c.in-Some.name in
    let before = map step_shown c.loop-count.steps.items in
    let next = option_map name_labels c.next_of-next.result in
    let step : Step = record { name = c.in-Some.name; case = c.case_of-case.result; next = c.next_of-next.result; repeats = c.repeats_dname-repeats.result } in
    let repeated = c.repeats_dname-repeats.ensures
    ∙ ap (λ (steps : List Step). repeats_dname (map step_shown steps) name (case_shown c.case_of-case.result)) c.deref-in-loop-count.ensures.value in
    let taken = step_is zone c.args.qtype before name (labels c.as_parsed.result) (case_shown c.case_of-case.result) next c.repeats_dname-repeats.result
    c.as_parsed.ensures.labels c.case_of-case.ensures c.next_of-next.ensures repeated in
    let follows = cloned name_labels c.next_of-next.result c.in_ok-current.current c.in_ok-current.ensures.cases in
    let new : is_among name before ≡ false =
    any_shown step_shown (is_named name) c.loop-count.steps.items ∙ ap (list_any (λ (step : Step). is_named name (step_shown step))) (sym c.deref.ensures.value)
    ∙ sym c.is_among.ensures ∙ c.if-is_among.false in
    let more = ap (map step_shown) c.in_ok-push.ensures.items ∙ map-append step_shown c.loop-count.steps.items (step ∷ []) in
    let left = c.most_names-most.result - (c.loop-count._count + 1) in
    ap (λ (xs : List StepItem). xs ++ steps_from zone c.args.qtype left xs (option_map name_labels c.in_ok-current.current)) more
    ∙ same_after zone c.args.qtype c.most_names-most.result before c.loop-count._count _ name (step_shown step) _ _
    c.loop-count-test.true (ap (option_map name_labels) c.in-Some.is) new taken follows c.loop-count.invariant

pub returns : goal.returns
returns c =
    ends_late c.args.zone.now c.args.qtype c.most_names-most.result _ _ _ _ c.loop-count-test.false c.loop-count.invariant
    ∙ ap (λ n. steps_from c.args.zone.now c.args.qtype n [] (Some (name_labels c.args.name))) c.most_names-most.ensures
