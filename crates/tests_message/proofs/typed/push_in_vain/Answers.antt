use Rattle.tests_message.proofs.TypedReading.{in_vain}
use Rattle.tests_message.proofs.typed.push_in_vain.Goals as goal

pub returns : goal.returns
returns g c s represents none =
    in_vain c.builders_are_known_by_states.ensures.rewound g.T.Composer.rule (g.R.ComposeRecord.item c.args.pushed) c.args.builder.now c.push-result.new.self
    c.rewind.new.self c.push-result.result c.push-result.ensures.refused c.push-result.ensures.accepted c.rewind.ensures s represents none
