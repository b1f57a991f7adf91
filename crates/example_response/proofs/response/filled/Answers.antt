use Rattle.std.proofs.Common.{map}
use Rattle.example_response.specs.Answers.{step_shown}
use Rattle.example_response.specs.Zones.{case_shown}
use Rattle.example_response.proofs.Answering.{filled_by}
use Rattle.example_response.proofs.response.filled.Goals as goal

pub returns-clause-filled : goal.returns-clause-filled
returns-clause-filled c =
    filled_by c.args.zone.now (map step_shown c.args.steps.now) (case_shown c.end_of-end.result) c.end_of-end.ensures
    c.args.builder c.push_answers.new.builder c.authority-builder.result c.push_authorities.new.builder c.additional-builder.result c.push_additionals.new.builder
    c.in_ok-push_answers.ensures.fits c.in_ok-push_answers.ensures.reserved c.authority-builder.ensures.moved c.authority-builder.ensures.reserved
    c.in_ok-push_authorities.ensures.fits c.in_ok-push_authorities.ensures.reserved c.additional-builder.ensures.moved c.additional-builder.ensures.reserved
    c.in_ok-push_additionals.ensures.fits
