use Rattle.std.proofs.Common.{◌∙◌, ap, sym, subst}
use Rattle.dns_message.specs.Targets.{Tree, Written}
use Rattle.dns_message.specs.Messages.{message_octets}
use Rattle.dns_message.proofs.CallerLemmas.{encodings_are_messages}
use Rattle.dns_message.specs.Builders.{fresh, IsMessageOf}
use Rattle.tests_message.specs.Tour.{response_with}
use Rattle.tests_message.proofs.tour.response.Goals as goal

pub returns : goal.returns
returns g c =
    let s = response_with (message_octets c.args.query.now) (g.R.ComposeRecord.item c.args.answer) in
    let started = c.in_ok-response.ensures fresh c.in_ok-builder.ensures.fresh in
    let represents = c.in_ok-push.ensures.accepted _ started.1 in
    subst (IsMessageOf Tree s) (sym (c.into_message.ensures.octets ∙ ap (λ (w : Written). w.octets) represents.written)) (encodings_are_messages Tree s represents.state)
