use Rattle.dns_script.proofs.SetScripts.{sets_are_scripts}
use Rattle.dns_script.proofs.laws.sets_are_scripts.Goals as goal

pub returns : goal.returns
returns g c = sets_are_scripts g.Q.ComposeQuestion.question g.R.ComposeRecord.item
