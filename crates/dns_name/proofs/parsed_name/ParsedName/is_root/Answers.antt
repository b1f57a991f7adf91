use Rattle.std.proofs.Common.{ap, sym, ◌∙◌, eq-eqb, eqb-true}
use Rattle.dns_name.specs.Names.{name_size}
use Rattle.dns_name.proofs.theory.LabelsLemmas.{empty_name}
use Rattle.dns_name.proofs.parsed_name.ParsedName.is_root.Goals as goal

pub returns : goal.returns
returns c =
    let size = c.args.self.now.name_at.1 in
    (λ h. empty_name _ (size ∙ eqb-true _ _ h), λ h. eq-eqb _ _ (sym size ∙ ap name_size h))
