use Rattle.std.proofs.Common.{◌∙◌, ◌++◌, ℕ, List, OnOk, ap, codes, subst}
use Rattle.fields_text.specs.String.{quoted}
use Rattle.dnsview_tool.specs.Failures.{IsFailureText}
use Rattle.dnsview_tool.specs.Printed.{Prints}
use Rattle.dnsview_tool.proofs.failure.print_unopened.Goals as goal

pub returns : goal.returns
returns g c =
    let what = c.as_str.ensures.value ∙ c.in_ok-what.ensures.ok ∙ ap (λ (octets : List ℕ). codes "can't open " ++ quoted octets) c.as_bytes.ensures.value in
    let P : List ℕ → Type 0 = λ words. OnOk c.print_failure.result (Prints (IsFailureText words) (g.E.Write.contents c.args.errors.now) (g.E.Write.contents c.print_failure.new.errors)) in
    subst P what c.print_failure.ensures
