use Rattle.std.proofs.Common.{◌≡◌, ◌∙◌, ℕ, Bool, true, cond, ap, sym, rules}
use Rattle.std.specs.Prelude.{Some, find, map, not}
use Rattle.std.specs.Int.{from_be_bytes, w16}
use Rattle.fields_checks.proofs.CheckLemmas.{group_step}
use Rattle.fields_checks.specs.Services.{has_key}
use Rattle.fields_lists.specs.Groups.{groups}
use Rattle.fields_parameters.specs.ParameterItems.{parameters_of}
use Rattle.fields_checks.proofs.service.missing_of.Goals as goal

pub keys-preserved : goal.keys-preserved
keys-preserved c =
    let items = parameters_of c.args.parameters.now in
    let group = c.in-Some.octets.now in
    let after = c.in-Some.after.now in
    let yes : c.has_key.result ≡ true = search rules in
    let has : has_key items (from_be_bytes w16 group) ≡ true = ap (λ (key : ℕ). has_key items key) (sym c.from_be_bytes-key.ensures) ∙ sym c.has_key.ensures ∙ yes in
    let step = group_step (λ (key : ℕ). not (has_key items key)) c.keys.left.now group after c.in-Some.ensures.cases in
    sym (step ∙ ap (λ (b : Bool). cond (not b) (Some (from_be_bytes w16 group)) (find (λ key. not (has_key items key)) (map (from_be_bytes w16) (groups 2 after)))) has) ∙ c.keys.invariant
