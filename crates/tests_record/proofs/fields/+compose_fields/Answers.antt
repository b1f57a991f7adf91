use Rattle.std.proofs.Common.{Err, ap, ◌∙◌, arith, ℕ, ◌-◌, ◌≤◌, [], ◌∷◌, map, length, List, take, drop, get_or, ◌≡◌, Bor}
use Rattle.std.proofs.lemmas.List.{nil_from_length, take_all}
use Rattle.std.proofs.lemmas.Result.{err_from_is_err_and}
use Rattle.dns_message.specs.Data.{Part, Octets}
use Rattle.tests_record.proofs.fields.+compose_fields.Goals as goal

-- the parts of fields
abbrev fields : List (Bor (List ℕ)) → List Part
fields xs = map (λ field. Octets field.now) xs

-- the first field, and those after it
fields-cons : (xs : List (Bor (List ℕ))) (d : Bor (List ℕ)) → 1 ≤ length xs → Octets (get_or xs 0 d).now ∷ fields (take (length xs - 1) (drop 1 xs)) ≡ fields xs
fields-cons [] d l = absurd (omega arith)
fields-cons (x ∷ xs) d l = ap (λ ys. Octets x.now ∷ fields ys) (take_all (length (x ∷ xs) - 1) xs (omega arith))

pub returns-in_err-append_slice-in-len1-up : goal.returns-in_err-append_slice-in-len1-up
returns-in_err-append_slice-in-len1-up g t c =
    let p = err_from_is_err_and c.from_residual.result c.from_residual.ensures.1 in
    c.parts_compose.ensures.refused _ _ g.T.Composer.rule (Octets c.args.first.now) (fields c.args.after.now) _ _
    c.append_slice-in-len1-up.result c.from_residual.result c.in_err-append_slice-in-len1-up.field-0.0 c.in_err-append_slice-in-len1-up.was (p.1 ∙ ap Err p.2)
    c.append_slice-in-len1-up.ensures

pub returns-in-empty : goal.returns-in-empty
returns-in-empty g t c =
    let none : c.args.after.now ≡ [] = nil_from_length c.args.after.now (omega (arith, c.in-empty.len_below)) in
    rw none (c.parts_compose.ensures.one _ _ g.T.Composer.rule (Octets c.args.first.now) _ _ _ c.append_slice.ensures)

pub returns-in_ok-append_slice-in-len1-up : goal.returns-in_ok-append_slice-in-len1-up
returns-in_ok-append_slice-in-len1-up g t c =
    c.parts_compose.ensures.after _ _ g.T.Composer.rule (Octets c.args.first.now) (fields c.args.after.now) _ _ _ _
    c.in_ok-append_slice-in-len1-up.ensures.ok
    (rw (fields-cons c.args.after.now _ c.in-len1-up.len_at_least) at c.compose_fields.ensures)
