use Rattle.std.proofs.Common.{◌≡◌, ◌∷◌, [], rules}
use Rattle.fields_table.specs.FieldParts.{fields_left, named_part}
use Rattle.dnsm_read.proofs.NameWalks.{name_found, names_begin, names_end, names_on, part_here, within_here}
use Rattle.dnsm_read.proofs.field_offsets.name_among.Goals as goal

pub loop-field-init : goal.loop-field-init
loop-field-init c =
    let left : fields_left c.into_iter-field-iterator.result ≡ fields_left c.args.fields = search rules in
    record { can = tt; finite = tt; walked = names_begin _ _ _ _ _ c.requires.0 left c.requires.1 }

pub name_within-requires : goal.name_within-requires
name_within-requires c =
    let left : fields_left c.loop-field.field-iterator ≡ named_part c.in-Some.field ∷ fields_left c.next.new.self = search rules in
    let walked = c.loop-field.invariant.walked in
    record { part = part_here _ _ _ _ _ _ _ _ _ left walked; names = within_here _ _ _ _ _ _ _ _ _ left walked }

pub end_of-offset-requires : goal.end_of-offset-requires
end_of-offset-requires c =
    let left : fields_left c.loop-field.field-iterator ≡ named_part c.in-Some.field ∷ fields_left c.next.new.self = search rules in
    part_here _ _ _ _ _ _ _ _ _ left c.loop-field.invariant.walked

pub returns-in-Ok-clause-offset : goal.returns-in-Ok-clause-offset
returns-in-Ok-clause-offset c =
    let left : fields_left c.loop-field.field-iterator ≡ named_part c.in-Some.field ∷ fields_left c.next.new.self = search rules in
    name_found _ _ _ _ _ _ _ _ _ left c.loop-field.invariant.walked _ c.in-Ok.ensures.offset

pub loop-field-preserved : goal.loop-field-preserved
loop-field-preserved c =
    let left : fields_left c.loop-field.field-iterator ≡ named_part c.in-Some.field ∷ fields_left c.next.new.self = search rules in
    let walked = c.loop-field.invariant.walked in
    record { can = tt; finite = tt; walked = names_on _ _ _ _ _ _ _ _ _ left walked _ _ c.end_of-offset.ensures c.in-Err.ensures.left }

pub returns-clause-none : goal.returns-clause-none
returns-clause-none c =
    let none : fields_left c.loop-field.field-iterator ≡ [] = search rules in
    names_end _ _ _ _ _ _ _ none c.loop-field.invariant.walked
