use Rattle.std.proofs.Common.{◌≡◌, ◌∷◌, [], arith, rules}
use Rattle.fields_table.specs.FieldParts.{fields_left, named_part}
use Rattle.dnsm_read.proofs.FieldWalks.{next_field, next_part, walk_begins, walk_ends, walk_on}
use Rattle.dnsm_read.proofs.field_offsets.field_at.Goals as goal

pub loop-field-init : goal.loop-field-init
loop-field-init c =
    let left : fields_left c.into_iter-field-iterator.result ≡ fields_left c.args.fields = search rules in
    record { can = tt; finite = tt; walked = walk_begins _ _ _ _ c.requires.0 _ left c.requires.1 }

pub end_of-place-requires : goal.end_of-place-requires
end_of-place-requires c =
    let left : fields_left c.loop-field.field-iterator ≡ named_part c.in-Some.field ∷ fields_left c.next.new.self = search rules in
    next_part _ _ _ _ _ _ _ _ _ left c.loop-field.invariant.walked

pub loop-field-preserved : goal.loop-field-preserved
loop-field-preserved c =
    let left : fields_left c.loop-field.field-iterator ≡ named_part c.in-Some.field ∷ fields_left c.next.new.self = search rules in
    let walked = c.loop-field.invariant.walked in
    record {
      can = tt;
      finite = tt;
      walked = walk_on _ _ _ _ _ _ _ _ _ left walked _ _ c.end_of-place.ensures (omega arith);
    }

pub returns-then-left-eq0-clause-field : goal.returns-then-left-eq0-clause-field
returns-then-left-eq0-clause-field c =
    let left : fields_left c.loop-field.field-iterator ≡ named_part c.in-Some.field ∷ fields_left c.next.new.self = search rules in
    let walked = c.loop-field.invariant.walked in
    let counted = walked.counted in
    (walked.before, _, next_field _ _ _ _ _ _ _ _ _ left walked, omega (arith, counted))

pub returns-clause-none : goal.returns-clause-none
returns-clause-none c =
    let none : fields_left c.loop-field.field-iterator ≡ [] = search rules in
    walk_ends _ _ _ _ _ _ _ none c.loop-field.invariant.walked
