use Rattle.std.proofs.Common.{inl}
use Rattle.fields_lists.proofs.TypeMapLemmas.{map_read}
use Rattle.fields_lists.proofs.TypeMapsExist.{map_exists, types_fail}
use Rattle.fields_lists.proofs.type_map_words.read_type_map.Goals as goal

pub returns-in-Err : goal.returns-in-Err
returns-in-Err c = types_fail c.args.words.now c.in-Err.error c.in-Err.ensures

pub returns-in-Ok : goal.returns-in-Ok
returns-in-Ok c =
    map_read c.args.words.now c.new-types.result.items c.push_types.new.types.items c.deref.result.now c.new-map.result.items c.push_blocks.new.map.items c.in_default.field-0 c.in-Ok.field-0
    c.new-types.ensures.items c.new-map.ensures.items c.deref.ensures.value c.in_default.ensures c.in-Ok.ensures

pub returns : goal.returns
returns c = inl (c.in-Err-push_blocks.ensures.0, map_exists c.args.words.now c.in_default.ensures.2)
