use Rattle.fields_records.proofs.field_text.write_octets.Goals as goal

pub returns-in-SmallTypeBitMap-clause-text : goal.returns-in-SmallTypeBitMap-clause-text
returns-in-SmallTypeBitMap-clause-text g c = rw c.in-SmallTypeBitMap.is c.write_small_map.ensures.text
