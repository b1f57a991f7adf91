use Rattle.std.proofs.Common.{arith}
use Rattle.fields_lists.specs.TypeMapWords.{has}
use Rattle.fields_lists.proofs.TypeMapLemmas.{appends_blocks, blocks_past}
use Rattle.fields_lists.proofs.type_map_words.+push_blocks.Goals as goal

pub returns-then-window-end : goal.returns-then-window-end
returns-then-window-end t c = blocks_past (has c.args.types.now) c.args.window c.args.end c.args.map.now.items c.if-window-end.true c.requires.last

pub returns-in-Ok : goal.returns-in-Ok
returns-in-Ok t c =
    appends_blocks (has c.args.types.now) c.args.window c.args.map.now.items c.push_block.new.map.items c.push_blocks.new.map.items c.in-Ok.field-0 c.push_blocks.result (omega arith)
    c.in-Ok.ensures c.push_blocks.ensures
