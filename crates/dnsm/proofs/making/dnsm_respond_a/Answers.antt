use Rattle.std.proofs.Common.{◌∙◌, sym}
use Rattle.dnsm.proofs.AskedLemmas.{room_unreported, response_reported, response_unasked, opcode_reported, opcode_unasked, class_reported, class_unasked, type_reported, type_unasked}
use Rattle.dnsm_status.proofs.theory.CallerLemmas.{refused_octets}
use Rattle.dnsm.proofs.making.dnsm_respond_a.Goals as goal

pub returns-in-Err-clause-no_room : goal.returns-in-Err-clause-no_room
returns-in-Err-clause-no_room c = λ room. absurd (room_unreported c.args.query.now _ c.in-Err.ensures.none (sym c.refuse.ensures.code ∙ room))

pub returns-in-Ok-clause-is_response : goal.returns-in-Ok-clause-is_response
returns-in-Ok-clause-is_response c = λ long is. absurd (response_unasked c.args.query.now long is c.in-Ok.ensures.made.asked c.in-Ok.ensures.made.asks)

pub returns-in-Err-clause-is_response : goal.returns-in-Err-clause-is_response
returns-in-Err-clause-is_response c = λ long is. c.refuse.ensures.code ∙ response_reported c.args.query.now long is _ c.in-Err.ensures.none

pub returns-in-Ok-clause-other_opcode : goal.returns-in-Ok-clause-other_opcode
returns-in-Ok-clause-other_opcode c = λ query other. absurd (opcode_unasked c.args.query.now query other c.in-Ok.ensures.made.asked c.in-Ok.ensures.made.asks)

pub returns-in-Err-clause-other_opcode : goal.returns-in-Err-clause-other_opcode
returns-in-Err-clause-other_opcode c = λ query other. c.refuse.ensures.code ∙ opcode_reported c.args.query.now query other _ c.in-Err.ensures.none

pub returns-in-Ok-clause-other_class : goal.returns-in-Ok-clause-other_class
returns-in-Ok-clause-other_class c = λ x asks other. absurd (class_unasked c.args.query.now x asks other c.in-Ok.ensures.made.asked c.in-Ok.ensures.made.asks)

pub returns-in-Err-clause-other_class : goal.returns-in-Err-clause-other_class
returns-in-Err-clause-other_class c = λ x asks other. c.refuse.ensures.code ∙ class_reported c.args.query.now x asks other _ c.in-Err.ensures.none

pub returns-in-Ok-clause-other_type : goal.returns-in-Ok-clause-other_type
returns-in-Ok-clause-other_type c =
    λ x asks internet no_address not_all.
    absurd (type_unasked c.args.query.now x asks internet no_address not_all c.in-Ok.ensures.made.asked c.in-Ok.ensures.made.asks)

pub returns-in-Err-clause-other_type : goal.returns-in-Err-clause-other_type
returns-in-Err-clause-other_type c =
    λ x asks internet no_address not_all. c.refuse.ensures.code ∙ type_reported c.args.query.now x asks internet no_address not_all _ c.in-Err.ensures.none

pub returns-in-Err-clause-writes : goal.returns-in-Err-clause-writes
returns-in-Err-clause-writes c = refused_octets c.args.out.now _ _ c.refuse.ensures.empty
