use Rattle.std.proofs.Common.{refl, ◌∷◌, []}
use Rattle.std.proofs.lemmas.Result.{err_from_is_err_and}
use Rattle.dns_read.specs.Message.{message_octets}
use Rattle.dns_read.specs.declared.section.Section.TheVariants.{Answer, Authority, Additional}
use Rattle.dns_read.proofs.theory.SectionLemmas.{begins_next}
use Rattle.dns_build.specs.State.{InAnswer, InAuthority}
use Rattle.dns_build.proofs.CopySections.{enters_first, enters, leaves, leaves_last, stops_before, stops_within, next_fault}
use Rattle.dns_build.proofs.KeptLemmas.{keeps_all}
use Rattle.dns_build.proofs.copying.copy_records.Goals as goal

pub returns-in_err-answer-clause-copies : goal.returns-in_err-answer-clause-copies
returns-in_err-answer-clause-copies g c = λ s represents.
    let first = enters_first _ _ _ _ _ (message_octets c.args.message.now) c.args.op s c.args.target represents in
    let p = err_from_is_err_and c.from_residual.result c.from_residual.ensures.1 in
    rw (p.1, p.2) (stops_before _ _ _ _ _ (message_octets c.args.message.now) c.args.op s Answer _ _ _ _ first c.in_err-answer.ensures.fault)

pub returns-in_err-copy_section-clause-copies : goal.returns-in_err-copy_section-clause-copies
returns-in_err-copy_section-clause-copies g c = λ s represents.
    let first = enters_first _ _ _ _ _ (message_octets c.args.message.now) c.args.op s c.args.target represents in
    let p = err_from_is_err_and c.from_residual-in_err-copy_section.result c.from_residual-in_err-copy_section.ensures.1 in
    rw (p.1, p.2) (stops_within _ _ _ _ _ (message_octets c.args.message.now) c.args.op s Answer _ _ _ _ _ c.in_ok-answer.answer _ first
    c.in_ok-answer.ensures.starts c.in_err-copy_section.ensures.copies)

pub returns-in_err-authority-clause-copies : goal.returns-in_err-authority-clause-copies
returns-in_err-authority-clause-copies g c = λ s represents.
    let first = enters_first _ _ _ _ _ (message_octets c.args.message.now) c.args.op s c.args.target represents in
    let second = enters _ _ _ _ _ (message_octets c.args.message.now) c.args.op s InAnswer Authority (Additional ∷ []) c.copy_section.new.op
    c.copy_section.new.target c.go_to-authorities.result
    (leaves _ _ _ _ _ (message_octets c.args.message.now) c.args.op s Answer (Authority ∷ Additional ∷ []) _ _ _ _ c.in_ok-answer.answer first
    c.in_ok-answer.ensures.starts c.in_ok-copy_section.ensures.copies) c.go_to-authorities.ensures in
    let p = err_from_is_err_and c.from_residual-in_err-authority.result c.from_residual-in_err-authority.ensures.1 in
    rw (p.1, p.2) (stops_before _ _ _ _ _ (message_octets c.args.message.now) c.args.op s Authority _ _ _ _ second
    (next_fault Answer Authority _ c.in_ok-answer.answer _ refl c.in_ok-answer.ensures.starts c.in_err-authority.ensures))

pub returns-in_err-copy_section-2-clause-copies : goal.returns-in_err-copy_section-2-clause-copies
returns-in_err-copy_section-2-clause-copies g c = λ s represents.
    let first = enters_first _ _ _ _ _ (message_octets c.args.message.now) c.args.op s c.args.target represents in
    let second = enters _ _ _ _ _ (message_octets c.args.message.now) c.args.op s InAnswer Authority (Additional ∷ []) c.copy_section.new.op
    c.copy_section.new.target c.go_to-authorities.result
    (leaves _ _ _ _ _ (message_octets c.args.message.now) c.args.op s Answer (Authority ∷ Additional ∷ []) _ _ _ _ c.in_ok-answer.answer first
    c.in_ok-answer.ensures.starts c.in_ok-copy_section.ensures.copies) c.go_to-authorities.ensures in
    let begins = begins_next Answer Authority (message_octets c.args.message.now) c.in_ok-answer.answer c.in_ok-authority.authority refl c.in_ok-answer.ensures.starts c.in_ok-authority.ensures in
    let p = err_from_is_err_and c.from_residual-in_err-copy_section-2.result c.from_residual-in_err-copy_section-2.ensures.1 in
    rw (p.1, p.2) (stops_within _ _ _ _ _ (message_octets c.args.message.now) c.args.op s Authority _ _ _ _ _ c.in_ok-authority.authority _ second begins c.in_err-copy_section-2.ensures.copies)

pub returns-in_err-additional-clause-copies : goal.returns-in_err-additional-clause-copies
returns-in_err-additional-clause-copies g c = λ s represents.
    let first = enters_first _ _ _ _ _ (message_octets c.args.message.now) c.args.op s c.args.target represents in
    let second = enters _ _ _ _ _ (message_octets c.args.message.now) c.args.op s InAnswer Authority (Additional ∷ []) c.copy_section.new.op
    c.copy_section.new.target c.go_to-authorities.result
    (leaves _ _ _ _ _ (message_octets c.args.message.now) c.args.op s Answer (Authority ∷ Additional ∷ []) _ _ _ _ c.in_ok-answer.answer first
    c.in_ok-answer.ensures.starts c.in_ok-copy_section.ensures.copies) c.go_to-authorities.ensures in
    let begins = begins_next Answer Authority (message_octets c.args.message.now) c.in_ok-answer.answer c.in_ok-authority.authority refl c.in_ok-answer.ensures.starts c.in_ok-authority.ensures in
    let third = enters _ _ _ _ _ (message_octets c.args.message.now) c.args.op s InAuthority Additional [] c.copy_section-2.new.op c.copy_section-2.new.target
    c.go_to-additionals.result
    (leaves _ _ _ _ _ (message_octets c.args.message.now) c.args.op s Authority (Additional ∷ []) _ _ _ _ c.in_ok-authority.authority second begins
    c.in_ok-copy_section-2.ensures.copies) c.go_to-additionals.ensures in
    let p = err_from_is_err_and c.from_residual-in_err-additional.result c.from_residual-in_err-additional.ensures.1 in
    rw (p.1, p.2) (stops_before _ _ _ _ _ (message_octets c.args.message.now) c.args.op s Additional _ _ _ _ third
    (next_fault Authority Additional _ c.in_ok-authority.authority _ refl begins c.in_err-additional.ensures))

pub returns-in_err-copy_section-3-clause-copies : goal.returns-in_err-copy_section-3-clause-copies
returns-in_err-copy_section-3-clause-copies g c = λ s represents.
    let first = enters_first _ _ _ _ _ (message_octets c.args.message.now) c.args.op s c.args.target represents in
    let second = enters _ _ _ _ _ (message_octets c.args.message.now) c.args.op s InAnswer Authority (Additional ∷ []) c.copy_section.new.op
    c.copy_section.new.target c.go_to-authorities.result
    (leaves _ _ _ _ _ (message_octets c.args.message.now) c.args.op s Answer (Authority ∷ Additional ∷ []) _ _ _ _ c.in_ok-answer.answer first
    c.in_ok-answer.ensures.starts c.in_ok-copy_section.ensures.copies) c.go_to-authorities.ensures in
    let begins = begins_next Answer Authority (message_octets c.args.message.now) c.in_ok-answer.answer c.in_ok-authority.authority refl c.in_ok-answer.ensures.starts c.in_ok-authority.ensures in
    let third = enters _ _ _ _ _ (message_octets c.args.message.now) c.args.op s InAuthority Additional [] c.copy_section-2.new.op c.copy_section-2.new.target
    c.go_to-additionals.result
    (leaves _ _ _ _ _ (message_octets c.args.message.now) c.args.op s Authority (Additional ∷ []) _ _ _ _ c.in_ok-authority.authority second begins
    c.in_ok-copy_section-2.ensures.copies) c.go_to-additionals.ensures in
    let begins_last = begins_next Authority Additional (message_octets c.args.message.now) c.in_ok-authority.authority c.in_ok-additional.additional refl begins c.in_ok-additional.ensures in
    let p = err_from_is_err_and c.from_residual-in_err-copy_section-3.result c.from_residual-in_err-copy_section-3.ensures.1 in
    rw (p.1, p.2) (stops_within _ _ _ _ _ (message_octets c.args.message.now) c.args.op s Additional _ _ _ _ _ c.in_ok-additional.additional _ third begins_last c.in_err-copy_section-3.ensures.copies)

pub returns-clause-copies : goal.returns-clause-copies
returns-clause-copies g c = λ s represents.
    let first = enters_first _ _ _ _ _ (message_octets c.args.message.now) c.args.op s c.args.target represents in
    let second = enters _ _ _ _ _ (message_octets c.args.message.now) c.args.op s InAnswer Authority (Additional ∷ []) c.copy_section.new.op
    c.copy_section.new.target c.go_to-authorities.result
    (leaves _ _ _ _ _ (message_octets c.args.message.now) c.args.op s Answer (Authority ∷ Additional ∷ []) _ _ _ _ c.in_ok-answer.answer first
    c.in_ok-answer.ensures.starts c.in_ok-copy_section.ensures.copies) c.go_to-authorities.ensures in
    let begins = begins_next Answer Authority (message_octets c.args.message.now) c.in_ok-answer.answer c.in_ok-authority.authority refl c.in_ok-answer.ensures.starts c.in_ok-authority.ensures in
    let third = enters _ _ _ _ _ (message_octets c.args.message.now) c.args.op s InAuthority Additional [] c.copy_section-2.new.op c.copy_section-2.new.target
    c.go_to-additionals.result
    (leaves _ _ _ _ _ (message_octets c.args.message.now) c.args.op s Authority (Additional ∷ []) _ _ _ _ c.in_ok-authority.authority second begins
    c.in_ok-copy_section-2.ensures.copies) c.go_to-additionals.ensures in
    let begins_last = begins_next Authority Additional (message_octets c.args.message.now) c.in_ok-authority.authority c.in_ok-additional.additional refl begins c.in_ok-additional.ensures in
    leaves_last _ _ _ _ _ (message_octets c.args.message.now) c.args.op s _ _
    (leaves _ _ _ _ _ (message_octets c.args.message.now) c.args.op s Additional [] _ _ _ _ c.in_ok-additional.additional third begins_last c.in_ok-copy_section-3.ensures.copies)

pub returns-clause-kept : goal.returns-clause-kept
returns-clause-kept g c = λ s represents. keeps_all _ _ _ _ _ (message_octets c.args.message.now) c.args.op s _ (returns-clause-copies g c s represents)
