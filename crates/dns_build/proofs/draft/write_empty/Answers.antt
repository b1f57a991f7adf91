use Rattle.std.proofs.Common.{◌≡◌, Result, Ok, Err, ap, ◌∙◌, [], ◌∷◌}
use Rattle.std.specs.Prelude.{OnOk}
use Rattle.dns_wire.specs.Encoders.{encode_octets}
use Rattle.dns_wire.specs.Targets.{Written, append}
use Rattle.dns_wire.proofs.theory.EncoderLaws.{same_written}
use Rattle.dns_code.specs.Header.{octets_of_fields}
use Rattle.dns_build.specs.BuilderStates.{fresh}
use Rattle.dns_build.specs.State.{head_of}
use Rattle.dns_build.proofs.Moves.{emptied-forgets}
use Rattle.dns_build.proofs.draft.write_empty.Goals as goal

zeros : (t u : Written) → t.octets ≡ [] → t.table ≡ (head_of fresh).table → u ≡ append (encode_octets (0 ∷ 0 ∷ 0 ∷ 0 ∷ 0 ∷ 0 ∷ 0 ∷ 0 ∷ 0 ∷ 0 ∷ 0 ∷ 0 ∷ [])) t → u ≡ head_of fresh
unfolding octets_of_fields
zeros t u e m h = h ∙ ap (append (encode_octets _)) (same_written t (record { octets = []; table = (head_of fresh).table }) e m)

on_ok : {T E : Type 0} (r : Result T E) (P Q : Type 0) → (P → Q) → OnOk r P → OnOk r Q
on_ok (Ok v) P Q f h = f h
on_ok (Err e) P Q f h = tt

pub returns-clause-fresh : goal.returns-clause-fresh
returns-clause-fresh g c =
    on_ok c.append_slice.result _ _ (λ h. zeros _ _ (ap (λ (w : Written). w.octets) c.truncate.ensures.cut)
    (emptied-forgets (g.T.Composer.written c.args.target.now) (g.T.Composer.written c.truncate.new.self) c.truncate.ensures.cut c.truncate.ensures.is_target) h) c.append_slice.ensures.ok
