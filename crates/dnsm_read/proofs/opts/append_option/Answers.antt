use Rattle.std.proofs.Common.{◌∙◌, ◌++◌, [], ℕ, ap}
use Rattle.std.specs.Int.{to_be_bytes, w16}
use Rattle.dnsm_status.proofs.theory.PieceLemmas.{empty_held, holds_as}
use Rattle.dnsm_read.proofs.opts.append_option.Goals as goal

pub returns : goal.returns
returns c =
    holds_as _ _ _ _
    ((λ i. (c.to_be_bytes.ensures i ++ c.to_be_bytes-2.ensures i) ++ c.args.data.now)
    ∙ ap (λ (n : ℕ). (to_be_bytes w16 c.args.code ++ to_be_bytes w16 n) ++ c.args.data.now) c.requires)
    (c.append_octets.ensures _ (c.append_octets-end-2.ensures _ (c.append_octets-end.ensures [] (empty_held _))))
