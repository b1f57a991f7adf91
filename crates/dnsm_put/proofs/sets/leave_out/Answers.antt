use Rattle.std.proofs.Common.{◌∙◌, ap, sym}
use Rattle.std.specs.Prelude.{Bool, true, ◌||◌}
use Rattle.dns_code.specs.Header.{HeaderFields}
use Rattle.dnsm_put.specs.Drafts.{header_of}
use Rattle.dnsm_put.proofs.sets.leave_out.Goals as goal

pub returns-then-required : goal.returns-then-required
returns-then-required c =
    let before = header_of c.args.draft.now in
    record {
      same = c.set_header.ensures.same;
      truncated = c.set_header.ensures.header ∙ c.set_tc.ensures ∙ ap (λ (h : HeaderFields). record h { tc = true }) c.header_of-header.ensures
          ∙ ap (λ (r : Bool). record before { tc = r || before.tc }) (sym c.if-required.true);
    }
