use Rattle.std.proofs.Common.{rules}
use Rattle.fields_forms.specs.HostIdentities.{identity_words, servers_text}
use Rattle.fields_forms.proofs.HostLemmas.{parts_displayed, parts_fail}
use Rattle.fields_text.proofs.theory.Printing.{fails_after, put_two_if}
use Rattle.fields_forms.proofs.host_identity.HostIdentity.write.Goals as goal

pub returns-clause-text : goal.returns-clause-text
returns-clause-text g c =
    let it = c.args.self.now in
    parts_displayed _ _ _ _ it.algorithm it.tag.now it.key.now it.servers.now
    (put_two_if _ _ _ _ _ (identity_words it.algorithm it.tag.now it.key.now) (servers_text it.servers.now) (c.write_words.ensures.text (search rules)) c.write_servers.ensures.text)

pub returns-clause-err : goal.returns-clause-err
returns-clause-err g c =
    let it = c.args.self.now in
    let may = g.W.TextWriter.MayFail in
    let r = c.write_servers.result in
    parts_fail may r it.algorithm it.tag.now it.key.now it.servers.now
    (fails_after may r (identity_words it.algorithm it.tag.now it.key.now) (servers_text it.servers.now) c.write_servers.ensures.err)
