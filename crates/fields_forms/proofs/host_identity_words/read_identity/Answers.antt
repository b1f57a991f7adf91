use Rattle.std.proofs.Common.{refl, inl, inr}
use Rattle.fields_forms.proofs.IdentityLemmas.{identity_there, key_fails, no_servers, servers_fail, tag_fails}
use Rattle.fields_forms.proofs.host_identity_words.read_identity.Goals as goal

pub returns-then-not-are_names : goal.returns-then-not-are_names
returns-then-not-are_names c = inr (refl, no_servers c.args.algorithm.now c.args.tag.now c.args.key.now c.args.servers.now c.are_names.result c.if-not-are_names.true c.are_names.ensures)

pub returns-in-Err : goal.returns-in-Err
returns-in-Err c = tag_fails c.args.algorithm.now c.args.tag.now c.args.key.now c.args.servers.now c.first_failure.result c.in-Err.error
    c.read_counted_base64.result (c.in-Some.algorithm, c.in-Some.ensures) (c.are_names.ensures.0 c.if-not-are_names.false) c.in-Err.ensures c.read_counted_base64.ensures c.first_failure.ensures

pub returns-in-Err-read_counted_base64 : goal.returns-in-Err-read_counted_base64
returns-in-Err-read_counted_base64 c = key_fails c.args.algorithm.now c.args.tag.now c.args.key.now c.args.servers.now c.in-Err-read_counted_base64.error
    (c.in-Some.algorithm, c.in-Some.ensures) (c.in-Ok.tag.items, c.in-Ok.ensures) (c.are_names.ensures.0 c.if-not-are_names.false) c.in-Err-read_counted_base64.ensures

pub returns-in-Err-push_identity : goal.returns-in-Err-push_identity
returns-in-Err-push_identity c =
    inl (
      c.in-Err-push_identity.ensures.err,
      identity_there c.args.algorithm.now c.args.tag.now c.args.key.now c.args.servers.now (c.in-Some.algorithm, c.in-Some.ensures) (c.in-Ok.tag.items, c.in-Ok.ensures)
          (c.in-Ok-read_counted_base64.key.items, c.in-Ok-read_counted_base64.ensures) (c.are_names.ensures.0 c.if-not-are_names.false),
    )

pub returns : goal.returns
returns c = servers_fail c.args.algorithm.now c.args.tag.now c.args.key.now c.args.servers.now c.in-Err-push_names.error
    (identity_there c.args.algorithm.now c.args.tag.now c.args.key.now c.args.servers.now (c.in-Some.algorithm, c.in-Some.ensures) (c.in-Ok.tag.items, c.in-Ok.ensures)
    (c.in-Ok-read_counted_base64.key.items, c.in-Ok-read_counted_base64.ensures) (c.are_names.ensures.0 c.if-not-are_names.false)) c.in-Err-push_names.ensures
